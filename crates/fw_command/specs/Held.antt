-- What is read before a held run begins.
use Rattle.std.specs.Prelude.{◌≡◌, ℕ, List, Option}
use Rattle.sha2.specs.Sha256.{sha256}
use Rattle.fw_flow.specs.Dataflow.{system_of}
use Rattle.fw_generate.specs.Laws.{AreAccepted}
use Rattle.fw_generate.specs.Texts.{Texts}
use Rattle.fw_root.specs.declared.root.Digests.{Digests}
use Rattle.fw_schedule.specs.LineNumbers.{line_numbers}
use Rattle.fw_command.specs.declared.held.HeldJob.{HeldJob}
use Rattle.fw_command.specs.Command.{TextNames, three_texts}
use Rattle.fw_command.specs.Texts.{HasTexts, spelled_system, spelled_items}

-- the digests of three texts
abbrev pub text_digests : Texts → Digests
text_digests texts = record { flow = sha256 texts.flow; inputs = sha256 texts.inputs; schedule = sha256 texts.schedule }

-- what the texts of a held run spell, and they are accepted; with the lines on which the items of the schedule stand, and the digests of
-- the texts
pub record IsHeldJob (told : Option (List ℕ → Option (List ℕ))) (names : TextNames) (held : HeldJob) : Type 0 where
  pub texts : Texts
  pub there : HasTexts told (three_texts names) texts
  pub accepted : AreAccepted texts held.job.flow
  pub system : system_of held.job.flow held.job.batches ≡ spelled_system held.job.flow texts
  pub items : held.job.items ≡ spelled_items held.job.flow texts
  pub numbers : held.numbers.items ≡ line_numbers texts.schedule
  pub digests : held.digests ≡ text_digests texts

-- Texts that are there are accepted, or one of them is the first that is refused.
use Rattle.std.proofs.Common.{List, [], ◌∷◌, Option, sym, subst, ◌⊎◌, inl, inr}
use Rattle.std.specs.Prelude.{ℕ}
use Rattle.fw_lines.specs.declared.refusal.Refusal.{Refusal}
use Rattle.fw_lines.proofs.ReadLaws.{some_answer as some_inputs}
use Rattle.fw_flow.specs.Dataflow.{Dataflow}
use Rattle.fw_flow.specs.Sources.{sources_of}
use Rattle.fw_flow_text.proofs.ReadLaws.{some_answer as some_flow}
use Rattle.fw_schedule.specs.Grammar as schedules
use Rattle.fw_schedule.proofs.ReadLaws.{some_answer as some_schedule}
use Rattle.fw_generate.specs.Draws.{words_from}
use Rattle.fw_generate.specs.Laws.{AreAccepted}
use Rattle.fw_generate.specs.Texts.{Texts}
use Rattle.fw_command.proofs.TextLaws.{generated-accepted}
use Rattle.fw_command.specs.Command.{ReadAs, as_inputs, as_schedule, NamedText, Origin, in_folder, generated}
use Rattle.fw_command.specs.Texts.{text_for, IsReadFor, IsRefusedFor, AreTextsThere, AreReadFor, IsFirstBehind, HasTexts, Accepts, Refuses}

-- a text that is read for a flow
read-decided : (read : ReadAs) (flow : Dataflow) (text : List ℕ) → IsReadFor read flow text ⊎ ((refusal : Refusal) × IsRefusedFor read flow text refusal)
read-decided as_inputs flow text = elim (some_inputs text (sources_of flow)) [
  | inl read ↦ inl read.1.sound
  | inr refused ↦ inr refused
]
read-decided as_schedule flow text = elim (some_schedule text flow) [
  | inl items ↦ inl (subst (schedules.IsAcceptedSchedule text flow) items.1.value items.1)
  | inr refused ↦ inr refused
]

-- the texts behind that of a flow
behind-decided : (told : Option (List ℕ → Option (List ℕ))) (flow : Dataflow) (others : List NamedText) (texts : Texts) → AreTextsThere told others texts
    → AreReadFor flow others texts ⊎ ((refusal : Refusal) × IsFirstBehind told flow others refusal)
behind-decided told flow [] texts t = inl tt
behind-decided told flow (named ∷ others) texts t = elim (read-decided named.read flow (text_for named.read texts)) [
  | inr refused ↦ inr (refused.0, inl (record { text = text_for named.read texts; there = t.0; so = refused.1 }))
  | inl read ↦ elim (behind-decided told flow others texts t.1) [
    | inl accepted ↦ inl (read, accepted)
    | inr refused ↦ inr (refused.0, inr (record { text = text_for named.read texts; there = t.0; so = read }, refused.1))
  ]
]

-- the texts of a command
pub texts-decided : (told : Option (List ℕ → Option (List ℕ))) (origin : Origin) (texts : Texts) → HasTexts told origin texts
    → ((flow : Dataflow) × Accepts origin texts flow) ⊎ ((refusal : Refusal) × Refuses told origin refusal)
texts-decided told (in_folder name others) texts t = elim (some_flow texts.flow) [
  | inr refused ↦ inr (refused.0, inl (record { text = texts.flow; there = t.0; so = refused.1 }))
  | inl read ↦ elim (behind-decided told read.0 others texts t.1) [
    | inl accepted ↦ inl (read.0, (read.1, accepted))
    | inr refused ↦ inr (refused.0, inr (read.0, record { text = texts.flow; there = t.0; so = read.1 }, refused.1))
  ]
]
texts-decided told (generated seeded) texts t =
    let law = generated-accepted seeded.size (words_from seeded.seed) t.size in
    inl (law.0, subst (λ (three : Texts). AreAccepted three law.0) (sym t.drawn) law.1)

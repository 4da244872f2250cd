-- What the texts of a held run spell, and over which stores a call may begin.
use Rattle.std.specs.Prelude.{◌≡◌, ◌⊎◌, ℕ, ◌^◌, ◌<◌, List, map, Option, Some}
use Rattle.fw_lines.specs.Inputs.{batches_said_of}
use Rattle.fw_lines.specs.Lines.{said_lines}
use Rattle.fw_flow.specs.Dataflow.{Dataflow, node_ids}
use Rattle.fw_flow.specs.Sources.{sources_of}
use Rattle.fw_schedule.specs.LineNumbers.{line_numbers}
use Rattle.fw_keep.specs.Stored.{Records, IsEmptyStore}
use Rattle.fw_root.specs.OfFlow.{Given}
use Rattle.fw_generate.specs.Laws.{AreAccepted}
use Rattle.fw_generate.specs.Texts.{Texts}
use Rattle.fw_command.specs.Command.{TextNames, three_texts}
use Rattle.fw_command.specs.Held.{text_digests}
use Rattle.fw_command.specs.Texts.{HasTexts, spelled_items}
use Rattle.fw_command.specs.Words.{held_of}
use Rattle.fw_hold.specs.Going.{HoldsFound}
use Rattle.fw_hold.specs.Kept.{HeldTexts, Found}
use Rattle.fw_hold.specs.Moves.{KeptPoint}
use Rattle.fw_hold.specs.Starting.{MayStart}

-- ---- texts

-- for each node of a dataflow, with its id, the batches that a text gives it
abbrev pub given_batches : Dataflow → List ℕ → Given
given_batches flow text =
    map (λ (node : ℕ). (node, batches_said_of (sources_of flow) (said_lines text) node)) (node_ids flow)

-- what accepted texts spell to a held run, with the lines on which the items of the schedule stand, and the digests of the texts
abbrev pub held_texts : Dataflow → Texts → HeldTexts
held_texts flow texts = record {
  flow = flow;
  batches = given_batches flow texts.inputs;
  items = spelled_items flow texts;
  numbers = line_numbers texts.schedule;
  digests = text_digests texts;
}

-- the folder has these texts under the names, where it tells its texts, and they are accepted
pub record AreHeldTexts (told : Option (List ℕ → Option (List ℕ))) (names : TextNames) (flow : Dataflow) (texts : Texts) : Type 0 where
  pub there : HasTexts told (three_texts names) texts
  pub accepted : AreAccepted texts flow

-- ---- the store

-- what earlier starts of a held run left: how many there were, whether a start finds a root, and what is kept
pub record EarlierStarts : Type 0 where
  pub many : ℕ
  pub found : Found
  pub kept : KeptPoint

-- the records are told, and hold what these starts with these texts left, of which there were fewer than 2^61
pub record HoldsEarlier (flow : Dataflow) (texts : Texts) (records : Option Records) (earlier : EarlierStarts) : Type 0 where
  pub few : earlier.many < 2 ^ 61
  pub holds : HoldsFound (held_texts flow texts) earlier.many records earlier.found earlier.kept

-- a start with the named texts may begin over the records, whichever texts these are
abbrev pub MayHold : Option (List ℕ → Option (List ℕ)) → TextNames → Option Records → Type 0
MayHold told names records =
    (flow : Dataflow) (texts : Texts) → AreHeldTexts told names flow texts → MayStart (held_texts flow texts) records

-- What a call asks of its store: that it is empty; or, where the words are those of a held run, that a start may begin over it.
abbrev pub MayBegin : List (List ℕ) → Option (List ℕ → Option (List ℕ)) → Option Records → Type 0
MayBegin words told records =
    IsEmptyStore records ⊎ ((names : TextNames) × (held_of words ≡ Some names) × MayHold told names records)

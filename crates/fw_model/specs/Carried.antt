-- What an edge carries of what its sender sends.
use Rattle.std.specs.Prelude.{ℕ, List, Option, filter}
use Rattle.fw_bag.specs.declared.rec.Rec.{Rec}
use Rattle.fw_flow.specs.declared.event.Message.{Message}
use Rattle.fw_flow.specs.declared.key_part.KeyPart.{KeyPart}
use Rattle.fw_flow.specs.Dataflow.{Dataflow}
use Rattle.fw_flow.specs.KeyParts.{is_carried, is_of_part_if}
use Rattle.fw_flow.specs.WholeBags.{Timed}

-- the messages of these that an edge carries
unfoldable pub carried : Dataflow → ℕ → List Message → List Message
carried flow e ms = filter (λ m. is_carried flow e m.rec) ms

-- the messages of these whose keys are of a part, where there is one
abbrev pub messages_of_part : Option KeyPart → List Message → List Message
messages_of_part part ms = filter (λ m. is_of_part_if part m.rec.key) ms

-- the recs of these that an edge carries
abbrev pub carried_recs : Dataflow → ℕ → List Rec → List Rec
carried_recs flow e rs = filter (is_carried flow e) rs

-- the timed recs of these that an edge carries
unfoldable pub carried_timed : Dataflow → ℕ → List Timed → List Timed
carried_timed flow e rs = filter (λ r. is_carried flow e r.rec) rs

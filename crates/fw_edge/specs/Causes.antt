-- Which message comes by its causes before another.
use Rattle.std.specs.Prelude.{◌≡◌, true, List, AllPairs}
use Rattle.fw_frontier.specs.Front.{Front, inside}
use Rattle.fw_flow.specs.declared.event.Message.{Message}
use Rattle.fw_flow.specs.Projection.{all_inside}

-- inside each front inside which all causes of the second message are, all those of the first one are
abbrev pub ComesNoLater : Message → Message → Type 0
ComesNoLater m n = (f : Front) → all_inside (inside f) n.causes ≡ true → all_inside (inside f) m.causes ≡ true

-- no message comes later than one behind it
abbrev pub ComeInTurn : List Message → Type 0
ComeInTurn ms = AllPairs ComesNoLater ms

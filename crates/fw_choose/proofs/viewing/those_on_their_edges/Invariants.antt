use Rattle.std.proofs.Common.{◌≡◌, filter, take}
use Rattle.fw_choose.specs.Chosen.{is_on_its_edge}
use Rattle.fw_choose.proofs.viewing.those_on_their_edges.Given as goal

abbrev pub invariant-loop-message : goal.invariant-loop-message
invariant-loop-message l = l.all.items ≡ filter (is_on_its_edge l.flow l.single) (take l.message-index l.messages)

use Rattle.std.proofs.Common.{◌≡◌, true, take}
use Rattle.std.specs.List.{AllByRecursion}
use Rattle.fw_flow.specs.Dataflow.{bounds_of, receiver}
use Rattle.fw_choose.specs.Chosen.{is_on_its_edge}
use Rattle.fw_choose.proofs.viewing.are_on_their_edges.Given as goal

abbrev pub invariant-loop-message : goal.invariant-loop-message
invariant-loop-message l =
    AllByRecursion (λ m. is_on_its_edge l.flow l.single m ≡ true) (take l.message-index l.messages)
    × (l.receiving.bounds ≡ bounds_of l.flow (receiver l.flow l.receiving.edge))

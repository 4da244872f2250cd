use Rattle.std.proofs.Common.{take}
use Rattle.fw_model.specs.Offers.{AreFrontsOfEdges}
use Rattle.fw_settle.proofs.checking.are_canonical.Given as goal

abbrev pub invariant-loop-of_edge : goal.invariant-loop-of_edge
invariant-loop-of_edge l = AreFrontsOfEdges l.flow (take l.of_edge-index l.fronts)

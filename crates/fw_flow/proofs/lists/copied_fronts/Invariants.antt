use Rattle.std.proofs.Common.{◌≡◌, take}
use Rattle.fw_flow.proofs.lists.copied_fronts.Given as goal

abbrev pub invariant-loop-of_edge : goal.invariant-loop-of_edge
invariant-loop-of_edge l = l.copy.items ≡ take l.of_edge-index l.fronts

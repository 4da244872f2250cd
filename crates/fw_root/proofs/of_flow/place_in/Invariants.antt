use Rattle.std.proofs.Common.{◌≡◌, ◌+◌, drop}
use Rattle.fw_root.specs.OfFlow.{place_among_nodes}
use Rattle.fw_root.proofs.of_flow.place_in.Given as goal

abbrev pub invariant-loop-i : goal.invariant-loop-i
invariant-loop-i l = place_among_nodes (drop l.i l.nodes) l.node + l.i ≡ place_among_nodes l.nodes l.node

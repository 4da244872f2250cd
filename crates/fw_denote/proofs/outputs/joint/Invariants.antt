use Rattle.std.proofs.Common.{◌≡◌, ◌++◌, drop, map}
use Rattle.fw_flow.specs.WholeBags.{joint_bag}
use Rattle.fw_denote.specs.Holding.{family_held}
use Rattle.fw_denote.proofs.outputs.joint.Given as goal

abbrev pub invariant-loop-edge : goal.invariant-loop-edge
invariant-loop-edge l = l.rs.items ++ joint_bag (map (family_held l.flow l.bags) (drop l.edge-index l.edges)) ≡ joint_bag (map (family_held l.flow l.bags) l.edges)

use Rattle.std.proofs.Common.{◌≡◌, ◌++◌, map}
use Rattle.std.specs.List.{range_with_len}
use Rattle.fw_flow.specs.Expand.{at_line, replica_edge}
use Rattle.fw_flow.proofs.expand.SplitNode.add_edges.Given as goal

abbrev pub invariant-loop-place : goal.invariant-loop-place
invariant-loop-place l = l.all.items ≡ l.initial.all.items ++ at_line l.line (map (replica_edge l.self.name.now) (range_with_len 0 l.place))

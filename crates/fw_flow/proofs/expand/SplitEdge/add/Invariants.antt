use Rattle.std.proofs.Common.{◌≡◌, ◌++◌, map}
use Rattle.std.specs.List.{range_with_len}
use Rattle.fw_flow.specs.Expand.{at_line, edge_to_replica}
use Rattle.fw_flow.proofs.expand.SplitEdge.add.Given as goal

abbrev pub invariant-loop-place : goal.invariant-loop-place
invariant-loop-place l =
    l.all.items ≡ l.initial.all.items ++ at_line l.line (map (edge_to_replica l.self.name.now l.self.sender.now l.self.receiver.now) (range_with_len 0 l.place))

use Rattle.std.proofs.Common.{◌≡◌, ◌++◌, map}
use Rattle.std.specs.List.{range_with_len}
use Rattle.fw_flow.specs.Expand.{at_line, replica}
use Rattle.fw_flow.proofs.expand.SplitNode.add_replicas.Given as goal

abbrev pub invariant-loop-place : goal.invariant-loop-place
invariant-loop-place l =
    l.all.items ≡ l.initial.all.items ++ at_line l.line (map (replica l.self.name.now l.self.kind.now l.self.policy l.self.count) (range_with_len 0 l.place))

use Rattle.std.proofs.Common.{◌≡◌, filter}
use Rattle.std.specs.List.{range_with_len}
use Rattle.fw_flow.specs.Dataflow.{kind_of}
use Rattle.fw_root.specs.OfFlow.{plays}
use Rattle.fw_root.proofs.of_flow.nodes_as.Given as goal

abbrev pub invariant-loop-place : goal.invariant-loop-place
invariant-loop-place l = l.nodes.items ≡ filter (λ p. plays l.role (kind_of l.flow p)) (range_with_len 0 l.place)

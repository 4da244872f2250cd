use Rattle.std.proofs.Common.{◌≡◌, map}
use Rattle.std.specs.List.{filter, range_with_len}
use Rattle.fw_flow.specs.Dataflow.{kind_of, is_input_kind}
use Rattle.fw_collect.specs.Drops.{of_node, watermark}
use Rattle.fw_collect.proofs.planning.batches.Given as goal

abbrev pub invariant-loop-place : goal.invariant-loop-place
invariant-loop-place l = l.drops.items ≡ map (of_node (watermark l.choice)) (filter (λ p. is_input_kind (kind_of l.flow p)) (range_with_len 0 l.place))

use Rattle.std.proofs.Common.{◌≡◌, map}
use Rattle.std.specs.List.{filter, range_with_len}
use Rattle.fw_flow.specs.Dataflow.{policy_of}
use Rattle.fw_model.specs.Writes.{takes_checkpoints}
use Rattle.fw_collect.specs.Drops.{of_node, watermark}
use Rattle.fw_collect.proofs.planning.records.Given as goal

abbrev pub invariant-loop-place : goal.invariant-loop-place
invariant-loop-place l = l.drops.items ≡ map (of_node (watermark l.choice)) (filter (λ p. takes_checkpoints (policy_of l.flow p)) (range_with_len 0 l.place))

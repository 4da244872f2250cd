use Rattle.std.proofs.Common.{◌≡◌, length, map}
use Rattle.std.specs.List.{range_with_len}
use Rattle.fw_flow.specs.Dataflow.{system_of, batches_of}
use Rattle.fw_command.specs.DenotationText.{greatest}
use Rattle.fw_command.proofs.denoting.most_batches.Given as goal

-- the greatest number of batches of the nodes so far
abbrev pub invariant-loop-place : goal.invariant-loop-place
invariant-loop-place l = l.most ≡ greatest (map (λ q. length (batches_of (system_of l.flow l.batches) q)) (range_with_len 0 l.place))

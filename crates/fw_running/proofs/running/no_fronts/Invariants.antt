use Rattle.std.proofs.Common.{◌≡◌, map}
use Rattle.std.specs.List.{range_with_len}
use Rattle.fw_flow.specs.Dataflow.{bounds_of}
use Rattle.fw_model.specs.Machine.{no_stamps}
use Rattle.fw_running.proofs.running.no_fronts.Given as goal

abbrev pub invariant-loop-place : goal.invariant-loop-place
invariant-loop-place l = l.fronts.items ≡ map (λ p. no_stamps (bounds_of l.flow p)) (range_with_len 0 l.place)

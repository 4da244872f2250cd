use Rattle.std.proofs.Common.{◌≡◌, map}
use Rattle.std.specs.List.{range_with_len}
use Rattle.fw_flow.specs.Dataflow.{kind_of, is_input_kind}
use Rattle.fw_session.proofs.arrivals.inputs_of.Given as goal

abbrev pub invariant-loop-place : goal.invariant-loop-place
invariant-loop-place l = l.opened.items ≡ map (λ p. is_input_kind (kind_of l.flow p)) (range_with_len 0 l.place)

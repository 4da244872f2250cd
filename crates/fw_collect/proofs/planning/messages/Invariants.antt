use Rattle.std.proofs.Common.{◌≡◌, map}
use Rattle.std.specs.List.{filter, range_with_len}
use Rattle.fw_flow.specs.Dataflow.{policy_of, sender, receiver}
use Rattle.fw_flow.specs.Restoring.{can_resend}
use Rattle.fw_model.specs.Machine.{front_of}
use Rattle.fw_collect.specs.Drops.{watermark}
use Rattle.fw_collect.proofs.planning.messages.Given as goal

abbrev pub invariant-loop-place : goal.invariant-loop-place
invariant-loop-place l = l.drops.items ≡ map (λ e. record { edge = e; front = front_of (watermark l.choice) (receiver l.flow e) }) (filter (λ e. can_resend (policy_of l.flow (sender l.flow e))) (range_with_len 0 l.place))

use Rattle.std.proofs.Common.{◌≡◌}
use Rattle.fw_flow.specs.Check.{HasAllowedPolicy, HoldsBelow}
use Rattle.fw_flow.specs.Dataflow.{Dataflow}
use Rattle.fw_flow.proofs.check.policy_line.Given as goal

abbrev pub invariant-loop-place : goal.invariant-loop-place
invariant-loop-place l = (flow : Dataflow) → flow.nodes ≡ l.nodes → HoldsBelow (HasAllowedPolicy flow) l.place

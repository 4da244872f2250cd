use Rattle.std.proofs.Common.{◌≡◌}
use Rattle.fw_flow.specs.Check.{HoldsBelow}
use Rattle.fw_flow.specs.Dataflow.{Dataflow}
use Rattle.fw_flow.specs.WellFormed.{HasShortChain}
use Rattle.fw_flow.proofs.check.chain_line.Given as goal

abbrev pub invariant-loop-place : goal.invariant-loop-place
invariant-loop-place l = (flow : Dataflow) → flow.loops ≡ l.loops → HoldsBelow (HasShortChain flow) l.place

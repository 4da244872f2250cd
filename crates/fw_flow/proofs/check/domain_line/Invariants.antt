use Rattle.fw_flow.specs.Check.{JoinsDomains, HoldsBelow}
use Rattle.fw_flow.specs.Dataflow.{Dataflow}
use Rattle.fw_flow.specs.Walks.{IsMadeOf}
use Rattle.fw_flow.proofs.check.domain_line.Given as goal

abbrev pub invariant-loop-place : goal.invariant-loop-place
invariant-loop-place l = (flow : Dataflow) → IsMadeOf flow l.loops l.nodes l.links → HoldsBelow (JoinsDomains flow) l.place

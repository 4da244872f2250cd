use Rattle.fw_flow.specs.Check.{HoldsBelow}
use Rattle.fw_flow.proofs.PremiseLaws.{MayHave}
use Rattle.fw_flow.proofs.flow.Flow.accepts.Given as goal

abbrev pub invariant-loop-place : goal.invariant-loop-place
invariant-loop-place l = HoldsBelow (MayHave l.self l.batches) l.place

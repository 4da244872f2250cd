use Rattle.fw_flow.specs.Parts.{ArePartsOf}
use Rattle.fw_flow.proofs.parts.Parts.of.Given as goal

abbrev pub invariant-loop-one : goal.invariant-loop-one
invariant-loop-one l = ArePartsOf l.parts l.names l.yielded

use Rattle.std.proofs.Common.{take}
use Rattle.fw_flow.specs.Check.{StaysWithinLimits, HoldsBelow}
use Rattle.fw_flow.specs.Parts.{AreCountsDeclared}
use Rattle.fw_flow.proofs.check.limit_line.Given as goal

abbrev pub invariant-loop-one : goal.invariant-loop-one
invariant-loop-one l = record {
  counted : AreCountsDeclared l.counts (take l.one-index l.declared);
  so_far : HoldsBelow (StaysWithinLimits l.declared) l.one-index;
}

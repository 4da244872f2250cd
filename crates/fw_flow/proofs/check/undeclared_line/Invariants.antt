use Rattle.fw_flow.specs.Check.{NamesTheDeclared, HoldsBelow}
use Rattle.fw_flow.proofs.check.undeclared_line.Given as goal

abbrev pub invariant-loop-one : goal.invariant-loop-one
invariant-loop-one l = HoldsBelow (NamesTheDeclared l.declared) l.one-index

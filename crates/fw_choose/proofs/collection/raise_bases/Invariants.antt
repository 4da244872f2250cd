use Rattle.fw_choose.specs.Collecting.{AreRaised}
use Rattle.fw_choose.proofs.collection.raise_bases.Given as goal

abbrev pub invariant-loop-place : goal.invariant-loop-place
invariant-loop-place l = AreRaised l.flow l.place l.low l.fn.traces l.traces

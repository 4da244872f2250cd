use Rattle.fw_resume.specs.Told.{AreInjectedTold}
use Rattle.fw_resume.proofs.told.injected_told.Given as goal

abbrev pub invariant-loop-place : goal.invariant-loop-place
invariant-loop-place l = AreInjectedTold l.inputs l.injected l.place l.counts.items

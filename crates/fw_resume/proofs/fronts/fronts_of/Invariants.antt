use Rattle.fw_resume.specs.Fronts.{AreFrontsTold}
use Rattle.fw_resume.proofs.fronts.fronts_of.Given as goal

abbrev pub invariant-loop-place : goal.invariant-loop-place
invariant-loop-place l = AreFrontsTold l.running l.place l.fronts.items

use Rattle.fw_resume.specs.Lost.{AreLostTold}
use Rattle.fw_resume.proofs.lost.lost_each.Given as goal

abbrev pub invariant-loop-place : goal.invariant-loop-place
invariant-loop-place l = AreLostTold l.flow l.fronts l.place l.lost.items

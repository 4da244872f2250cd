use Rattle.fw_border.specs.Outputs.{new_output}
use Rattle.fw_resume.proofs.BorderLaws.{AreChangedUpTo, raising}
use Rattle.fw_resume.proofs.borders.raise_bounds.Given as goal

abbrev pub invariant-loop-place : goal.invariant-loop-place
invariant-loop-place l = AreChangedUpTo new_output (raising l.nodes l.bounds) l.place l.initial.outputs.outputs l.outputs.outputs

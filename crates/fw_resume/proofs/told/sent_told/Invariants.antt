use Rattle.fw_resume.specs.Told.{AreTablesTold}
use Rattle.fw_resume.proofs.told.sent_told.Given as goal

abbrev pub invariant-loop-place : goal.invariant-loop-place
invariant-loop-place l = AreTablesTold l.sequences l.sends l.place l.tables.items

use Rattle.fw_session.proofs.OpeningLaws.{HaveFirst}
use Rattle.fw_session.proofs.opening.opening_batches.Given as goal

abbrev pub invariant-loop-place : goal.invariant-loop-place
invariant-loop-place l = HaveFirst l.flow l.place l.batches

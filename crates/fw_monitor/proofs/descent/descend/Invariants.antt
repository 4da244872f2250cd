use Rattle.fw_model.specs.Lowerings.{choice_of}
use Rattle.fw_monitor.proofs.TestLaws.{IsAt, left_over}
use Rattle.fw_monitor.proofs.descent.descend.Given as goal

abbrev pub invariant-test : goal.invariant-test
invariant-test g l = IsAt l.flow l.offers (choice_of l.going.cuts.items l.going.notices.items) l.going.trail.items l.going.waiting.items l.fn.steps l.steps l.place

abbrev pub decreases-test : goal.decreases-test
decreases-test g l = left_over l.flow (choice_of l.going.cuts.items l.going.notices.items) l.place

use Rattle.fw_model.specs.Lowerings.{choice_of}
use Rattle.fw_monitor.proofs.FindingLaws.{IsOnWay}
use Rattle.fw_monitor.proofs.TestLaws.{left_over}
use Rattle.fw_monitor.proofs.finding.find.Given as goal

abbrev pub invariant-mend : goal.invariant-mend
invariant-mend l = IsOnWay l.flow l.offers l.way.trail.items (choice_of l.way.cuts.items l.way.notices.items) l.place

abbrev pub decreases-mend : goal.decreases-mend
decreases-mend l = left_over l.flow (choice_of l.way.cuts.items l.way.notices.items) l.place

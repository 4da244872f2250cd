use Rattle.fw_resume.proofs.CountedLaws.{in_order-none}
use Rattle.fw_resume.proofs.counts.listed.Goals as goal

pub returns-then-is_empty-clause-in_order : goal.returns-then-is_empty-clause-in_order
returns-then-is_empty-clause-in_order c = in_order-none c.args.tally.now (c.is_empty.ensures.0 c.if-is_empty.true)

use Rattle.fw_live.proofs.taking.take_item.Goals as goal

pub returns-in-One-clause-ends : goal.returns-in-One-clause-ends
returns-in-One-clause-ends g c = rw (c.in-One.is) (c.take_step.ensures.ends)

pub returns-in-Auto-clause-ends : goal.returns-in-Auto-clause-ends
returns-in-Auto-clause-ends g c = rw (c.in-Auto.is) (λ story at relied. c.take_auto.ensures.ends story at)

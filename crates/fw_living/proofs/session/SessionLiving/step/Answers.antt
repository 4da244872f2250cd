use Rattle.fw_living.proofs.session.SessionLiving.step.Goals as goal

pub returns-clause-calls : goal.returns-clause-calls
returns-clause-calls g c = c.step.ensures.leaves.calls

pub returns-clause-tells : goal.returns-clause-tells
returns-clause-tells g c = c.step.ensures.leaves.tells

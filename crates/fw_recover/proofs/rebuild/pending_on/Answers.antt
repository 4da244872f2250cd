use Rattle.fw_recover.proofs.CountedLaws.{none-pending}
use Rattle.fw_recover.proofs.rebuild.pending_on.Goals as goal

pub returns-in-None-clause-counted : goal.returns-in-None-clause-counted
returns-in-None-clause-counted c = λ t. none-pending c.args.queues.now c.args.edge c.new.result c.new.ensures c.in-None.ensures t

use Rattle.fw_choose.proofs.CollectLaws.{none-left}
use Rattle.fw_choose.proofs.collection.drop_inside.Goals as goal

pub returns-in_default-clause-here : goal.returns-in_default-clause-here
returns-in_default-clause-here c = none-left c.args.logs.now c.args.of_edge.now.edge c.args.of_edge.now.front c.in_default.ensures.value

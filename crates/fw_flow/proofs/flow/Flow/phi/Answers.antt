use Rattle.fw_flow.proofs.EdgeLaws.{phi-counted, phi-named}
use Rattle.fw_flow.proofs.flow.Flow.phi.Goals as goal

pub returns-clause-by_table : goal.returns-clause-by_table
returns-clause-by_table c = phi-counted c.ends-kind.ensures c.args.f.now c.args.sent.now c.phi.result c.phi.ensures

pub returns-clause-after_history : goal.returns-clause-after_history
returns-clause-after_history c = λ sys h same table. phi-named c.ends-kind.ensures c.args.f.now c.args.sent.now c.phi.result sys h same table c.phi.ensures

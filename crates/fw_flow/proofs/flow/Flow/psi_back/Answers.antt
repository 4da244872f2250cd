use Rattle.fw_flow.proofs.EdgeLaws.{psi_back-named}
use Rattle.fw_flow.proofs.flow.Flow.psi_back.Goals as goal

pub returns : goal.returns
returns c = psi_back-named c.ends-kind.ensures c.args.g.now c.psi_back.result c.psi_back.ensures

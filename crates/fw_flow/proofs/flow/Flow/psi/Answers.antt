use Rattle.fw_flow.proofs.EdgeLaws.{psi-named}
use Rattle.fw_flow.proofs.flow.Flow.psi.Goals as goal

pub returns : goal.returns
returns c = psi-named c.ends-kind.ensures c.args.f.now c.psi.result c.psi.ensures

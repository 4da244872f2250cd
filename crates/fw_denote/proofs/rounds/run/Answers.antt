use Rattle.fw_denote.proofs.WholeLaws.{within_node}
use Rattle.fw_denote.proofs.rounds.run.Goals as goal

pub sent-requires-clause-in_domain : goal.sent-requires-clause-in_domain
sent-requires-clause-in_domain c =
    within_node c.args.flow.now c.args.node c.kind-kind.result c.domain.result c.as_slice-rs.result.now c.kind-kind.ensures c.domain.ensures
    (c.are_within.ensures c.if-are_within.true)

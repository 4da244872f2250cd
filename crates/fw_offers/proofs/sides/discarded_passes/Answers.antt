use Rattle.std.specs.Option.{option_copied}
use Rattle.std.proofs.Common.{sym, ◌∙◌}
use Rattle.fw_frontier.specs.Front.{frontier_of}
use Rattle.fw_flow.specs.Dataflow.{receiver, bounds_of}
use Rattle.fw_offers.proofs.WayLaws.{discarded_by_psi, discarded_by_records}
use Rattle.fw_offers.proofs.sides.discarded_passes.Goals as goal

pub returns-in_ok-sent-in-Anything : goal.returns-in_ok-sent-in-Anything
returns-in_ok-sent-in-Anything c = λ r.
    let b = bounds_of c.args.flow.now (receiver c.args.flow.now c.args.edge) in
    discarded_by_psi c.args.flow.now c.args.offers.now c.args.edge c.src-node.result c.args.front.now c.in_ok-sent-in-Anything.sent (frontier_of b c.args.bound.now) c.subset.result
    (sym c.can_resend.ensures ∙ c.if-can_resend.false) c.src-node.ensures c.in-Anything.ensures c.in_ok-sent-in-Anything.ensures (c.subset.ensures.domain b c.requires.bound)

pub returns-in-Checkpoints : goal.returns-in-Checkpoints
returns-in-Checkpoints c = λ r.
    let b = bounds_of c.args.flow.now (receiver c.args.flow.now c.args.edge) in
    discarded_by_records c.args.flow.now c.args.offers.now c.args.edge c.src-node.result c.args.front.now (frontier_of b c.args.bound.now) c.record_passes.result (option_copied c.args.checkpoint)
    (sym c.can_resend.ensures ∙ c.if-can_resend.false) c.src-node.ensures c.in-Checkpoints.ensures r (c.record_passes.ensures b c.requires.bound)

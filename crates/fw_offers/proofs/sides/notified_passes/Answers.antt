use Rattle.std.specs.Option.{option_copied}
use Rattle.std.proofs.Common.{sym, ◌∙◌}
use Rattle.fw_frontier.specs.Front.{frontier_of}
use Rattle.fw_flow.specs.Dataflow.{bounds_of}
use Rattle.fw_offers.proofs.WayLaws.{notified_takes, notified_by_records}
use Rattle.fw_offers.proofs.sides.notified_passes.Goals as goal

pub returns-then-takes_its_notices : goal.returns-then-takes_its_notices
returns-then-takes_its_notices c = λ r.
    let b = bounds_of c.args.flow.now c.args.node in
    notified_takes c.args.flow.now c.args.offers.now c.args.node c.args.front.now (frontier_of b c.args.bound.now) c.subset.result
    (sym c.takes_its_notices.ensures ∙ c.if-takes_its_notices.true) (c.subset.ensures.domain b c.requires)

pub returns-in-Checkpoints : goal.returns-in-Checkpoints
returns-in-Checkpoints c = λ r.
    let b = bounds_of c.args.flow.now c.args.node in
    notified_by_records c.args.flow.now c.args.offers.now c.args.node c.args.front.now (frontier_of b c.args.bound.now) c.record_passes.result (option_copied c.args.checkpoint)
    (sym c.takes_its_notices.ensures ∙ c.if-takes_its_notices.false) c.in-Checkpoints.ensures r (c.record_passes.ensures b c.requires)

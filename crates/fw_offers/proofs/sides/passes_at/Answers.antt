use Rattle.std.proofs.Common.{subst}
use Rattle.std.specs.Option.{option_copied}
use Rattle.fw_offers.specs.Sides.{IsRecordAt}
use Rattle.fw_offers.proofs.sides.passes_at.Goals as goal

pub returns : goal.returns
returns c =
    let flow = c.args.flow.now in
    let offers = c.args.offers.now in
    c.front_passes.ensures
    (subst (λ q. IsRecordAt flow offers q c.args.front.now (option_copied c.checkpoint_at-checkpoint.result)) c.owner.ensures c.checkpoint_at-checkpoint.ensures)

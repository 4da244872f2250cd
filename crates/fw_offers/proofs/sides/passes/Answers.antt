use Rattle.std.proofs.Common.{◌↔◌, IsTrue, IfOk, sym, subst}
use Rattle.fw_frontier.specs.Front.{frontier_of}
use Rattle.fw_frontier.specs.Frontier.{Within}
use Rattle.fw_model.specs.Inclusions.{side_bounds, left_of}
use Rattle.fw_model.specs.Offers.{covers_of}
use Rattle.fw_offers.proofs.sides.passes.Goals as goal

pub returns-in-At : goal.returns-in-At
returns-in-At c =
    let flow = c.args.flow.now in
    let offers = c.args.offers.now in
    let side = c.args.side.now in
    subst (λ x. IfOk c.passes_at.result (λ b. IsTrue b ↔ Within (left_of (covers_of flow offers) side x) (frontier_of (side_bounds flow side) c.args.bound.now))) (sym c.in-At.is)
    c.passes_at.ensures

use Rattle.std.proofs.Common.{IfOk, refl, sym, subst}
use Rattle.fw_frontier.specs.Front.{IsFrontOf}
use Rattle.fw_flow.specs.Dataflow.{bounds_of}
use Rattle.fw_model.specs.Covers.{set_of}
use Rattle.fw_model.specs.Lowerings.{choice_of}
use Rattle.fw_model.specs.Inclusions.{note_node, limit_of, IsLimitIn}
use Rattle.fw_offers.proofs.RightLaws.{cut_here}
use Rattle.fw_offers.proofs.rights.limit_of.Goals as goal
use Rattle.fw_model.specs.Offers.{covers_of}

pub returns-in-Own : goal.returns-in-Own
returns-in-Own c =
    let flow = c.args.flow.now in
    let offers = c.args.offers.now in
    let p = c.in-Own.node in
    let choice = choice_of c.args.cuts.now c.args.notices.now in
    let cut = c.cut_at.ensures choice refl in
    let canonical = cut_here flow choice p p c.cut_at.result.now c.requires.of_flow (subst (IsLimitIn flow) c.in-Own.is c.requires.there) cut refl in
    subst (λ x. IfOk c.kept.result (λ g. IsFrontOf (bounds_of flow (note_node flow x)) g (limit_of flow (covers_of flow offers) x choice))) (sym c.in-Own.is)
    (subst (λ x. IfOk c.kept.result (λ g. IsFrontOf (bounds_of flow p) g (set_of flow p x))) cut (c.kept.ensures flow p canonical))

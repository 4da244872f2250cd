use Rattle.std.proofs.Common.{List, length, sym, subst}
use Rattle.fw_flow.specs.declared.choice.Offer.{Offer}
use Rattle.fw_model.specs.Offers.{AreOffersOf}
use Rattle.fw_choose.specs.declared.outlook.Outlook.{Outlook}
use Rattle.fw_choose.specs.Chosen.{AreViewsBy}
use Rattle.fw_choose.proofs.ViewLaws.{all-fit, outlook-by, outlook-by_held}
use Rattle.fw_choose.proofs.outlook.outlook_of.Goals as goal

pub descent_to_largest-requires : goal.descent_to_largest-requires
descent_to_largest-requires c =
    let running = c.args.running.now in
    let n = length running.flow.nodes in
    let views : AreViewsBy running c.args.lost n c.in_ok-view.view.items = c.in_ok-view.ensures in
    subst (λ (os : List Offer). AreOffersOf running.flow os) (sym c.deref.ensures.value)
    (c.in_ok-candidates.ensures.of_flow (all-fit running c.args.lost c.in_ok-view.view.items c.entries.result.now c.requires views c.entries.ensures.all))

pub returns-clause-of_flow : goal.returns-clause-of_flow
returns-clause-of_flow c =
    let running = c.args.running.now in
    let n = length running.flow.nodes in
    let views : AreViewsBy running c.args.lost n c.in_ok-view.view.items = c.in_ok-view.ensures in
    c.in_ok-candidates.ensures.of_flow (all-fit running c.args.lost c.in_ok-view.view.items c.entries.result.now c.requires views c.entries.ensures.all)

pub returns-clause-of_state : goal.returns-clause-of_state
returns-clause-of_state c =
    let running = c.args.running.now in
    let n = length running.flow.nodes in
    let views : AreViewsBy running c.args.lost n c.in_ok-view.view.items = c.in_ok-view.ensures in
    let outlook : Outlook = record { candidates = c.in_ok-candidates.candidates; descent = c.in_ok-descent.descent } in
    outlook-by running c.args.lost c.in_ok-view.view.items c.entries.result.now c.deref.result.now outlook views c.entries.ensures.all c.deref.ensures.value
    c.in_ok-candidates.ensures.above c.in_ok-descent.ensures.largest c.in_ok-descent.ensures.trail

pub returns-clause-of_held : goal.returns-clause-of_held
returns-clause-of_held c =
    let running = c.args.running.now in
    let n = length running.flow.nodes in
    let views : AreViewsBy running c.args.lost n c.in_ok-view.view.items = c.in_ok-view.ensures in
    let outlook : Outlook = record { candidates = c.in_ok-candidates.candidates; descent = c.in_ok-descent.descent } in
    outlook-by_held running c.args.lost c.in_ok-view.view.items c.entries.result.now c.deref.result.now outlook views c.entries.ensures.all c.deref.ensures.value
    c.in_ok-candidates.ensures.above c.in_ok-descent.ensures.largest c.in_ok-descent.ensures.trail

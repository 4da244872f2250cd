use Rattle.std.proofs.Common.{◌↔◌, IfOk, IsTrue, sym, subst}
use Rattle.fw_model.specs.Inclusions.{Holds}
use Rattle.fw_model.specs.Lowerings.{choice_of}
use Rattle.fw_model.specs.Offers.{covers_of}
use Rattle.fw_certify.proofs.judge.holds.Goals as goal

pub returns-in-OfCut-clause-holds : goal.returns-in-OfCut-clause-holds
returns-in-OfCut-clause-holds g c =
    let flow = c.args.flow.now in
    let offers = c.args.offers.now in
    let cuts = c.args.values.now.cuts.items in
    let notices = c.args.values.now.notices.items in
    let choice = choice_of cuts notices in
    subst (λ i. IfOk c.is_met.result (λ b. IsTrue b ↔ Holds flow (covers_of flow offers) choice i)) (sym c.in-OfCut.is) c.is_met.ensures

pub returns-in-OfNote-clause-holds : goal.returns-in-OfNote-clause-holds
returns-in-OfNote-clause-holds g c =
    let flow = c.args.flow.now in
    let offers = c.args.offers.now in
    let cuts = c.args.values.now.cuts.items in
    let notices = c.args.values.now.notices.items in
    let choice = choice_of cuts notices in
    subst (λ i. IfOk c.is_kept.result (λ b. IsTrue b ↔ Holds flow (covers_of flow offers) choice i)) (sym c.in-OfNote.is) c.is_kept.ensures

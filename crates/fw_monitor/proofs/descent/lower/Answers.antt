use Rattle.std.proofs.Common.{sym, subst, IfOk}
use Rattle.fw_flow.specs.declared.side.Inclusion.TheVariants.{OfCut, OfNote}
use Rattle.fw_model.specs.Lowerings.{choice_of}
use Rattle.fw_monitor.specs.Tests.{IsTested}
use Rattle.fw_monitor.proofs.descent.lower.Goals as goal

pub returns-in-OfCut : goal.returns-in-OfCut
returns-in-OfCut c =
    let flow = c.args.flow.now in
    let offers = c.args.offers.now in
    let cuts = c.args.cuts.now.items in
    let notices = c.args.notices.now.items in
    let new = c.lower_cut.new.cuts.items in
    subst (λ x. IfOk c.lower_cut.result (IsTested flow offers x (choice_of cuts notices) (choice_of new notices))) (sym c.in-OfCut.is)
    (subst (λ xs. IfOk c.lower_cut.result (IsTested flow offers (OfCut c.in-OfCut.side) (choice_of cuts xs) (choice_of new xs))) c.deref.ensures.value c.lower_cut.ensures)

pub returns-in-OfNote : goal.returns-in-OfNote
returns-in-OfNote c =
    let flow = c.args.flow.now in
    let offers = c.args.offers.now in
    let cuts = c.args.cuts.now.items in
    let notices = c.args.notices.now.items in
    let new = c.lower_note.new.notices.items in
    subst (λ x. IfOk c.lower_note.result (IsTested flow offers x (choice_of cuts notices) (choice_of cuts new))) (sym c.in-OfNote.is)
    (subst (λ xs. IfOk c.lower_note.result (IsTested flow offers (OfNote c.in-OfNote.limit) (choice_of xs notices) (choice_of xs new))) c.deref-in-OfNote.ensures.value c.lower_note.ensures)

use Rattle.std.proofs.Common.{◌≡◌, sym, ap, subst, arith}
use Rattle.std.proofs.lemmas.Result.{IfOk-weaker}
use Rattle.std.proofs.lemmas.Bool.{both_ways}
use Rattle.fw_flow.specs.declared.side.Inclusion.TheVariants.{OfCut, OfNote}
use Rattle.fw_flow.specs.declared.trail.Lowering.{Lowering}
use Rattle.fw_model.specs.Choice.{IsCanonicalCut}
use Rattle.fw_model.specs.Inclusions.{Holds, IsInclusionOf}
use Rattle.fw_model.specs.Lowerings.{choice_of, lowering_of}
use Rattle.fw_model.specs.Offers.{covers_of, offered_by}
use Rattle.fw_certify.specs.Checked.{other_tests}
use Rattle.fw_certify.proofs.JudgeLaws.{holding-judged, other_domain-judged, untold-judged, value-judged}
use Rattle.fw_certify.proofs.CodeLaws.{entry_canonical}
use Rattle.fw_certify.proofs.judge.take.Goals as goal

pub returns-in-None-clause-judged : goal.returns-in-None-clause-judged
returns-in-None-clause-judged g c =
    let flow = c.args.flow.now in
    let offers = c.args.offers.now in
    let l = c.args.entry.now in
    let old = choice_of c.args.values.now.cuts.items c.args.values.now.notices.items in
    untold-judged flow offers l old c.in-None.ensures

pub returns-then-not-branch-clause-judged : goal.returns-then-not-branch-clause-judged
returns-then-not-branch-clause-judged g c =
    let flow = c.args.flow.now in
    let offers = c.args.offers.now in
    let l = c.args.entry.now in
    let old = choice_of c.args.values.now.cuts.items c.args.values.now.notices.items in
    other_domain-judged flow offers l old (λ k. both_ways c.in_ok-is_canonical_cut.field-0 c.if-not-branch.true (c.in_ok-is_canonical_cut.ensures.1 (subst (λ b. IsCanonicalCut b l.to) (sym c.domain.ensures) k)))

pub returns-then-branch-clause-judged : goal.returns-then-branch-clause-judged
returns-then-branch-clause-judged g c =
    let flow = c.args.flow.now in
    let offers = c.args.offers.now in
    let l = c.args.entry.now in
    let old = choice_of c.args.values.now.cuts.items c.args.values.now.notices.items in
    holding-judged flow offers l old c.in-Some.inclusion c.in-Some.ensures.1 (c.in_ok-holds.ensures.holds.0 c.if-branch.true)

pub take_cut-requires-clause-there : goal.take_cut-requires-clause-there
take_cut-requires-clause-there g c =
    let flow = c.args.flow.now in
    let offers = c.args.offers.now in
    let l = c.args.entry.now in
    let old = choice_of c.args.values.now.cuts.items c.args.values.now.notices.items in
    subst (IsInclusionOf flow) c.in-OfCut.is c.in-Some.ensures.0

pub take_cut-requires-clause-to : goal.take_cut-requires-clause-to
take_cut-requires-clause-to g c =
    let flow = c.args.flow.now in
    let offers = c.args.offers.now in
    let l = c.args.entry.now in
    let old = choice_of c.args.values.now.cuts.items c.args.values.now.notices.items in
    entry_canonical flow l c.in-Some.inclusion (OfCut c.in-OfCut.side) c.domain.result c.in_ok-is_canonical_cut.field-0 c.in-OfCut.is c.in-Some.ensures.1 c.domain.ensures c.if-not-branch.false c.in_ok-is_canonical_cut.ensures

pub take_cut-requires-clause-fails : goal.take_cut-requires-clause-fails
take_cut-requires-clause-fails g c =
    let flow = c.args.flow.now in
    let offers = c.args.offers.now in
    let l = c.args.entry.now in
    let old = choice_of c.args.values.now.cuts.items c.args.values.now.notices.items in
    (λ h. both_ways c.in_ok-holds.field-0 c.if-branch.false (c.in_ok-holds.ensures.holds.1 (subst (Holds flow (covers_of flow offers) old) (sym c.in-OfCut.is) h)))

pub take_note-requires-clause-there : goal.take_note-requires-clause-there
take_note-requires-clause-there g c =
    let flow = c.args.flow.now in
    let offers = c.args.offers.now in
    let l = c.args.entry.now in
    let old = choice_of c.args.values.now.cuts.items c.args.values.now.notices.items in
    subst (IsInclusionOf flow) c.in-OfNote.is c.in-Some.ensures.0

pub take_note-requires-clause-to : goal.take_note-requires-clause-to
take_note-requires-clause-to g c =
    let flow = c.args.flow.now in
    let offers = c.args.offers.now in
    let l = c.args.entry.now in
    let old = choice_of c.args.values.now.cuts.items c.args.values.now.notices.items in
    entry_canonical flow l c.in-Some.inclusion (OfNote c.in-OfNote.limit) c.domain.result c.in_ok-is_canonical_cut.field-0 c.in-OfNote.is c.in-Some.ensures.1 c.domain.ensures c.if-not-branch.false c.in_ok-is_canonical_cut.ensures

pub returns-in-OfCut-clause-judged : goal.returns-in-OfCut-clause-judged
returns-in-OfCut-clause-judged g c =
    let flow = c.args.flow.now in
    let offers = c.args.offers.now in
    let l = c.args.entry.now in
    let old = choice_of c.args.values.now.cuts.items c.args.values.now.notices.items in
    IfOk-weaker c.take_cut.result _ _
    (λ b. value-judged flow offers l old _ (OfCut c.in-OfCut.side) b (subst (IsInclusionOf flow) c.in-OfCut.is c.in-Some.ensures.0) (subst (λ i. l ≡ lowering_of flow i l.to) c.in-OfCut.is c.in-Some.ensures.1)
    (λ h. both_ways c.in_ok-holds.field-0 c.if-branch.false (c.in_ok-holds.ensures.holds.1 (subst (Holds flow (covers_of flow offers) old) (sym c.in-OfCut.is) h))))
    c.take_cut.ensures.judged

pub returns-in-OfCut-clause-bound : goal.returns-in-OfCut-clause-bound
returns-in-OfCut-clause-bound g c =
    let flow = c.args.flow.now in
    let offers = c.args.offers.now in
    let l = c.args.entry.now in
    let old = choice_of c.args.values.now.cuts.items c.args.values.now.notices.items in
    let one = c.in_ok-holds.ensures.bound in
    let same = ap (λ (x : Lowering). other_tests (offered_by offers x.node) l.to) (subst (λ i. l ≡ lowering_of flow i l.to) c.in-OfCut.is c.in-Some.ensures.1) in
    IfOk-weaker c.take_cut.result _ _ (λ b h. omega (arith, same, one)) c.take_cut.ensures.bound

pub returns-in-OfNote-clause-judged : goal.returns-in-OfNote-clause-judged
returns-in-OfNote-clause-judged g c =
    let flow = c.args.flow.now in
    let offers = c.args.offers.now in
    let l = c.args.entry.now in
    let old = choice_of c.args.values.now.cuts.items c.args.values.now.notices.items in
    IfOk-weaker c.take_note.result _ _
    (λ b. value-judged flow offers l old _ (OfNote c.in-OfNote.limit) b (subst (IsInclusionOf flow) c.in-OfNote.is c.in-Some.ensures.0) (subst (λ i. l ≡ lowering_of flow i l.to) c.in-OfNote.is c.in-Some.ensures.1)
    (λ h. both_ways c.in_ok-holds.field-0 c.if-branch.false (c.in_ok-holds.ensures.holds.1 (subst (Holds flow (covers_of flow offers) old) (sym c.in-OfNote.is) h))))
    c.take_note.ensures

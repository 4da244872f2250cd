use Rattle.std.proofs.Common.{[], arith, refl, sym, ◌∙◌, ap, subst, inl, inr}
use Rattle.std.proofs.lemmas.Result.{err_from_is_err_and}
use Rattle.fw_lines.specs.Lines.{lines_left, said_lines}
use Rattle.fw_offers_text.specs.Draft.{IsOf}
use Rattle.fw_offers_text.specs.Faults.{IfChoiceRefused}
use Rattle.fw_offers_text.specs.OffersGrammar.{offers_fault, AreRefusedOffers}
use Rattle.fw_offers_text.specs.Statements.{statements_of}
use Rattle.fw_offers_text.proofs.DraftLaws.{told_of}
use Rattle.fw_offers_text.proofs.FaultLaws.{Told, none_judged, if_refused-weaker}
use Rattle.fw_offers_text.proofs.OffersReadLaws.{IsRead, read_more, read_broken, all_read, read_untold, read_accepted, accepted_offers}
use Rattle.fw_offers_text.proofs.offers_reader.read_offers.Goals as goal

pub loop-place-init : goal.loop-place-init
loop-place-init c =
    let lines = said_lines c.args.text.now in
    record {
      within = record { within = omega arith; passed = omega arith };
      read = subst (λ told. IsRead c.args.flow.now lines lines told) (sym c.in_ok-draft.ensures)
          (record { done = []; so_far = none_judged (Told (offers_fault c.args.flow.now)) lines; value = refl });
    }

pub read_line-requires : goal.read_line-requires
read_line-requires c =
    let read = c.loop-place.invariant.read in
    subst (IsOf c.args.flow.now) (sym read.value) (told_of c.args.flow.now (statements_of c.args.flow.now read.done))

pub loop-place-preserved : goal.loop-place-preserved
loop-place-preserved c =
    let read = c.loop-place.invariant.read in
    record {
      within = c.in_ok-line.ensures.next;
      read = read_more c.args.flow.now c.args.text.now (said_lines c.args.text.now) (lines_left c.args.text.now c.loop-place.place) (lines_left c.args.text.now c.in_ok-line.next) c.in_ok-line.line c.loop-place.draft c.read_line.new.draft read (ap (lines_left c.args.text.now) c.in-Some.is ∙ c.in_ok-line.ensures.line) (c.in_ok-read_line.ensures.taken (statements_of c.args.flow.now read.done) read.value);
    }

pub returns-in_err-read_line-clause-answer : goal.returns-in_err-read_line-clause-answer
returns-in_err-read_line-clause-answer c =
    let read = c.loop-place.invariant.read in
    let p = err_from_is_err_and c.from_residual-in_err-read_line.result c.from_residual-in_err-read_line.ensures.1 in
    rw (p.1, p.2) (if_refused-weaker _ _ c.in_err-read_line.field-0.0 (c.in_err-read_line.ensures.broken (statements_of c.args.flow.now read.done) read.value) (λ refusal h. inl (inr (c.if-text-gt-CHOICE_LIMIT.false, read_broken c.args.flow.now c.args.text.now (said_lines c.args.text.now) (lines_left c.args.text.now c.loop-place.place) (lines_left c.args.text.now c.in_ok-line.next) c.in_ok-line.line c.loop-place.draft refusal read (ap (lines_left c.args.text.now) c.in-Some.is ∙ c.in_ok-line.ensures.line) h.0 h.1))))

pub is_all_told-requires : goal.is_all_told-requires
is_all_told-requires c =
    let read = c.loop-place.invariant.read in
    subst (IsOf c.args.flow.now) (sym read.value) (told_of c.args.flow.now (statements_of c.args.flow.now read.done))

pub returns-then-not-is_all_told-clause-answer : goal.returns-then-not-is_all_told-clause-answer
returns-then-not-is_all_told-clause-answer c =
    let all = all_read c.args.flow.now c.args.text.now (lines_left c.args.text.now c.loop-place.place) c.loop-place.draft c.if-text-gt-CHOICE_LIMIT.false c.loop-place.invariant.read (ap (lines_left c.args.text.now) c.in_default.is) in
    subst (IfChoiceRefused (AreRefusedOffers c.args.text.now c.args.flow.now)) (sym c.of_whole-then-not-is_all_told.ensures)
    (read_untold c.args.flow.now c.args.text.now c.loop-place.draft c.is_all_told.result all c.is_all_told.ensures c.if-not-is_all_told.true)

pub returns-clause-answer : goal.returns-clause-answer
returns-clause-answer c =
    let all = all_read c.args.flow.now c.args.text.now (lines_left c.args.text.now c.loop-place.place) c.loop-place.draft c.if-text-gt-CHOICE_LIMIT.false c.loop-place.invariant.read (ap (lines_left c.args.text.now) c.in_default.is) in
    read_accepted c.args.flow.now c.args.text.now c.loop-place.draft c.is_all_told.result c.in_ok-into_offers.field-0 all c.is_all_told.ensures c.if-not-is_all_told.false c.in_ok-into_offers.ensures

pub returns-clause-of_flow : goal.returns-clause-of_flow
returns-clause-of_flow c =
    let all = all_read c.args.flow.now c.args.text.now (lines_left c.args.text.now c.loop-place.place) c.loop-place.draft c.if-text-gt-CHOICE_LIMIT.false c.loop-place.invariant.read (ap (lines_left c.args.text.now) c.in_default.is) in
    (accepted_offers c.args.text.now c.args.flow.now c.in_ok-into_offers.field-0 (read_accepted c.args.flow.now c.args.text.now c.loop-place.draft c.is_all_told.result c.in_ok-into_offers.field-0 all c.is_all_told.ensures c.if-not-is_all_told.false c.in_ok-into_offers.ensures)).0

pub returns-clause-ascending : goal.returns-clause-ascending
returns-clause-ascending c =
    let all = all_read c.args.flow.now c.args.text.now (lines_left c.args.text.now c.loop-place.place) c.loop-place.draft c.if-text-gt-CHOICE_LIMIT.false c.loop-place.invariant.read (ap (lines_left c.args.text.now) c.in_default.is) in
    (accepted_offers c.args.text.now c.args.flow.now c.in_ok-into_offers.field-0 (read_accepted c.args.flow.now c.args.text.now c.loop-place.draft c.is_all_told.result c.in_ok-into_offers.field-0 all c.is_all_told.ensures c.if-not-is_all_told.false c.in_ok-into_offers.ensures)).1

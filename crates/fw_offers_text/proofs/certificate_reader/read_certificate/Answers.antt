use Rattle.std.proofs.Common.{◌≡◌, [], length, arith, refl, sym, ◌∙◌, ap, subst, inl, inr}
use Rattle.std.proofs.lemmas.Result.{err_from_is_err_and}
use Rattle.fw_lines.specs.Lines.{lines_left, said_lines}
use Rattle.fw_offers_text.specs.CertificateGrammar.{entries_of_lines, certificate_fault, IsRefusedCertificate}
use Rattle.fw_offers_text.specs.ClaimDraft.{ClaimTold}
use Rattle.fw_offers_text.specs.Faults.{IfChoiceRefused}
use Rattle.fw_offers_text.proofs.CertificateReadLaws.{IsEntered, entered_more, entered_broken, all_entered, read_open, read_claim}
use Rattle.fw_offers_text.proofs.ClaimLaws.{cuts_of_all}
use Rattle.fw_offers_text.proofs.FaultLaws.{Told, none_judged, if_refused-weaker}
use Rattle.fw_offers_text.proofs.certificate_reader.read_certificate.Goals as goal

pub loop-place-init : goal.loop-place-init
loop-place-init c =
    let lines = said_lines c.args.text.now in
    record {
      within = record { within = omega arith; passed = omega arith };
      read = subst (λ told. IsEntered c.args.flow.now lines lines told) (sym c.in_ok-draft.ensures)
          (record { done = []; so_far = none_judged (Told (certificate_fault c.args.flow.now)) lines; value = refl });
    }

pub read_line-requires : goal.read_line-requires
read_line-requires c =
    let read = c.loop-place.invariant.read in
    subst (λ (t : ClaimTold). length t.cuts ≡ length c.args.flow.now.nodes) (sym read.value) (cuts_of_all c.args.flow.now (entries_of_lines c.args.flow.now read.done))

pub loop-place-preserved : goal.loop-place-preserved
loop-place-preserved c =
    let read = c.loop-place.invariant.read in
    record {
      within = c.in_ok-line.ensures.next;
      read = entered_more c.args.flow.now c.args.text.now (said_lines c.args.text.now) (lines_left c.args.text.now c.loop-place.place) (lines_left c.args.text.now c.in_ok-line.next) c.in_ok-line.line c.loop-place.draft c.read_line.new.draft read (ap (lines_left c.args.text.now) c.in-Some.is ∙ c.in_ok-line.ensures.line) (c.in_ok-read_line.ensures.taken (entries_of_lines c.args.flow.now read.done) read.value);
    }

pub returns-in_err-read_line : goal.returns-in_err-read_line
returns-in_err-read_line c =
    let read = c.loop-place.invariant.read in
    let p = err_from_is_err_and c.from_residual-in_err-read_line.result c.from_residual-in_err-read_line.ensures.1 in
    rw (p.1, p.2) (if_refused-weaker _ _ c.in_err-read_line.field-0.0 (c.in_err-read_line.ensures.broken (entries_of_lines c.args.flow.now read.done) read.value) (λ refusal h. inl (inr (c.if-text-gt-CHOICE_LIMIT.false, entered_broken c.args.flow.now c.args.text.now (said_lines c.args.text.now) (lines_left c.args.text.now c.loop-place.place) (lines_left c.args.text.now c.in_ok-line.next) c.in_ok-line.line c.loop-place.draft refusal read (ap (lines_left c.args.text.now) c.in-Some.is ∙ c.in_ok-line.ensures.line) h.0 h.1))))

pub returns-then-not-has_ended : goal.returns-then-not-has_ended
returns-then-not-has_ended c =
    let all = all_entered c.args.flow.now c.args.text.now (lines_left c.args.text.now c.loop-place.place) c.loop-place.draft c.if-text-gt-CHOICE_LIMIT.false c.loop-place.invariant.read (ap (lines_left c.args.text.now) c.in_default.is) in
    subst (IfChoiceRefused (IsRefusedCertificate c.args.text.now c.args.flow.now)) (sym c.of_whole-then-not-has_ended.ensures)
    (read_open c.args.flow.now c.args.text.now c.loop-place.draft all (sym c.has_ended.ensures ∙ c.if-not-has_ended.true))

pub returns : goal.returns
returns c =
    let all = all_entered c.args.flow.now c.args.text.now (lines_left c.args.text.now c.loop-place.place) c.loop-place.draft c.if-text-gt-CHOICE_LIMIT.false c.loop-place.invariant.read (ap (lines_left c.args.text.now) c.in_default.is) in
    read_claim c.args.flow.now c.args.text.now c.loop-place.draft c.in_ok-into_claim.field-0 all (sym c.has_ended.ensures ∙ c.if-not-has_ended.false) c.in_ok-into_claim.ensures

use Rattle.std.proofs.Common.{[], arith, sym, ◌∙◌, ap, subst, inl, inr}
use Rattle.std.proofs.lemmas.Result.{err_from_is_err_and}
use Rattle.fw_lines.specs.Lines.{lines_left, said_lines}
use Rattle.fw_lines.proofs.FaultLaws.{none_judged, if_refused-weaker}
use Rattle.fw_flow_text.specs.Grammar.{Breaks}
use Rattle.fw_flow_text.proofs.DeclaredLaws.{declare_none}
use Rattle.fw_flow_text.proofs.ReadLaws.{IsRead, read_more, read_broken, checked_all}
use Rattle.fw_flow_text.proofs.reader.read_flow.Goals as goal

pub loop-place-init : goal.loop-place-init
loop-place-init c =
    let lines = said_lines c.args.text.now in
    record {
      within = record { within = omega arith; passed = omega arith };
      read = subst (IsRead lines lines) (sym c.new-raw.ensures) (record { done = []; so_far = none_judged Breaks lines; value = declare_none });
    }

pub loop-place-preserved : goal.loop-place-preserved
loop-place-preserved c =
    let text = c.args.text.now in
    record {
      within = c.in_ok-line.ensures.next;
      read = read_more text (said_lines text) (lines_left text c.loop-place.place) (lines_left text c.in_ok-line.next) c.in_ok-line.line c.loop-place.raw c.in_ok-raw.raw c.loop-place.invariant.read (ap (lines_left text) c.in-Some.is ∙ c.in_ok-line.ensures.line) c.in_ok-raw.ensures.sound c.in_ok-raw.ensures.value;
    }

pub returns-in_err-raw : goal.returns-in_err-raw
returns-in_err-raw c =
    let text = c.args.text.now in
    let p = err_from_is_err_and c.from_residual-in_err-raw.result c.from_residual-in_err-raw.ensures.1 in
    rw (p.1, p.2) (if_refused-weaker _ _ c.in_err-raw.field-0.0 c.in_err-raw.ensures.broken (λ refusal h. inl (inr (c.if-text-gt-FLOW_LIMIT.false, read_broken text (said_lines text) (lines_left text c.loop-place.place) (lines_left text c.in_ok-line.next) c.in_ok-line.line c.loop-place.raw refusal c.loop-place.invariant.read (ap (lines_left text) c.in-Some.is ∙ c.in_ok-line.ensures.line) h.0 h.1))))

pub returns : goal.returns
returns c =
    let text = c.args.text.now in
    checked_all text (lines_left text c.loop-place.place) c.loop-place.raw c.check.result c.if-text-gt-FLOW_LIMIT.false c.loop-place.invariant.read (ap (lines_left text) c.in_default.is) c.check.ensures.checked

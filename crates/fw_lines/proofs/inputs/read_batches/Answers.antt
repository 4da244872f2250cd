use Rattle.std.proofs.Common.{[], arith, refl, sym, ◌∙◌, ap, subst, inr}
use Rattle.std.proofs.lemmas.Result.{err_from_is_err_and}
use Rattle.fw_lines.specs.Lines.{lines_left, said_lines}
use Rattle.fw_lines.specs.Inputs.{inputs_fault}
use Rattle.fw_lines.proofs.FaultLaws.{Told, none_judged, if_refused-weaker}
use Rattle.fw_lines.proofs.GivenLaws.{read-batches}
use Rattle.fw_lines.proofs.ReadLaws.{IsRead, read_more, read_broken, read_accepted}
use Rattle.fw_lines.proofs.inputs.read_batches.Goals as goal

pub loop-place-init : goal.loop-place-init
loop-place-init c =
    let lines = said_lines c.args.text.now in
    record {
      within = record { within = omega arith; passed = omega arith };
      read = subst (IsRead c.args.sources.now lines lines) (sym c.new-batches.ensures) (record { done = []; so_far = none_judged (Told (inputs_fault c.args.sources.now)) lines; value = λ node. refl });
    }

pub loop-place-preserved : goal.loop-place-preserved
loop-place-preserved c = record {
  within = c.in_ok-line.ensures.next;
  read = read_more c.args.sources.now c.args.text.now (said_lines c.args.text.now) (lines_left c.args.text.now c.loop-place.place) (lines_left c.args.text.now c.in_ok-line.next) c.in_ok-line.line c.loop-place.batches c.read_line.new.batches c.loop-place.invariant.read (ap (lines_left c.args.text.now) c.in-Some.is ∙ c.in_ok-line.ensures.line) c.in_ok-read_line.ensures.sound c.in_ok-read_line.ensures.value;
}

pub returns-in_err-read_line-clause-answer : goal.returns-in_err-read_line-clause-answer
returns-in_err-read_line-clause-answer c =
    let p = err_from_is_err_and c.from_residual-in_err-read_line.result c.from_residual-in_err-read_line.ensures.1 in
    rw (p.1, p.2) (if_refused-weaker _ _ c.in_err-read_line.field-0.0 c.in_err-read_line.ensures.broken (λ refusal h. inr (c.if-text-gt-INPUTS_LIMIT.false, read_broken c.args.sources.now c.args.text.now (said_lines c.args.text.now) (lines_left c.args.text.now c.loop-place.place) (lines_left c.args.text.now c.in_ok-line.next) c.in_ok-line.line c.loop-place.batches refusal c.loop-place.invariant.read (ap (lines_left c.args.text.now) c.in-Some.is ∙ c.in_ok-line.ensures.line) h.0 h.1)))

pub returns-clause-answer : goal.returns-clause-answer
returns-clause-answer c =
    read_accepted c.args.sources.now c.args.text.now (lines_left c.args.text.now c.loop-place.place) c.loop-place.batches c.if-text-gt-INPUTS_LIMIT.false c.loop-place.invariant.read (ap (lines_left c.args.text.now) c.in_default.is)

pub returns-clause-given : goal.returns-clause-given
returns-clause-given c =
    read-batches c.args.sources.now (said_lines c.args.text.now) (lines_left c.args.text.now c.loop-place.place) c.loop-place.batches c.loop-place.invariant.read (ap (lines_left c.args.text.now) c.in_default.is)

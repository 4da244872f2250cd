use Rattle.std.proofs.Common.{[], arith, refl, sym, ◌∙◌, ap, subst, inr, ◌≤◌}
use Rattle.std.proofs.lemmas.Result.{err_from_is_err_and}
use Rattle.std.specs.List.{AllByRecursion}
use Rattle.fw_lines.specs.Lines.{lines_left, said_lines}
use Rattle.fw_lines.proofs.FaultLaws.{Told, none_judged, if_refused-weaker}
use Rattle.fw_schedule.proofs.ReadLaws.{IsRead, read_more, read_broken, read_accepted}
use Rattle.fw_schedule.proofs.StepLaws.{items_sound}
use Rattle.fw_schedule.specs.Grammar.{schedule_fault}
use Rattle.fw_schedule.specs.Schedule.{IsItemOf, step_count, step_limit}
use Rattle.fw_schedule.proofs.reader.read_schedule.Goals as goal

pub loop-place-init : goal.loop-place-init
loop-place-init c =
    let lines = said_lines c.args.text.now in
    record {
      within = record { within = omega arith; passed = omega arith };
      read = subst (λ items. IsRead c.args.flow.now lines lines items 0) (sym c.new-items.ensures)
          (record { done = []; so_far = none_judged (Told (schedule_fault c.args.flow.now)) lines; value = refl; counted = refl; few = omega arith });
    }

pub loop-place-preserved : goal.loop-place-preserved
loop-place-preserved c = record {
  within = c.in_ok-line.ensures.next;
  read = read_more c.args.flow.now c.args.text.now (said_lines c.args.text.now) (lines_left c.args.text.now c.loop-place.place) (lines_left c.args.text.now c.in_ok-line.next) c.in_ok-line.line c.loop-place.items c.read_line.new.items c.loop-place.count c.in_ok-count.count c.loop-place.invariant.read (ap (lines_left c.args.text.now) c.in-Some.is ∙ c.in_ok-line.ensures.line) c.in_ok-count.ensures.sound c.in_ok-count.ensures.value c.in_ok-count.ensures.total c.in_ok-count.ensures.few;
}

pub returns-in_err-count-clause-answer : goal.returns-in_err-count-clause-answer
returns-in_err-count-clause-answer c =
    let p = err_from_is_err_and c.from_residual-in_err-count.result c.from_residual-in_err-count.ensures.1 in
    rw (p.1, p.2) (if_refused-weaker _ _ c.in_err-count.field-0.0 c.in_err-count.ensures.broken (λ refusal h. inr (c.if-text-gt-SCHEDULE_LIMIT.false, read_broken c.args.flow.now c.args.text.now (said_lines c.args.text.now) (lines_left c.args.text.now c.loop-place.place) (lines_left c.args.text.now c.in_ok-line.next) c.in_ok-line.line c.loop-place.items c.loop-place.count refusal c.loop-place.invariant.read (ap (lines_left c.args.text.now) c.in-Some.is ∙ c.in_ok-line.ensures.line) h.0 h.1)))

pub returns-clause-answer : goal.returns-clause-answer
returns-clause-answer c =
    read_accepted c.args.flow.now c.args.text.now (lines_left c.args.text.now c.loop-place.place) c.loop-place.items c.loop-place.count c.if-text-gt-SCHEDULE_LIMIT.false c.loop-place.invariant.read (ap (lines_left c.args.text.now) c.in_default.is)

pub returns-clause-items : goal.returns-clause-items
returns-clause-items c =
    let read = c.loop-place.invariant.read in
    subst (AllByRecursion (IsItemOf c.args.flow.now)) (sym read.value)
    (items_sound c.args.flow.now read.done (subst (λ n. n ≤ step_limit) (read.counted ∙ ap step_count read.value) read.few))

pub returns-clause-count : goal.returns-clause-count
returns-clause-count c =
    let read = c.loop-place.invariant.read in
    subst (λ n. n ≤ step_limit) read.counted read.few

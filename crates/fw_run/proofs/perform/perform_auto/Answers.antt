use Rattle.std.proofs.Common.{◌≡◌, ℕ, ◌+◌, ◌∙◌, Err, refl, sym, subst, arith}
use Rattle.std.proofs.lemmas.Result.{err_from_is_err_and}
use Rattle.fw_schedule.specs.declared.item.Item.TheVariants.{Auto}
use Rattle.fw_running.specs.declared.stepped.Stepped.{Stepped}
use Rattle.fw_running.specs.Faults as engine
use Rattle.fw_running.specs.Steps.{outcome_of}
use Rattle.fw_run.proofs.FaultCounts.{told_after}
use Rattle.fw_run.proofs.ItemPrintLaws.{auto-none, auto-more, auto-ends, auto-full, auto_begun, auto_stopped, few_stopped, few_taken, few_cut}
use Rattle.fw_run.proofs.TakenLaws.{cut_alone, written_alone}
use Rattle.fw_run.proofs.TallyLaws.{of_steps-more, steps-more, faults-more}
use Rattle.fw_run.proofs.perform.perform_auto.Goals as goal

pub loop-init : goal.loop-init
loop-init g c = record {
  stored = c.requires.stored;
  in_order = c.requires.in_order;
  shared = refl;
  told_before = λ told. told;
  flow = refl;
  faults = refl;
  of_steps = c.requires.room.of_steps;
  counted = omega arith;
  none = refl;
  auto = auto-none c.args.engine.now (g.K.Store.view c.args.store.now).records c.args.tally.now (g.O.Sink.view c.args.out.now) c.requires.room.of_steps.sum;
}

pub count-requires-clause-steps : goal.count-requires-clause-steps
count-requires-clause-steps g c = omega (arith, c.loop-test.true, c.loop.invariant.counted, c.requires.room.few)

pub loop-preserved : goal.loop-preserved
loop-preserved g c =
    let known = g.K.Store.view in
    let view = g.O.Sink.view in
    record {
      stored = c.auto_step.ensures.stored;
      in_order = c.auto_step.ensures.in_order;
      shared = c.auto_step.ensures.draws.shared ∙ c.loop.invariant.shared;
      told_before = λ told. c.loop.invariant.told_before (sym c.auto_step.ensures.tells ∙ told);
      flow = c.auto_step.ensures.flow ∙ c.loop.invariant.flow;
      faults = c.in_ok-stepped.ensures.faults ∙ c.loop.invariant.faults;
      of_steps = of_steps-more c.loop.tally c.count.new.self (outcome_of c.in_ok-stepped.stepped) c.loop.invariant.of_steps c.count.ensures;
      counted = omega (arith, c.loop.invariant.counted, steps-more c.loop.tally c.count.new.self (outcome_of c.in_ok-stepped.stepped) c.count.ensures);
      none = faults-more c.loop.tally c.count.new.self (outcome_of c.in_ok-stepped.stepped) c.count.ensures ∙ c.loop.invariant.none;
      auto = auto-more c.args.engine.now c.loop.engine c.auto_step.new.self (known c.args.store.now).records (known c.loop.store).records (known c.auto_step.new.store).records c.flow.result.now c.in_ok-stepped.stepped c.loop.counter
          c.args.tally.now c.loop.tally c.count.new.self (view c.args.out.now) (view c.loop.out) (view c.print.new.out) c.loop.invariant.auto c.count.ensures c.flow.ensures c.in_ok-stepped.ensures.ok (sym c.is_idle.ensures ∙ c.if-is_idle.false) (written_alone c.in_ok-print.ensures);
    }

pub returns-in_err-stepped-clause-printed : goal.returns-in_err-stepped-clause-printed
returns-in_err-stepped-clause-printed g c showing =
    let p = err_from_is_err_and c.from_residual.result c.from_residual.ensures.1 in
    let known = g.K.Store.view in
    let view = g.O.Sink.view in
    rw (p.1, p.2) (auto_stopped showing c.args.engine.now c.loop.engine c.auto_step.new.self (known c.args.store.now).records (known c.loop.store).records (known c.auto_step.new.store).records c.loop.counter c.args.most c.args.tally.now c.loop.tally _ (view c.args.out.now) (view c.loop.out)
    c.loop.invariant.auto c.loop-test.true c.in_err-stepped.ensures.calls c.in_err-stepped.ensures.faulted c.in_err-stepped.ensures.unharmed)

pub returns-in_err-stepped-clause-few : goal.returns-in_err-stepped-clause-few
returns-in_err-stepped-clause-few g c =
    let p = err_from_is_err_and c.from_residual.result c.from_residual.ensures.1 in
    rw (p.1, p.2) (few_stopped (Unit {0}) (Auto c.args.most) c.loop.counter c.args.tally.now c.loop.tally _ c.loop.invariant.of_steps c.loop.invariant.counted c.loop-test.true)

pub returns-in_err-stepped-clause-faults : goal.returns-in_err-stepped-clause-faults
returns-in_err-stepped-clause-faults g c =
    let p = err_from_is_err_and c.from_residual.result c.from_residual.ensures.1 in
    let known = g.K.Store.view in
    rw (p.1, p.2) (told_after Stepped (Unit {0}) _ (known c.args.store.now).faults (known c.auto_step.new.store).faults
    (subst (λ (before : ℕ). (known c.auto_step.new.store).faults ≡ engine.faults_after_step {T = Stepped} (Err c.in_err-stepped.field-0.0) before) c.loop.invariant.faults c.in_err-stepped.ensures.faults))

pub returns-then-is_idle-clause-printed : goal.returns-then-is_idle-clause-printed
returns-then-is_idle-clause-printed g c showing =
    let known = g.K.Store.view in
    let view = g.O.Sink.view in
    auto-ends showing c.args.engine.now c.loop.engine c.auto_step.new.self (known c.args.store.now).records (known c.loop.store).records (known c.auto_step.new.store).records c.in_ok-stepped.stepped c.loop.counter c.args.most c.args.tally.now c.loop.tally tt (view c.args.out.now) (view c.loop.out)
    c.loop.invariant.auto c.loop-test.true c.in_ok-stepped.ensures.ok (sym c.is_idle.ensures ∙ c.if-is_idle.true)

pub returns-in_err-print-clause-printed : goal.returns-in_err-print-clause-printed
returns-in_err-print-clause-printed g c showing =
    let p = err_from_is_err_and c.from_residual-in_err-print.result c.from_residual-in_err-print.ensures.1 in
    let known = g.K.Store.view in
    let view = g.O.Sink.view in
    rw (p.1, p.2) (auto_begun showing c.args.engine.now c.loop.engine c.auto_step.new.self (known c.args.store.now).records (known c.loop.store).records (known c.auto_step.new.store).records c.flow.result.now c.in_ok-stepped.stepped c.loop.counter c.args.most c.args.tally.now c.loop.tally c.count.new.self _
    (view c.args.out.now) (view c.loop.out) (view c.print.new.out)
    c.loop.invariant.auto c.loop-test.true c.count.ensures c.flow.ensures c.in_ok-stepped.ensures.ok (sym c.is_idle.ensures ∙ c.if-is_idle.false) (cut_alone c.in_err-print.ensures))

pub returns-in_err-print-clause-few : goal.returns-in_err-print-clause-few
returns-in_err-print-clause-few g c =
    let p = err_from_is_err_and c.from_residual-in_err-print.result c.from_residual-in_err-print.ensures.1 in
    let one = outcome_of c.in_ok-stepped.stepped in
    rw (p.1, p.2) (few_cut (Unit {0}) (Auto c.args.most) (c.loop.counter + 1) c.args.tally.now c.count.new.self c.in_err-print.field-0.0 (of_steps-more c.loop.tally c.count.new.self one c.loop.invariant.of_steps c.count.ensures)
    (omega (arith, c.loop.invariant.counted, steps-more c.loop.tally c.count.new.self one c.count.ensures)) (omega (arith, c.loop-test.true)))

pub returns-clause-printed : goal.returns-clause-printed
returns-clause-printed g c showing =
    let known = g.K.Store.view in
    let view = g.O.Sink.view in
    let all : c.loop.counter ≡ c.args.most = omega (arith, c.loop-test.false, c.loop.auto.counter-end) in
    auto-full showing c.args.engine.now c.loop.engine (known c.args.store.now).records (known c.loop.store).records c.loop.counter c.args.most c.args.tally.now c.loop.tally tt (view c.args.out.now) (view c.loop.out) c.loop.invariant.auto all

pub returns-clause-few : goal.returns-clause-few
returns-clause-few g c =
    few_taken {T = Unit {0}} (Auto c.args.most) c.loop.counter c.args.tally.now c.loop.tally tt c.loop.invariant.of_steps c.loop.invariant.counted (omega (arith, c.loop.auto.counter-end))

pub returns-then-is_idle-clause-few : goal.returns-then-is_idle-clause-few
returns-then-is_idle-clause-few g c =
    few_taken {T = Unit {0}} (Auto c.args.most) c.loop.counter c.args.tally.now c.loop.tally tt c.loop.invariant.of_steps c.loop.invariant.counted (omega (arith, c.loop-test.true))

pub returns-in_err-print-clause-none : goal.returns-in_err-print-clause-none
returns-in_err-print-clause-none g c = faults-more c.loop.tally c.count.new.self (outcome_of c.in_ok-stepped.stepped) c.count.ensures ∙ c.loop.invariant.none

use Rattle.std.proofs.Common.{sym, subst, arith}
use Rattle.std.proofs.lemmas.Result.{err_from_is_err_and}
use Rattle.fw_outside.specs.declared.fault.OutFault.TheVariants as output
use Rattle.fw_schedule.specs.declared.item.Item.TheVariants.{One}
use Rattle.fw_running.specs.declared.stepped.Stepped.{Stepped}
use Rattle.fw_running.specs.Steps.{outcome_of}
use Rattle.fw_engine.proofs.EngineLaws.{shared-stays}
use Rattle.fw_run.proofs.FaultCounts.{told_after}
use Rattle.fw_command.specs.Manner.{showing_in}
use Rattle.fw_run.proofs.ItemPrintLaws.{AreTold, step_stopped, step_begun, step_taken, few_stopped, few_taken, few_cut}
use Rattle.fw_run.proofs.StoppedLaws.{step_refused}
use Rattle.fw_run.proofs.TallyLaws.{of_steps-more, steps-more, faults-more}
use Rattle.fw_run.proofs.perform.perform_step.Goals as goal

pub returns-in_err-stepped-clause-printed : goal.returns-in_err-stepped-clause-printed
returns-in_err-stepped-clause-printed g c =
    let p = err_from_is_err_and c.from_residual-in_err-stepped.result c.from_residual-in_err-stepped.ensures.1 in
    let known = g.K.Store.view in
    let view = g.O.Sink.view in
    rw (p.1, p.2) (step_stopped (showing_in c.args.showing) c.args.engine.now c.step.new.self (known c.args.store.now).records (known c.step.new.store).records c.args.step.now c.args.tally.now _ (view c.args.out.now) c.requires.room.of_steps.sum c.in_err-stepped.ensures.faulted c.in_err-stepped.ensures.unharmed)

pub returns-in_err-stepped-clause-few : goal.returns-in_err-stepped-clause-few
returns-in_err-stepped-clause-few g c =
    let p = err_from_is_err_and c.from_residual-in_err-stepped.result c.from_residual-in_err-stepped.ensures.1 in
    rw (p.1, p.2) (few_stopped (Unit {0}) (One c.args.step.now) 0 c.args.tally.now c.args.tally.now _ c.requires.room.of_steps (omega arith) (omega arith))

pub returns-in_err-stepped-clause-faults : goal.returns-in_err-stepped-clause-faults
returns-in_err-stepped-clause-faults g c =
    let p = err_from_is_err_and c.from_residual-in_err-stepped.result c.from_residual-in_err-stepped.ensures.1 in
    let known = g.K.Store.view in
    rw (p.1, p.2) (told_after Stepped (Unit {0}) _ (known c.args.store.now).faults (known c.step.new.store).faults c.in_err-stepped.ensures.faults)

pub returns-in_err-print-clause-printed : goal.returns-in_err-print-clause-printed
returns-in_err-print-clause-printed g c =
    let p = err_from_is_err_and c.from_residual-in_err-print.result c.from_residual-in_err-print.ensures.1 in
    let known = g.K.Store.view in
    let view = g.O.Sink.view in
    let told : AreTold (showing_in c.args.showing) c.args.engine.now (known c.args.store.now).records c.args.step.now c.deref.result.now =
    subst (AreTold (showing_in c.args.showing) c.args.engine.now (known c.args.store.now).records c.args.step.now) (sym c.deref.ensures) (c.in_ok-reasons.ensures (known c.args.store.now).records) in
    rw (p.1, p.2) (step_begun (showing_in c.args.showing) c.args.engine.now c.step.new.self (known c.args.store.now).records (known c.step.new.store).records c.args.step.now c.args.tally.now c.count.new.self c.flow.result.now c.in_ok-stepped.stepped c.deref.result.now _ (view c.args.out.now) (view c.print.new.out) c.flow.ensures told c.in_ok-stepped.ensures.ok c.in_ok-stepped.ensures.swept c.in_err-print.ensures)

pub returns-in_err-print-clause-few : goal.returns-in_err-print-clause-few
returns-in_err-print-clause-few g c =
    let p = err_from_is_err_and c.from_residual-in_err-print.result c.from_residual-in_err-print.ensures.1 in
    let one = outcome_of c.in_ok-stepped.stepped in
    rw (p.1, p.2) (few_cut (Unit {0}) (One c.args.step.now) 1 c.args.tally.now c.count.new.self c.in_err-print.field-0.0 (of_steps-more c.args.tally.now c.count.new.self one c.requires.room.of_steps c.count.ensures)
    (steps-more c.args.tally.now c.count.new.self one c.count.ensures) (omega arith))

pub returns-clause-printed : goal.returns-clause-printed
returns-clause-printed g c =
    let known = g.K.Store.view in
    let view = g.O.Sink.view in
    let told : AreTold (showing_in c.args.showing) c.args.engine.now (known c.args.store.now).records c.args.step.now c.deref.result.now =
    subst (AreTold (showing_in c.args.showing) c.args.engine.now (known c.args.store.now).records c.args.step.now) (sym c.deref.ensures) (c.in_ok-reasons.ensures (known c.args.store.now).records) in
    step_taken (showing_in c.args.showing) c.args.engine.now c.step.new.self (known c.args.store.now).records (known c.step.new.store).records c.args.step.now c.args.tally.now c.count.new.self c.flow.result.now c.in_ok-stepped.stepped c.deref.result.now tt (view c.args.out.now) (view c.print.new.out) c.flow.ensures told c.in_ok-stepped.ensures.ok c.in_ok-stepped.ensures.swept c.count.ensures c.in_ok-print.ensures

pub returns-clause-few : goal.returns-clause-few
returns-clause-few g c =
    let one = outcome_of c.in_ok-stepped.stepped in
    few_taken {T = Unit {0}} (One c.args.step.now) 1 c.args.tally.now c.count.new.self tt (of_steps-more c.args.tally.now c.count.new.self one c.requires.room.of_steps c.count.ensures)
    (steps-more c.args.tally.now c.count.new.self one c.count.ensures) (omega arith)

pub returns-clause-none : goal.returns-clause-none
returns-clause-none g c = faults-more c.args.tally.now c.count.new.self (outcome_of c.in_ok-stepped.stepped) c.count.ensures

pub returns-in_err-print-clause-none : goal.returns-in_err-print-clause-none
returns-in_err-print-clause-none g c = faults-more c.args.tally.now c.count.new.self (outcome_of c.in_ok-stepped.stepped) c.count.ensures

pub returns-in_err-reasons-clause-printed : goal.returns-in_err-reasons-clause-printed
returns-in_err-reasons-clause-printed g c =
    let p = err_from_is_err_and c.from_residual.result c.from_residual.ensures.1 in
    rw (p.1, p.2) (step_refused (showing_in c.args.showing) c.args.engine.now (g.K.Store.view c.args.store.now).records c.args.step.now c.args.tally.now (g.O.Sink.view c.args.out.now))

pub returns-in_err-reasons-clause-few : goal.returns-in_err-reasons-clause-few
returns-in_err-reasons-clause-few g c =
    let p = err_from_is_err_and c.from_residual.result c.from_residual.ensures.1 in
    rw (p.1, p.2) (few_cut (Unit {0}) (One c.args.step.now) 0 c.args.tally.now c.args.tally.now output.NoMemory c.requires.room.of_steps (omega arith) (omega arith))

pub returns-in_err-stepped-clause-shared : goal.returns-in_err-stepped-clause-shared
returns-in_err-stepped-clause-shared g c = shared-stays c.args.step.now c.step.ensures

pub returns-in_err-print-clause-shared : goal.returns-in_err-print-clause-shared
returns-in_err-print-clause-shared g c = shared-stays c.args.step.now c.step.ensures

pub returns-clause-shared : goal.returns-clause-shared
returns-clause-shared g c = shared-stays c.args.step.now c.step.ensures

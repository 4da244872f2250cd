use Rattle.std.proofs.Common.{rules, ◌≡◌, ℕ, ◌+◌, ◌∙◌, ap, sym, subst, Ok, Err, arith}
use Rattle.std.proofs.lemmas.Result.{err_from_is_err_and}
use Rattle.fw_flow.specs.Dataflow.{Dataflow}
use Rattle.fw_run.proofs.EnduringItemLaws.{through-taken, through-stopped, through-fault, through-fault_cut, stopped_count, fault_of_answer}
use Rattle.fw_run.proofs.FaultCounts.{rises_after}
use Rattle.fw_command.proofs.WritingLaws.{writes, cut_nothing}
use Rattle.fw_running.specs.declared.fault.EngineFault.TheVariants as fault
use Rattle.fw_run.specs.declared.fault.RunFault.{RunFault}
use Rattle.fw_run.specs.declared.fault.RunFault.TheVariants as stop
use Rattle.fw_run.specs.Performing.{PrintsItem}
use Rattle.fw_run.specs.Enduring.{RoseBy}
use Rattle.fw_run.specs.Reports.{fault_line}
use Rattle.fw_run.specs.Fault.{faults_after_run}
use Rattle.fw_run.specs.declared.tally.StepCounts.{StepCounts}
use Rattle.fw_run.specs.Stopping.{MayCallIn}
use Rattle.fw_command.specs.Command.{up_to_fault}
use Rattle.fw_command.specs.Manner.{course_in, showing_in}
use Rattle.fw_command.specs.Writing.{Writes}
use Rattle.fw_run.proofs.through.take_item.Goals as goal

pub returns-in_err-write-in-Err-Engine-StoreFault-clause-printed :
    goal.returns-in_err-write-in-Err-Engine-StoreFault-clause-printed
returns-in_err-write-in-Err-Engine-StoreFault-clause-printed g c =
    let p = err_from_is_err_and c.from_residual-in_err-write-in-Err-Engine-StoreFault.result c.from_residual-in_err-write-in-Err-Engine-StoreFault.ensures.1 in
    let known = g.K.Store.view in
    let view = g.O.Sink.view in
    let faulted = c.in-Err-Engine-StoreFault.ensures in
    let same : c.in-Err-Engine-StoreFault.field-0 ≡ stop.Engine fault.StoreFault = c.in-Err-Engine-StoreFault.field-0-is ∙ ap stop.Engine c.in-Err-Engine-StoreFault.field-0-0-is in
    let is = fault_of_answer c.in-Err-Engine-StoreFault.field-0 (stop.Engine fault.StoreFault) same in
    let printed = subst (λ (f : RunFault). PrintsItem (up_to_fault (showing_in c.args.course.showing)) c.args.engine.now (known c.args.store.now).records c.args.item.now c.args.tally.now (λ faults. faults ≡ 0) (Err f) c.perform_item.new.engine (known c.perform_item.new.store).records c.perform_item.new.tally (view c.args.out.now) (view c.perform_item.new.out)) same faulted.printed in
    let counts = c.perform_item.new.tally in
    let line : c.as_bytes.result.now ≡ fault_line (counts.steps + 1) =
    c.as_bytes.ensures.value ∙ c.in_ok-line-in-Err-Engine-StoreFault.ensures ∙ ap (λ (tally : StepCounts). fault_line tally.steps) c.count_fault.ensures in
    let e = c.in_err-write-in-Err-Engine-StoreFault.ensures in
    let f = c.in_err-write-in-Err-Engine-StoreFault.field-0.0 in
    let written = writes {T = Unit {0}} c.as_bytes.result.now (Err f) (view c.perform_item.new.out) (view c.write.new.self) e.whole e.refused e.refusals e.faults in
    rw (p.1, p.2) (through-fault_cut (course_in c.args.course) c.args.engine.now c.perform_item.new.engine (known c.args.store.now).records (known c.perform_item.new.store).records c.args.item.now c.args.tally.now counts
    _ (RoseBy (known c.args.store.now).faults (known c.perform_item.new.store).faults) _ (view c.args.out.now) (view c.perform_item.new.out) (view c.write.new.self) c.if-goes_on.true
    (λ sys state st. subst (λ (flow : Dataflow). MayCallIn flow c.args.item.now) st.apart.flow (faulted.calls is)) printed
    (subst (λ t. Writes {T = Unit {0}} t (Err f) (view c.perform_item.new.out) (view c.write.new.self)) line written) (faulted.faults ∙ ap (λ (f : RunFault). faults_after_run {T = Unit {0}} (Err f) (g.K.Store.view c.args.store.now).faults) same) _)

pub returns-in_ok-write-in-Err-Engine-StoreFault-clause-printed :
    goal.returns-in_ok-write-in-Err-Engine-StoreFault-clause-printed
returns-in_ok-write-in-Err-Engine-StoreFault-clause-printed g c =
    let known = g.K.Store.view in
    let view = g.O.Sink.view in
    let faulted = c.in-Err-Engine-StoreFault.ensures in
    let same : c.in-Err-Engine-StoreFault.field-0 ≡ stop.Engine fault.StoreFault = c.in-Err-Engine-StoreFault.field-0-is ∙ ap stop.Engine c.in-Err-Engine-StoreFault.field-0-0-is in
    let is = fault_of_answer c.in-Err-Engine-StoreFault.field-0 (stop.Engine fault.StoreFault) same in
    let printed = subst (λ (f : RunFault). PrintsItem (up_to_fault (showing_in c.args.course.showing)) c.args.engine.now (known c.args.store.now).records c.args.item.now c.args.tally.now (λ faults. faults ≡ 0) (Err f) c.perform_item.new.engine (known c.perform_item.new.store).records c.perform_item.new.tally (view c.args.out.now) (view c.perform_item.new.out)) same faulted.printed in
    let counts = c.perform_item.new.tally in
    let line : c.as_bytes.result.now ≡ fault_line (counts.steps + 1) =
    c.as_bytes.ensures.value ∙ c.in_ok-line-in-Err-Engine-StoreFault.ensures ∙ ap (λ (tally : StepCounts). fault_line tally.steps) c.count_fault.ensures in
    let e = c.in_ok-write-in-Err-Engine-StoreFault.ensures in
    let written = writes {T = Unit {0}} c.as_bytes.result.now (Ok tt) (view c.perform_item.new.out) (view c.write.new.self) e.whole e.refused e.refusals e.faults in
    subst (λ (tally : StepCounts). PrintsItem (course_in c.args.course) c.args.engine.now (known c.args.store.now).records c.args.item.now c.args.tally.now (RoseBy (known c.args.store.now).faults (known c.perform_item.new.store).faults) (Ok tt) c.perform_item.new.engine (known c.perform_item.new.store).records tally (view c.args.out.now) (view c.write.new.self)) (sym c.count_fault.ensures)
    (through-fault (course_in c.args.course) c.args.engine.now c.perform_item.new.engine (known c.args.store.now).records (known c.perform_item.new.store).records c.args.item.now c.args.tally.now counts
    _ (RoseBy (known c.args.store.now).faults (known c.perform_item.new.store).faults) tt (view c.args.out.now) (view c.perform_item.new.out) (view c.write.new.self) c.if-goes_on.true
    (λ sys state st. subst (λ (flow : Dataflow). MayCallIn flow c.args.item.now) st.apart.flow (faulted.calls is)) printed
    (subst (λ t. Writes {T = Unit {0}} t (Ok tt) (view c.perform_item.new.out) (view c.write.new.self)) line written))

pub returns-in_err-line-in-Err-Engine-StoreFault-clause-printed :
    goal.returns-in_err-line-in-Err-Engine-StoreFault-clause-printed
returns-in_err-line-in-Err-Engine-StoreFault-clause-printed g c =
    let p = err_from_is_err_and c.from_residual.result c.from_residual.ensures.1 in
    let known = g.K.Store.view in
    let view = g.O.Sink.view in
    let faulted = c.in-Err-Engine-StoreFault.ensures in
    let same : c.in-Err-Engine-StoreFault.field-0 ≡ stop.Engine fault.StoreFault = c.in-Err-Engine-StoreFault.field-0-is ∙ ap stop.Engine c.in-Err-Engine-StoreFault.field-0-0-is in
    let is = fault_of_answer c.in-Err-Engine-StoreFault.field-0 (stop.Engine fault.StoreFault) same in
    let printed = subst (λ (f : RunFault). PrintsItem (up_to_fault (showing_in c.args.course.showing)) c.args.engine.now (known c.args.store.now).records c.args.item.now c.args.tally.now (λ faults. faults ≡ 0) (Err f) c.perform_item.new.engine (known c.perform_item.new.store).records c.perform_item.new.tally (view c.args.out.now) (view c.perform_item.new.out)) same faulted.printed in
    let counts = c.perform_item.new.tally in
    rw (p.1, p.2) (through-fault_cut (course_in c.args.course) c.args.engine.now c.perform_item.new.engine (known c.args.store.now).records (known c.perform_item.new.store).records c.args.item.now c.args.tally.now counts
    _ (RoseBy (known c.args.store.now).faults (known c.perform_item.new.store).faults) _ (view c.args.out.now) (view c.perform_item.new.out) (view c.perform_item.new.out) c.if-goes_on.true
    (λ sys state st. subst (λ (flow : Dataflow). MayCallIn flow c.args.item.now) st.apart.flow (faulted.calls is)) printed
    (cut_nothing (fault_line (counts.steps + 1)) (view c.perform_item.new.out)) (faulted.faults ∙ ap (λ (f : RunFault). faults_after_run {T = Unit {0}} (Err f) (g.K.Store.view c.args.store.now).faults) same) _)

pub returns-in-Ok-clause-printed : goal.returns-in-Ok-clause-printed
returns-in-Ok-clause-printed g c =
    let known = g.K.Store.view in
    let view = g.O.Sink.view in
    through-taken (course_in c.args.course) c.args.engine.now c.perform_item.new.engine (known c.args.store.now).records (known c.perform_item.new.store).records c.args.item.now c.args.tally.now c.perform_item.new.tally
    _ (RoseBy (known c.args.store.now).faults (known c.perform_item.new.store).faults) tt (view c.args.out.now) (view c.perform_item.new.out) c.in-Ok.ensures.printed

pub returns-in-Err-clause-printed : goal.returns-in-Err-clause-printed
returns-in-Err-clause-printed g c =
    let known = g.K.Store.view in
    let view = g.O.Sink.view in
    let none = stopped_count c.in-Err.fault (known c.args.store.now).faults (known c.perform_item.new.store).faults c.in-Err.ensures.faults in
    let h = through-stopped (course_in c.args.course) c.in-Err.fault c.args.engine.now c.perform_item.new.engine (known c.args.store.now).records (known c.perform_item.new.store).records c.args.item.now c.args.tally.now
    c.perform_item.new.tally _ (RoseBy (known c.args.store.now).faults (known c.perform_item.new.store).faults) (view c.args.out.now) (view c.perform_item.new.out) none c.in-Err.ensures.printed in
    search rules

-- ---- how often the store failed

pub returns-in_ok-write-in-Err-Engine-StoreFault-clause-counted :
    goal.returns-in_ok-write-in-Err-Engine-StoreFault-clause-counted
returns-in_ok-write-in-Err-Engine-StoreFault-clause-counted g c =
    let same : c.in-Err-Engine-StoreFault.field-0 ≡ stop.Engine fault.StoreFault = c.in-Err-Engine-StoreFault.field-0-is ∙ ap stop.Engine c.in-Err-Engine-StoreFault.field-0-0-is in (
      1,
      ap (λ (tally : StepCounts). tally.faults) c.count_fault.ensures ∙ ap (λ (n : ℕ). n + 1) c.perform_item.ensures.none,
      c.in-Err-Engine-StoreFault.ensures.faults ∙ ap (λ (f : RunFault). faults_after_run {T = Unit {0}} (Err f) (g.K.Store.view c.args.store.now).faults) same,
    )

pub returns-in-Ok-clause-counted : goal.returns-in-Ok-clause-counted
returns-in-Ok-clause-counted g c = let same = c.perform_item.ensures.none in (0, omega (arith, same), c.in-Ok.ensures.faults)

pub returns-in_err-write-in-Err-Engine-StoreFault-clause-rises :
    goal.returns-in_err-write-in-Err-Engine-StoreFault-clause-rises
returns-in_err-write-in-Err-Engine-StoreFault-clause-rises g c =
    let same : c.in-Err-Engine-StoreFault.field-0 ≡ stop.Engine fault.StoreFault = c.in-Err-Engine-StoreFault.field-0-is ∙ ap stop.Engine c.in-Err-Engine-StoreFault.field-0-0-is in
    (1, c.in-Err-Engine-StoreFault.ensures.faults ∙ ap (λ (f : RunFault). faults_after_run {T = Unit {0}} (Err f) (g.K.Store.view c.args.store.now).faults) same)

pub returns-in_ok-write-in-Err-Engine-StoreFault-clause-rises :
    goal.returns-in_ok-write-in-Err-Engine-StoreFault-clause-rises
returns-in_ok-write-in-Err-Engine-StoreFault-clause-rises g c =
    let same : c.in-Err-Engine-StoreFault.field-0 ≡ stop.Engine fault.StoreFault = c.in-Err-Engine-StoreFault.field-0-is ∙ ap stop.Engine c.in-Err-Engine-StoreFault.field-0-0-is in
    (1, c.in-Err-Engine-StoreFault.ensures.faults ∙ ap (λ (f : RunFault). faults_after_run {T = Unit {0}} (Err f) (g.K.Store.view c.args.store.now).faults) same)

pub returns-in_err-line-in-Err-Engine-StoreFault-clause-rises :
    goal.returns-in_err-line-in-Err-Engine-StoreFault-clause-rises
returns-in_err-line-in-Err-Engine-StoreFault-clause-rises g c =
    let same : c.in-Err-Engine-StoreFault.field-0 ≡ stop.Engine fault.StoreFault = c.in-Err-Engine-StoreFault.field-0-is ∙ ap stop.Engine c.in-Err-Engine-StoreFault.field-0-0-is in
    (1, c.in-Err-Engine-StoreFault.ensures.faults ∙ ap (λ (f : RunFault). faults_after_run {T = Unit {0}} (Err f) (g.K.Store.view c.args.store.now).faults) same)

pub returns-in-Ok-clause-rises : goal.returns-in-Ok-clause-rises
returns-in-Ok-clause-rises g c = (0, c.in-Ok.ensures.faults)

pub returns-in-Err-clause-rises : goal.returns-in-Err-clause-rises
returns-in-Err-clause-rises g c =
    let known = g.K.Store.view in
    rises_after {T = Unit {0}} (Err c.in-Err.fault) (known c.args.store.now).faults (known c.perform_item.new.store).faults c.in-Err.ensures.faults

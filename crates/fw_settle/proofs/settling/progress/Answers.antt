use Rattle.std.proofs.Common.{◌≡◌, rules, None, Some, ap, refl, subst, Err, length}
use Rattle.fw_rollback.specs.declared.parts.Parts.{Parts}
use Rattle.fw_running.specs.declared.fault.EngineFault.TheVariants as fault
use Rattle.fw_running.proofs.StepLaws.{busy, ok-unfaulted, part-later, part-none, progress-answers, progress-fails, refused-unfaulted, stays-shaped}
use Rattle.fw_settle.proofs.AskLaws.{part-eager}
use Rattle.fw_settle.specs.Settling.{IsFoundToSettle}
use Rattle.fw_settle.proofs.ProgressLaws.{idle-takes, did-takes, fault-takes, progresses, up-asks}
use Rattle.fw_flow.specs.Dataflow.{Dataflow}
use Rattle.fw_running.specs.Drawn.{DrawsAtMost, supply}
use Rattle.fw_running.proofs.DrawnLaws.{draws_failed, draws_from, draws_kept, draws_same}
use Rattle.fw_settle.proofs.settling.progress.Goals as goal

pub returns-in_err-refresh-clause-answers : goal.returns-in_err-refresh-clause-answers
returns-in_err-refresh-clause-answers g c =
    progress-fails {T = Unit {0}} {e = fault.NoMemory} c.from_residual.ensures.1
    (part-later (part-none c.requires.stored) (ap (λ (parts : Parts). parts.keep) c.refresh.ensures.parts) c.refresh.ensures.flow tt refused-unfaulted)
    tt (λ sys state s. tt) (λ sys state s none. refl)

pub returns-in_default-clause-answers : goal.returns-in_default-clause-answers
returns-in_default-clause-answers g c =
    let mid = c.refresh.new.self in
    let none : c.grown_from.result ≡ None = search rules in
    progress-answers
    (part-later (part-none c.requires.stored) (ap (λ (parts : Parts). parts.keep) c.refresh.ensures.parts) c.refresh.ensures.flow tt ok-unfaulted)
    c.in_ok-refresh.ensures.shaped
    (idle-takes c.args.running.now mid (g.K.Store.view c.args.store.now).records c.in_ok-refresh.ensures.up (subst (IsFoundToSettle mid 0) none c.grown_from.ensures))
    (λ sys state s none. refl) (λ e. refl)

pub returns-in_err-ask_eager-clause-answers : goal.returns-in_err-ask_eager-clause-answers
returns-in_err-ask_eager-clause-answers g c =
    let mid = c.refresh.new.self in
    let new = c.ask_eager.new.running in
    let e = c.in_err-ask_eager.field-0.0 in
    let asked = c.in_err-ask_eager.ensures in
    let up = c.in_ok-refresh.ensures.up in
    let shaped = c.in_ok-refresh.ensures.shaped in
    let before = (g.K.Store.view c.args.store.now).records in
    progress-fails {T = Unit {0}} c.from_residual-in_err-ask_eager.ensures.1 (part-eager c.refresh.ensures.flow asked.part)
    (stays-shaped {T = Unit {0}} (Err e) new asked.shaped)
    (fault-takes c.args.running.now mid new before (g.K.Store.view c.ask_eager.new.store).records e up shaped asked.others asked.stays asked.part.undamaged
    asked.part.calls)
    (λ sys state s none. asked.part.quiet (λ has. none (up-asks c.args.running.now mid before up shaped has sys state s)))

pub returns-in_err-settle_grown-clause-answers : goal.returns-in_err-settle_grown-clause-answers
returns-in_err-settle_grown-clause-answers g c =
    let asked = c.in_ok-ask_eager.ensures in
    let up = c.in_ok-refresh.ensures.up in
    let shaped = c.in_ok-refresh.ensures.shaped in
    let before = (g.K.Store.view c.args.store.now).records in
    progress-fails {T = Unit {0}} {e = fault.NoMemory} c.from_residual-in_err-settle_grown.ensures.1
    (part-later (part-eager c.refresh.ensures.flow asked.part) c.settle_grown.ensures.keep c.settle_grown.ensures.flow tt refused-unfaulted)
    tt (λ sys state s. tt)
    (λ sys state s none. asked.part.quiet (λ has. none (up-asks c.args.running.now c.refresh.new.self before up shaped has sys state s)))

pub returns-clause-answers : goal.returns-clause-answers
returns-clause-answers g c =
    let mid = c.refresh.new.self in
    let new = c.settle_grown.new.running in
    let before = (g.K.Store.view c.args.store.now).records in
    let after = (g.K.Store.view c.ask_eager.new.store).records in
    let first = c.in-Some._first in
    let found : c.grown_from.result ≡ Some first = search rules in
    let asked = c.in_ok-ask_eager.ensures in
    let settled = c.in_ok-settle_grown.ensures in
    progress-answers (part-later (part-eager c.refresh.ensures.flow asked.part) settled.keep settled.flow tt ok-unfaulted) settled.shaped
    (did-takes c.args.running.now mid new before after first c.in_ok-refresh.ensures.up c.in_ok-refresh.ensures.shaped
    (subst (IsFoundToSettle mid 0) found c.grown_from.ensures)
    (progresses mid c.ask_eager.new.running new before after asked.others asked.asked settled.others settled.settled))
    (λ sys state s none. asked.part.quiet (λ has. none
    (up-asks c.args.running.now mid before c.in_ok-refresh.ensures.up c.in_ok-refresh.ensures.shaped has sys state s)))
    busy

pub returns-in_err-refresh-clause-draws : goal.returns-in_err-refresh-clause-draws
returns-in_err-refresh-clause-draws g c = draws_same (ap (λ (parts : Parts). supply parts.keep) c.refresh.ensures.parts)

pub returns-in_default-clause-draws : goal.returns-in_default-clause-draws
returns-in_default-clause-draws g c = draws_same (ap (λ (parts : Parts). supply parts.keep) c.refresh.ensures.parts)

pub returns-in_err-ask_eager-clause-draws : goal.returns-in_err-ask_eager-clause-draws
returns-in_err-ask_eager-clause-draws g c =
    let few = subst (λ (f : Dataflow). DrawsAtMost (length f.nodes) c.refresh.new.self.parts.keep c.ask_eager.new.running.parts.keep
    (g.K.Store.view c.args.store.now).records (g.K.Store.view c.ask_eager.new.store).records) c.refresh.ensures.flow c.ask_eager.ensures.draws in
    draws_failed _ _ c.from_residual-in_err-ask_eager.ensures.1 (draws_from few (ap (λ (parts : Parts). supply parts.keep) c.refresh.ensures.parts))

pub returns-in_err-settle_grown-clause-draws : goal.returns-in_err-settle_grown-clause-draws
returns-in_err-settle_grown-clause-draws g c =
    let few = subst (λ (f : Dataflow). DrawsAtMost (length f.nodes) c.refresh.new.self.parts.keep c.ask_eager.new.running.parts.keep
    (g.K.Store.view c.args.store.now).records (g.K.Store.view c.ask_eager.new.store).records) c.refresh.ensures.flow c.ask_eager.ensures.draws in
    draws_failed _ _ c.from_residual-in_err-settle_grown.ensures.1
    (draws_kept (draws_from few (ap (λ (parts : Parts). supply parts.keep) c.refresh.ensures.parts)) c.settle_grown.ensures.keep)

pub returns-clause-draws : goal.returns-clause-draws
returns-clause-draws g c =
    let few = subst (λ (f : Dataflow). DrawsAtMost (length f.nodes) c.refresh.new.self.parts.keep c.ask_eager.new.running.parts.keep
    (g.K.Store.view c.args.store.now).records (g.K.Store.view c.ask_eager.new.store).records) c.refresh.ensures.flow c.ask_eager.ensures.draws in
    draws_kept (draws_from few (ap (λ (parts : Parts). supply parts.keep) c.refresh.ensures.parts)) c.settle_grown.ensures.keep

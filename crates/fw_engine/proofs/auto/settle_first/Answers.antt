use Rattle.std.proofs.Common.{Ok, Result, refl, subst}
use Rattle.fw_flow.specs.declared.step.Step.TheVariants.{Progress}
use Rattle.fw_stands.specs.FirstSteps.{NoneToNotify, NoneToSettle}
use Rattle.fw_stands.proofs.TakingLaws.{progress-next}
use Rattle.fw_running.specs.declared.fault.EngineFault.{EngineFault}
use Rattle.fw_running.specs.declared.stepped.Stepped.{Stepped}
use Rattle.fw_running.specs.Steps.{StepAnswers, TakesStep}
use Rattle.fw_running.proofs.StepLaws.{part-err, part-may, part-on, step-part}
use Rattle.fw_engine.specs.Engine.{StepDraws}
use Rattle.fw_engine.specs.Searching.{TakesFirstAfter}
use Rattle.fw_engine.proofs.DrawnLaws.{draws-later}
use Rattle.fw_engine.proofs.QuietLaws.{progress-may_call}
use Rattle.fw_engine.proofs.TakenFirstLaws.{did-first, from-err, idle-later, settle-err}
use Rattle.fw_engine.proofs.auto.settle_first.Goals as goal

pub returns-in-Did-clause-takes : goal.returns-in-Did-clause-takes
returns-in-Did-clause-takes g c =
    let old = c.args.running.now in
    let new = c.progress.new.running in
    let before = (g.K.Store.view c.args.store.now).records in
    let after = (g.K.Store.view c.progress.new.store).records in
    did-first NoneToNotify Progress old new before after c.in-Did.effect
    (λ sys state next effect none leads. progress-next sys state none next effect leads)
    (λ sys state next effect leads none. none.earlier.progress next effect leads) (λ sys state records. tt)
    (subst (λ (stepped : Stepped). TakesStep old before Progress (Ok stepped) new after) c.in-Did.is c.in_ok-effect.ensures.answers.takes)

pub returns-in-Idle-clause-takes : goal.returns-in-Idle-clause-takes
returns-in-Idle-clause-takes g c =
    let old = c.args.running.now in
    let mid = c.progress.new.running in
    let before = (g.K.Store.view c.args.store.now).records in
    let after = (g.K.Store.view c.progress.new.store).records in
    idle-later NoneToNotify NoneToSettle Progress old mid c.acknowledge_first.new.running before after after c.acknowledge_first.result
    (λ sys state none idle. record { earlier = none; progress = idle }) (λ sys state records. tt)
    (subst (λ (stepped : Stepped). TakesStep old before Progress (Ok stepped) mid after) c.in-Idle.is c.in_ok-effect.ensures.answers.takes)
    (c.acknowledge_first.ensures.takes after)

pub returns-in_err-effect-clause-takes : goal.returns-in_err-effect-clause-takes
returns-in_err-effect-clause-takes g c =
    let old = c.args.running.now in
    let new = c.progress.new.running in
    let before = (g.K.Store.view c.args.store.now).records in
    let after = (g.K.Store.view c.progress.new.store).records in
    from-err c.from_residual.result c.in_err-effect.field-0.0 (λ (r : Result Stepped EngineFault). TakesFirstAfter NoneToNotify old before r new after)
    c.from_residual.ensures.1
    (settle-err old new before after c.in_err-effect.field-0.0 c.in_err-effect.ensures.answers.calls (step-part refl c.in_err-effect.ensures.answers).undamaged c.in_err-effect.ensures.answers.takes)

pub returns-in_err-effect-clause-part : goal.returns-in_err-effect-clause-part
returns-in_err-effect-clause-part g c =
    part-err (part-may (progress-may_call c.args.running.now.flow) (step-part refl c.in_err-effect.ensures.answers)) c.from_residual.ensures.1

pub returns-in-Did-clause-part : goal.returns-in-Did-clause-part
returns-in-Did-clause-part g c =
    let old = c.args.running.now in
    part-may (progress-may_call old.flow) (step-part refl
    (subst (λ (stepped : Stepped). StepAnswers g.K.Store.view old c.args.store.now Progress (Ok stepped) c.progress.new.running c.progress.new.store) c.in-Did.is
    c.in_ok-effect.ensures.answers))

pub returns-in-Idle-clause-part : goal.returns-in-Idle-clause-part
returns-in-Idle-clause-part g c =
    part-on (part-may (progress-may_call c.args.running.now.flow) (step-part refl c.in_ok-effect.ensures.answers))
    (c.acknowledge_first.ensures.stored (g.K.Store.view c.progress.new.store).records c.in_ok-effect.ensures.answers.stored) c.acknowledge_first.ensures.flow
    c.acknowledge_first.ensures.undamaged c.acknowledge_first.ensures.unfaulted

pub returns-in_err-effect-clause-draws : goal.returns-in_err-effect-clause-draws
returns-in_err-effect-clause-draws g c =
    from-err c.from_residual.result c.in_err-effect.field-0.0 (λ (r : Result Stepped EngineFault). StepDraws c.args.running.now
    (g.K.Store.view c.args.store.now).records r c.progress.new.running (g.K.Store.view c.progress.new.store).records) c.from_residual.ensures.1
    c.in_err-effect.ensures.draws

pub returns-in-Did-clause-draws : goal.returns-in-Did-clause-draws
returns-in-Did-clause-draws g c =
    subst (λ (stepped : Stepped). StepDraws c.args.running.now (g.K.Store.view c.args.store.now).records (Ok stepped) c.progress.new.running
    (g.K.Store.view c.progress.new.store).records) c.in-Did.is c.in_ok-effect.ensures.draws

pub returns-in-Idle-clause-draws : goal.returns-in-Idle-clause-draws
returns-in-Idle-clause-draws g c =
    let old = c.args.running.now in
    let mid = c.progress.new.running in
    let before = (g.K.Store.view c.args.store.now).records in
    let after = (g.K.Store.view c.progress.new.store).records in
    draws-later old mid c.acknowledge_first.new.running before after c.acknowledge_first.result
    (subst (λ (stepped : Stepped). StepDraws old before (Ok stepped) mid after) c.in-Idle.is c.in_ok-effect.ensures.draws) c.acknowledge_first.ensures.draws

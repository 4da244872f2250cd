use Rattle.std.proofs.Common.{Ok, subst}
use Rattle.fw_flow.specs.declared.step.Step.TheVariants.{Persist}
use Rattle.fw_stands.proofs.TakingLaws.{writes-first}
use Rattle.fw_running.specs.declared.stepped.Stepped.{Stepped}
use Rattle.fw_running.specs.declared.stepped.Stepped.TheVariants.{Did}
use Rattle.fw_running.specs.Steps.{InnerAnswers, MayCallByItself, TakesStep}
use Rattle.fw_running.proofs.StepLaws.{inner-part, part-of}
use Rattle.fw_engine.specs.Searching.{IsAny, NoneToPersist}
use Rattle.fw_engine.proofs.DrawnLaws.{draws-behind, draws-none}
use Rattle.fw_engine.proofs.TakenFirstLaws.{did-first, idle-later}
use Rattle.fw_engine.proofs.auto.take_earlier.Goals as goal

pub returns-in-Did-clause-takes : goal.returns-in-Did-clause-takes
returns-in-Did-clause-takes g c =
    let before = (g.K.Store.view c.args.store.now).records in
    did-first IsAny Persist c.args.running.now c.persist.new.running before before c.in-Did.effect
    (λ sys state next effect earlier leads. writes-first sys state next effect leads)
    (λ sys state next effect leads none. none.earlier.earlier.earlier.writes next effect leads) (λ sys state records. tt)
    (subst (λ (stepped : Stepped). TakesStep c.args.running.now before Persist (Ok stepped) c.persist.new.running before) c.in-Did.is (c.persist.ensures.answers.takes before))

pub returns-in-Idle-clause-takes : goal.returns-in-Idle-clause-takes
returns-in-Idle-clause-takes g c =
    let before = (g.K.Store.view c.args.store.now).records in
    let after = (g.K.Store.view c.deliver_first.new.store).records in
    idle-later IsAny NoneToPersist Persist c.args.running.now c.persist.new.running c.deliver_first.new.running before before after c.deliver_first.result
    (λ sys state earlier idle. idle) (λ sys state records. tt)
    (subst (λ (stepped : Stepped). TakesStep c.args.running.now before Persist (Ok stepped) c.persist.new.running before) c.in-Idle.is (c.persist.ensures.answers.takes before))
    c.deliver_first.ensures.takes

pub deliver_first-requires-clause-stored : goal.deliver_first-requires-clause-stored
deliver_first-requires-clause-stored g c = c.persist.ensures.answers.stored (g.K.Store.view c.args.store.now).records c.requires.stored

pub returns-in-Did-clause-part : goal.returns-in-Did-clause-part
returns-in-Did-clause-part g c =
    inner-part c.requires.stored (subst (λ (stepped : Stepped). InnerAnswers c.args.running.now Persist (Ok stepped) c.persist.new.running) c.in-Did.is c.persist.ensures.answers)

pub returns-in-Idle-clause-part : goal.returns-in-Idle-clause-part
returns-in-Idle-clause-part g c = part-of MayCallByItself c.persist.ensures.answers.flow c.deliver_first.ensures.part

pub returns-in-Did-clause-draws : goal.returns-in-Did-clause-draws
returns-in-Did-clause-draws g c =
    draws-none c.args.running.now c.persist.new.running (g.K.Store.view c.args.store.now).records (Ok (Did c.in-Did.effect)) c.persist.ensures.draws

pub returns-in-Idle-clause-draws : goal.returns-in-Idle-clause-draws
returns-in-Idle-clause-draws g c =
    draws-behind c.args.running.now c.persist.new.running c.deliver_first.new.running (g.K.Store.view c.args.store.now).records
    (g.K.Store.view c.deliver_first.new.store).records c.deliver_first.result c.persist.ensures.answers.flow c.persist.ensures.draws c.deliver_first.ensures.draws

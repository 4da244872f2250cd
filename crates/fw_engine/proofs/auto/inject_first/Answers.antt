use Rattle.std.proofs.Common.{Option, ap, subst, sym, ◌∙◌, ℕ}
use Rattle.fw_keep.specs.Stored.{IsStored}
use Rattle.fw_running.specs.declared.running.Running.{Running}
use Rattle.fw_running.specs.Drawn.{supply}
use Rattle.fw_running.specs.Places.{IsFirstWhere}
use Rattle.fw_running.specs.Ready.{CanInject}
use Rattle.fw_engine.proofs.TakenFirstLaws.{inject-first, nothing-first}
use Rattle.fw_engine.proofs.auto.inject_first.Goals as goal

pub returns-in-Some-clause-takes : goal.returns-in-Some-clause-takes
returns-in-Some-clause-takes c = λ records.
    let old = c.args.running.now in
    let mid = c.first_injecting.new.running in
    inject-first old mid (record old.ready { inputs = mid.ready.inputs }) c.inject.new.running records c.in-Some.source c.inject.result
    c.first_injecting.ensures.others
    (subst (λ (found : Option ℕ). IsFirstWhere (CanInject old) found) c.in-Some.is c.first_injecting.ensures.first)
    c.inject.ensures.answers.undamaged c.inject.ensures.answers.unfaulted (c.inject.ensures.answers.takes records)

pub returns-in-None-clause-takes : goal.returns-in-None-clause-takes
returns-in-None-clause-takes c = λ records.
    let old = c.args.running.now in
    let mid = c.first_injecting.new.running in
    nothing-first old mid (record old.ready { inputs = mid.ready.inputs }) records c.first_injecting.ensures.others
    (subst (λ (found : Option ℕ). IsFirstWhere (CanInject old) found) c.in-None.is c.first_injecting.ensures.first)

pub returns-in-Some-clause-stored : goal.returns-in-Some-clause-stored
returns-in-Some-clause-stored c = λ records stored.
    c.inject.ensures.answers.stored records (subst (λ (r : Running). IsStored r.parts.keep records) (sym c.first_injecting.ensures.others) stored)

pub returns-in-Some-clause-draws : goal.returns-in-Some-clause-draws
returns-in-Some-clause-draws c = c.inject.ensures.draws ∙ ap (λ (r : Running). supply r.parts.keep) c.first_injecting.ensures.others

pub returns-in-None-clause-draws : goal.returns-in-None-clause-draws
returns-in-None-clause-draws c = ap (λ (r : Running). supply r.parts.keep) c.first_injecting.ensures.others

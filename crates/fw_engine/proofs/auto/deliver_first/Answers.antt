use Rattle.std.proofs.Common.{Option, ap, refl, subst, sym, ℕ}
use Rattle.fw_keep.specs.Stored.{IsStored}
use Rattle.fw_running.specs.declared.running.Running.{Running}
use Rattle.fw_running.specs.Drawn.{supply}
use Rattle.fw_running.specs.Places.{IsFirstWhere}
use Rattle.fw_running.specs.Ready.{CanDeliver}
use Rattle.fw_running.specs.Steps.{MayCallByItself}
use Rattle.fw_running.proofs.StepLaws.{part-may, part-of, step-part}
use Rattle.fw_engine.proofs.DrawnLaws.{draws-behind, draws-one}
use Rattle.fw_engine.proofs.QuietLaws.{delivery-may_call_later}
use Rattle.fw_engine.proofs.TakenFirstLaws.{deliver-first, deliver-later}
use Rattle.fw_engine.proofs.auto.deliver_first.Goals as goal

pub returns-in-Some-clause-takes : goal.returns-in-Some-clause-takes
returns-in-Some-clause-takes g c =
    let old = c.args.running.now in
    let mid = c.first_deliverable.new.running in
    deliver-first old mid (record old.ready { edges = mid.ready.edges }) c.deliver.new.running (g.K.Store.view c.args.store.now).records
    (g.K.Store.view c.deliver.new.store).records c.in-Some.edge c.deliver.result c.first_deliverable.ensures.others
    (subst (λ (found : Option ℕ). IsFirstWhere (CanDeliver old) found) c.in-Some.is c.first_deliverable.ensures.first)
    (step-part refl c.deliver.ensures.answers).undamaged c.deliver.ensures.answers.calls c.deliver.ensures.answers.takes

pub returns-in-None-clause-takes : goal.returns-in-None-clause-takes
returns-in-None-clause-takes g c =
    let old = c.args.running.now in
    let mid = c.first_deliverable.new.running in
    deliver-later old mid (record old.ready { edges = mid.ready.edges }) c.notify_first.new.running (g.K.Store.view c.args.store.now).records
    (g.K.Store.view c.notify_first.new.store).records c.notify_first.result c.first_deliverable.ensures.others
    (subst (λ (found : Option ℕ). IsFirstWhere (CanDeliver old) found) c.in-None.is c.first_deliverable.ensures.first) c.notify_first.ensures.takes

pub returns-in-Some-clause-part : goal.returns-in-Some-clause-part
returns-in-Some-clause-part g c =
    let old = c.args.running.now in
    let mid = c.first_deliverable.new.running in
    let first = subst (λ (found : Option ℕ). IsFirstWhere (CanDeliver old) found) c.in-Some.is c.first_deliverable.ensures.first in
    part-of MayCallByItself (ap (λ (r : Running). r.flow) c.first_deliverable.ensures.others)
    (part-may (delivery-may_call_later old mid (record old.ready { edges = mid.ready.edges }) c.in-Some.edge c.first_deliverable.ensures.others first.0)
    (step-part refl c.deliver.ensures.answers))

pub returns-in-None-clause-part : goal.returns-in-None-clause-part
returns-in-None-clause-part g c =
    part-of MayCallByItself (ap (λ (r : Running). r.flow) c.first_deliverable.ensures.others) c.notify_first.ensures.part

pub deliver-requires-clause-stored : goal.deliver-requires-clause-stored
deliver-requires-clause-stored g c =
    subst (λ (r : Running). IsStored r.parts.keep (g.K.Store.view c.args.store.now).records) (sym c.first_deliverable.ensures.others) c.requires.stored

pub notify_first-requires-clause-stored : goal.notify_first-requires-clause-stored
notify_first-requires-clause-stored g c =
    subst (λ (r : Running). IsStored r.parts.keep (g.K.Store.view c.args.store.now).records) (sym c.first_deliverable.ensures.others) c.requires.stored

pub returns-in-Some-clause-draws : goal.returns-in-Some-clause-draws
returns-in-Some-clause-draws g c =
    let mid = c.first_deliverable.new.running in
    let new = c.deliver.new.running in
    let before = (g.K.Store.view c.args.store.now).records in
    let after = (g.K.Store.view c.deliver.new.store).records in
    draws-behind c.args.running.now mid new before after c.deliver.result (ap (λ (r : Running). r.flow) c.first_deliverable.ensures.others)
    (ap (λ (r : Running). supply r.parts.keep) c.first_deliverable.ensures.others)
    (draws-one mid new before after c.deliver.result c.first_deliverable.ensures.shaped.well_formed c.deliver.ensures.draws)

pub returns-in-None-clause-draws : goal.returns-in-None-clause-draws
returns-in-None-clause-draws g c =
    draws-behind c.args.running.now c.first_deliverable.new.running c.notify_first.new.running (g.K.Store.view c.args.store.now).records
    (g.K.Store.view c.notify_first.new.store).records c.notify_first.result (ap (λ (r : Running). r.flow) c.first_deliverable.ensures.others)
    (ap (λ (r : Running). supply r.parts.keep) c.first_deliverable.ensures.others) c.notify_first.ensures.draws

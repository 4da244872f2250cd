use Rattle.std.proofs.Common.{◌∙◌}
use Rattle.std.proofs.lemmas.Result.{err_from_is_err_and}
use Rattle.fw_running.specs.declared.stepped.Stepped.{Stepped}
use Rattle.fw_running.specs.Logging.{with_keep}
use Rattle.fw_running.proofs.DrawnLaws.{supply_same}
use Rattle.fw_running.proofs.StepLaws.{collection-answers, collection-refused, fault-counts}
use Rattle.fw_choose.proofs.CollectLaws.{swept-shaped, swept-tells, swept-follows, sweep-fails, fault-shaped, fault-undamaged}
use Rattle.fw_choose.proofs.collection.collect.Goals as goal

pub returns-in_err-stepped-clause-answers : goal.returns-in_err-stepped-clause-answers
returns-in_err-stepped-clause-answers g c =
    collection-refused (c.raise_low.ensures.stored (g.K.Store.view c.args.store.now).records c.requires.stored) c.raise_low.ensures.flow c.from_residual.ensures.1

pub returns-in_err-sweep-clause-answers : goal.returns-in_err-sweep-clause-answers
returns-in_err-sweep-clause-answers g c =
    let old = c.args.running.now in
    let mid = c.raise_low.new.running in
    let new = with_keep c.sweep.new.self mid in
    let before = (g.K.Store.view c.args.store.now).records in
    let after = (g.K.Store.view c.sweep.new.store).records in
    let f = c.in_err-sweep.field-0.0 in
    let swept = c.in_err-sweep.ensures in
    let p = err_from_is_err_and c.from_residual-in_err-sweep.result c.from_residual-in_err-sweep.ensures.1 in
    rw (p.1, p.2) (collection-answers (fault-shaped f new (swept-shaped mid c.sweep.new.self swept.kept c.in_ok-stepped.ensures.shaped)) swept.stored
    c.raise_low.ensures.flow
    (sweep-fails f swept.undamaged old mid c.sweep.new.self before after c.in_ok-stepped.stepped (c.in_ok-stepped.ensures.takes before) swept.kept swept.swept swept.bytes)
    (swept.faults ∙ fault-counts (Unit {0}) Stepped f (g.K.Store.view c.args.store.now).faults) (fault-undamaged f swept.undamaged)
    (swept-tells mid.parts.keep.waiting c.sweep.new.self.waiting before after swept.swept) tt)

pub returns-in_err-sweep-clause-draws : goal.returns-in_err-sweep-clause-draws
returns-in_err-sweep-clause-draws g c = supply_same c.raise_low.new.running.parts.keep c.sweep.new.self c.in_err-sweep.ensures.drawn c.in_err-sweep.ensures.shared ∙ c.raise_low.ensures.draws

pub returns-clause-answers : goal.returns-clause-answers
returns-clause-answers g c =
    let mid = c.raise_low.new.running in
    let before = (g.K.Store.view c.args.store.now).records in
    let after = (g.K.Store.view c.sweep.new.store).records in
    let swept = c.in_ok-sweep.ensures in
    collection-answers (swept-shaped mid c.sweep.new.self swept.kept c.in_ok-stepped.ensures.shaped) swept.stored c.raise_low.ensures.flow
    (swept-follows c.args.running.now mid c.sweep.new.self before after c.in_ok-stepped.stepped (c.in_ok-stepped.ensures.takes before) swept.kept swept.swept
    swept.bytes)
    swept.faults tt (swept-tells mid.parts.keep.waiting c.sweep.new.self.waiting before after swept.swept) swept.clean

pub returns-clause-draws : goal.returns-clause-draws
returns-clause-draws g c = supply_same c.raise_low.new.running.parts.keep c.sweep.new.self c.in_ok-sweep.ensures.drawn c.in_ok-sweep.ensures.shared ∙ c.raise_low.ensures.draws

pub sweep-requires : goal.sweep-requires
sweep-requires g c = record { stored = c.raise_low.ensures.stored (g.K.Store.view c.args.store.now).records c.requires.stored }

use Rattle.std.proofs.Common.{◌≡◌, Ok, Result, subst}
use Rattle.fw_lemmas.proofs.Bools.{two_ways}
use Rattle.fw_running.specs.declared.fault.EngineFault.{EngineFault}
use Rattle.fw_running.specs.declared.stepped.Stepped.{Stepped}
use Rattle.fw_running.specs.declared.stepped.Stepped.TheVariants.{Idle}
use Rattle.fw_running.specs.Steps.{MayCallByItself, PartAnswers}
use Rattle.fw_running.proofs.StepLaws.{part-on}
use Rattle.fw_engine.proofs.WithinLaws.{within-some}
use Rattle.fw_engine.proofs.auto.take_first_within.Goals as goal

pub returns-then-took_nothing-clause-part : goal.returns-then-took_nothing-clause-part
returns-then-took_nothing-clause-part g c =
    let idle : c.take_earlier-taken.result ≡ Ok Idle = c.took_nothing.ensures.0 c.if-took_nothing.true in
    let earlier =
    subst (λ (r : Result Stepped EngineFault). PartAnswers g.K.Store.view (MayCallByItself c.args.running.now.flow) c.args.running.now c.args.store.now r
    c.take_earlier-taken.new.running c.take_earlier-taken.new.store) idle c.take_earlier-taken.ensures.part in
    part-on earlier (c.inject_within.ensures.stored (g.K.Store.view c.take_earlier-taken.new.store).records earlier.stored) c.inject_within.ensures.flow c.inject_within.ensures.undamaged
    c.inject_within.ensures.unfaulted

pub returns-clause-takes : goal.returns-clause-takes
returns-clause-takes g c =
    within-some c.args.running.now c.take_earlier-taken.new.running (g.K.Store.view c.args.store.now).records
    (g.K.Store.view c.take_earlier-taken.new.store).records c.args.came.now c.take_earlier-taken.result
    (λ idle. two_ways c.took_nothing.result (c.took_nothing.ensures.1 idle) c.if-took_nothing.false) c.take_earlier-taken.ensures.takes

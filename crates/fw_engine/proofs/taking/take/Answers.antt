use Rattle.std.proofs.Common.{Ok, refl, arith}
use Rattle.fw_running.proofs.DrawnLaws.{draws_more}
use Rattle.fw_running.proofs.StepLaws.{inner-answers}
use Rattle.fw_engine.proofs.DrawnLaws.{draws-none, draws-one}
use Rattle.fw_engine.proofs.taking.take.Goals as goal

pub returns-in-Inject-clause-answers : goal.returns-in-Inject-clause-answers
returns-in-Inject-clause-answers g c = rw c.in-Inject.is (inner-answers refl c.requires.stored c.inject.ensures.answers)

pub returns-in-Inject-clause-draws : goal.returns-in-Inject-clause-draws
returns-in-Inject-clause-draws g c = λ other. draws-none c.args.running.now c.inject.new.running (g.K.Store.view c.args.store.now).records _ c.inject.ensures.draws

pub returns-in-Deliver-clause-answers : goal.returns-in-Deliver-clause-answers
returns-in-Deliver-clause-answers g c = rw (c.in-Deliver.is, ← c.as_ref.ensures.value) c.deliver.ensures.answers

pub returns-in-Deliver-clause-draws : goal.returns-in-Deliver-clause-draws
returns-in-Deliver-clause-draws g c = λ other.
    draws-one c.args.running.now c.deliver.new.running (g.K.Store.view c.args.store.now).records (g.K.Store.view c.deliver.new.store).records c.deliver.result
    c.requires.shaped.well_formed c.deliver.ensures.draws

pub returns-in-Notify-clause-answers : goal.returns-in-Notify-clause-answers
returns-in-Notify-clause-answers g c = rw (c.in-Notify.is, ← c.as_ref-in-Notify.ensures.value) c.notify.ensures.answers

pub returns-in-Notify-clause-draws : goal.returns-in-Notify-clause-draws
returns-in-Notify-clause-draws g c = λ other.
    draws-one c.args.running.now c.notify.new.running (g.K.Store.view c.args.store.now).records (g.K.Store.view c.notify.new.store).records c.notify.result
    c.requires.shaped.well_formed c.notify.ensures.draws

pub returns-in-Progress-clause-answers : goal.returns-in-Progress-clause-answers
returns-in-Progress-clause-answers g c = rw c.in-Progress.is c.progress.ensures.answers

pub returns-in-Progress-clause-draws : goal.returns-in-Progress-clause-draws
returns-in-Progress-clause-draws g c = λ other. c.progress.ensures.draws

pub returns-in-Checkpoint-clause-answers : goal.returns-in-Checkpoint-clause-answers
returns-in-Checkpoint-clause-answers g c = rw c.in-Checkpoint.is c.checkpoint.ensures.answers

pub returns-in-Checkpoint-clause-draws : goal.returns-in-Checkpoint-clause-draws
returns-in-Checkpoint-clause-draws g c = λ other.
    draws-one c.args.running.now c.checkpoint.new.running (g.K.Store.view c.args.store.now).records (g.K.Store.view c.checkpoint.new.store).records c.checkpoint.result
    c.requires.shaped.well_formed c.checkpoint.ensures.draws

pub returns-in-Persist-clause-answers : goal.returns-in-Persist-clause-answers
returns-in-Persist-clause-answers g c = rw c.in-Persist.is (inner-answers refl c.requires.stored c.persist.ensures.answers)

pub returns-in-Persist-clause-draws : goal.returns-in-Persist-clause-draws
returns-in-Persist-clause-draws g c = λ other.
    draws-none c.args.running.now c.persist.new.running (g.K.Store.view c.args.store.now).records (Ok c.persist.result) c.persist.ensures.draws

pub returns-in-Fail-clause-answers : goal.returns-in-Fail-clause-answers
returns-in-Fail-clause-answers g c = rw (c.in-Fail.is, ← c.as_slice.ensures) (inner-answers refl c.requires.stored c.fail.ensures.answers)

pub returns-in-Fail-clause-draws : goal.returns-in-Fail-clause-draws
returns-in-Fail-clause-draws g c = λ other. draws-none c.args.running.now c.fail.new.running (g.K.Store.view c.args.store.now).records _ c.fail.ensures.draws

pub returns-in-Recover-clause-answers : goal.returns-in-Recover-clause-answers
returns-in-Recover-clause-answers g c = rw c.in-Recover.is c.recover.ensures.answers

pub returns-in-Recover-clause-draws : goal.returns-in-Recover-clause-draws
returns-in-Recover-clause-draws g c = λ other. draws_more c.recover.ensures.draws (omega arith)

pub returns-in-Collect-clause-answers : goal.returns-in-Collect-clause-answers
returns-in-Collect-clause-answers g c = rw c.in-Collect.is c.collect.ensures.answers

pub returns-in-Collect-clause-draws : goal.returns-in-Collect-clause-draws
returns-in-Collect-clause-draws g c = λ other. absurd (other c.in-Collect.is)

pub returns-in-Ack-clause-answers : goal.returns-in-Ack-clause-answers
returns-in-Ack-clause-answers g c = rw c.in-Ack.is (inner-answers refl c.requires.stored c.acknowledge.ensures.answers)

pub returns-in-Ack-clause-draws : goal.returns-in-Ack-clause-draws
returns-in-Ack-clause-draws g c = λ other. draws-none c.args.running.now c.acknowledge.new.running (g.K.Store.view c.args.store.now).records _ c.acknowledge.ensures.draws

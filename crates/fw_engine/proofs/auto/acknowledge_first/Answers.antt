use Rattle.std.proofs.Common.{Option, ap, subst, sym, ◌∙◌, ℕ}
use Rattle.fw_border.specs.Outputs.{AreByNumber}
use Rattle.std.specs.Prelude.{IfSome}
use Rattle.fw_keep.specs.Stored.{IsStored}
use Rattle.fw_running.specs.declared.running.Running.{Running}
use Rattle.fw_running.specs.Drawn.{supply}
use Rattle.fw_running.specs.Kept.{output_of}
use Rattle.fw_running.specs.Places.{IsFirstWhere}
use Rattle.fw_running.specs.Ready.{CanAcknowledge}
use Rattle.fw_engine.proofs.TakenFirstLaws.{acknowledge-first, acknowledge-none}
use Rattle.fw_engine.proofs.auto.acknowledge_first.Goals as goal

pub returns-in-Some-clause-takes : goal.returns-in-Some-clause-takes
returns-in-Some-clause-takes c = λ records.
    let old = c.args.running.now in
    let mid = c.first_acknowledging.new.running in
    acknowledge-first old mid (record old.ready { outputs = mid.ready.outputs }) c.acknowledge.new.running records c.in-Some.output c.acknowledge.result
    c.first_acknowledging.ensures.others
    (subst (λ (found : Option ℕ). IsFirstWhere (CanAcknowledge old) found) c.in-Some.is c.first_acknowledging.ensures.first)
    (subst (λ (found : Option ℕ). IfSome found (λ o. AreByNumber (output_of old o).recs)) c.in-Some.is c.first_acknowledging.ensures.by_number)
    c.acknowledge.ensures.answers.undamaged c.acknowledge.ensures.answers.unfaulted (c.acknowledge.ensures.answers.takes records)

pub returns-in-None-clause-takes : goal.returns-in-None-clause-takes
returns-in-None-clause-takes c = λ records.
    let old = c.args.running.now in
    let mid = c.first_acknowledging.new.running in
    acknowledge-none old mid (record old.ready { outputs = mid.ready.outputs }) records c.first_acknowledging.ensures.others
    (subst (λ (found : Option ℕ). IsFirstWhere (CanAcknowledge old) found) c.in-None.is c.first_acknowledging.ensures.first)

pub returns-in-Some-clause-stored : goal.returns-in-Some-clause-stored
returns-in-Some-clause-stored c = λ records stored.
    c.acknowledge.ensures.answers.stored records (subst (λ (r : Running). IsStored r.parts.keep records) (sym c.first_acknowledging.ensures.others) stored)

pub returns-in-None-clause-stored : goal.returns-in-None-clause-stored
returns-in-None-clause-stored c = λ records stored.
    subst (λ (r : Running). IsStored r.parts.keep records) (sym c.first_acknowledging.ensures.others) stored

pub returns-in-Some-clause-draws : goal.returns-in-Some-clause-draws
returns-in-Some-clause-draws c = c.acknowledge.ensures.draws ∙ ap (λ (r : Running). supply r.parts.keep) c.first_acknowledging.ensures.others

pub returns-in-None-clause-draws : goal.returns-in-None-clause-draws
returns-in-None-clause-draws c = ap (λ (r : Running). supply r.parts.keep) c.first_acknowledging.ensures.others

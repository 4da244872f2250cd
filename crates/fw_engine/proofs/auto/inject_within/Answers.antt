use Rattle.std.proofs.Common.{Option, ℕ, subst}
use Rattle.fw_running.specs.Places.{IsFirstWhere}
use Rattle.fw_engine.specs.Searching.{CanInjectWithin}
use Rattle.fw_engine.proofs.WithinLaws.{inject-within, nothing-within}
use Rattle.fw_engine.proofs.auto.inject_within.Goals as goal

pub returns-in-Some-clause-takes : goal.returns-in-Some-clause-takes
returns-in-Some-clause-takes c = λ records.
    let old = c.args.running.now in
    let came = c.args.came.now in
    inject-within old c.inject.new.running records came c.in-Some.source c.inject.result
    (subst (λ (found : Option ℕ). IsFirstWhere (CanInjectWithin came old) found) c.in-Some.is c.first_within.ensures)
    c.inject.ensures.answers.undamaged c.inject.ensures.answers.unfaulted (c.inject.ensures.answers.takes records)

pub returns-in-None-clause-takes : goal.returns-in-None-clause-takes
returns-in-None-clause-takes c = λ records.
    let old = c.args.running.now in
    let came = c.args.came.now in
    nothing-within old records came (subst (λ (found : Option ℕ). IsFirstWhere (CanInjectWithin came old) found) c.in-None.is c.first_within.ensures)

pub returns-in-Some-clause-draws : goal.returns-in-Some-clause-draws
returns-in-Some-clause-draws c = c.inject.ensures.draws

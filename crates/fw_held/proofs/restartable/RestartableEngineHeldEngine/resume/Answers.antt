use Rattle.std.proofs.lemmas.Result.{err_from_is_err_and}
use Rattle.fw_held.proofs.ResumedLaws.{recover-failed, resume-failed, resumed-held}
use Rattle.fw_held.proofs.StoreLaws.{each-there}
use Rattle.fw_held.proofs.restartable.RestartableEngineHeldEngine.resume.Goals as goal

pub resume-requires-clause-there : goal.resume-requires-clause-there
resume-requires-clause-there g c = each-there (g.K.Store.view c.args.store.now).records c.args.root.now.writes c.requires.there

pub returns-in_err-running : goal.returns-in_err-running
returns-in_err-running g c =
    let p = err_from_is_err_and c.from_residual.result c.from_residual.ensures.1 in
    rw (p.1, p.2) (resume-failed c.in_err-running.field-0.0 c.resume.ensures.stays c.in_err-running.ensures.faults c.in_err-running.ensures.damaged
    (λ state reached of named told. c.in_err-running.ensures.held state reached of named told))

pub returns-in_err-stepped : goal.returns-in_err-stepped
returns-in_err-stepped g c =
    let p = err_from_is_err_and c.from_residual-in_err-stepped.result c.from_residual-in_err-stepped.ensures.1 in
    rw (p.1, p.2) (recover-failed c.in_ok-running.running c.recover.new.running c.in_err-stepped.field-0.0 c.resume.ensures.stays
    c.in_ok-running.ensures.faults (λ state reached of named told. c.in_ok-running.ensures.held state reached of named told) c.in_err-stepped.ensures.answers
    c.in_err-stepped.ensures.held c.in_err-stepped.ensures.draws)

pub returns : goal.returns
returns g c =
    resumed-held c.in_ok-running.running c.recover.new.running _ c.in_ok-stepped.stepped c.requires.well_formed c.in_ok-running.ensures.flow
    c.in_ok-running.ensures.next c.resume.ensures.stays c.in_ok-running.ensures.faults
    (λ state reached of named told. c.in_ok-running.ensures.held state reached of named told) c.in_ok-stepped.ensures.answers c.in_ok-stepped.ensures.held
    c.in_ok-stepped.ensures.draws c.of-engine.ensures.running

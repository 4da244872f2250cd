use Rattle.std.proofs.Common.{◌++◌, ◌∙◌, ap, subst}
use Rattle.std.proofs.lemmas.Result.{err_from_is_err_and}
use Rattle.fw_running.specs.EffectText.{outcome_text}
use Rattle.fw_running.specs.Steps.{outcome_of}
use Rattle.fw_engine.specs.Engine.{flow_of}
use Rattle.fw_session.specs.Story.{IsStory}
use Rattle.fw_live.proofs.TakingLaws.{step-done, step-fails, step-harm}
use Rattle.fw_live.proofs.taking.take_step.Goals as goal

pub returns-in_err-stepped-clause-ends : goal.returns-in_err-stepped-clause-ends
returns-in_err-stepped-clause-ends g c = λ story at relied.
    let p = err_from_is_err_and c.from_residual.result c.from_residual.ensures.1 in
    let old = c.args.session.now in
    let new = c.step.new.self in
    rw (p.1, p.2) (step-fails (flow_of (g.S.Living.engine_of old)) c.args.step.now c.in_err-stepped.field-0.0 (g.S.Living.records new)
    (g.S.Living.at old) (g.S.Living.at new) story
    (record { bytes = c.args.into.now.items; counts = c.args.counts.now }) c.in_err-stepped.ensures.goes_on at)

pub returns-clause-ends : goal.returns-clause-ends
returns-clause-ends g c = λ story at relied.
    let old = c.args.session.now in
    let new = c.step.new.self in
    let o = outcome_of c.in_ok-stepped.stepped in
    step-done (flow_of (g.S.Living.engine_of old)) c.args.step.now c.in_ok-stepped.stepped (g.S.Living.records new) (g.S.Living.at old)
    (g.S.Living.at new) story c.args.into.now.items c.write_outcome.new.into.items c.args.counts.now c.count.new.self
    c.in_ok-stepped.ensures.goes_on (λ s there. subst (λ d. IsStory d s) (ap flow_of c.engine.ensures.engine ∙ c.step.ensures.flow) (c.engine.ensures.of_story s there)) at relied
    (c.in_ok-write_outcome.ensures ∙ ap (λ d. c.args.into.now.items ++ outcome_text d o) (c.flow.ensures ∙ ap flow_of c.engine.ensures.engine ∙ c.step.ensures.flow)) c.count.ensures

pub returns-in_err-stepped-clause-unharmed : goal.returns-in_err-stepped-clause-unharmed
returns-in_err-stepped-clause-unharmed g c =
    let p = err_from_is_err_and c.from_residual.result c.from_residual.ensures.1 in
    let old = c.args.session.now in
    let new = c.step.new.self in
    rw (p.1, p.2) (λ story id at e. step-harm (flow_of (g.S.Living.engine_of old)) c.args.step.now c.in_err-stepped.field-0.0 (g.S.Living.records new)
    (g.S.Living.at old) (g.S.Living.at new) story id c.in_err-stepped.ensures.goes_on at e)

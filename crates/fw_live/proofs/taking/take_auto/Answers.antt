use Rattle.std.proofs.Common.{◌≡◌, ◌++◌, ◌∙◌, Err, refl, sym, ap, arith}
use Rattle.std.proofs.lemmas.Result.{err_from_is_err_and}
use Rattle.fw_running.specs.Faults.{faults_after_step}
use Rattle.fw_running.specs.EffectText.{outcome_text}
use Rattle.fw_running.specs.Steps.{outcome_of}
use Rattle.fw_engine.specs.Engine.{flow_of}
use Rattle.fw_live.proofs.TakingLaws.{auto-begun, auto-ends, auto-fails, auto-full, auto-more}
use Rattle.fw_live.proofs.taking.take_auto.Goals as goal

pub loop-init : goal.loop-init
loop-init g c =
    let old = c.args.session.now in
    record {
      flow = refl;
      told_before = λ told. told;
      texts = refl;
      left = λ story at may told. may;
      faults = refl;
      taken = λ story at. auto-begun (flow_of (g.S.Living.engine_of old)) story (record { bytes = c.args.into.now.items; counts = c.args.counts.now })
          (g.S.Living.at old) at;
    }

pub loop-preserved : goal.loop-preserved
loop-preserved g c =
    let old = c.args.session.now in
    let now = c.loop.session in
    let new = c.auto_step.new.self in
    let inv = c.loop.invariant in
    let o = outcome_of c.in_ok-stepped.stepped in
    record {
      flow = c.auto_step.ensures.flow ∙ inv.flow;
      told_before = λ told. inv.told_before (c.auto_step.ensures.told_before told);
      texts = c.auto_step.ensures.texts ∙ inv.texts;
      left = λ story at may told. c.auto_step.ensures.left (inv.taken story at).next (inv.taken story at).at told;
      faults = c.in_ok-stepped.ensures.faults ∙ inv.faults;
      taken = λ story at. auto-more (flow_of (g.S.Living.engine_of old)) (flow_of (g.S.Living.engine_of now)) story c.loop.counter o
          (g.S.Living.at now) (g.S.Living.at new) (record { bytes = c.args.into.now.items; counts = c.args.counts.now })
          (record { bytes = c.loop.into.items; counts = c.loop.counts }) (record { bytes = c.write_outcome.new.into.items; counts = c.count.new.self })
          inv.flow (inv.taken story at) (λ s there. c.in_ok-stepped.ensures.goes_on.ok s there) (sym c.is_idle.ensures ∙ c.if-is_idle.false)
          (c.in_ok-write_outcome.ensures ∙ ap (λ d. c.loop.into.items ++ outcome_text d o) (c.flow.ensures ∙ ap flow_of c.engine.ensures.engine ∙ c.auto_step.ensures.flow ∙ inv.flow)) c.count.ensures;
    }

pub returns-in_err-stepped-clause-ends : goal.returns-in_err-stepped-clause-ends
returns-in_err-stepped-clause-ends g c = λ story at.
    let p = err_from_is_err_and c.from_residual.result c.from_residual.ensures.1 in
    let old = c.args.session.now in
    let now = c.loop.session in
    let new = c.auto_step.new.self in
    rw (p.1, p.2) (auto-fails (flow_of (g.S.Living.engine_of old)) (flow_of (g.S.Living.engine_of now)) story c.loop.counter c.args.most c.in_err-stepped.field-0.0
    (g.S.Living.at now) (g.S.Living.at new)
    (record { bytes = c.args.into.now.items; counts = c.args.counts.now }) (record { bytes = c.loop.into.items; counts = c.loop.counts })
    c.loop.invariant.flow (c.loop.invariant.taken story at) c.in_err-stepped.ensures.goes_on c.loop-test.true)

pub returns-then-is_idle-clause-ends : goal.returns-then-is_idle-clause-ends
returns-then-is_idle-clause-ends g c = λ story at.
    let old = c.args.session.now in
    let now = c.loop.session in
    let new = c.auto_step.new.self in
    auto-ends (flow_of (g.S.Living.engine_of old)) (flow_of (g.S.Living.engine_of now)) story c.loop.counter c.args.most (outcome_of c.in_ok-stepped.stepped)
    (g.S.Living.at now) (g.S.Living.at new) (record { bytes = c.args.into.now.items; counts = c.args.counts.now })
    (record { bytes = c.loop.into.items; counts = c.loop.counts }) c.loop.invariant.flow (c.loop.invariant.taken story at)
    (λ s there. c.in_ok-stepped.ensures.goes_on.ok s there) (sym c.is_idle.ensures ∙ c.if-is_idle.true) c.loop-test.true

pub returns-clause-ends : goal.returns-clause-ends
returns-clause-ends g c = λ story at.
    let old = c.args.session.now in
    let now = c.loop.session in
    let whole : c.loop.counter ≡ c.args.most = omega (arith, c.loop-test.false, c.loop.auto.counter-end) in
    auto-full (flow_of (g.S.Living.engine_of old)) story c.loop.counter c.args.most (g.S.Living.at now)
    (record { bytes = c.args.into.now.items; counts = c.args.counts.now }) (record { bytes = c.loop.into.items; counts = c.loop.counts })
    (c.loop.invariant.taken story at) whole

pub returns-in_err-stepped-clause-faults : goal.returns-in_err-stepped-clause-faults
returns-in_err-stepped-clause-faults g c =
    let p = err_from_is_err_and c.from_residual.result c.from_residual.ensures.1 in
    rw (p.1, p.2) (c.in_err-stepped.ensures.faults
    ∙ ap (faults_after_step {T = Unit {0}} (Err c.in_err-stepped.field-0.0)) c.loop.invariant.faults)

pub returns-then-is_idle-clause-faults : goal.returns-then-is_idle-clause-faults
returns-then-is_idle-clause-faults g c = c.in_ok-stepped.ensures.faults ∙ c.loop.invariant.faults

pub returns-clause-faults : goal.returns-clause-faults
returns-clause-faults g c = c.loop.invariant.faults

pub returns-in_err-stepped-clause-left : goal.returns-in_err-stepped-clause-left
returns-in_err-stepped-clause-left g c = λ story at may told.
    c.auto_step.ensures.left (c.loop.invariant.taken story at).next (c.loop.invariant.taken story at).at told

pub returns-then-is_idle-clause-left : goal.returns-then-is_idle-clause-left
returns-then-is_idle-clause-left g c = λ story at may told.
    c.auto_step.ensures.left (c.loop.invariant.taken story at).next (c.loop.invariant.taken story at).at told

pub returns-in_err-write_outcome-clause-left : goal.returns-in_err-write_outcome-clause-left
returns-in_err-write_outcome-clause-left g c = λ story at may told.
    c.auto_step.ensures.left (c.loop.invariant.taken story at).next (c.loop.invariant.taken story at).at told

pub returns-clause-left : goal.returns-clause-left
returns-clause-left g c = c.loop.invariant.left

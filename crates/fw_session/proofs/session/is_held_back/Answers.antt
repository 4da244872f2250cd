use Rattle.std.proofs.Common.{sym, ◌∙◌}
use Rattle.fw_engine.specs.Engine.{flow_of}
use Rattle.fw_session.specs.Story.{system_now}
use Rattle.fw_session.proofs.TurnLaws.{is-free, is-held}
use Rattle.fw_session.proofs.session.is_held_back.Goals as goal

pub returns-then-is_open-clause-held : goal.returns-then-is_open-clause-held
returns-then-is_open-clause-held c = λ records story at hit.
    is-held c.args.engine.now records c.args.arrivals.now story at c.args.step.now c.in-Inject.source c.came.result c.in-Inject.is
    (sym c.is_open.ensures ∙ c.if-is_open.true) c.came.ensures
    (c.has_injected.ensures.all records (system_now (flow_of c.args.engine.now) story) story.now.state at.stands hit)

pub returns-then-is_open-clause-free : goal.returns-then-is_open-clause-free
returns-then-is_open-clause-free c = λ records story at miss.
    is-free c.args.engine.now records c.args.arrivals.now story at c.args.step.now c.in-Inject.source c.came.result c.in-Inject.is c.came.ensures
    (λ there input.
    c.has_injected.ensures.fewer records (system_now (flow_of c.args.engine.now) story) story.now.state at.stands there input miss)

use Rattle.std.proofs.Common.{◌≡◌, ◌∙◌, sym, ap, []}
use Rattle.std.proofs.lemmas.Result.{IfOk-weaker}
use Rattle.std.specs.Prelude.{string_bytes}
use Rattle.fw_flow.specs.Dataflow.{node_at}
use Rattle.fw_engine.specs.Engine.{flow_of}
use Rattle.fw_session.specs.Story.{system_now}
use Rattle.fw_live.specs.ShowText as spec
use Rattle.std.proofs.Common.{unwrap_or}
use Rattle.std.proofs.lemmas.Option.{get_or_from_slice_get, unwrap_or-slice_get}
use Rattle.fw_live.proofs.ShowLaws.{failed-text, settled-text}
use Rattle.fw_live.proofs.show.settled_line.Goals as goal

pub returns-then-is_failed : goal.returns-then-is_failed
returns-then-is_failed g c = λ story at.
    let session = c.args.session.now in
    let engine = c.engine-engine.result.now in
    let flow = flow_of (g.S.Living.engine_of session) in
    let p = c.args.node in
    let same = ap flow_of c.engine-engine.ensures.engine in
    let sys = system_now (flow_of engine) story in
    let stands = c.engine-engine.ensures.stands story at in
    let named = c.name_of-name.ensures ∙ ap (λ d. (node_at d p).name) (c.flow.ensures ∙ same) in
    IfOk-weaker c.format.result _ (λ line. string_bytes line ≡ spec.settled_line flow story p)
    (λ line e. e ∙ failed-text flow story p c.name_of-name.result.now c.is_failed.result named c.if-is_failed.true
    (c.is_failed.ensures.failed (g.S.Living.records session) sys story.now.state stands)) c.format.ensures.ok

pub returns-in-Some : goal.returns-in-Some
returns-in-Some g c = λ story at.
    let session = c.args.session.now in
    let engine = c.engine-engine.result.now in
    let flow = flow_of (g.S.Living.engine_of session) in
    let p = c.args.node in
    let same = ap flow_of c.engine-engine.ensures.engine in
    let sys = system_now (flow_of engine) story in
    let stands = c.engine-engine.ensures.stands story at in
    let named = c.name_of-name.ensures ∙ ap (λ d. (node_at d p).name) (c.flow.ensures ∙ same) in
    let there = c.in-Some.ensures.front (g.S.Living.records session) sys story.now.state stands in
    IfOk-weaker c.format-in-Some.result _ (λ line. string_bytes line ≡ spec.settled_line flow story p)
    (λ line e. e ∙ settled-text flow story p c.name_of-name.result.now c.is_failed.result c.in-Some.front.now named c.if-is_failed.false
    (c.is_failed.ensures.failed (g.S.Living.records session) sys story.now.state stands)
    (sym (get_or_from_slice_get story.now.state.settled p c.in-Some.front.now [] (sym there)))) c.format-in-Some.ensures.ok

pub returns-in-None : goal.returns-in-None
returns-in-None g c = λ story at.
    let session = c.args.session.now in
    let engine = c.engine-engine.result.now in
    let flow = flow_of (g.S.Living.engine_of session) in
    let p = c.args.node in
    let same = ap flow_of c.engine-engine.ensures.engine in
    let sys = system_now (flow_of engine) story in
    let stands = c.engine-engine.ensures.stands story at in
    let named = c.name_of-name.ensures ∙ ap (λ d. (node_at d p).name) (c.flow.ensures ∙ same) in
    let there = c.in-None.ensures.front (g.S.Living.records session) sys story.now.state stands in
    IfOk-weaker c.format-in-None.result _ (λ line. string_bytes line ≡ spec.settled_line flow story p)
    (λ line e. e ∙ settled-text flow story p c.name_of-name.result.now c.is_failed.result [] named c.if-is_failed.false
    (c.is_failed.ensures.failed (g.S.Living.records session) sys story.now.state stands)
    (ap (λ o. unwrap_or o []) there ∙ unwrap_or-slice_get story.now.state.settled p [])) c.format-in-None.ensures.ok

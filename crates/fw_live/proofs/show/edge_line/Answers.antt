use Rattle.std.proofs.Common.{◌≡◌, ◌∙◌, ap, refl, None}
use Rattle.std.proofs.lemmas.Result.{IfOk-weaker}
use Rattle.std.specs.Prelude.{string_bytes}
use Rattle.std.proofs.Common.{Some}
use Rattle.fw_flow.specs.DomainText.{name_of_edge}
use Rattle.fw_stands.specs.Parts.{queued}
use Rattle.fw_engine.specs.Engine.{flow_of}
use Rattle.fw_session.specs.Story.{system_now}
use Rattle.fw_live.specs.ShowText as spec
use Rattle.fw_live.proofs.ShowLaws.{edge-text}
use Rattle.fw_live.proofs.show.edge_line.Goals as goal

pub returns-in_default-first : goal.returns-in_default-first
returns-in_default-first g c = λ story at.
    let session = c.args.session.now in
    let engine = c.engine-engine.result.now in
    let flow = flow_of (g.S.Living.engine_of session) in
    let edge = c.args.edge in
    let same = ap flow_of c.engine-engine.ensures.engine in
    let stands = c.engine-engine.ensures.stands story at in
    let messages = c.in-Some.queue.now.messages in
    let there = c.in-Some.ensures.messages (g.S.Living.records session) (system_now (flow_of engine) story) story.now.state stands
    ∙ ap (λ d. queued (system_now d story) story.now.state edge) same in
    c.new-in_default-first.ensures.bytes ∙ edge-text flow story edge (name_of_edge flow edge) None messages refl there c.in_default-first.ensures

pub returns : goal.returns
returns g c = λ story at.
    let session = c.args.session.now in
    let engine = c.engine-engine.result.now in
    let flow = flow_of (g.S.Living.engine_of session) in
    let edge = c.args.edge in
    let same = ap flow_of c.engine-engine.ensures.engine in
    let stands = c.engine-engine.ensures.stands story at in
    let messages = c.in-Some.queue.now.messages in
    let there = c.in-Some.ensures.messages (g.S.Living.records session) (system_now (flow_of engine) story) story.now.state stands
    ∙ ap (λ d. queued (system_now d story) story.now.state edge) same in
    IfOk-weaker c.format.result _ (λ line. string_bytes line ≡ spec.edge_line flow story edge)
    (λ line e. e ∙ edge-text flow story edge c.edge_name-name.result.now (Some c.in-Some-first.message.now) messages
    (c.edge_name-name.ensures ∙ ap (λ d. name_of_edge d edge) (c.flow.ensures ∙ same)) there c.in-Some-first.ensures) c.format.ensures.ok

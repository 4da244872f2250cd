use Rattle.std.proofs.Common.{◌≡◌, ◌∙◌, ap, subst, true}
use Rattle.std.proofs.lemmas.Result.{IfOk-weaker}
use Rattle.std.specs.Prelude.{string_bytes}
use Rattle.fw_flow.specs.Dataflow.{node_at, kind_of, is_output_kind}
use Rattle.fw_engine.specs.Engine.{flow_of}
use Rattle.fw_session.specs.Story.{system_now}
use Rattle.fw_live.specs.ShowText as spec
use Rattle.fw_live.proofs.ShowLaws.{and-second, output-text}
use Rattle.fw_live.proofs.show.output_line.Goals as goal

pub returns : goal.returns
returns g c = λ story at.
    let session = c.args.session.now in
    let engine = c.engine-engine.result.now in
    let flow = flow_of (g.S.Living.engine_of session) in
    let p = c.args.node in
    let same = ap flow_of c.engine-engine.ensures.engine in
    let sys = system_now (flow_of engine) story in
    let stands = c.engine-engine.ensures.stands story at in
    let named = c.name_of-name.ensures ∙ ap (λ d. (node_at d p).name) (c.flow.ensures ∙ same) in
    let kind = subst (λ d. is_output_kind (kind_of d p) ≡ true) same (and-second _ _ c.in-Some.ensures.declared) in
    IfOk-weaker c.format.result _ (λ line. string_bytes line ≡ spec.output_line flow story p)
    (λ line e. e ∙ output-text flow story p c.name_of-name.result.now c.in-Some.next kind named
    (c.in-Some.ensures.count (g.S.Living.records session) sys story.now.state stands)) c.format.ensures.ok

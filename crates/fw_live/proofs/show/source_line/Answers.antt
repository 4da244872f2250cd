use Rattle.std.proofs.Common.{◌≡◌, ◌∙◌, ap, subst, true}
use Rattle.std.proofs.lemmas.Result.{IfOk-weaker}
use Rattle.std.specs.Prelude.{string_bytes}
use Rattle.fw_flow.specs.Dataflow.{node_at, kind_of, is_input_kind}
use Rattle.fw_engine.specs.Engine.{flow_of}
use Rattle.fw_session.specs.Story.{system_now}
use Rattle.fw_live.specs.ShowText as spec
use Rattle.fw_live.proofs.ShowLaws.{and-second, source-text}
use Rattle.fw_live.proofs.show.source_line.Goals as goal

pub returns : goal.returns
returns g c = λ story at.
    let session = c.args.session.now in
    let engine = c.engine-engine.result.now in
    let flow = flow_of (g.S.Living.engine_of session) in
    let p = c.args.node in
    let same = ap flow_of c.engine-engine.ensures.engine in
    let sys = system_now (flow_of engine) story in
    let stands = c.engine-engine.ensures.stands story at in
    let named = c.name_of-name.ensures ∙ ap (λ d. (node_at d p).name) (c.flow.ensures ∙ same) in
    let kind = subst (λ d. is_input_kind (kind_of d p) ≡ true) same (and-second _ _ c.in-Some.ensures.declared) in
    let word = c.open_word-state.ensures ∙ ap spec.open_word (c.is_open.ensures story at) in
    IfOk-weaker c.format.result _ (λ line. string_bytes line ≡ spec.source_line flow story p)
    (λ line e. e ∙ source-text flow story p c.name_of-name.result.now c.came-came.result c.in-Some.injected c.open_word-state.result.now kind named
    (c.came-came.ensures story at) (c.in-Some.ensures.count (g.S.Living.records session) sys story.now.state stands) word) c.format.ensures.ok

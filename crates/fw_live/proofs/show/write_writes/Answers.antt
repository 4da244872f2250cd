use Rattle.std.proofs.Common.{◌≡◌, ◌∙◌, ◌++◌, ap}
use Rattle.std.proofs.lemmas.Result.{on_ok_weaker}
use Rattle.std.specs.List.{filter}
use Rattle.std.specs.Prelude.{length}
use Rattle.fw_engine.specs.Engine.{flow_of}
use Rattle.fw_model.specs.Machine.{Write}
use Rattle.fw_model.specs.Steps.{is_in_flight}
use Rattle.fw_policy.specs.Entries.{uncollected}
use Rattle.fw_session.specs.Story.{system_now}
use Rattle.fw_live.specs.ShowText as spec
use Rattle.fw_live.proofs.ShowLaws.{as-many, as-many-fly, each-stands, writes-text}
use Rattle.fw_live.proofs.show.write_writes.Goals as goal

pub returns : goal.returns
returns g c = λ story at.
    let engine = c.engine.result.now in
    let sys = system_now (flow_of engine) story in
    let state = story.now.state in
    let writes = c.writes-writes.result.now in
    let same = c.writes-writes.ensures.each (g.S.Living.records c.args.session.now) sys state (c.engine.ensures.stands story at) in
    let line = c.in_ok-line.ensures.ok ∙ writes-text (length writes) c.in_flight-flying.result (length (uncollected state))
    (length (filter (λ (write : Write). is_in_flight write.stage) (uncollected state))) (as-many sys state writes (uncollected state) same)
    (c.in_flight-flying.ensures ∙ as-many-fly sys state writes (uncollected state) (each-stands state) same) in
    on_ok_weaker {P = c.push.new.into.items ≡ c.args.into.now.items ++ c.as_bytes.result.now}
    {Q = c.push.new.into.items ≡ c.args.into.now.items ++ spec.writes_line story} c.push.result
    (λ e. e ∙ ap (λ bytes. c.args.into.now.items ++ bytes) (c.as_bytes.ensures.value ∙ line)) c.push.ensures

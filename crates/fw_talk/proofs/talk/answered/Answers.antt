use Rattle.std.proofs.Common.{[], Some}
use Rattle.fw_engine.specs.Engine.{flow_of}
use Rattle.fw_live.specs.Asked.{asked_for}
use Rattle.fw_outside.specs.Memory.{record_map}
use Rattle.fw_talk.specs.declared.talk.Speaker.TheVariants.{Session}
use Rattle.fw_talk.specs.Talk.{IsSpeakingAt}
use Rattle.fw_talk.proofs.TalkLaws.{relied, goes-on, beside-two}
use Rattle.fw_talk.proofs.talk.answered.Goals as goal

pub returns : goal.returns
returns c =
    let live = c.args.live.now in let next = c.answer.new.self in let result = c.answer.result in
    let held = record_map next.session.store.records.entries in let heard = asked_for (flow_of live.session.engine) (Some c.args.line.now) in
    beside-two result _ _ _ c.answer.ensures.flow c.answer.ensures.rests
    (goes-on result (IsSpeakingAt (Session live)) live.rests (flow_of live.session.engine) heard live.counts next.counts _ _
    _ (IsSpeakingAt (Session next)) held c.clear.ensures.items (λ story lines both. both.0)
    (λ story kept at. c.answer.ensures.answered story kept at at (relied held heard)))

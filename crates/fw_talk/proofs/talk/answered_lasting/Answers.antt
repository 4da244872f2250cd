use Rattle.std.proofs.Common.{[], Some}
use Rattle.fw_engine.specs.Engine.{flow_of}
use Rattle.fw_live.specs.Asked.{asked_for}
use Rattle.fw_outside.specs.Memory.{record_map}
use Rattle.fw_talk.specs.declared.talk.Speaker.TheVariants.{Lasting}
use Rattle.fw_talk.specs.Talk.{IsSpeakingAt}
use Rattle.fw_talk.proofs.TalkLaws.{relied, goes-on, beside-three, of-some}
use Rattle.fw_talk.proofs.talk.answered_lasting.Goals as goal

pub returns : goal.returns
returns c =
    let live = c.args.live.now in let next = c.answer.new.self in let result = c.answer.result in
    let held = record_map next.session.store.records.entries in let heard = asked_for (flow_of live.session.engine.engine) (Some c.args.line.now) in
    beside-three result _ _ _ _ c.answer.ensures.flow c.answer.ensures.rests
    (of-some next.session.digests live.session.digests c.answer.ensures.texts)
    (goes-on result (IsSpeakingAt (Lasting live)) live.rests (flow_of live.session.engine.engine) heard live.counts next.counts _ _
    _ (IsSpeakingAt (Lasting next)) held c.clear.ensures.items (λ story lines both. both.1)
    (λ story kept at. c.answer.ensures.answered story kept (story, at.0) at (relied held heard)))

-- What a talk is where it opens, and what a line does to it.
use Rattle.std.specs.Prelude.{◌≡◌, ◌⊎◌, ℕ, Bool, List, [], ◌++◌, Option, Some, codes}
use Rattle.fw_outside.specs.Memory.{record_map}
use Rattle.fw_lines.specs.declared.refusal.Refusal.{Refusal}
use Rattle.fw_lines.specs.Refusal.{refusal_text}
use Rattle.fw_flow.specs.Dataflow.{Dataflow}
use Rattle.fw_flow_text.specs.Grammar.{IsAcceptedFlow, IsRefusedFlow}
use Rattle.fw_keep.specs.Stored.{Records}
use Rattle.fw_engine.specs.Engine.{flow_of}
use Rattle.fw_session.specs.Session.{IsAt}
use Rattle.fw_session.specs.Story.{Story, opening}
use Rattle.fw_lasting.specs.UnderWay.{IsUnderWay, SaysLast}
use Rattle.fw_live.specs.declared.counts.LineCounts.{LineCounts}
use Rattle.fw_live.specs.Answered.{HasAnswered}
use Rattle.fw_live.specs.Asked.{asked_for}
use Rattle.fw_live.specs.Life.{no_counts}
use Rattle.fw_talk.specs.declared.reply.Reply.{Reply}
use Rattle.fw_talk.specs.declared.reply.Reply.TheVariants as reply
use Rattle.fw_talk.specs.declared.talk.Speaker.{Speaker}
use Rattle.fw_talk.specs.declared.talk.Speaker.TheVariants.{Session, Lasting, Kept, Unstarted, FlowRefused, NoMemory}

-- what a talk replies
abbrev pub reply_of : Speaker → Reply
reply_of (Session live) = reply.Answered
reply_of (Lasting live) = reply.Answered
reply_of (Kept records) = reply.NoSession
reply_of (Unstarted why) = reply.Unstarted why
reply_of FlowRefused = reply.FlowRefused
reply_of NoMemory = reply.NoMemory

-- There is a session, and it is at this story; of one that lasts the records hold it, and in its root these lines, which were shown last.
abbrev pub IsSpeakingAt : Speaker → Story → List ℕ → Type 0
IsSpeakingAt (Session live) story lines = IsAt live.session.engine (Some (record_map live.session.store.records.entries)) live.session.arrivals story
IsSpeakingAt (Lasting live) story lines =
    IsUnderWay live.session.digests live.session.engine.engine live.session.arrivals (Some (record_map live.session.store.records.entries))
    live.session.turn story story
    × SaysLast (flow_of live.session.engine.engine) live.session.digests story live.session.steps lines
    (Some (record_map live.session.store.records.entries))
IsSpeakingAt speaker story lines = ⊥

-- a session over the flow in which nothing was done, and no answer
abbrev pub IsOpenedOver : Dataflow → Bool → Speaker → List ℕ → Type 0
IsOpenedOver flow rests (Session live) answer =
    (flow_of live.session.engine ≡ flow) × (live.rests ≡ rests) × (live.counts ≡ no_counts) × (answer ≡ [])
    × IsSpeakingAt (Session live) (opening flow) []
IsOpenedOver flow rests speaker answer = ⊥

-- no session, and the refusal of the text as the answer
abbrev pub IsOpenedBy : List ℕ → Refusal → Speaker → List ℕ → Type 0
IsOpenedBy text refusal speaker answer = IsRefusedFlow text refusal × (speaker ≡ FlowRefused) × (answer ≡ refusal_text refusal ++ codes "\n")

-- what a flow's text opens: a session over its flow; or none, where it is refused
abbrev pub IsOpenedTalk : List ℕ → Bool → Speaker → List ℕ → Type 0
IsOpenedTalk text rests speaker answer =
    ((flow : Dataflow) × IsAcceptedFlow text flow × IsOpenedOver flow rests speaker answer)
    ⊎ ((refusal : Refusal) × IsOpenedBy text refusal speaker answer)

-- from each story at which it was, it answered the line as `live` does, found no record damaged, and is at the next one
abbrev pub GoesOnBy : List ℕ → Dataflow → Bool → LineCounts → LineCounts → Speaker → Speaker → Records → List ℕ → Type 0
GoesOnBy line flow rests before after speaker next held answer = (story : Story) (kept : List ℕ) → IsSpeakingAt speaker story kept
    → HasAnswered rests flow story kept (asked_for flow (Some line)) before after [] answer (IsSpeakingAt next) (Some held)

-- What a line does, by what answers it and the answer, before and behind it: a session goes on; or memory is refused, and there is none any
-- more. Where there is none all stays.
abbrev pub IsLineTold : List ℕ → Speaker → List ℕ → Speaker → List ℕ → Type 0
IsLineTold line (Session live) old (Session next) answer =
    (flow_of next.session.engine ≡ flow_of live.session.engine) × (next.rests ≡ live.rests)
    × GoesOnBy line (flow_of live.session.engine) live.rests live.counts next.counts (Session live) (Session next)
    (record_map next.session.store.records.entries) answer
IsLineTold line (Lasting live) old (Lasting next) answer =
    (flow_of next.session.engine.engine ≡ flow_of live.session.engine.engine) × (next.rests ≡ live.rests)
    × (next.session.digests ≡ live.session.digests)
    × GoesOnBy line (flow_of live.session.engine.engine) live.rests live.counts next.counts (Lasting live) (Lasting next)
    (record_map next.session.store.records.entries) answer
IsLineTold line (Session live) old NoMemory answer = answer ≡ []
IsLineTold line (Lasting live) old NoMemory answer = answer ≡ []
IsLineTold line (Session live) old next answer = ⊥
IsLineTold line (Lasting live) old next answer = ⊥
IsLineTold line speaker old next answer = (next ≡ speaker) × (answer ≡ old)

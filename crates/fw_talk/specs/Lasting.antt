-- What a talk is over a session that lasts, whose records its holder keeps.
use Rattle.std.specs.Prelude.{◌≡◌, ◌⊎◌, ℕ, Bool, List, [], Option, None, Some, codes}
use Rattle.std.specs.Ordering.{nat_cmp}
use Rattle.std.specs.FinMap.{FinMap}
use Rattle.sha2.specs.Sha256.{sha256}
use Rattle.fw_outside.specs.Memory.{record_map}
use Rattle.fw_writing.specs.declared.record_write.RecordWrite.{RecordWrite}
use Rattle.fw_writing.specs.Writes.{AreDone, after_write, told_as}
use Rattle.fw_lines.specs.declared.refusal.Refusal.{Refusal}
use Rattle.fw_flow.specs.Dataflow.{Dataflow}
use Rattle.fw_flow_text.specs.Grammar.{IsAcceptedFlow}
use Rattle.fw_keep.specs.Stored.{Records}
use Rattle.fw_engine.specs.Engine.{flow_of}
use Rattle.fw_hold.specs.declared.fault.HoldFault.{HoldFault}
use Rattle.fw_hold.specs.declared.fault.HoldFault.TheVariants as hold
use Rattle.fw_hold.specs.Starting.{IsForeign}
use Rattle.fw_root.specs.declared.root.Digests.{Digests}
use Rattle.fw_running.specs.declared.fault.EngineFault.TheVariants as engine
use Rattle.fw_session.specs.Story.{Story}
use Rattle.fw_lasting.specs.declared.start.Resumed.{Resumed}
use Rattle.fw_lasting.specs.KeptStory.{HoldsStory}
use Rattle.fw_lasting.specs.Starting.{GoesOnFrom, MayStart, TellsAgain}
use Rattle.fw_lasting.specs.UnderWay.{SaysLast}
use Rattle.fw_live.specs.Life.{no_counts}
use Rattle.fw_talk.specs.declared.reply.Reply.{Reply}
use Rattle.fw_talk.specs.declared.reply.Reply.TheVariants.{Answered, NoSession}
use Rattle.fw_talk.specs.declared.reply.Reply.TheVariants as reply
use Rattle.fw_talk.specs.declared.reply.Unstarted.{Unstarted as Why}
use Rattle.fw_talk.specs.declared.reply.Unstarted.TheVariants.{Missing, Damaged, Foreign}
use Rattle.fw_talk.specs.declared.talk.Speaker.{Speaker}
use Rattle.fw_talk.specs.declared.talk.Speaker.TheVariants.{Session, Lasting, Kept, Unstarted, FlowRefused, NoMemory}
use Rattle.fw_talk.specs.Talk.{IsOpenedBy, IsSpeakingAt, reply_of}

-- ---- records that are told

-- these records were told, and there is no answer
abbrev pub IsGathering : Records → Speaker → List ℕ → Type 0
IsGathering held (Kept records) answer = (record_map records.records.entries ≡ held) × (answer ≡ [])
IsGathering held speaker answer = ⊥

-- What comes of a write that is told: it is done to the records; or memory is refused, and they stay. Where none are told all stays.
abbrev pub IsTold : ℕ → Option (List ℕ) → Speaker → Reply → Speaker → Type 0
IsTold id bytes (Kept records) Answered (Kept next) =
    record_map next.records.entries ≡ after_write (record_map records.records.entries) id bytes
IsTold id bytes (Kept records) reply.NoMemory (Kept next) = record_map next.records.entries ≡ record_map records.records.entries
IsTold id bytes (Kept records) reply next = ⊥
IsTold id bytes speaker reply next = (reply ≡ NoSession) × (next ≡ speaker)

-- ---- a start

-- the digests of a session over a flow with this text: it has neither inputs nor a schedule
abbrev pub live_digests : List ℕ → Digests
live_digests text = record { flow = sha256 text; inputs = sha256 (codes "live"); schedule = sha256 (codes "live") }

-- what whoever tells records owes: they hold a story of the flow that the text declares, if it does, or their root is one of another text
abbrev pub MayOpenFrom : List ℕ → Speaker → Type 0
MayOpenFrom text (Kept records) = (flow : Dataflow) → IsAcceptedFlow text flow
    → MayStart flow (live_digests text) (Some (record_map records.records.entries))
MayOpenFrom text speaker = Unit {0}

-- the lines that were kept last
abbrev pub lines_of : Option Resumed → List ℕ
lines_of None = []
lines_of (Some resumed) = resumed.lines

-- a session over the flow, whose roots are of these texts, is at this story, in which no line was answered; these lines were kept last, and
-- are the answer
abbrev pub IsOpenedAt : Bool → Dataflow → Digests → List ℕ → (Story → Type 0) → Speaker → List ℕ → Type 0
IsOpenedAt rests flow digests lines At (Lasting live) answer =
    (flow_of live.session.engine.engine ≡ flow) × (live.rests ≡ rests) × (live.session.digests ≡ digests) × (live.counts ≡ no_counts) × (answer ≡ lines)
    × ((first : Story) → At first → IsSpeakingAt (Lasting live) first lines)
IsOpenedAt rests flow digests lines At speaker answer = ⊥

-- From the story that the records hold a session went on: where it found no root it is at the same, else behind a start; and it has the
-- lines of the root.
pub record GoesOnAgain (flow : Dataflow) (digests : Digests) (held : Records) (story : Story) (speaker : Speaker) (answer : List ℕ) : Type 0 where
  pub found : Option Resumed
  pub first : Story
  pub goes_on : GoesOnFrom flow story found first
  pub at : IsSpeakingAt speaker first (lines_of found)
  pub answered : answer ≡ lines_of found
  pub tells : (steps : ℕ) (lines : List ℕ) → SaysLast flow digests story steps lines (Some held) → TellsAgain steps lines found

-- why no session started; nothing where memory was refused
abbrev pub reason_of : HoldFault → Option Why
reason_of (hold.Engine engine.StoreFault) = Some Missing
reason_of (hold.Engine (engine.Damaged id)) = Some Damaged
reason_of (hold.Engine engine.NoMemory) = None
reason_of (hold.DamagedRoot id) = Some Damaged
reason_of hold.ForeignRoot = Some Foreign
reason_of (hold.Out fault) = None

-- no session started, and why; there is no answer
abbrev pub IsUnstarted : HoldFault → Speaker → List ℕ → Type 0
IsUnstarted fault (Unstarted why) answer = (reason_of fault ≡ Some why) × (answer ≡ [])
IsUnstarted fault speaker answer = ⊥

-- What starts over records. Where they hold a story of the flow, a session goes on from it; if none does, the store failed, which the one
-- in memory does not. Where their root is of another text none does.
abbrev pub IsStartedOver : Dataflow → Digests → Bool → Records → Speaker → List ℕ → Type 0
IsStartedOver flow digests rests held (Lasting live) answer =
    (flow_of live.session.engine.engine ≡ flow) × (live.rests ≡ rests) × (live.session.digests ≡ digests) × (live.counts ≡ no_counts)
    × (IsForeign digests held → ⊥)
    × ((story : Story) (turn next : ℕ) → HoldsStory flow digests held story turn next
    → GoesOnAgain flow digests held story (Lasting live) answer)
IsStartedOver flow digests rests held (Unstarted why) answer = (answer ≡ [])
    × ((story : Story) (turn next : ℕ) → HoldsStory flow digests held story turn next → why ≡ Missing)
IsStartedOver flow digests rests held speaker answer = ⊥

-- what a flow's text opens over records: what starts over them; or nothing, where it is refused
abbrev pub IsStartedBy : List ℕ → Bool → Records → Speaker → List ℕ → Type 0
IsStartedBy text rests held speaker answer =
    ((flow : Dataflow) × IsAcceptedFlow text flow × IsStartedOver flow (live_digests text) rests held speaker answer)
    ⊎ ((refusal : Refusal) × IsOpenedBy text refusal speaker answer)

-- What a start makes of what records are told, and what it replies: what the text opens over them; or memory is refused, and there is
-- nothing any more. Where none are told all stays.
abbrev pub IsOpenedFrom : List ℕ → Bool → Speaker → List ℕ → Reply → Speaker → List ℕ → Type 0
IsOpenedFrom text rests (Kept records) old reply speaker answer = (reply ≡ reply_of speaker)
    × (IsStartedBy text rests (record_map records.records.entries) speaker answer ⊎ ((speaker ≡ NoMemory) × (answer ≡ [])))
IsOpenedFrom text rests speaker old reply next answer = (reply ≡ NoSession) × (next ≡ speaker) × (answer ≡ old)

-- ---- writes

-- what a talk tells of writes
abbrev pub writes_of : Speaker → List RecordWrite
writes_of (Lasting live) = live.session.store.writes.items
writes_of speaker = []

-- they were done to the records of a session that lasts
abbrev pub WereDone : Speaker → List RecordWrite → Type 0
WereDone (Lasting live) writes = AreDone (record_map live.session.store.records.entries) (told_as writes)
WereDone speaker writes = Unit {0}

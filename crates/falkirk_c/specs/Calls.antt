-- What a call does to what a handle holds, and what it answers.
use Rattle.std.specs.Prelude.{◌≡◌, ◌⊎◌, ◌<◌, ◌≤◌, ℕ, Bool, true, false, List, [], ◌++◌, length, drop, is_some, option_map, unwrap_or, slice_get}
use Rattle.std.specs.FinMap as map
use Rattle.std.specs.declared.option.Option.{Option}
use Rattle.std.specs.declared.option.Option.TheVariants.{None, Some}
use Rattle.fw_talk.specs.declared.reply.Reply.{Reply}
use Rattle.fw_talk.specs.declared.reply.Reply.TheVariants.{Answered, FlowRefused, NoMemory, NoSession, Unstarted}
use Rattle.fw_talk.specs.declared.reply.Unstarted.TheVariants.{Missing, Damaged, Foreign}
use Rattle.fw_talk.specs.declared.talk.Talk.{Talk}
use Rattle.fw_talk.specs.Talk.{IsOpenedTalk, IsLineTold, reply_of}
use Rattle.fw_talk.specs.Lasting.{IsGathering, IsOpenedFrom, IsTold, MayOpenFrom, writes_of}
use Rattle.fw_writing.specs.declared.record_write.RecordWrite.{RecordWrite}
use Rattle.falkirk_c.specs.declared.Bytes.{Bytes}
use Rattle.falkirk_c.specs.declared.Write.{Write}

-- the number of a reply
abbrev pub code_of : Reply → ℕ
code_of Answered = 0
code_of FlowRefused = 1
code_of NoMemory = 2
code_of NoSession = 3
code_of (Unstarted Missing) = 4
code_of (Unstarted Damaged) = 5
code_of (Unstarted Foreign) = 6

-- what the text of a flow opens, with the reply's number
abbrev pub IsOpenedSo : List ℕ → Bool → ℕ → Option Talk → Type 0
IsOpenedSo text rests code None = ⊥
IsOpenedSo text rests code (Some talk) = (code ≡ code_of (reply_of talk.speaker)) × IsOpenedTalk text rests talk.speaker talk.answer.items

-- 0, 1: what the text of the flow opens. 2: no memory, and the handle is as it was.
abbrev pub Opens : List ℕ → Bool → Option Talk → ℕ → Option Talk → Type 0
Opens text rests old code new = IsOpenedSo text rests code new ⊎ ((code ≡ 2) × (new ≡ old))

-- what the line does, with the reply's number; 3: there is no session
abbrev pub Tells : List ℕ → Option Talk → ℕ → Option Talk → Type 0
Tells line None code new = (code ≡ 3) × (new ≡ None)
Tells line (Some talk) code None = ⊥
Tells line (Some talk) code (Some next) =
    (code ≡ code_of (reply_of next.speaker)) × IsLineTold line talk.speaker talk.answer.items next.speaker next.answer.items

-- the bytes come first in a room that has as many, and what it had behind them stays; one that has fewer is as it was
abbrev pub IsCopied : List ℕ → List ℕ → List ℕ → Type 0
IsCopied bytes old new = (length bytes ≤ length old → new ≡ bytes ++ drop (length bytes) old) × (length old < length bytes → new ≡ old)

-- how many bytes the answer has, and these bytes where they fit into the room; where there is no session, none, and the room is as it was
abbrev pub Copies : Option Talk → List ℕ → ℕ → List ℕ → Type 0
Copies None old count new = (count ≡ 0) × (new ≡ old)
Copies (Some talk) old count new = (count ≡ length talk.answer.items) × IsCopied talk.answer.items old new

-- whether there is a session, and how many bytes its answer has; where there is none, what was told of the last one stays
abbrev pub Counts : Option Talk → Bytes → Bool → Bytes → Type 0
Counts None old found new = (found ≡ false) × (new ≡ old)
Counts (Some talk) old found new = (found ≡ true) × (new.len ≡ length talk.answer.items)

-- ---- a session that lasts

-- 0: no record was told. 2: no memory, and the handle is as it was.
abbrev pub Gathers : Option Talk → ℕ → Option Talk → Type 0
Gathers old code None = (code ≡ 2) × (old ≡ None)
Gathers old code (Some talk) =
    ((code ≡ 0) × IsGathering map.empty talk.speaker talk.answer.items) ⊎ ((code ≡ 2) × (Some talk ≡ old))

-- What comes of a write that is told, with the reply's number. 3: there is no session, or one that is told none.
abbrev pub Keeps : ℕ → Option (List ℕ) → Option Talk → ℕ → Option Talk → Type 0
Keeps id bytes None code new = (code ≡ 3) × (new ≡ None)
Keeps id bytes (Some talk) code None = ⊥
Keeps id bytes (Some talk) code (Some next) = (reply : Reply) × (code ≡ code_of reply) × (next.answer ≡ talk.answer)
    × IsTold id bytes talk.speaker reply next.speaker

-- what the caller owes: the records that were told are those of a session over the flow, or none
abbrev pub MayOpen : List ℕ → Option Talk → Type 0
MayOpen text None = Unit {0}
MayOpen text (Some talk) = MayOpenFrom text talk.speaker

-- What the text of the flow opens over the records that were told, with the reply's number. 3: there is no session, or one that is told none.
abbrev pub OpensFrom : List ℕ → Bool → Option Talk → ℕ → Option Talk → Type 0
OpensFrom text rests None code new = (code ≡ 3) × (new ≡ None)
OpensFrom text rests (Some talk) code None = ⊥
OpensFrom text rests (Some talk) code (Some next) = (reply : Reply) × (code ≡ code_of reply)
    × IsOpenedFrom text rests talk.speaker talk.answer.items reply next.speaker next.answer.items

-- the bytes that were put; none where the record was removed
abbrev pub bytes_of : RecordWrite → List ℕ
bytes_of write = unwrap_or (option_map (λ bytes. bytes.items) write.bytes) []

-- the write of this place that a talk tells
abbrev pub write_at : ℕ → Option Talk → Option RecordWrite
write_at place None = None
write_at place (Some talk) = slice_get (writes_of talk.speaker) place

-- whether there is a write, its id, whether it puts, and how many bytes it has; where there is none, what was shown of another stays
abbrev pub IsShown : Option RecordWrite → Write → Bool → Write → Type 0
IsShown None old found new = (found ≡ false) × (new ≡ old)
IsShown (Some write) old found new =
    (found ≡ true) × (new.id ≡ write.id) × (new.put ≡ is_some write.bytes) × (new.len ≡ length (bytes_of write))

-- so of the write of this place
abbrev pub Shows : ℕ → Option Talk → Write → Bool → Write → Type 0
Shows place talk old found new = IsShown (write_at place talk) old found new

-- how many bytes the write has, and these bytes where they fit into the room; where there is none, none, and the room is as it was
abbrev pub IsCopyOf : Option RecordWrite → List ℕ → ℕ → List ℕ → Type 0
IsCopyOf None old count new = (count ≡ 0) × (new ≡ old)
IsCopyOf (Some write) old count new = (count ≡ length (bytes_of write)) × IsCopied (bytes_of write) old new

abbrev pub CopiesWrite : ℕ → Option Talk → List ℕ → ℕ → List ℕ → Type 0
CopiesWrite place talk old count new = IsCopyOf (write_at place talk) old count new

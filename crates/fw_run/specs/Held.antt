-- What a call of `hold` answers.
use Rattle.std.specs.Prelude.{◌≡◌, ◌⊎◌, ℕ, ◌+◌, ◌≤◌, true, List, [], ◌++◌, length, Option, Some, IsSome}
use Rattle.fw_outside.specs.declared.fault.OutFault.{OutFault}
use Rattle.fw_outside.specs.declared.fault.OutFault.TheVariants as output
use Rattle.fw_outside.specs.Outside.{SinkView, StayIfTold}
use Rattle.fw_lines.specs.declared.refusal.Refusal.{Refusal}
use Rattle.fw_flow.specs.Dataflow.{Dataflow}
use Rattle.fw_keep.specs.Stored.{Records}
use Rattle.fw_running.specs.declared.fault.EngineFault.TheVariants as engine
use Rattle.fw_generate.specs.Texts.{Texts}
use Rattle.fw_command.specs.Command.{Command, TextNames, by_lines, run}
use Rattle.fw_command.specs.Held.{text_digests}
use Rattle.fw_command.specs.Texts.{HasTexts, Accepts, Refuses, spelled_items, spelled_system}
use Rattle.fw_command.specs.Writing.{NeverFall, IsWritten, IsCutOff}
use Rattle.fw_hold.specs.declared.fault.HoldFault.{HoldFault}
use Rattle.fw_hold.specs.declared.fault.HoldFault.TheVariants as hold
use Rattle.fw_hold.specs.Engine.{GaveBytes}
use Rattle.fw_hold.specs.Found.{GaveForeign, GaveNoRoot}
use Rattle.fw_hold.specs.Going.{HoldsKeptIn, IsCutIn}
use Rattle.fw_hold.specs.Moves.{Move, SchedulePoint, KeptPoint, MakesAll, moves_text}
use Rattle.fw_hold.specs.Starting.{BeginsAsFound, IsForeignIn, RestoresAsFound, lines_written_last, opening_text}
use Rattle.fw_run.specs.declared.status.Status.{Status}
use Rattle.fw_run.specs.declared.status.Status.TheVariants.{Done, BadWords, Refused, ReadFault, WriteFault, StoreFault, Damaged, DamagedRoot, NoMemory, ForeignRoot}
use Rattle.fw_run.specs.Answers.{Outside, Known, TellsRecords}
use Rattle.fw_run.specs.Call.{Call, CountsWrites, HasAccepted, HasRefused, IsRefusalEnd, KeepsFolder}
use Rattle.fw_run.specs.HeldTexts.{AreHeldTexts, HoldsEarlier, EarlierStarts, held_texts}
use Rattle.fw_run.specs.Printed.{done_line}
use Rattle.fw_run.specs.Status.{TellsOfRoot, read_faults_told, store_faults_told}

-- ---- a start, where the store tells its records

-- A start with these texts went on from what earlier ones left, as far as it came: the machine made these moves, one after another, and the
-- records hold what is kept behind them. Its text is what it opens with, `resumed at STEPS` and the lines of the turn that was kept last
-- where there is a root, and the lines of its moves; or nothing, where it ended before it came to open.
pub record HoldsOn (flow : Dataflow) (texts : Texts) (earlier : EarlierStarts) (records : Option Records) : Type 0 where
  pub moves : List Move
  pub now : KeptPoint
  pub last : SchedulePoint
  pub made : MakesAll (spelled_system flow texts) (spelled_items flow texts) earlier.kept earlier.kept.point moves now last
  pub begins : BeginsAsFound earlier.found moves
  pub holds : HoldsKeptIn (held_texts flow texts) (earlier.many + 1) records now
  pub text : List ℕ
  pub told : (text ≡ opening_text earlier.found earlier.kept ++ moves_text flow moves) ⊎ ((text ≡ []) × (moves ≡ []))

-- It came to the end of the schedule: it opened, behind a root it restored every node first, and no item is left.
pub record IsAllHeld (flow : Dataflow) (texts : Texts) (earlier : EarlierStarts) (records : Option Records)
    (on : HoldsOn flow texts earlier records) : Type 0 where
  pub opened : on.text ≡ opening_text earlier.found earlier.kept ++ moves_text flow on.moves
  pub restored : RestoresAsFound earlier.found on.moves
  pub none_left : on.last.ended ≡ length (spelled_items flow texts)

-- the text was cut off by this fault in the lines that were to be written last
pub record IsTextCut (flow : Dataflow) (texts : Texts) (earlier : EarlierStarts) (records : Option Records)
    (on : HoldsOn flow texts earlier records) (fault : OutFault) (before after : SinkView) : Type 0 where
  pub first : List ℕ
  pub parts : on.text ≡ first ++ lines_written_last earlier.found earlier.kept on.moves on.now
  pub cut : IsCutIn first (lines_written_last earlier.found earlier.kept on.moves on.now) fault before after

-- all was done and the text written, and the last line was cut off by this fault
pub record IsLineCut (flow : Dataflow) (texts : Texts) (earlier : EarlierStarts) (records : Option Records)
    (on : HoldsOn flow texts earlier records) (fault : OutFault) (before after : SinkView) : Type 0 where
  pub all : IsAllHeld flow texts earlier records on
  pub cut : IsCutIn on.text (done_line on.last.steps on.last.idle) fault before after

-- the text was cut off, or the last line was
abbrev pub IsCutByOutput : (flow : Dataflow) (texts : Texts) (earlier : EarlierStarts) (records : Option Records)
    → HoldsOn flow texts earlier records → OutFault → SinkView → SinkView → Type 0
IsCutByOutput flow texts earlier records on fault before after =
    IsTextCut flow texts earlier records on fault before after ⊎ IsLineCut flow texts earlier records on fault before after

-- What is written at this status. 0: all was done, and the text and the last line were written. 7: it was cut off. 8: the text. 10: the
-- text, or it was cut off. No other status is answered.
abbrev pub WritesHeld : (flow : Dataflow) (texts : Texts) (earlier : EarlierStarts) (records : Option Records)
    → HoldsOn flow texts earlier records → Status → SinkView → SinkView → Type 0
WritesHeld flow texts earlier records on Done before after =
    IsAllHeld flow texts earlier records on × IsWritten (on.text ++ done_line on.last.steps on.last.idle) before after
WritesHeld flow texts earlier records on BadWords before after = ⊥
WritesHeld flow texts earlier records on (Refused refusal) before after = ⊥
WritesHeld flow texts earlier records on ReadFault before after = ⊥
WritesHeld flow texts earlier records on WriteFault before after = IsCutByOutput flow texts earlier records on output.Failed before after
WritesHeld flow texts earlier records on StoreFault before after = IsWritten on.text before after
WritesHeld flow texts earlier records on (Damaged id) before after = ⊥
WritesHeld flow texts earlier records on (DamagedRoot id) before after = ⊥
WritesHeld flow texts earlier records on NoMemory before after =
    IsWritten on.text before after ⊎ IsCutByOutput flow texts earlier records on output.NoMemory before after
WritesHeld flow texts earlier records on ForeignRoot before after = ⊥

-- it went on from what earlier starts left, and wrote this at its status
pub record GoesOnFrom (flow : Dataflow) (texts : Texts) (earlier : EarlierStarts) (records : Option Records) (status : Status)
    (before after : SinkView) : Type 0 where
  pub on : HoldsOn flow texts earlier records
  pub wrote : WritesHeld flow texts earlier records on status before after

-- ---- a start

-- a root of other texts is told, unless the store fails or memory is refused before it is known
abbrev pub IsForeignEnd : Status → Type 0
IsForeignEnd status = (status ≡ ForeignRoot) ⊎ ((status ≡ StoreFault) ⊎ (status ≡ NoMemory))

-- A start with these texts ended with this status.
pub record EndsHeld {F K O : Type 0} (known : Known F K O) (flow : Dataflow) (texts : Texts) (before : Outside F K O) (status : Status)
    (after : Outside F K O) : Type 0 where
  -- Where the store tells its records at the end, and held what earlier starts with these texts left, it went on from there.
  pub goes_on : (earlier : EarlierStarts) → HoldsEarlier flow texts (known.store before.store).records earlier → TellsRecords known after
      → GoesOnFrom flow texts earlier (known.store after.store).records status (known.out before.out) (known.out after.out)
  -- Where it tells them, and the root that counts is one of other texts, nothing was written, and the records are as they were.
  pub foreign : IsForeignIn (text_digests texts) (known.store before.store).records → TellsRecords known after
      → IsForeignEnd status × (after.out ≡ before.out) × ((known.store after.store).records ≡ (known.store before.store).records)
  -- 11: the store gave bytes that begin as a root of other texts; where it tells its records, the root that counts there is one.
  pub foreign_root : status ≡ ForeignRoot → GaveForeign (text_digests texts) (known.store after.store).given
      × (TellsRecords known after → IsForeignIn (text_digests texts) (known.store before.store).records)
  -- 9 `damaged root`: the store, which does not tell its records, gave under the id, which is one of a root, bytes that are none.
  pub damaged_root : (id : ℕ) → status ≡ DamagedRoot id
      → GaveNoRoot (held_texts flow texts) id (known.store after.store).given × (TellsRecords known after → ⊥)
  -- 9 `damaged record`: the store, which does not tell its records, gave bytes under the id last. That these spell no record of a write is not
  -- said here.
  pub damaged : (id : ℕ) → status ≡ Damaged id → GaveBytes id (known.store after.store).given × (TellsRecords known after → ⊥)
  -- 9 `damaged root` and 11, whatever the store tells: nothing was written, and the store has what it had.
  pub of_root : TellsOfRoot status
      → (after.out ≡ before.out) × StayIfTold (known.store before.store).records (known.store after.store).records

-- the status that tells why a start ended before all was done
abbrev pub held_status : HoldFault → Status
held_status (hold.Out output.Failed) = WriteFault
held_status (hold.Out output.NoMemory) = NoMemory
held_status (hold.Engine engine.StoreFault) = StoreFault
held_status (hold.Engine (engine.Damaged id)) = Damaged id
held_status (hold.Engine engine.NoMemory) = NoMemory
held_status (hold.DamagedRoot id) = DamagedRoot id
held_status hold.ForeignRoot = ForeignRoot

-- what the status at the end says of the last line: it was written, or cut off
abbrev pub TellsEnd : List ℕ → Status → SinkView → SinkView → Type 0
TellsEnd line Done before after = IsWritten line before after
TellsEnd line BadWords before after = ⊥
TellsEnd line (Refused refusal) before after = ⊥
TellsEnd line ReadFault before after = ⊥
TellsEnd line WriteFault before after = IsCutOff line output.Failed before after
TellsEnd line StoreFault before after = ⊥
TellsEnd line (Damaged id) before after = ⊥
TellsEnd line (DamagedRoot id) before after = ⊥
TellsEnd line NoMemory before after = IsCutOff line output.NoMemory before after
TellsEnd line ForeignRoot before after = ⊥

-- ---- a call

-- the call that reads the same texts
abbrev pub reads_texts : TextNames → Option (List ℕ → Option (List ℕ)) → Call
reads_texts names told = record { command = Some (run by_lines names); told = told }

-- the texts were not read: one is refused, the folder failed, or memory was refused
abbrev pub IsUnread : Status → Type 0
IsUnread Done = ⊥
IsUnread BadWords = ⊥
IsUnread (Refused refusal) = Unit {0}
IsUnread ReadFault = Unit {0}
IsUnread WriteFault = ⊥
IsUnread StoreFault = ⊥
IsUnread (Damaged id) = ⊥
IsUnread (DamagedRoot id) = ⊥
IsUnread NoMemory = Unit {0}
IsUnread ForeignRoot = ⊥

-- a start ended so: 0, or 7 to 11
abbrev pub IsHeldEnd : Status → Type 0
IsHeldEnd Done = Unit {0}
IsHeldEnd BadWords = ⊥
IsHeldEnd (Refused refusal) = ⊥
IsHeldEnd ReadFault = ⊥
IsHeldEnd WriteFault = Unit {0}
IsHeldEnd StoreFault = Unit {0}
IsHeldEnd (Damaged id) = Unit {0}
IsHeldEnd (DamagedRoot id) = Unit {0}
IsHeldEnd NoMemory = Unit {0}
IsHeldEnd ForeignRoot = Unit {0}

-- no start was made: nothing was written, and the store is as it was
pub record IsNoStart {F K O : Type 0} (before : Outside F K O) (status : Status) (after : Outside F K O) : Type 0 where
  pub unread : IsUnread status
  pub out : after.out ≡ before.out
  pub store : after.store ≡ before.store

-- a start was made with accepted texts, which the folder has under these names
pub record HasStarted {F K O : Type 0} (known : Known F K O) (names : TextNames) (before : Outside F K O) (status : Status) (after : Outside F K O)
    : Type 0 where
  pub flow : Dataflow
  pub texts : Texts
  pub read : AreHeldTexts (known.texts before.folder) names flow texts
  pub is_end : IsHeldEnd status
  pub ends : EndsHeld known flow texts before status after

-- Texts that are there are accepted, or one of them is the first that is refused. Where the folder tells its texts, that one is refused,
-- and with accepted ones a start is made; unless the folder fails or memory is refused.
pub record StartsOrRefuses (call : Call) (status : Status) : Type 0 where
  pub decided : (command : Command) (texts : Texts) → HasTexts call.told command.texts texts
      → ((flow : Dataflow) × Accepts command.texts texts flow) ⊎ ((refusal : Refusal) × Refuses call.told command.texts refusal)
  pub refuses : (refusal : Refusal) → IsSome call.told → HasRefused call refusal → IsRefusalEnd refusal status
  pub starts : (texts : Texts) → HasAccepted call texts → IsSome call.told → IsHeldEnd status ⊎ (status ≡ ReadFault)

-- What is true of a call of `hold` with this status.
pub record HeldAnswers {F K O : Type 0} (known : Known F K O) (names : TextNames) (before : Outside F K O) (status : Status) (after : Outside F K O)
    : Type 0 where
  -- 3 to 6, and 10 where memory was refused before the texts were read; or 0 and 7 to 11: a start was made.
  pub start : IsNoStart before status after ⊎ HasStarted known names before status after
  -- 3 to 5: the first of the texts that is not accepted breaks this rule first, on this line.
  pub refused : (refusal : Refusal) → status ≡ Refused refusal → HasRefused (reads_texts names (known.texts before.folder)) refusal
  -- 6: the folder failed. Its count of faults is one more there, and at no other status.
  pub read_fault : known.read_faults after.folder ≡ read_faults_told status (known.read_faults before.folder)
  -- Whatever the status: what was asked of the folder is what a run asks. The store failed once at 8 and else never, the output once at 7
  -- and else never, and no count falls. A store that tells its records at the end told them before.
  pub folder : KeepsFolder known.texts known.fetches (Some (run by_lines names)) status before.folder after.folder
  pub store_count : (known.store after.store).faults ≡ store_faults_told status (known.store before.store).faults
  pub out_count : CountsWrites status (known.out before.out) (known.out after.out)
  pub never_fall : (known.read_faults before.folder ≤ known.read_faults after.folder)
      × ((known.store before.store).faults ≤ (known.store after.store).faults) × NeverFall (known.out before.out) (known.out after.out)
  pub told_before : TellsRecords known after → TellsRecords known before
  -- Which texts are refused, and with which a start is made.
  pub answer : StartsOrRefuses (reads_texts names (known.texts before.folder)) status

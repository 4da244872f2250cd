-- What a call of `falkirk_live` promises.
use Rattle.std.specs.Prelude.{◌≡◌, ◌≢◌, ◌⊎◌, ◌↔◌, ◌≤◌, ◌==◌, ℕ, Bool, true, if◌then◌else◌, List, [], ◌++◌, length, Option, Some, None, IsSome, option_map}
use Rattle.std.specs.List.{AllByRecursion}
use Rattle.fw_outside.specs.declared.fault.OutFault.TheVariants as out
use Rattle.fw_outside.specs.Outside.{StoreView, SinkView, one_more}
use Rattle.fw_lines.specs.declared.refusal.Refusal.{Refusal}
use Rattle.fw_flow.specs.Dataflow.{Dataflow}
use Rattle.fw_session.specs.Story.{Story, IsStory, opening}
use Rattle.fw_command.specs.declared.reading.JobFault.{JobFault}
use Rattle.fw_command.specs.declared.reading.JobFault.TheVariants as job
use Rattle.fw_command.specs.Texts.{HasFlow, IsFlowRefused}
use Rattle.fw_command.specs.Writing.{IsWritten, IsCutOff, WritesText}
use Rattle.fw_run.specs.declared.status.Status.{Status}
use Rattle.fw_run.specs.declared.status.Status.TheVariants.{Done, BadWords, Refused, ReadFault, WriteFault, StoreFault, Damaged, NoMemory}
use Rattle.fw_run.specs.Status.{TellsOfRoot}
use Rattle.fw_live.specs.declared.counts.LineCounts.{LineCounts}
use Rattle.fw_live.specs.declared.fault.ServeFault.{ServeFault}
use Rattle.fw_live.specs.declared.fault.ServeFault.TheVariants.{Read, Write, Store}
use Rattle.fw_live.specs.declared.fault.ServeFault.TheVariants as serve
use Rattle.fw_live.specs.Answers.{Answer, IsFaultless, IsUnharmed}
use Rattle.fw_live.specs.Asked.{LineIn}
use Rattle.fw_live.specs.Life.{AreAnswers, answers_text, counts_behind, counts_line, no_counts}
use Rattle.fw_live.specs.Serving.{AreLinesReliedOn, IsCutInLast, LinesFailed}
use Rattle.fw_live.specs.Words.{LiveCommand}

-- ---- how it ends

-- the status by how often the store failed, and by the first record that was damaged
abbrev pub status_of : Option ℕ → ℕ → Status
status_of (Some id) faults = Damaged id
status_of None faults = if faults == 0 then Done else StoreFault

-- the status of a session that answered all lines, by what was counted
abbrev pub status_by : LineCounts → Status
status_by counts = status_of counts.damaged counts.faults

-- a call that ends so answered all lines that came in: all went well; the store failed in some; or a record was damaged
abbrev pub EndsWhole : Status → Type 0
EndsWhole Done = Unit {0}
EndsWhole StoreFault = Unit {0}
EndsWhole (Damaged id) = Unit {0}
EndsWhole status = ⊥

-- one that ends so may have ended before: what is outside failed, or memory was refused
abbrev pub EndsBefore : Status → Type 0
EndsBefore ReadFault = Unit {0}
EndsBefore WriteFault = Unit {0}
EndsBefore NoMemory = Unit {0}
EndsBefore status = ⊥

-- one that ends so may have done nothing: its folder failed, or memory was refused
abbrev pub EndsQuiet : Status → Type 0
EndsQuiet ReadFault = Unit {0}
EndsQuiet NoMemory = Unit {0}
EndsQuiet status = ⊥

-- one that ends so did not begin: its words are bad, or the text of its flow is refused
abbrev pub EndsUnbegun : Status → Type 0
EndsUnbegun BadWords = Unit {0}
EndsUnbegun (Refused refusal) = Unit {0}
EndsUnbegun status = ⊥

-- the status of a call whose flow was not read
abbrev pub unread_status : JobFault → Status
unread_status job.Failed = ReadFault
unread_status (job.Refused refusal) = Refused refusal
unread_status job.NoMemory = NoMemory

-- the status of a call that was stopped
abbrev pub stopped_status : ServeFault → Status
stopped_status Read = ReadFault
stopped_status Write = WriteFault
stopped_status Store = StoreFault
stopped_status serve.NoMemory = NoMemory

-- ---- stores of a kind

-- each tells its records, whatever comes
abbrev pub TellAlways : {K : Type 0} → (K → StoreView) → Type 0
TellAlways {K} view = (store : K) → IsSome (view store).records

-- none ever fails
abbrev pub NeverFail : {K : Type 0} → (K → StoreView) → Type 0
NeverFail {K} view = (store : K) → (view store).faults ≡ 0

-- Over stores of a kind the answers tell that nothing went wrong: none is `damaged ID`, where each tells its records, and none is `fault`, where
-- none ever fails.
pub record GoWellOver {K : Type 0} (view : K → StoreView) (answers : List Answer) : Type 0 where
  pub unharmed : TellAlways view → AllByRecursion IsUnharmed answers
  pub faultless : NeverFail view → AllByRecursion IsFaultless answers

-- ---- what is printed

-- The text is that of the answers to these lines, from the opening of a session on, up to a story too, and behind it the line of what was
-- counted, which the status tells too.
pub record IsLiveText {K : Type 0} (view : K → StoreView) (rests : Bool) (flow : Dataflow) (lines : List LineIn) (status : Status)
    (printed : List ℕ) : Type 0 where
  pub answers : List Answer
  pub last : Story
  pub are : AreAnswers rests flow (opening flow) lines answers last
  pub of_story : IsStory flow last
  pub go_well : GoWellOver view answers
  pub text : printed ≡ answers_text flow no_counts answers ++ counts_line (counts_behind answers no_counts)
  pub told : status ≡ status_by (counts_behind answers no_counts)

-- the steps of lines can be relied on over any store of a kind: it always tells its records, or no line asks for a recovery
abbrev pub AreReliedOnOver : {K : Type 0} → (K → StoreView) → Dataflow → List LineIn → Type 0
AreReliedOnOver {K} view flow lines = (store : K) → AreLinesReliedOn (view store).records flow lines

-- These lines came in, and what is printed of them was written, where their steps can be relied on.
pub record AnswersAll {K : Type 0} (view : K → StoreView) (rests : Bool) (flow : Dataflow) (given gives : Option (List LineIn)) (status : Status)
    (before after : SinkView) : Type 0 where
  pub lines : List LineIn
  pub gave : gives ≡ option_map (λ earlier. earlier ++ lines) given
  pub printed : AreReliedOnOver view flow lines
      → WritesText (IsLiveText view rests flow lines status) (λ text. IsWritten text before after)

-- how much of these answers was written where the call ends so before: all; or all but the last, and of that one first bytes
abbrev pub IsPutAt : Dataflow → Status → SinkView → SinkView → List Answer → Type 0
IsPutAt flow ReadFault before after answers = IsWritten (answers_text flow no_counts answers) before after
IsPutAt flow WriteFault before after answers = IsCutInLast flow no_counts answers out.Failed before after
IsPutAt flow NoMemory before after answers =
    IsWritten (answers_text flow no_counts answers) before after ⊎ IsCutInLast flow no_counts answers out.NoMemory before after
IsPutAt flow status before after answers = ⊥

-- the line was cut off where a call ends so
abbrev pub IsLineCutAt : Status → List ℕ → SinkView → SinkView → Type 0
IsLineCutAt WriteFault line before after = IsCutOff line out.Failed before after
IsLineCutAt NoMemory line before after = IsCutOff line out.NoMemory before after
IsLineCutAt status line before after = ⊥

-- these answers were written, and of the line of what was counted first bytes; or at 10 all of it
abbrev pub IsEndPutAt : Dataflow → Status → SinkView → SinkView → List Answer → Type 0
IsEndPutAt flow status before after answers =
    ((between : SinkView) × IsWritten (answers_text flow no_counts answers) before between
    × IsLineCutAt status (counts_line (counts_behind answers no_counts)) between after)
    ⊎ ((status ≡ NoMemory) × IsWritten (answers_text flow no_counts answers ++ counts_line (counts_behind answers no_counts)) before after)

-- How much was written of the answers to these lines where the call ends so before; or, where all that came were answered, of the last line too.
abbrev pub IsPartPut : Dataflow → List LineIn → Bool → Status → SinkView → SinkView → List Answer → Type 0
IsPartPut flow unanswered ended status before after answers = IsPutAt flow status before after answers
    ⊎ ((ended ≡ true) × (unanswered ≡ []) × IsEndPutAt flow status before after answers)

-- From the opening of a session on these lines were answered, up to a story too, and of the answers this is true.
pub record PutsAnswers {K : Type 0} (view : K → StoreView) (rests : Bool) (flow : Dataflow) (lines : List LineIn) (IsPut : List Answer → Type 0)
    : Type 0 where
  pub answers : List Answer
  pub last : Story
  pub are : AreAnswers rests flow (opening flow) lines answers last
  pub of_story : IsStory flow last
  pub go_well : GoWellOver view answers
  pub put : IsPut answers

-- These lines came in, and perhaps one more, but none where the source of lines failed; and of what is printed of them this much was written.
pub record AnswersPart {K : Type 0} (view : K → StoreView) (rests : Bool) (flow : Dataflow) (given gives : Option (List LineIn)) (ended : Bool)
    (status : Status) (before after : SinkView) : Type 0 where
  pub lines : List LineIn
  pub unanswered : List LineIn
  pub one : length unanswered ≤ 1
  pub none_left : status ≡ ReadFault → unanswered ≡ []
  pub gave : gives ≡ option_map (λ earlier. earlier ++ (lines ++ unanswered)) given
  pub printed : AreReliedOnOver view flow lines → PutsAnswers view rests flow lines (IsPartPut flow unanswered ended status before after)

-- no line came in, and nothing was written
abbrev pub StaysQuiet : Option (List LineIn) → Option (List LineIn) → SinkView → SinkView → Type 0
StaysQuiet given gives before after = (gives ≡ given) × (after ≡ before)

-- What is true of a session over a flow that ended so: each line was answered, up to the end of the lines; or it ended before.
pub record FlowAnswers {K : Type 0} (view : K → StoreView) (rests : Bool) (flow : Dataflow) (given gives : Option (List LineIn)) (ended : Bool)
    (status : Status) (before after : SinkView) : Type 0 where
  pub whole : EndsWhole status → AnswersAll view rests flow given gives status before after × (ended ≡ true)
  pub part : EndsBefore status
      → (EndsQuiet status × StaysQuiet given gives before after) ⊎ AnswersPart view rests flow given gives ended status before after
  pub begun : EndsUnbegun status → ⊥
  pub unharmed : TellAlways view → (id : ℕ) → status ≢ Damaged id
  pub faultless : NeverFail view → status ≢ StoreFault
  pub no_root : TellsOfRoot status → ⊥

-- ---- a call

-- the words are a session's command, and the text of its flow is refused so
pub record HasFlowRefused (told : Option (List ℕ → Option (List ℕ))) (command : Option LiveCommand) (refusal : Refusal) : Type 0 where
  pub live : LiveCommand
  pub words : command ≡ Some live
  pub refused : IsFlowRefused told live.flow refusal

-- the words are a session's command, whose text declares a dataflow, and this is true of it
pub record HasFlowSo (told : Option (List ℕ → Option (List ℕ))) (command : Option LiveCommand) (IsSo : Bool → Dataflow → Type 0) : Type 0 where
  pub live : LiveCommand
  pub words : command ≡ Some live
  pub flow : Dataflow
  pub declared : HasFlow told live.flow flow
  pub so : IsSo live.rests flow

-- What is true of a call with this status.
pub record LiveAnswers {K : Type 0} (view : K → StoreView) (told : Option (List ℕ → Option (List ℕ))) (command : Option LiveCommand)
    (given gives : Option (List LineIn)) (ended : Bool) (status : Status) (before after : SinkView) : Type 0 where
  -- 0, 8, 9: the lines that came in, up to their end, were answered, each once and in order; the answers and the line of what was
  -- counted were written. 9: some line was answered `damaged`, first with this id. 8: some line was answered `fault`, and none so.
  pub whole : EndsWhole status
      → HasFlowSo told command (λ rests flow. AnswersAll view rests flow given gives status before after) × (ended ≡ true)
  -- 2: exactly where the words are no such command.
  pub bad_words : (status ≡ BadWords) ↔ (command ≡ None)
  -- 3: the text of the flow breaks this rule first, on this line.
  pub refused : (refusal : Refusal) → status ≡ Refused refusal → HasFlowRefused told command refusal
  -- 6: nothing was done, as the folder failed; or the source of lines failed, and what came before was answered, and the answers written.
  -- 7: the output failed, and all answers but the last were written, and first bytes of that one; or all, and first bytes of the last line.
  -- 10: at any time; nothing was written, or so much, or all.
  pub part : EndsBefore status → (EndsQuiet status × StaysQuiet given gives before after)
      ⊎ HasFlowSo told command (λ rests flow. AnswersPart view rests flow given gives ended status before after)
  -- 2, 3: no line came in, and nothing was written.
  pub unbegun : EndsUnbegun status → StaysQuiet given gives before after
  -- 9: never over stores of which each tells its records. 8: never over stores of which none ever fails.
  pub unharmed : TellAlways view → (id : ℕ) → status ≢ Damaged id
  pub faultless : NeverFail view → status ≢ StoreFault
  -- 9 `damaged root` and 11: never.
  pub no_root : TellsOfRoot status → ⊥

-- Over stores of a kind a session's command ends neither with 8 nor with 9, whatever comes in, and no answer is `fault` or `damaged ID`.
pub record LivesGoWell {K : Type 0} (view : K → StoreView) : Type 0 where
  pub ends : (told : Option (List ℕ → Option (List ℕ))) (command : Option LiveCommand) (given gives : Option (List LineIn)) (ended : Bool)
      (status : Status) (before after : SinkView) → LiveAnswers view told command given gives ended status before after
      → (status ≢ StoreFault) × ((id : ℕ) → status ≢ Damaged id)
  pub answers : (list : List Answer) → GoWellOver view list → AllByRecursion IsFaultless list × AllByRecursion IsUnharmed list
  -- each line can be relied on
  pub relied : (flow : Dataflow) (lines : List LineIn) → AreReliedOnOver view flow lines

-- The folder keeps its texts. It was not asked where the words are no such command, and else once.
pub record KeepsFlow {F : Type 0} (texts : F → Option (List ℕ → Option (List ℕ))) (fetch_count : F → ℕ) (command : Option LiveCommand)
    (before after : F) : Type 0 where
  pub texts_stay : texts after ≡ texts before
  pub no_words : command ≡ None → after ≡ before
  pub asked : (live : LiveCommand) → command ≡ Some live → fetch_count after ≡ one_more (fetch_count before)

-- how often the folder failed, and the source of lines
pub record ReadFaults : Type 0 where
  pub folder : ℕ
  pub lines : ℕ

-- The folder failed once, before a line came in and before anything was written.
pub record FailsByFolder (given gives : Option (List LineIn)) (before after : ReadFaults) (out out2 : SinkView) : Type 0 where
  pub once : after.folder ≡ one_more before.folder
  pub lines : after.lines ≡ before.lines
  pub quiet : StaysQuiet given gives out out2

-- The source of lines failed once, in a session over a flow; or it gave 2^64 - 1 lines, and did not fail.
pub record FailsByLines (given gives : Option (List LineIn)) (IsBegun : Type 0) (before after : ReadFaults) : Type 0 where
  pub folder : after.folder ≡ before.folder
  pub begun : IsBegun
  pub failed : LinesFailed given gives before.lines after.lines

-- how often the source of lines failed in a session over a flow, where the status tells it, and else
pub record CountsSession (status : Status) (given gives : Option (List LineIn)) (before after : ℕ) : Type 0 where
  pub read_fault : status ≡ ReadFault → LinesFailed given gives before after
  pub no_read_fault : status ≢ ReadFault → after ≡ before

-- How often the call failed to read: where its status tells it, the folder failed, or the source of lines did; and else neither.
pub record CountsReads (told : Option (List ℕ → Option (List ℕ))) (command : Option LiveCommand) (status : Status)
    (given gives : Option (List LineIn)) (before after : ReadFaults) (out out2 : SinkView) : Type 0 where
  pub read_fault : status ≡ ReadFault → FailsByFolder given gives before after out out2
      ⊎ FailsByLines given gives (HasFlowSo told command (λ rests flow. Unit {0})) before after
  pub no_read_fault : status ≢ ReadFault → (after.folder ≡ before.folder) × (after.lines ≡ before.lines)

-- What a call of `falkirk_lasting` promises.
use Rattle.std.specs.Prelude.{◌≡◌, ◌≢◌, ◌⊎◌, ◌↔◌, ◌≤◌, ℕ, Bool, true, List, [], ◌++◌, length, Option, Some, None, IsSome, codes, option_map, option_and_then}
use Rattle.std.specs.List.{AllByRecursion}
use Rattle.std.specs.Option.{ForSome}
use Rattle.sha2.specs.Sha256.{sha256}
use Rattle.fw_outside.specs.declared.fault.OutFault.{OutFault}
use Rattle.fw_outside.specs.declared.fault.OutFault.TheVariants as out
use Rattle.fw_outside.specs.Outside.{StoreView, SinkView, IsText, StayIfTold}
use Rattle.fw_lines.specs.declared.refusal.Refusal.{Refusal}
use Rattle.fw_flow.specs.declared.choice.Choice.{Choice}
use Rattle.fw_flow.specs.Dataflow.{Dataflow}
use Rattle.fw_flow_text.specs.Grammar.{IsAcceptedFlow}
use Rattle.fw_keep.specs.Stored.{Records}
use Rattle.fw_model.specs.Steps.{cuts, did}
use Rattle.fw_root.specs.declared.root.Digests.{Digests}
use Rattle.fw_session.specs.Story.{Story, IsStory}
use Rattle.fw_command.specs.Texts.{HasFlow}
use Rattle.fw_command.specs.Writing.{IsWritten, IsCutOff}
use Rattle.fw_hold.specs.declared.fault.HoldFault.{HoldFault}
use Rattle.fw_hold.specs.declared.fault.HoldFault.TheVariants as hold
use Rattle.fw_hold.specs.Starting.{IsForeignIn}
use Rattle.fw_running.specs.declared.fault.EngineFault.TheVariants as engine
use Rattle.fw_run.specs.declared.status.Status.{Status}
use Rattle.fw_run.specs.declared.status.Status.TheVariants.{Done, BadWords, Refused, ReadFault, WriteFault, StoreFault, Damaged, DamagedRoot, NoMemory, ForeignRoot}
use Rattle.fw_run.specs.Held.{IsForeignEnd}
use Rattle.fw_run.specs.Status.{TellsOfRoot}
use Rattle.fw_lasting.specs.Again.{IsStartBehind}
use Rattle.fw_lasting.specs.KeptStory.{HoldsStory}
use Rattle.fw_lasting.specs.Starting.{MayStart}
use Rattle.fw_lasting.specs.UnderWay.{SaysLast}
use Rattle.fw_live.specs.Answers.{Answer, IsUnharmed}
use Rattle.fw_live.specs.Asked.{LineIn}
use Rattle.fw_live.specs.Call.{EndsQuiet, EndsUnbegun, HasFlowRefused, StaysQuiet, status_by}
use Rattle.fw_live.specs.Life.{AreAnswers, answers_text, counts_behind, counts_line, kept_behind, no_counts}
use Rattle.fw_live.specs.Serving.{IsCutInLast}
use Rattle.fw_live.specs.Words.{LiveCommand}
use Rattle.fw_relive.specs.Opening.{Restart, lines_found, opened_text}

-- ---- texts and stores

-- the digests of a session over a flow with this text: it has neither inputs nor a schedule
abbrev pub live_digests : List ℕ → Digests
live_digests text = record { flow = sha256 text; inputs = sha256 (codes "live"); schedule = sha256 (codes "live") }

-- the words are a session's command, and this is the text of its flow, which declares the dataflow
pub record IsFlowText (told : Option (List ℕ → Option (List ℕ))) (command : Option LiveCommand) (live : LiveCommand) (text : List ℕ)
    (flow : Dataflow) : Type 0 where
  pub words : command ≡ Some live
  pub there : IsText told live.flow text
  pub declared : IsAcceptedFlow text flow

-- What a call asks of its store: where it tells its records, it holds a story of the flow that is read, or a root of other texts.
abbrev pub MayBeginOver : Option (List ℕ → Option (List ℕ)) → Option LiveCommand → Option Records → Type 0
MayBeginOver told command records = (live : LiveCommand) (text : List ℕ) (flow : Dataflow) → IsFlowText told command live text flow
    → MayStart flow (live_digests text) records

-- what a store tells of its records that a call gave back, if it did
abbrev pub records_in : {K : Type 0} → (K → StoreView) → Option K → Option Records
records_in view store = option_and_then (λ left. (view left).records) store

-- a call gives its store back; or memory was refused, and no line came in
abbrev pub GivesBack : {K : Type 0} → Option K → Status → Option (List LineIn) → Option (List LineIn) → Type 0
GivesBack (Some store) status given gives = Unit {0}
GivesBack None status given gives = (status ≡ NoMemory) × (gives ≡ given)

-- ---- a start, where the store tells its records

-- the status that tells why a session did not start; a start writes nothing
abbrev pub unstarted_status : HoldFault → Status
unstarted_status (hold.Out fault) = NoMemory
unstarted_status (hold.Engine engine.StoreFault) = StoreFault
unstarted_status (hold.Engine (engine.Damaged id)) = Damaged id
unstarted_status (hold.Engine engine.NoMemory) = NoMemory
unstarted_status (hold.DamagedRoot id) = DamagedRoot id
unstarted_status hold.ForeignRoot = ForeignRoot

-- From the story that the records hold a start went on so, and is at this one: where it found no root, at the same; else behind a failure of
-- every node, and the recovery that it tells, with the steps and the lines of the root.
abbrev pub GoesOnBehind : Dataflow → Story → Option Restart → Story → Type 0
GoesOnBehind flow story None first = first ≡ story
GoesOnBehind flow story (Some found) first =
    (choice : Choice) × IsStartBehind flow story choice first × (found.outcome ≡ did (cuts choice))

-- these are the steps and the lines that a start found
abbrev pub AreOfRoot : Option Restart → ℕ → List ℕ → Type 0
AreOfRoot None steps lines = ⊥
AreOfRoot (Some found) steps lines = (found.steps ≡ steps) × (found.lines ≡ lines)

-- Over records that hold a story a start went on from there, and found the root of it, if there is one.
pub record StartsFrom (flow : Dataflow) (digests : Digests) (held : Records) (story : Story) (found : Option Restart) (first : Story) : Type 0 where
  pub goes_on : GoesOnBehind flow story found first
  pub of_root : (steps : ℕ) (lines : List ℕ) → SaysLast flow digests story steps lines (Some held) → AreOfRoot found steps lines

-- ---- its lines

-- what the store keeps at the end: the story, and in its root these lines
abbrev pub KeepsAtEnd : Dataflow → Digests → Option Records → Story → List ℕ → Type 0
KeepsAtEnd flow digests records story lines = ForSome records (λ held. (turn : ℕ) × (next : ℕ) × (steps : ℕ)
    × HoldsStory flow digests held story turn next × SaysLast flow digests story steps lines (Some held))

-- all that was opened with was written, and of the answers all but the last, and of that one first bytes; or first bytes of what was opened
-- with, where nothing was answered; then the output failed so
abbrev pub IsCutBehind : Dataflow → List ℕ → List Answer → OutFault → SinkView → SinkView → Type 0
IsCutBehind flow opened answers fault before after =
    ((between : SinkView) × IsWritten opened before between × IsCutInLast flow no_counts answers fault between after)
    ⊎ ((answers ≡ []) × IsCutOff opened fault before after)

-- all was written, and of the last line first bytes; then the output failed so
abbrev pub IsCutInEnd : List ℕ → List ℕ → OutFault → SinkView → SinkView → Type 0
IsCutInEnd text line fault before after = (between : SinkView) × IsWritten text before between × IsCutOff line fault between after

-- How much was written where a call ends so, of its text, or of all, with the last line behind it. 0: all, and the status is as the last line
-- counts. 6: the text. 7: it was cut off, or the last line. 8: all, and the status is so; or the text. 10: at any time.
abbrev pub WritesAt : Status → Type 0 → Status → List ℕ → List ℕ → (OutFault → SinkView → SinkView → Type 0) → SinkView → SinkView → Type 0
WritesAt Done IsEnd told text line IsCut before after = IsEnd × (told ≡ Done) × IsWritten (text ++ line) before after
WritesAt ReadFault IsEnd told text line IsCut before after = IsWritten text before after
WritesAt WriteFault IsEnd told text line IsCut before after =
    IsCut out.Failed before after ⊎ (IsEnd × IsCutInEnd text line out.Failed before after)
WritesAt StoreFault IsEnd told text line IsCut before after =
    IsWritten text before after ⊎ (IsEnd × (told ≡ StoreFault) × IsWritten (text ++ line) before after)
WritesAt NoMemory IsEnd told text line IsCut before after =
    IsWritten text before after ⊎ (IsCut out.NoMemory before after ⊎ (IsEnd × IsCutInEnd text line out.NoMemory before after))
WritesAt status IsEnd told text line IsCut before after = ⊥

-- Behind what was opened with, these lines came in, and perhaps one more, but none at 6; from this story on they were answered, each once and
-- in order, no answer is `damaged ID`, and so much of the text was written. Where the last line was begun, all lines that came were answered,
-- and of the last story and the lines that are kept then this is true.
pub record AnswersBehind (rests : Bool) (flow : Dataflow) (opened kept : List ℕ) (first : Story) (IsKept : Story → List ℕ → Type 0)
    (given gives : Option (List LineIn)) (ended : Bool) (status : Status) (before after : SinkView) : Type 0 where
  pub lines : List LineIn
  pub unanswered : List LineIn
  pub one : length unanswered ≤ 1
  pub none_left : status ≡ ReadFault → unanswered ≡ []
  pub gave : gives ≡ option_map (λ earlier. earlier ++ (lines ++ unanswered)) given
  pub answers : List Answer
  pub last : Story
  pub are : AreAnswers rests flow first lines answers last
  pub of_story : IsStory flow last
  pub unharmed : AllByRecursion IsUnharmed answers
  pub wrote : WritesAt status ((ended ≡ true) × (unanswered ≡ []) × IsKept last (kept_behind flow kept answers))
      (status_by (counts_behind answers no_counts)) (opened ++ answers_text flow no_counts answers) (counts_line (counts_behind answers no_counts))
      (IsCutBehind flow opened answers) before after

-- one that ends so may have written nothing: the store failed, or memory was refused
abbrev pub EndsUnopened : Status → Type 0
EndsUnopened StoreFault = Unit {0}
EndsUnopened NoMemory = Unit {0}
EndsUnopened status = ⊥

-- A session at this story wrote nothing; or it opened with what was found, and answered lines.
abbrev pub OpensAt : Bool → Dataflow → Option Restart → Story → (Story → List ℕ → Type 0) → Option (List LineIn) → Option (List LineIn) → Bool
    → Status → SinkView → SinkView → Type 0
OpensAt rests flow found first IsKept given gives ended status before after = (EndsUnopened status × StaysQuiet given gives before after)
    ⊎ AnswersBehind rests flow (opened_text flow first found) (lines_found found) first IsKept given gives ended status before after

-- Over records that hold a story a start went on from there, and the session opened and answered lines.
pub record AnswersFrom (rests : Bool) (flow : Dataflow) (digests : Digests) (held : Records) (story : Story) (tells : Option Records)
    (given gives : Option (List LineIn)) (ended : Bool) (status : Status) (before after : SinkView) : Type 0 where
  pub found : Option Restart
  pub first : Story
  pub starts : StartsFrom flow digests held story found first
  pub opens : OpensAt rests flow found first (KeepsAtEnd flow digests tells) given gives ended status before after

-- What is true of a session over a flow, whose store told these records before, and tells these at the end.
pub record EndsLasting (rests : Bool) (flow : Dataflow) (digests : Digests) (told tells : Option Records) (given gives : Option (List LineIn))
    (ended : Bool) (status : Status) (before after : SinkView) : Type 0 where
  -- Where it tells them, and held a story, the session went on from there; or the start failed.
  pub goes_on : (held : Records) (story : Story) (turn next : ℕ) → told ≡ Some held → HoldsStory flow digests held story turn next → IsSome tells
      → (EndsUnopened status × StaysQuiet given gives before after)
      ⊎ AnswersFrom rests flow digests held story tells given gives ended status before after
  -- Where it tells them, and the root that counts is one of other texts, nothing was done.
  pub foreign : IsForeignIn digests told → IsSome tells → IsForeignEnd status × StaysQuiet given gives before after × (tells ≡ told)
  -- 11: where it tells them, the root that counts is one of other texts.
  pub foreign_root : status ≡ ForeignRoot → IsSome tells → IsForeignIn digests told
  -- 9: never where it tells them.
  pub unharmed : IsSome tells → (id : ℕ) → (status ≢ Damaged id) × (status ≢ DamagedRoot id)
  -- 9 `damaged root` and 11, whatever it tells: no line came in, nothing was written, and it has what it had.
  pub of_root : TellsOfRoot status → StaysQuiet given gives before after × StayIfTold told tells
  -- Whatever the status, a start may go on over what it leaves.
  pub next : MayStart flow digests tells

-- ---- a call

-- the words are a session's command, and this is true of the text of its flow and of the dataflow that this declares
pub record HasTextSo (texts : Option (List ℕ → Option (List ℕ))) (command : Option LiveCommand) (IsSo : Bool → List ℕ → Dataflow → Type 0)
    : Type 0 where
  pub live : LiveCommand
  pub text : List ℕ
  pub flow : Dataflow
  pub of_flow : IsFlowText texts command live text flow
  pub so : IsSo live.rests text flow

-- What is true of a call with this status, whose store told these records before, and tells these at the end.
pub record LastingAnswers (texts : Option (List ℕ → Option (List ℕ))) (command : Option LiveCommand) (told tells : Option Records)
    (given gives : Option (List LineIn)) (ended : Bool) (status : Status) (before after : SinkView) : Type 0 where
  -- 2: exactly where the words are no such command.
  pub bad_words : (status ≡ BadWords) ↔ (command ≡ None)
  -- 3: the text of the flow breaks this rule first, on this line.
  pub refused : (refusal : Refusal) → status ≡ Refused refusal → HasFlowRefused texts command refusal
  -- 2, 3: no line came in, nothing was written, and the store has what it had.
  pub unbegun : EndsUnbegun status → StaysQuiet given gives before after × (tells ≡ told)
  -- Else the same, as the folder failed or memory was refused, and no session began; or a session over the flow that was read ended so.
  pub begun : (EndsUnbegun status → ⊥) → (EndsQuiet status × StaysQuiet given gives before after × (tells ≡ told))
      ⊎ HasTextSo texts command (λ rests text flow. EndsLasting rests flow (live_digests text) told tells given gives ended status before after)

-- The lines that come in are answered, and the answers written.
use Rattle.std.specs.Prelude.{◌≡◌, ◌⊎◌, ◌≤◌, ◌+◌, ◌-◌, ◌^◌, ℕ, Bool, List, [], ◌∷◌, ◌++◌, length, Option, IsSome, option_map}
use Rattle.std.specs.List.{AllByRecursion}
use Rattle.fw_outside.specs.declared.fault.OutFault.{OutFault}
use Rattle.fw_outside.specs.declared.fault.OutFault.TheVariants as out
use Rattle.fw_outside.specs.Outside.{SinkView, one_more}
use Rattle.fw_flow.specs.Dataflow.{Dataflow}
use Rattle.fw_keep.specs.Stored.{Records}
use Rattle.fw_command.specs.Writing.{IsWritten, IsCutOff}
use Rattle.fw_session.specs.Story.{Story, IsStory}
use Rattle.fw_living.specs.declared.fault.LifeFault.{LifeFault}
use Rattle.fw_living.specs.declared.fault.LifeFault.TheVariants as life
use Rattle.fw_live.specs.declared.counts.LineCounts.{LineCounts}
use Rattle.fw_live.specs.declared.fault.ServeFault.{ServeFault}
use Rattle.fw_live.specs.declared.fault.ServeFault.TheVariants.{Read, Write, Store, NoMemory}
use Rattle.fw_live.specs.Answers.{Answer, answer_text, saturated, IsUnharmed}
use Rattle.fw_live.specs.Asked.{LineIn}
use Rattle.fw_live.specs.Faults.{TellsFaults}
use Rattle.fw_live.specs.Life.{AreAnswers, answers_text, counts_behind, kept_behind}
use Rattle.fw_live.specs.Relies.{IsLineReliedOn}

-- The steps of lines can be relied on.
abbrev pub AreLinesReliedOn : Option Records → Dataflow → List LineIn → Type 0
AreLinesReliedOn records flow lines = AllByRecursion (IsLineReliedOn records flow) lines

-- Where a session that answers lines stands: what it counted, what its store tells, how often that failed, and at which stories it is, with
-- which lines kept.
pub record LivePoint : Type 1 where
  pub counts : LineCounts
  pub records : Option Records
  pub faults : ℕ
  pub At : Story → List ℕ → Type 0

-- From a story, where these lines were kept, the lines were answered, and of the text of the answers this is true; so they were counted, and
-- the session is at the last story, with the lines kept of the last answer that has any. A store that tells its records then damaged none.
pub record HasServed (rests : Bool) (flow : Dataflow) (before after : LivePoint) (story : Story) (kept : List ℕ) (lines : List LineIn)
    (IsPut : List ℕ → Type 0) : Type 0 where
  pub answers : List Answer
  pub last : Story
  pub are : AreAnswers rests flow story lines answers last
  pub put : IsPut (answers_text flow before.counts answers)
  pub counted : after.counts ≡ counts_behind answers before.counts
  pub at : after.At last (kept_behind flow kept answers)
  pub unharmed : IsSome after.records → AllByRecursion IsUnharmed answers

-- The source gave these lines, and from each story at which the session was they were answered, as far as their steps can be relied on. As
-- often as the store failed in them, so many faults were told.
pub record Serves (rests : Bool) (flow : Dataflow) (before after : LivePoint) (given gives : Option (List LineIn)) (IsPut : List ℕ → Type 0)
    : Type 0 where
  pub lines : List LineIn
  pub gave : gives ≡ option_map (λ earlier. earlier ++ lines) given
  pub faults : TellsFaults before.counts.faults after.counts.faults before.faults after.faults
  pub serves : (story : Story) (kept : List ℕ) → before.At story kept → AreLinesReliedOn after.records flow lines
      → HasServed rests flow before after story kept lines IsPut

-- the same of one line
pub record ServesOne (rests : Bool) (flow : Dataflow) (before after : LivePoint) (given gives : Option (List LineIn)) (IsPut : List ℕ → Type 0)
    : Type 0 where
  pub serves : Serves rests flow before after given gives IsPut
  pub one : length serves.lines ≡ 1

-- ---- where it ends before the lines do

-- the same fault of a session
abbrev pub fault_of : LifeFault → ServeFault
fault_of life.NotFed = NoMemory
fault_of life.StoreFault = Store
fault_of life.NoMemory = NoMemory

-- Of these answers all but the last were written, and of that one first bytes; then what is outside failed so.
pub record IsCutInLast (flow : Dataflow) (counts : LineCounts) (answers : List Answer) (fault : OutFault) (before after : SinkView) : Type 0 where
  pub earlier : List Answer
  pub last : Answer
  pub are : answers ≡ earlier ++ last ∷ []
  pub between : SinkView
  pub written : IsWritten (answers_text flow counts earlier) before between
  pub cut : IsCutOff (answer_text flow (saturated ((counts_behind earlier counts).lines + 1)) last) fault between after

-- how much of the answers was written where it ended so: all; or all but the last, and of that one first bytes
abbrev pub IsPutBefore : Dataflow → LineCounts → ServeFault → SinkView → SinkView → List Answer → Type 0
IsPutBefore flow counts Read before after answers = IsWritten (answers_text flow counts answers) before after
IsPutBefore flow counts Write before after answers = IsCutInLast flow counts answers out.Failed before after
IsPutBefore flow counts Store before after answers = IsWritten (answers_text flow counts answers) before after
IsPutBefore flow counts NoMemory before after answers =
    IsWritten (answers_text flow counts answers) before after ⊎ IsCutInLast flow counts answers out.NoMemory before after

-- From a story the lines were answered, up to a story too, and of the answers this is true; so they were counted. A store that tells its
-- records then damaged none.
pub record HasAnsweredAll (rests : Bool) (flow : Dataflow) (before after : LineCounts) (records : Option Records) (story : Story)
    (lines : List LineIn) (IsPut : List Answer → Type 0) : Type 0 where
  pub answers : List Answer
  pub last : Story
  pub are : AreAnswers rests flow story lines answers last
  pub of_story : IsStory flow last
  pub put : IsPut answers
  pub counted : after ≡ counts_behind answers before
  pub unharmed : IsSome records → AllByRecursion IsUnharmed answers

-- The source gave these lines, and perhaps one more, but none where it failed; and they were answered, as far as their steps can be relied on. As
-- often as the store had failed in them, so many faults were told; it may have failed in the one more too.
pub record ServesPart (rests : Bool) (flow : Dataflow) (before : LivePoint) (records : Option Records) (faults : ℕ) (fault : ServeFault)
    (given gives : Option (List LineIn)) (IsPut : List Answer → Type 0) : Type 0 where
  pub lines : List LineIn
  pub unanswered : List LineIn
  pub one : length unanswered ≤ 1
  pub none_left : fault ≡ Read → unanswered ≡ []
  pub gave : gives ≡ option_map (λ earlier. earlier ++ (lines ++ unanswered)) given
  pub counts : LineCounts
  pub failed : ℕ
  pub told : TellsFaults before.counts.faults counts.faults before.faults failed
  pub within : failed ≤ faults
  pub serves : (story : Story) (kept : List ℕ) → before.At story kept → AreLinesReliedOn records flow lines
      → HasAnsweredAll rests flow before.counts counts records story lines IsPut

-- an answer was cut off so
abbrev pub IsCutBy : ServeFault → List ℕ → SinkView → SinkView → Type 0
IsCutBy Write text before after = IsCutOff text out.Failed before after
IsCutBy NoMemory text before after = IsCutOff text out.NoMemory before after
IsCutBy fault text before after = ⊥

-- the source gave no line more, or one; none where it failed
pub record GivesAtMostOne (fault : ServeFault) (given gives : Option (List LineIn)) : Type 0 where
  pub lines : List LineIn
  pub one : length lines ≤ 1
  pub none : fault ≡ Read → lines ≡ []
  pub gave : gives ≡ option_map (λ earlier. earlier ++ lines) given

-- the source gave so many lines more
pub record GivesMany (count : ℕ) (given gives : Option (List LineIn)) : Type 0 where
  pub lines : List LineIn
  pub many : length lines ≡ count
  pub gave : gives ≡ option_map (λ earlier. earlier ++ lines) given

-- how often the source failed where a line was not answered by this fault: once more where it is the source's
abbrev pub line_faults_after : ServeFault → ℕ → ℕ
line_faults_after Read count = one_more count
line_faults_after fault count = count

-- the source failed once; or it gave 2^64 - 1 lines, and did not fail
abbrev pub LinesFailed : Option (List LineIn) → Option (List LineIn) → ℕ → ℕ → Type 0
LinesFailed given gives before after = (after ≡ one_more before) ⊎ (GivesMany (2 ^ 64 - 1) given gives × (after ≡ before))

-- where it ended so that is so of the source; and where something else failed, the source did not
abbrev pub CountsLines : ServeFault → Option (List LineIn) → Option (List LineIn) → ℕ → ℕ → Type 0
CountsLines Read given gives before after = LinesFailed given gives before after
CountsLines fault given gives before after = after ≡ before

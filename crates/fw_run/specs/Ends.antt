-- How a run ends, by its manner.
use Rattle.std.specs.Prelude.{◌≡◌, ◌⊎◌, ℕ, ◌≤◌, Bool, true, false, List, [], ◌++◌, take, Option, None, Result, Ok, Err, OnOk, OnErr, IsErrOf}
use Rattle.fw_outside.specs.declared.fault.OutFault.TheVariants as output
use Rattle.fw_outside.specs.Outside.{SinkView}
use Rattle.fw_flow.specs.Dataflow.{System}
use Rattle.fw_schedule.specs.declared.item.Item.{Item}
use Rattle.fw_keep.specs.Stored.{Records}
use Rattle.fw_running.specs.declared.fault.EngineFault.TheVariants as fault
use Rattle.fw_run.specs.declared.fault.RunFault.{RunFault}
use Rattle.fw_run.specs.declared.fault.RunFault.TheVariants as stop
use Rattle.fw_run.specs.Enduring.{Point, start_of, EnduredRun, IsRunKnown, RoseBy, RoseIfOn, RoseByFaults, StaysOrRose}
use Rattle.fw_run.specs.Fault.{faults_after_run}
use Rattle.fw_run.specs.Performing.{IsCutAfter, WritesUntil}
use Rattle.fw_run.specs.Reports.{Report, faults_in, reports_text}
use Rattle.fw_run.specs.Stopping.{HoldsBehind}
use Rattle.fw_run.specs.Tallies.{last_line, tally_shown, with_tally}
use Rattle.fw_run.specs.Through.{BeginsWith, IsStoppedByOutput, IsStoppedByStore, IsStoppedByDamage}
use Rattle.fw_command.specs.Command.{Manner}
use Rattle.fw_command.specs.Writing.{IsWritten, IsCutOff, WritesText}
use Rattle.fw_hold.specs.Going.{IsCutIn}

-- ---- what is told

-- what is known of a sink that nobody reads, before and after each write
abbrev pub nowhere : SinkView
nowhere = record { taken = None; refusals = 0; faults = 0 }

-- where the lines of steps go, if they are seen
abbrev pub seen : Bool → SinkView → SinkView
seen true view = view
seen false view = nowhere

-- what is written of these lines of steps, if they are seen
abbrev pub seen_lines : Bool → List ℕ → List ℕ
seen_lines true lines = lines
seen_lines false lines = []

-- this stays where lines of steps are not seen
abbrev pub StaysUnseen : {O : Type 0} → Bool → O → O → Type 0
StaysUnseen true before after = Unit {0}
StaysUnseen false before after = after ≡ before

-- the lines of steps were written, or, where they are not seen, nothing
abbrev pub IsSeen : Bool → SinkView → SinkView → List ℕ → Type 0
IsSeen true before after lines = IsWritten lines before after
IsSeen false before after lines = after ≡ before

-- the whole text of a run from a point, of whose steps these are the reports: their lines, if they are seen, and the last one
abbrev pub text_of_run : Manner → Point → List Report → List ℕ
text_of_run manner from reports =
    seen_lines manner.is_seen (reports_text from.counts.steps reports) ++ last_line manner.last (with_tally from.counts (tally_shown reports))

-- the line was written or cut off, and where it was written a fault of the store is told, if there was one
abbrev pub WritesLast : {T : Type 0} → List ℕ → ℕ → Result T RunFault → SinkView → SinkView → Type 0
WritesLast line faults (Ok value) before after = IsWritten line before after × (faults ≡ 0)
WritesLast line faults (Err (stop.Out f)) before after = IsCutOff line f before after
WritesLast line faults (Err (stop.Engine fault.StoreFault)) before after = IsWritten line before after × (1 ≤ faults)
WritesLast line faults (Err (stop.Engine (fault.Damaged id))) before after = ⊥
WritesLast line faults (Err (stop.Engine fault.NoMemory)) before after = ⊥

-- ---- what is printed

-- the point at which a run of this manner begins
abbrev pub first_point : Manner → System → Point
first_point manner sys = start_of manner.start sys

-- it is known what comes of the items of such a run
abbrev pub AreKnown : Manner → Type 0 → System → List Item → Type 0
AreKnown manner Tells sys items = IsRunKnown manner.course Tells sys (first_point manner sys).state items

-- The text, and bytes that are left, are the whole text of a run over the items; of the number of its faults this is true.
pub record IsTextOf (manner : Manner) (sys : System) (items : List Item) (IsCount : ℕ → Type 0) (printed left : List ℕ) : Type 0 where
  pub run : EnduredRun manner.course sys (first_point manner sys).state items
  pub text : text_of_run manner (first_point manner sys) run.reports ≡ printed ++ left
  pub faults : IsCount (faults_in run.reports)

-- the text, and bytes that are left, begin with the lines of the items, if they are seen
pub record BeginsText (manner : Manner) (sys : System) (items : List Item) (printed left : List ℕ) : Type 0 where
  pub run : EnduredRun manner.course sys (first_point manner sys).state items
  pub others : List ℕ
  pub text : printed ++ left ≡ seen_lines manner.is_seen (reports_text (first_point manner sys).counts.steps run.reports) ++ others

-- What a run prints, as far as it is known what comes of the items: all of its text, or first bytes of it, and the lines of first items. Of
-- the bytes that are left the one is true; of the number of faults the other, by whether the run goes on through them.
pub record PrintsOfRun (Tells : Type 0) (IsCount : Bool → ℕ → Type 0) (IsLeft : List ℕ → Type 0) (manner : Manner) (sys : System)
    (items : List Item) (printed : List ℕ) : Type 0 where
  pub whole : AreKnown manner Tells sys items
      → (left : List ℕ) × IsLeft left × IsTextOf manner sys items (IsCount manner.course.goes_on) printed left
  pub first : (n : ℕ) → AreKnown manner Tells sys (take n items) → (left : List ℕ) × IsLeft left × BeginsText manner sys (take n items) printed left

-- no faults
abbrev pub NoFaults : Bool → ℕ → Type 0
NoFaults goes_on faults = faults ≡ 0

-- no bytes are left
abbrev pub NoneLeft : List ℕ → Type 0
NoneLeft left = left ≡ []

-- bytes may be left
abbrev pub SomeLeft : List ℕ → Type 0
SomeLeft left = Unit {0}

-- ---- how a run ends

-- The run came to its end, and its text was written. If it is known what comes of the items, that is the text of a run over them, of the
-- number of whose faults this is true, and the store holds the writes of its last state, and behind a collection no others.
pub record IsDone (Tells : Type 0) (IsCount : ℕ → Type 0) (records : Option Records) (before after : SinkView) (manner : Manner) (sys : System)
    (items : List Item) : Type 0 where
  pub printed : List ℕ
  pub written : IsWritten printed before after
  pub done : AreKnown manner Tells sys items → (run : EnduredRun manner.course sys (first_point manner sys).state items)
      × (printed ≡ text_of_run manner (first_point manner sys) run.reports) × IsCount (faults_in run.reports) × HoldsBehind sys records items run.reports run.last

-- all was taken, and the store failed in no step
abbrev pub IsWholeRun : Type 0 → Option Records → SinkView → SinkView → Manner → System → List Item → Type 0
IsWholeRun Tells records before after manner sys items = IsDone Tells (λ faults. faults ≡ 0) records before after manner sys items

-- The run came to its end, and the output failed in the last line. If it is known what comes of the items, of the number of faults of a run
-- over them this is true, and the store holds the writes of its last state, and behind a collection no others. If what comes is known of
-- first items alone, what was written begins with their lines.
pub record IsLastLineCut (Tells : Type 0) (IsCount : ℕ → Type 0) (records : Option Records) (before after : SinkView) (manner : Manner) (sys : System)
    (items : List Item) : Type 0 where
  pub printed : List ℕ
  pub written : IsCutAfter printed output.Failed before after
  pub first : (n : ℕ) → AreKnown manner Tells sys (take n items) → BeginsText manner sys (take n items) printed []
  pub cut : AreKnown manner Tells sys items → (run : EnduredRun manner.course sys (first_point manner sys).state items)
      × IsCutIn (seen_lines manner.is_seen (reports_text (first_point manner sys).counts.steps run.reports))
      (last_line manner.last (with_tally (first_point manner sys).counts (tally_shown run.reports))) output.Failed before after
      × IsCount (faults_in run.reports) × HoldsBehind sys records items run.reports run.last

-- The output failed: in the lines of a step, if they are seen, or in the last line. So often the store failed until then as its count rose,
-- from the first number to the second.
abbrev pub IsOutputFault : Type 0 → ℕ → ℕ → Option Records → SinkView → SinkView → Manner → System → List Item → Type 0
IsOutputFault Tells count last records before after manner sys items =
    ((manner.is_seen ≡ true)
    × IsStoppedByOutput manner.course Tells sys (first_point manner sys) items records (RoseBy count last) before after)
    ⊎ IsLastLineCut Tells (RoseBy count last) records before after manner sys items

-- The store failed, if its count rose from the first number to the second: it ended the run, and the lines of the steps before were
-- written, if they are seen; or the run went on to its end, and tells each fault.
pub record IsStoreFault (Tells : Type 0) (count last : ℕ) (records : Option Records) (before after : SinkView) (manner : Manner) (sys : System)
    (items : List Item) : Type 0 where
  pub ends : manner.course.goes_on ≡ false → IsStoppedByStore manner.course Tells sys (first_point manner sys) items records
      (IsSeen manner.is_seen before after)
  pub goes_on : manner.course.goes_on ≡ true
      → IsDone Tells (λ faults. (1 ≤ faults) × RoseBy count last faults) records before after manner sys items

-- a damaged record ended the run
abbrev pub IsDamageIn : Type 0 → ℕ → ℕ → ℕ → Option (ℕ × List ℕ) → SinkView → SinkView → Manner → System → List Item → Type 0
IsDamageIn Tells count last id given before after manner sys items = IsStoppedByDamage manner.course Tells sys (first_point manner sys) items id given
    (RoseBy count last) (IsSeen manner.is_seen before after)

-- What is answered of a run, in which the store's count of faults went from the first number to the second.
pub record EndsRun (Tells : Type 0) (manner : Manner) (sys : System) (items : List Item) (answer : Result (Unit {0}) RunFault) (count last : ℕ)
    (records : Option Records) (given : Option (ℕ × List ℕ)) (before after : SinkView) : Type 0 where
  pub printed : OnOk answer (WritesText (PrintsOfRun Tells NoFaults NoneLeft manner sys items) (λ printed. WritesUntil printed answer before after))
  pub cut_off : OnErr answer (WritesText (PrintsOfRun Tells (RoseIfOn count last) SomeLeft manner sys items)
      (λ printed. WritesUntil printed answer before after))
  pub left : OnOk answer (IsWholeRun Tells records before after manner sys items)
  pub last_taken : IsErrOf answer (stop.Out output.Failed) → IsOutputFault Tells count last records before after manner sys items
  pub store_fault : IsErrOf answer (stop.Engine fault.StoreFault) → IsStoreFault Tells count last records before after manner sys items
  pub damaged : (id : ℕ) → IsErrOf answer (stop.Engine (fault.Damaged id)) → IsDamageIn Tells count last id given before after manner sys items
  pub none : OnOk answer (last ≡ count)
  pub first : manner.course.goes_on ≡ false → last ≡ faults_after_run answer count
  pub some : IsErrOf answer (stop.Engine fault.StoreFault) → RoseByFaults count last
  pub rises : StaysOrRose count last

-- What was printed of an item of a schedule, and how far it led.
use Rattle.std.specs.Prelude.{◌≡◌, ℕ, ◌+◌, ◌<◌, ◌≤◌, List, [], ◌++◌, Option, Some, None, Result, Ok, Err}
use Rattle.std.specs.declared.alloc.Global.{Global}
use Rattle.std.specs.declared.vec.Vec.{Vec}
use Rattle.fw_outside.specs.declared.fault.OutFault.{OutFault}
use Rattle.fw_outside.specs.declared.fault.OutFault.TheVariants as output
use Rattle.fw_outside.specs.Outside.{SinkView, Takes}
use Rattle.fw_flow.specs.declared.step.Step.{Step}
use Rattle.fw_flow.specs.declared.step.Step.TheVariants.{Collect, Recover}
use Rattle.fw_flow.specs.Dataflow.{System}
use Rattle.fw_schedule.specs.declared.item.Item.{Item}
use Rattle.fw_schedule.specs.declared.item.Item.TheVariants.{One, Auto}
use Rattle.fw_schedule.specs.Schedule.{steps_in, step_limit}
use Rattle.fw_model.specs.Machine.{Machine}
use Rattle.fw_keep.specs.Stored.{Records}
use Rattle.fw_running.specs.declared.fault.EngineFault.{EngineFault}
use Rattle.fw_running.specs.declared.fault.EngineFault.TheVariants as fault
use Rattle.fw_running.specs.Steps.{IsStepEnabled, Trusts}
use Rattle.fw_engine.specs.declared.engine.Engine.{Engine}
use Rattle.fw_engine.specs.Engine.{StandsFor, keep_of}
use Rattle.fw_run.specs.declared.fault.RunFault.{RunFault}
use Rattle.fw_run.specs.declared.fault.RunFault.TheVariants as stop
use Rattle.fw_run.specs.declared.tally.StepCounts.{StepCounts}
use Rattle.fw_run.specs.Enduring.{EnduredItem, RoseBy}
use Rattle.fw_run.specs.Reports.{Report, faults_in, reports_text, AreCutInLast, RunShown}
use Rattle.fw_run.specs.Stopping.{ItemBegins, IsPartOf, IsLeftIn}
use Rattle.fw_run.specs.Tallies.{AreOfSteps, tally_shown, with_tally}
use Rattle.fw_command.specs.Command.{Course, Showing}
use Rattle.fw_command.specs.Writing.{faults_by, IsRefusedBy, IsWritten, IsPartWritten, IsCutOff}

-- the bytes of a line, none where there is no line
abbrev pub shown_bytes : Option (Vec ℕ Global) → List ℕ
shown_bytes None = []
shown_bytes (Some line) = line.items

-- ---- what the sink took

-- the sink took these bytes and no more, until this fault; its counts tell one of its own
pub record IsCutAfter (bytes : List ℕ) (fault : OutFault) (before after : SinkView) : Type 0 where
  pub taken : Takes before.taken bytes after.taken
  pub faults : after.faults ≡ faults_by fault before.faults
  pub refusals : IsRefusedBy fault before.refusals after.refusals

-- what an answer says of the bytes: they were written, and then the output failed or memory was refused, if that is the fault
abbrev pub IsTaken : {T : Type 0} → List ℕ → Result T RunFault → SinkView → SinkView → Type 0
IsTaken bytes (Ok value) before after = IsWritten bytes before after
IsTaken bytes (Err (stop.Out fault)) before after = IsCutAfter bytes fault before after
IsTaken bytes (Err (stop.Engine fault)) before after = IsWritten bytes before after

-- all of the bytes were written, or they were cut off by the fault; or first bytes were, before a fault that is not the output's
abbrev pub WritesUntil : {T : Type 0} → List ℕ → Result T RunFault → SinkView → SinkView → Type 0
WritesUntil bytes (Ok value) before after = IsWritten bytes before after
WritesUntil bytes (Err (stop.Out fault)) before after = IsCutOff bytes fault before after
WritesUntil bytes (Err (stop.Engine fault)) before after = IsPartWritten bytes before after

-- ---- an item

-- the item reads what was put, by what the store tells afterwards
abbrev pub TrustsItem : System → Machine → Item → Option Records → Type 0
TrustsItem sys state (One step) records = Trusts sys state step records
TrustsItem sys state (Auto most) records = Unit {0}

-- The item was taken from the state; these are the lines of its steps, and so they are counted; and the engine then stands for the state
-- to which it leads, and behind a collection in which the store did not fail nothing waits for a sweep.
pub record IsItemTaken (course : Course) (sys : System) (state : Machine) (item : Item) (old new : StepCounts) (bytes : List ℕ) (engine : Engine)
    (records : Option Records) : Type 0 where
  pub of_item : EnduredItem course sys state item
  pub text : bytes ≡ reports_text old.steps of_item.reports
  pub counted : new ≡ with_tally old (tally_shown of_item.reports)
  pub stands : StandsFor sys engine records of_item.last
  pub swept : item ≡ One Collect → faults_in of_item.reports ≡ 0 → (keep_of engine).waiting ≡ []

-- The item is taken from the state, and these are first bytes of the lines of its steps; of the number of its faults this is true.
pub record IsItemBegun (course : Course) (sys : System) (state : Machine) (item : Item) (old : StepCounts) (bytes : List ℕ) (IsCount : ℕ → Type 0)
    : Type 0 where
  pub of_item : EnduredItem course sys state item
  pub others : List ℕ
  pub text : reports_text old.steps of_item.reports ≡ bytes ++ others
  pub faults : IsCount (faults_in of_item.reports)

-- So much of the item as was begun was taken from the state, and these are the lines of its steps, cut off in those of the last one; of the
-- number of its faults this is true; and the engine then stands for the state to which it leads, and behind a collection in which the store
-- did not fail nothing waits for a sweep.
pub record IsItemCut (course : Course) (sys : System) (state : Machine) (item : Item) (old : StepCounts) (bytes : List ℕ) (IsCount : ℕ → Type 0)
    (engine : Engine) (records : Option Records) : Type 0 where
  pub part : Item
  pub begun : IsPartOf item part
  pub of_item : EnduredItem course sys state part
  pub cut : AreCutInLast old.steps of_item.reports bytes
  pub faults : IsCount (faults_in of_item.reports)
  pub stands : StandsFor sys engine records of_item.last
  pub swept : item ≡ One Collect → faults_in of_item.reports ≡ 0 → (keep_of engine).waiting ≡ []

-- The machine begins the item and comes to a state of which this is true; these are the lines of its steps so far, in none of which the
-- store failed, and so they are counted.
pub record IsItemStopped (showing : Showing) (sys : System) (state : Machine) (item : Item) (old new : StepCounts) (bytes : List ℕ)
    (IsSo : Machine → Type 0) : Type 0 where
  pub begun : List Step
  pub now : Machine
  pub begins : ItemBegins sys state item begun now
  pub reports : List Report
  pub run : RunShown showing sys state begun reports now
  pub text : bytes ≡ reports_text old.steps reports
  pub counted : new ≡ with_tally old (tally_shown reports)
  pub so : IsSo now

-- what an engine's fault in the item leaves, where it stood for the state: after a fault of the store what that leaves; a record is
-- damaged only where the store does not tell its records, or no more, and a recovery is enabled
abbrev pub IsLeftAfter : System → Item → EngineFault → Engine → Option Records → Machine → Type 0
IsLeftAfter sys item fault.StoreFault new after state = IsLeftIn sys state item (StandsFor sys new after)
IsLeftAfter sys item (fault.Damaged id) new after state = (after ≡ None) × IsStepEnabled sys state Recover
IsLeftAfter sys item fault.NoMemory new after state = Unit {0}

-- this is true of a number of faults, unless the store's own ends the run
abbrev pub IsCountAt : RunFault → (ℕ → Type 0) → ℕ → Type 0
IsCountAt (stop.Out f) IsCount count = IsCount count
IsCountAt (stop.Engine fault.StoreFault) IsCount count = Unit {0}
IsCountAt (stop.Engine (fault.Damaged id)) IsCount count = IsCount count
IsCountAt (stop.Engine fault.NoMemory) IsCount count = IsCount count

-- what an answer to an item says of the bytes that were written, where the engine stood for the state
abbrev pub DoesItem : Course → System → Machine → Item → StepCounts → StepCounts → List ℕ → (ℕ → Type 0) → Result (Unit {0}) RunFault
    → Engine → Option Records → Type 0
DoesItem course sys state item old new bytes IsCount (Ok value) engine after =
    TrustsItem sys state item after → IsItemTaken course sys state item old new bytes engine after
DoesItem course sys state item old new bytes IsCount (Err (stop.Out fault)) engine after =
    TrustsItem sys state item after → IsItemBegun course sys state item old bytes IsCount
    × (fault ≡ output.Failed → IsItemCut course sys state item old bytes IsCount engine after)
DoesItem course sys state item old new bytes IsCount (Err (stop.Engine fault)) engine after =
    IsItemStopped course.showing sys state item old new bytes (IsLeftAfter sys item fault engine after)
    × IsCountAt (stop.Engine fault) IsCount 0

-- What an answer to an item says: some bytes were written, and from each state for which the engine stood they are the lines of the
-- item's steps, or first bytes of these, cut off in those of the step that was taken last where the output failed; of the number of their
-- faults this is true.
pub record PrintsItem (course : Course) (old : Engine) (before : Option Records) (item : Item) (counted : StepCounts) (IsCount : ℕ → Type 0)
    (answer : Result (Unit {0}) RunFault) (new : Engine) (after : Option Records) (counts : StepCounts) (first last : SinkView) : Type 0 where
  pub bytes : List ℕ
  pub taken : IsTaken bytes answer first last
  pub does : (sys : System) (state : Machine) → StandsFor sys old before state
      → DoesItem course sys state item counted counts bytes IsCount answer new after

-- the tally has room for the steps of the item
pub record HasRoom (tally : StepCounts) (item : Item) : Type 0 where
  pub of_steps : AreOfSteps tally
  pub few : tally.steps + steps_in item ≤ step_limit

-- no more steps were counted than the item asks for; fewer, where the store failed in one
abbrev pub AreFew : {T : Type 0} → Item → Result T RunFault → StepCounts → StepCounts → Type 0
AreFew item (Err (stop.Engine fault.StoreFault)) before after = AreOfSteps after × (after.steps < before.steps + steps_in item)
AreFew item answer before after = AreOfSteps after × (after.steps ≤ before.steps + steps_in item)

-- the store failed, by its own count, as often as it was counted between these
abbrev pub FailsAsCounted : StepCounts → StepCounts → ℕ → ℕ → Type 0
FailsAsCounted old new before after = (times : ℕ) × (new.faults ≡ old.faults + times) × RoseBy before after times

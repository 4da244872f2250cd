-- Items that are taken from a point, through faults of the store or up to the first, where an engine takes their steps.
use Rattle.std.specs.Prelude.{◌≡◌, ℕ, ◌+◌, ◌≤◌, false, List, [], ◌∷◌, ◌++◌, length, take, Option, Some, Result, Ok, Err}
use Rattle.fw_outside.specs.declared.fault.OutFault.TheVariants as output
use Rattle.fw_outside.specs.Outside.{SinkView}
use Rattle.fw_flow.specs.declared.step.Step.{Step}
use Rattle.fw_flow.specs.declared.step.Step.TheVariants.{Recover}
use Rattle.fw_flow.specs.Dataflow.{System}
use Rattle.fw_schedule.specs.declared.item.Item.{Item}
use Rattle.fw_schedule.specs.declared.item.Item.TheVariants.{One}
use Rattle.fw_model.specs.Machine.{Machine}
use Rattle.fw_keep.specs.declared.entry.Entry.{Entry}
use Rattle.fw_keep.specs.Stored.{Records, SpellsNone}
use Rattle.fw_running.specs.declared.fault.EngineFault.TheVariants as fault
use Rattle.fw_run.specs.declared.fault.RunFault.{RunFault}
use Rattle.fw_run.specs.declared.fault.RunFault.TheVariants as stop
use Rattle.fw_run.specs.declared.tally.StepCounts.{StepCounts}
use Rattle.fw_run.specs.Enduring.{Point, EnduredRun, IsRunKnown}
use Rattle.fw_run.specs.Performing.{IsCutAfter, IsTaken, IsCountAt}
use Rattle.fw_run.specs.Reports.{Report, faults_in, reports_text, RunShown}
use Rattle.fw_run.specs.Stopping.{HoldsWrites, HoldsBehind, ItemBegins, IsPartOf, MayCallIn, IsLeftIn, IsReadIn}
use Rattle.fw_run.specs.Tallies.{tally_shown, with_tally}
use Rattle.fw_command.specs.Command.{Course}
use Rattle.fw_command.specs.Writing.{IsWritten}
use Rattle.fw_hold.specs.Going.{IsCutIn}

-- ---- items

-- The items lead to reports and a state of which this is true; so their steps and their faults are counted, and these are their lines.
pub record IsSoFar (course : Course) (sys : System) (from : Point) (items : List Item) (tally : StepCounts) (bytes : List ℕ)
    (IsSo : List Item → List Report → Machine → Type 0) : Type 0 where
  pub run : EnduredRun course sys from.state items
  pub text : bytes ≡ reports_text from.counts.steps run.reports
  pub counted : tally ≡ with_tally from.counts (tally_shown run.reports)
  pub so : IsSo items run.reports run.last

-- the bytes begin with the lines of the items
pub record BeginsWith (course : Course) (sys : System) (from : Point) (items : List Item) (bytes : List ℕ) : Type 0 where
  pub run : EnduredRun course sys from.state items
  pub others : List ℕ
  pub text : bytes ≡ reports_text from.counts.steps run.reports ++ others

-- the bytes, and others behind them, begin with the lines of the items
pub record AgreesWith (course : Course) (sys : System) (from : Point) (items : List Item) (bytes : List ℕ) : Type 0 where
  pub left : List ℕ
  pub begins : BeginsWith course sys from items (bytes ++ left)

-- The bytes are first ones of the lines of the items; of the number of their faults this is true.
pub record IsPartOfLines (course : Course) (sys : System) (from : Point) (items : List Item) (bytes : List ℕ) (IsCount : ℕ → Type 0) : Type 0 where
  pub run : EnduredRun course sys from.state items
  pub left : List ℕ
  pub text : reports_text from.counts.steps run.reports ≡ bytes ++ left
  pub faults : IsCount (faults_in run.reports)

-- What was written of so many first items is their lines, as far as it is known what comes of them.
pub record AreTaken (course : Course) (Tells : Type 0) (sys : System) (from : Point) (items : List Item) (place : ℕ) (tally : StepCounts)
    (IsSo : List Item → List Report → Machine → Type 0) (first last : SinkView) : Type 0 where
  pub bytes : List ℕ
  pub written : IsWritten bytes first last
  pub so_far : IsRunKnown course Tells sys from.state (take place items) → IsSoFar course sys from (take place items) tally bytes IsSo
  pub begins : (n : ℕ) → n ≤ place → IsRunKnown course Tells sys from.state (take n items) → BeginsWith course sys from (take n items) bytes

-- A fault ended the run: what was written is first bytes of the lines of the items, as far as it is known what comes of them.
pub record AreCutOff (course : Course) (Tells : Type 0) (sys : System) (from : Point) (items : List Item) (f : RunFault) (IsCount : ℕ → Type 0)
    (first last : SinkView) : Type 0 where
  pub bytes : List ℕ
  pub taken : IsTaken {T = Unit {0}} bytes (Err f) first last
  pub begins : (n : ℕ) → IsRunKnown course Tells sys from.state (take n items) → AgreesWith course sys from (take n items) bytes
  pub part : IsRunKnown course Tells sys from.state items → IsPartOfLines course sys from items bytes (IsCountAt f IsCount)

-- ---- where a run stops

-- The items were taken and one more was begun, up to a state of which this is true; these are the lines of the steps.
pub record StopsIn (course : Course) (sys : System) (from : Point) (items : List Item) (item : Item) (printed : List ℕ) (IsSo : Machine → Type 0)
    : Type 0 where
  pub before : EnduredRun course sys from.state items
  pub begun : List Step
  pub state : Machine
  pub begins : ItemBegins sys before.last item begun state
  pub reports : List Report
  pub run : RunShown course.showing sys before.last begun reports state
  pub text : printed ≡ reports_text from.counts.steps (before.reports ++ reports)
  pub so : IsSo state

-- The run was stopped by its store in this one of the items: in a step that may call it. If it is known what comes of the items before, the
-- step asks for a write, or is a recovery that reads a record or a collection; these are the lines of the steps before, and the store holds
-- the writes of what this step leaves. If that is known of first items alone, their lines come first. Of these lines this is true.
pub record IsStoppedByStore (course : Course) (Tells : Type 0) (sys : System) (from : Point) (items : List Item) (records : Option Records)
    (IsPut : List ℕ → Type 0) : Type 0 where
  pub printed : List ℕ
  pub written : IsPut printed
  pub earlier : List Item
  pub item : Item
  pub later : List Item
  pub parts : items ≡ earlier ++ item ∷ later
  pub may_call : MayCallIn sys.flow item
  pub first : (n : ℕ) → n ≤ length earlier → IsRunKnown course Tells sys from.state (take n items) → BeginsWith course sys from (take n items) printed
  pub stops : IsRunKnown course Tells sys from.state earlier
      → StopsIn course sys from earlier item printed (λ state. IsLeftIn sys state item (HoldsWrites sys records))

-- The run was stopped by a damaged record in this recovery among the items: the store, which does not tell its records, gave under the id
-- of an entry bytes that spell no record of it. If it is known what comes of the items before, the recovery is enabled and asks for the
-- entry, which is that of a write, and these are the lines of the steps before, of the number of whose faults this is true; if that is
-- known of first items alone, their lines come first. Of these lines this is true.
pub record IsStoppedByDamage (course : Course) (Tells : Type 0) (sys : System) (from : Point) (items : List Item) (id : ℕ)
    (given : Option (ℕ × List ℕ)) (IsCount : ℕ → Type 0) (IsPut : List ℕ → Type 0) : Type 0 where
  pub printed : List ℕ
  pub written : IsPut printed
  pub earlier : List Item
  pub later : List Item
  pub parts : items ≡ earlier ++ One Recover ∷ later
  pub untold : Tells → ⊥
  pub entry : Entry
  pub named : entry.id ≡ id
  pub bytes : List ℕ
  pub gave : given ≡ Some (id, bytes)
  pub spells_none : SpellsNone sys.flow entry bytes
  pub first : (n : ℕ) → n ≤ length earlier → IsRunKnown course Tells sys from.state (take n items) → BeginsWith course sys from (take n items) printed
  pub stops : IsRunKnown course Tells sys from.state earlier → (run : EnduredRun course sys from.state earlier)
      × (printed ≡ reports_text from.counts.steps run.reports) × IsCount (faults_in run.reports) × IsReadIn sys entry run.last

-- The items were taken and so much of one more as was begun, to reports and a state of which this is true, as it is of the number of their
-- faults. The lines of all steps but the last were written, and the output failed in those of the last.
pub record CutsIn (course : Course) (sys : System) (from : Point) (items : List Item) (item : Item) (IsCount : ℕ → Type 0)
    (IsSo : List Item → List Report → Machine → Type 0) (first last : SinkView) : Type 0 where
  pub part : Item
  pub begun : IsPartOf item part
  pub run : EnduredRun course sys from.state (items ++ part ∷ [])
  pub told : List Report
  pub cut : Report
  pub reports : run.reports ≡ told ++ cut ∷ []
  pub written : IsCutIn (reports_text from.counts.steps told) (reports_text (from.counts.steps + length told) (cut ∷ [])) output.Failed first last
  pub faults : IsCount (faults_in run.reports)
  pub so : IsSo (items ++ part ∷ []) run.reports run.last

-- The run was stopped by its output in this one of the items. If it is known what comes of the items up to it, the output failed in the lines
-- of the step that was taken last; of the number of faults until then this is true; and the store holds the writes of what that step leaves,
-- and behind a collection no others. If what comes is known of first items before alone, what was written begins with their lines.
pub record IsStoppedByOutput (course : Course) (Tells : Type 0) (sys : System) (from : Point) (items : List Item) (records : Option Records)
    (IsCount : ℕ → Type 0) (before after : SinkView) : Type 0 where
  pub printed : List ℕ
  pub written : IsCutAfter printed output.Failed before after
  pub earlier : List Item
  pub item : Item
  pub later : List Item
  pub parts : items ≡ earlier ++ item ∷ later
  pub first : (n : ℕ) → n ≤ length earlier → IsRunKnown course Tells sys from.state (take n items) → BeginsWith course sys from (take n items) printed
  pub stops : IsRunKnown course Tells sys from.state (earlier ++ item ∷ [])
      → CutsIn course sys from earlier item IsCount (HoldsBehind sys records) before after

-- where the output ended the run, the store or a damaged record
abbrev pub EndsItems : Course → Type 0 → System → Point → List Item → RunFault → (ℕ → Type 0) → Option Records → Option (ℕ × List ℕ)
    → SinkView → SinkView → Type 0
EndsItems course Tells sys from items (stop.Out output.Failed) IsCount records given first last =
    IsStoppedByOutput course Tells sys from items records IsCount first last
EndsItems course Tells sys from items (stop.Out output.NoMemory) IsCount records given first last = Unit {0}
EndsItems course Tells sys from items (stop.Engine fault.StoreFault) IsCount records given first last =
    (course.goes_on ≡ false) × IsStoppedByStore course Tells sys from items records (λ printed. IsWritten printed first last)
EndsItems course Tells sys from items (stop.Engine (fault.Damaged id)) IsCount records given first last =
    IsStoppedByDamage course Tells sys from items id given IsCount (λ printed. IsWritten printed first last)
EndsItems course Tells sys from items (stop.Engine fault.NoMemory) IsCount records given first last = Unit {0}

-- what is answered of items: that they were taken, or why they were not all
abbrev pub TakesItems : Course → Type 0 → System → Point → List Item → Result (Unit {0}) RunFault → StepCounts → (ℕ → Type 0) → Option Records
    → Option (ℕ × List ℕ) → SinkView → SinkView → Type 0
TakesItems course Tells sys from items (Ok value) tally IsCount records given first last =
    AreTaken course Tells sys from items (length items) tally (HoldsBehind sys records) first last × IsCount tally.faults
TakesItems course Tells sys from items (Err f) tally IsCount records given first last =
    AreCutOff course Tells sys from items f IsCount first last × EndsItems course Tells sys from items f IsCount records given first last

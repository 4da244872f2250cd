-- What comes of the items of a schedule, from a point, where a fault of the store ends a run or does not.
use Rattle.std.specs.Prelude.{◌≡◌, ◌⊎◌, ℕ, zero, suc, ◌-◌, ◌^◌, ◌<◌, ◌≤◌, Bool, true, false, List, [], ◌∷◌, ◌++◌, length}
use Rattle.fw_outside.specs.Outside.{one_more}
use Rattle.fw_flow.specs.declared.step.Step.{Step}
use Rattle.fw_flow.specs.declared.step.Step.TheVariants.{Collect, Recover}
use Rattle.fw_flow.specs.Dataflow.{System}
use Rattle.fw_schedule.specs.declared.item.Item.{Item}
use Rattle.fw_schedule.specs.declared.item.Item.TheVariants.{One, Auto}
use Rattle.fw_model.specs.Auto.{IsAutoRun}
use Rattle.fw_model.specs.Machine.{Machine, first_state}
use Rattle.fw_model.specs.Steps.{StepsTo, Run}
use Rattle.fw_running.specs.Steps.{FirstMayCall, MayCallStore, NeedsStore, ReadsNoCheckpoint}
use Rattle.fw_run.specs.declared.tally.StepCounts.{StepCounts}
use Rattle.fw_run.specs.Reports.{Report, came, not_taken, unswept, faults_in, outcomes_in, AreLinesOf, RunShown}
use Rattle.fw_run.specs.Tallies.{tally_of}
use Rattle.fw_command.specs.Command.{Showing, Course, Start, at_first}

-- ---- where a run begins

-- a point of a run: the state of the machine, and how the steps that led to it were counted
pub record Point : Type 0 where
  pub state : Machine
  pub counts : StepCounts

-- the point at which a run begins
abbrev pub start_of : Start → System → Point
start_of at_first sys = record { state = first_state sys; counts = tally_of [] }

-- ---- steps

-- The step leads from a state to the next one, with this report; these are the steps that the machine takes. The store fails only in
-- a step that may call it, and that asks for a write or is a recovery that reads a record; in a collection, which sweeps last, also where
-- that is idle.
abbrev pub Endures : Showing → System → Machine → Step → List Step → Report → Machine → Type 0
Endures showing sys state step steps (came outcome lines) next =
    StepsTo sys state step next outcome × AreLinesOf showing sys state outcome lines × (steps ≡ step ∷ [])
Endures showing sys state step steps not_taken next =
    MayCallStore sys.flow step × NeedsStore sys state step × (step ≡ Collect → ⊥) × (steps ≡ []) × (next ≡ state)
Endures showing sys state step steps (unswept outcome) next =
    (step ≡ Collect) × StepsTo sys state Collect next outcome × (steps ≡ Collect ∷ [])

-- `auto` led to these steps: as far as it may, or until the store failed, in the first step that was enabled
abbrev pub AutoEndures : Showing → System → Machine → ℕ → List Step → List Report → Machine → Type 0
AutoEndures showing sys state most steps reports next = (shown : List Report) × RunShown showing sys state steps shown next
    × ((IsAutoRun sys state most steps next × (reports ≡ shown))
    ⊎ ((length steps < most) × IsAutoRun sys state (length steps) steps next × FirstMayCall sys next × (reports ≡ shown ++ not_taken ∷ [])))

-- an item leads from a state to the next one
abbrev pub ItemEndures : Showing → System → Machine → Item → List Step → List Report → Machine → Type 0
ItemEndures showing sys state (One step) steps reports next =
    (report : Report) × Endures showing sys state step steps report next × (reports ≡ report ∷ [])
ItemEndures showing sys state (Auto most) steps reports next = AutoEndures showing sys state most steps reports next

-- items lead from a state to the last one, each from where those before it led
abbrev pub ItemsEndure : Showing → System → Machine → List Item → List Step → List Report → Machine → Type 0
ItemsEndure showing sys state [] steps reports last = (steps ≡ []) × (reports ≡ []) × (last ≡ state)
ItemsEndure showing sys state (item ∷ items) steps reports last =
    (first : List Step) × (shown : List Report) × (next : Machine) × (others : List Step) × (more : List Report)
    × ItemEndures showing sys state item first shown next × ItemsEndure showing sys next items others more last
    × (steps ≡ first ++ others) × (reports ≡ shown ++ more)

-- ---- runs

-- how often the store may fail: never in a run that its first fault ends
abbrev pub MayFail : Bool → ℕ → Type 0
MayFail true faults = Unit {0}
MayFail false faults = faults ≡ 0

-- From a state the item leads to these reports, through steps that the machine takes to the last one; the store fails no more often
-- than it may.
pub record EnduredItem (course : Course) (sys : System) (state : Machine) (item : Item) : Type 0 where
  pub steps : List Step
  pub reports : List Report
  pub last : Machine
  pub endures : ItemEndures course.showing sys state item steps reports last
  pub run : Run sys state steps (outcomes_in reports) last
  pub may : MayFail course.goes_on (faults_in reports)

-- the same of items
pub record EnduredRun (course : Course) (sys : System) (state : Machine) (items : List Item) : Type 0 where
  pub steps : List Step
  pub reports : List Report
  pub last : Machine
  pub endured : ItemsEndure course.showing sys state items steps reports last
  pub run : Run sys state steps (outcomes_in reports) last
  pub may : MayFail course.goes_on (faults_in reports)

-- What comes of the items is known, but for where the store fails: it tells its records, or no recovery among them reads a checkpoint.
abbrev pub IsRunKnown : Course → Type 0 → System → Machine → List Item → Type 0
IsRunKnown course Tells sys state items = Tells ⊎ ((earlier later : List Item) → items ≡ earlier ++ One Recover ∷ later
    → (run : EnduredRun course sys state earlier) → ReadsNoCheckpoint sys run.last)

-- ---- how often a store failed

-- a count after so many faults more
abbrev pub with_faults : ℕ → ℕ → ℕ
with_faults zero count = count
with_faults (suc times) count = one_more (with_faults times count)

-- a count rose by exactly so many, at most to the end of its type
abbrev pub RoseBy : ℕ → ℕ → ℕ → Type 0
RoseBy before after times = after ≡ with_faults times before

-- in a run that goes on through its faults a count rose by exactly so many
abbrev pub RoseIfOn : ℕ → ℕ → Bool → ℕ → Type 0
RoseIfOn before after goes_on times = goes_on ≡ true → RoseBy before after times

-- a count rose by faults, by one or by more, at most to the end of its type
abbrev pub RoseByFaults : ℕ → ℕ → Type 0
RoseByFaults before after = (times : ℕ) × (1 ≤ times) × RoseBy before after times

-- a count rose, or stood at the end of its type
abbrev pub RoseOrFull : ℕ → ℕ → Type 0
RoseOrFull before after = (before < after) ⊎ (2 ^ 64 - 1 ≤ before)

-- a count stayed, or rose by faults
abbrev pub StaysOrRose : ℕ → ℕ → Type 0
StaysOrRose before after = (times : ℕ) × RoseBy before after times

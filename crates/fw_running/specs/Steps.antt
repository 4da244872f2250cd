-- What the steps of an engine promise.
use Rattle.std.specs.Prelude.{◌≡◌, ◌≢◌, ℕ, ◌<◌, true, false, List, [], length, Option, Some, None, Result, Ok, Err, IfOk, IsErrOf, OnOk, IsSome, is_some}
use Rattle.std.specs.List.{Contains}
use Rattle.fw_outside.specs.Outside.{StoreView}
use Rattle.fw_time.specs.Stamp.{Stamp}
use Rattle.fw_frontier.specs.Frontier.{Frontier}
use Rattle.fw_flow.specs.declared.choice.Choice.{Choice}
use Rattle.fw_flow.specs.declared.choice.Cut.TheVariants.{At}
use Rattle.fw_flow.specs.declared.kind.Policy.TheVariants as policy
use Rattle.fw_flow.specs.declared.restoring.Restoring.TheVariants as ways
use Rattle.fw_flow.specs.declared.step.Step.{Step}
use Rattle.fw_flow.specs.declared.step.Step.TheVariants.{Deliver, Notify, Progress as ProgressStep, Checkpoint, Recover, Collect}
use Rattle.fw_flow.specs.Dataflow.{System, Dataflow, policy_of, receiver, node_frontier}
use Rattle.fw_flow.specs.Restoring.{way_of}
use Rattle.fw_model.specs.Auto.{auto_steps, IsFirstEnabled, TakesFirst}
use Rattle.fw_model.specs.Choice.{cut_of, IsLargest}
use Rattle.fw_model.specs.Machine.{Machine}
use Rattle.fw_model.specs.Steps.{Effect, silent, acked, cuts, lows, Outcome, did, idle, LeadsTo, StepsTo, offers, is_eager, is_asked_for_checkpoints}
use Rattle.fw_keep.specs.declared.entry.Entry.{Entry}
use Rattle.fw_keep.specs.Stored.{Records, IsStored, SpellsNone}
use Rattle.fw_rollback.specs.Asked.{is_asked_for}
use Rattle.fw_stands.specs.Written.{AreEntriesOf, uncollected}
use Rattle.fw_running.specs.declared.fault.EngineFault.{EngineFault}
use Rattle.fw_running.specs.declared.fault.EngineFault.TheVariants as fault
use Rattle.fw_running.specs.declared.running.Running.{Running}
use Rattle.fw_running.specs.declared.stepped.Effect.{Effect as Shown}
use Rattle.fw_running.specs.declared.stepped.Effect.TheVariants.{Quiet, Acked, Cuts, Lows}
use Rattle.fw_running.specs.declared.stepped.Stepped.{Stepped}
use Rattle.fw_running.specs.declared.stepped.Stepped.TheVariants.{Did, Idle}
use Rattle.fw_running.specs.Faults.{faults_after_step}
use Rattle.fw_running.specs.Shaped.{IsShaped}
use Rattle.fw_running.specs.Stands.{Stands}

-- the machine's effect that an engine shows
abbrev pub effect_of : Shown → Effect
effect_of Quiet = silent
effect_of (Acked output at recs) = acked output at recs.recs
effect_of (Cuts choice) = cuts choice
effect_of (Lows choice) = lows choice

-- the machine's outcome that an engine answers
abbrev pub outcome_of : Stepped → Outcome
outcome_of (Did shown) = did (effect_of shown)
outcome_of Idle = idle

-- From a state the machine takes the step with the outcome, and the engine then stands for the state that it leads to.
pub record Follows (sys : System) (state : Machine) (step : Step) (outcome : Outcome) (running : Running) (records : Option Records) : Type 0 where
  pub next : Machine
  pub steps : StepsTo sys state step next outcome
  pub stands : Stands sys running records next

-- From a state the machine takes the first step that is enabled with the outcome, and the engine then stands for the state that it
-- leads to.
pub record FollowsFirst (sys : System) (state : Machine) (outcome : Outcome) (running : Running) (records : Option Records) : Type 0 where
  pub next : Machine
  pub takes : TakesFirst sys state (auto_steps sys.flow) next outcome
  pub stands : Stands sys running records next

-- the frontier has no stamp
abbrev pub HasNoStamp : Frontier → Type 0
HasNoStamp f = (t : Stamp) → f t ≡ false

-- A recovery reads no checkpoint: the choice cuts a node that is restored by checkpoints to no stamp alone. What is logged of events is
-- told by the entries too, so that it is done again as it was, whatever is read.
abbrev pub ReadsNoCheckpoint : System → Machine → Type 0
ReadsNoCheckpoint sys state = (choice : Choice) → IsLargest sys state (offers sys state) choice → (p : ℕ) → way_of sys.flow p ≡ ways.Checkpoints
    → (f : List Stamp) → cut_of choice p ≡ At f → HasNoStamp (node_frontier sys.flow p f)

-- A step reads what was put: the store tells its records, or no checkpoint is read.
abbrev pub Trusts : System → Machine → Step → Option Records → Type 0
Trusts sys state Recover None = ReadsNoCheckpoint sys state
Trusts sys state step records = Unit {0}

-- some node asks a checkpoint whenever more is settled
abbrev pub HasEager : Dataflow → Type 0
HasEager flow = (p : ℕ) × (is_eager (policy_of flow p) ≡ true)

-- the step may call the store: it asks a write, reads or sweeps
abbrev pub MayCallStore : Dataflow → Step → Type 0
MayCallStore flow (Deliver e at) = policy_of flow (receiver flow e) ≡ policy.Full
MayCallStore flow (Notify p at) = policy_of flow p ≡ policy.Full
MayCallStore flow ProgressStep = HasEager flow
MayCallStore flow (Checkpoint p) = is_asked_for_checkpoints (policy_of flow p) ≡ true
MayCallStore flow Recover = Unit {0}
MayCallStore flow Collect = Unit {0}
MayCallStore flow step = ⊥

-- some step that is taken by itself may call the store
abbrev pub MayCallByItself : Dataflow → Type 0
MayCallByItself flow = (step : Step) × Contains (auto_steps flow) step × MayCallStore flow step

-- the machine may take the step
abbrev pub IsStepEnabled : System → Machine → Step → Type 0
IsStepEnabled sys state step = (next : Machine) × (effect : Effect) × LeadsTo sys state step next effect

-- the machine takes the step, or is idle at it, with this outcome
abbrev pub HasOutcome : System → Machine → Step → Outcome → Type 0
HasOutcome sys state step outcome = (next : Machine) × StepsTo sys state step next outcome

-- the step asks for a write in the state: it is enabled, and leads to a state with more writes
abbrev pub AsksAWrite : System → Machine → Step → Type 0
AsksAWrite sys state step = (next : Machine) × (effect : Effect) × LeadsTo sys state step next effect × (length state.writes < length next.writes)

-- the largest choice of a recovery from the state asks for the record of the entry, which is one of these
abbrev pub IsAskedIn : System → List Entry → Entry → Machine → Type 0
IsAskedIn sys entries entry state =
    (choice : Choice) × IsLargest sys state (offers sys state) choice × (is_asked_for sys.flow choice entries entry ≡ true)

-- A recovery is enabled in the state, and reads: its largest choice asks for the record of one of these entries, which are those of the writes
-- of the state that were not collected.
pub record ReadsRecord (sys : System) (state : Machine) : Type 0 where
  pub enabled : IsStepEnabled sys state Recover
  pub entries : List Entry
  pub of_writes : AreEntriesOf sys state entries (uncollected state)
  pub entry : Entry
  pub there : Contains entries entry
  pub asked : IsAskedIn sys entries entry state

-- the step needs the store in the state: it is a recovery that reads, or it asks for a write
abbrev pub NeedsStore : System → Machine → Step → Type 0
NeedsStore sys state Recover = ReadsRecord sys state
NeedsStore sys state step = AsksAWrite sys state step

-- What a fault of the store leaves: the state, in which the step needs the store, but that after a collection, which sweeps last, also
-- where it is idle.
abbrev pub IsLeftBy : System → Machine → Step → (Machine → Type 0) → Type 0
IsLeftBy sys state Collect P = (next : Machine) × (outcome : Outcome) × StepsTo sys state Collect next outcome × P next
IsLeftBy sys state step P = NeedsStore sys state step × P state

-- What a step answers, and what the engine stands for then, where it stood for a state: the machine's outcome and next state, if it
-- read what was put, by what the store tells afterwards; after a fault of the store what that leaves; after damage, which no store
-- gives that still tells its records, the state still, in which the step is enabled.
abbrev pub Answers : System → Machine → Step → Result Stepped EngineFault → Running → Option Records → Type 0
Answers sys state step (Ok stepped) new after = Trusts sys state step after → Follows sys state step (outcome_of stepped) new after
Answers sys state step (Err fault.StoreFault) new after = IsLeftBy sys state step (λ next. Stands sys new after next)
Answers sys state step (Err (fault.Damaged id)) new after = (after ≡ None) × IsStepEnabled sys state step × Stands sys new after state
Answers sys state step (Err fault.NoMemory) new after = Unit {0}

-- so a step does from each state for which the engine stood
abbrev pub TakesStep : Running → Option Records → Step → Result Stepped EngineFault → Running → Option Records → Type 0
TakesStep old before step result new after =
    (sys : System) (state : Machine) → Stands sys old before state → Answers sys state step result new after

-- What is answered of a step is the machine's outcome in each state for which the engine stood, whatever the store gave.
abbrev pub ShowsOutcome : Running → Option Records → Step → Result Stepped EngineFault → Type 0
ShowsOutcome old before step result =
    (sys : System) (state : Machine) → Stands sys old before state → IfOk result (λ stepped. HasOutcome sys state step (outcome_of stepped))

-- This is so if a progress asks for no write in some state for which the engine stood.
abbrev pub LeavesUnasked : Running → Option Records → Type 0 → Type 0
LeavesUnasked old before IsSo =
    (sys : System) (state : Machine) → Stands sys old before state → (AsksAWrite sys state ProgressStep → ⊥) → IsSo

-- Of the steps that are taken by themselves the first that is enabled may call the store: it asks for a write.
pub record FirstMayCall (sys : System) (state : Machine) : Type 0 where
  pub step : Step
  pub next : Machine
  pub effect : Effect
  pub first : IsFirstEnabled sys state (auto_steps sys.flow) step next effect
  pub may_call : MayCallStore sys.flow step
  pub asks : length state.writes < length next.writes

-- the same of the first step that is enabled: it may call the store, where the store fails, and no record is damaged
abbrev pub AnswersFirst : System → Machine → Result Stepped EngineFault → Running → Option Records → Type 0
AnswersFirst sys state (Ok stepped) new after = FollowsFirst sys state (outcome_of stepped) new after
AnswersFirst sys state (Err fault.StoreFault) new after = FirstMayCall sys state × Stands sys new after state
AnswersFirst sys state (Err (fault.Damaged id)) new after = ⊥
AnswersFirst sys state (Err fault.NoMemory) new after = Unit {0}

abbrev pub TakesFirstStep : Running → Option Records → Result Stepped EngineFault → Running → Option Records → Type 0
TakesFirstStep old before result new after =
    (sys : System) (state : Machine) → Stands sys old before state → AnswersFirst sys state result new after

-- what is kept has its shape, unless memory was refused
abbrev pub StaysShaped : {T : Type 0} → Result T EngineFault → Running → Type 0
StaysShaped (Ok x) running = IsShaped running
StaysShaped (Err fault.StoreFault) running = IsShaped running
StaysShaped (Err (fault.Damaged id)) running = IsShaped running
StaysShaped (Err fault.NoMemory) running = Unit {0}

-- no record is damaged
abbrev pub IsUndamaged : {T : Type 0} → Result T EngineFault → Type 0
IsUndamaged (Ok x) = Unit {0}
IsUndamaged (Err fault.StoreFault) = Unit {0}
IsUndamaged (Err (fault.Damaged id)) = ⊥
IsUndamaged (Err fault.NoMemory) = Unit {0}

-- The store gave under the id bytes that spell no record of the entry, for which the largest choice asks in each state for which what is
-- kept stands.
pub record IsDamage (running : Running) (id : ℕ) (given : Option (ℕ × List ℕ)) : Type 0 where
  pub entry : Entry
  pub there : Contains running.parts.keep.entries entry
  pub named : entry.id ≡ id
  pub bytes : List ℕ
  pub gave : given ≡ Some (id, bytes)
  pub spells_none : SpellsNone running.flow entry bytes
  pub asked : (sys : System) (records : Option Records) (state : Machine) → Stands sys running records state
      → IsAskedIn sys running.parts.keep.entries entry state

-- ---- the whole answer

-- What a step answers over a store, of which the view is what is known of it.
pub record StepAnswers {K : Type 0} (view : K → StoreView) (old : Running) (before : K) (step : Step) (result : Result Stepped EngineFault)
    (new : Running) (after : K) : Type 0 where
  -- what is kept has its shape, unless memory was refused; the store holds what the catalogue names; and the flow stays
  pub shaped : StaysShaped result new
  pub stored : IsStored new.parts.keep (view after).records
  pub flow : new.flow ≡ old.flow
  -- it goes from each state for which it stood as the machine does; of a recovery what is answered is the machine's outcome, also where
  -- what it reads can't be trusted
  pub takes : TakesStep old (view before).records step result new (view after).records
  pub shows : step ≡ Recover → ShowsOutcome old (view before).records step result
  -- the store's count of faults rises at StoreFault alone, which comes only in a step that may call the store
  pub faults : (view after).faults ≡ faults_after_step result (view before).faults
  pub calls : IsErrOf result fault.StoreFault → MayCallStore old.flow step
  -- a record is damaged in a recovery alone
  pub damaged : (id : ℕ) → IsErrOf result (fault.Damaged id) → IsDamage old id (view after).given
  pub in_recovery : (id : ℕ) → IsErrOf result (fault.Damaged id) → step ≡ Recover
  -- A store that tells its records goes on telling them, unless it ceases in a recovery, which reads; and what it tells then it told
  -- before. After a collection nothing waits for a sweep.
  pub tells : step ≢ Recover → is_some (view after).records ≡ is_some (view before).records
  pub told_before : IsSome (view after).records → IsSome (view before).records
  pub swept : step ≡ Collect → OnOk result (new.parts.keep.waiting ≡ [])
  -- a step that by the flow's policies never calls the store leaves it as it is, and so does an idle one that is no collection, and a
  -- progress that asks for no write
  pub quiet : (MayCallStore old.flow step → ⊥) → after ≡ before
  pub unasked : step ≡ ProgressStep → LeavesUnasked old (view before).records (after ≡ before)
  pub idle : step ≢ Collect → result ≡ Ok Idle → after ≡ before

-- What a step answers that never calls the store, whatever that holds and tells.
pub record InnerAnswers (old : Running) (step : Step) (result : Result Stepped EngineFault) (new : Running) : Type 0 where
  pub shaped : StaysShaped result new
  pub stored : (records : Option Records) → IsStored old.parts.keep records → IsStored new.parts.keep records
  pub flow : new.flow ≡ old.flow
  pub takes : (records : Option Records) → TakesStep old records step result new records
  pub unfaulted : IsErrOf result fault.StoreFault → ⊥
  pub undamaged : IsUndamaged result

-- What a part of a step answers that asks writes, and calls the store only where this may be.
pub record PartAnswers {T K : Type 0} (view : K → StoreView) (MayCall : Type 0) (old : Running) (before : K) (result : Result T EngineFault)
    (new : Running) (after : K) : Type 0 where
  pub stored : IsStored new.parts.keep (view after).records
  pub flow : new.flow ≡ old.flow
  pub faults : (view after).faults ≡ faults_after_step result (view before).faults
  pub calls : IsErrOf result fault.StoreFault → MayCall
  pub undamaged : IsUndamaged result
  pub tells : is_some (view after).records ≡ is_some (view before).records
  pub quiet : (MayCall → ⊥) → after ≡ before

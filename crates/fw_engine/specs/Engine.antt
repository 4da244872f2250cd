-- What contracts say of an engine.
use Rattle.std.specs.Prelude.{◌≡◌, ◌≢◌, ◌⊎◌, ℕ, ◌<◌, ◌≤◌, Bool, true, false, List, [], Option, None, Result, Ok, IfOk, IsErr, IsErrOf, IsTrue, IsSome, OnOk, is_err, is_some, length}
use Rattle.fw_outside.specs.Outside.{StoreView}
use Rattle.fw_flow.specs.declared.step.Step.{Step}
use Rattle.fw_flow.specs.declared.step.Step.TheVariants.{Collect, Progress, Recover}
use Rattle.fw_flow.specs.Dataflow.{Dataflow, System}
use Rattle.fw_model.specs.Machine.{Machine, is_failed}
use Rattle.fw_keep.specs.Catalogue.{KeepState, AreAscending, has_entry, ids_of}
use Rattle.fw_keep.specs.Stored.{Records, IsStored, bytes_under}
use Rattle.fw_engine.specs.declared.engine.Engine.{Engine}
use Rattle.fw_engine.specs.Right.{IsRightIn}
use Rattle.fw_running.specs.declared.fault.EngineFault.{EngineFault}
use Rattle.fw_running.specs.declared.fault.EngineFault.TheVariants as fault
use Rattle.fw_running.specs.declared.running.Running.{Running}
use Rattle.fw_running.specs.declared.stepped.Stepped.{Stepped}
use Rattle.fw_running.specs.declared.stepped.Stepped.TheVariants.{Idle}
use Rattle.fw_running.specs.Drawn.{DrawsAtMost, may_draw, supply}
use Rattle.fw_running.specs.Faults.{faults_after_step, is_refusal}
use Rattle.fw_running.specs.Fed.{FollowsFirstWithin}
use Rattle.fw_running.specs.Stands.{Stands}
use Rattle.fw_running.specs.Steps.{AsksAWrite, Follows, FollowsFirst, FirstMayCall, HasOutcome, IsDamage, IsLeftBy, IsStepEnabled, MayCallByItself, MayCallStore, Trusts, outcome_of}

-- what it keeps
abbrev pub running_of : Engine → Running
running_of engine = engine.running

-- the flow that it runs
abbrev pub flow_of : Engine → Dataflow
flow_of engine = engine.running.flow

-- its catalogue of what is written
abbrev pub keep_of : Engine → KeepState
keep_of engine = engine.running.parts.keep

-- the catalogue where no write was asked
abbrev pub no_writes : KeepState
no_writes = record { entries = []; next = 0; waiting = []; refused = false; shared = false }

-- whether memory was refused to it
abbrev pub was_refused : Engine → Bool
was_refused engine = engine.refused

-- over these records of its store it stands for a state of the system's machine
abbrev pub StandsFor : System → Engine → Option Records → Machine → Type 0
StandsFor sys engine records state = Stands sys engine.running records state

-- P holds of each system and state for which it stands over these records
abbrev pub ForEachState : Engine → Option Records → (System → Machine → Type 0) → Type 0
ForEachState engine records P = (sys : System) (state : Machine) → StandsFor sys engine records state → P sys state

-- no node is failed
abbrev pub IsNoneFailed : Machine → Type 0
IsNoneFailed state = (p : ℕ) → is_failed state p ≡ false

-- what came of a step is the machine's outcome from the state, and it stands for the state to which the machine comes
abbrev pub FollowsStep : System → Machine → Step → Stepped → Engine → Option Records → Type 0
FollowsStep sys state step stepped engine records = Follows sys state step (outcome_of stepped) engine.running records

-- the same of the first step that is enabled
abbrev pub FollowsFirstStep : System → Machine → Stepped → Engine → Option Records → Type 0
FollowsFirstStep sys state stepped engine records = FollowsFirst sys state (outcome_of stepped) engine.running records

-- of the write with the id the store gave bytes that spell no record of it
abbrev pub IsDamaged : Engine → ℕ → Option (ℕ × List ℕ) → Type 0
IsDamaged engine id given = IsDamage engine.running id given

-- A step draws at most as many ids as the flow has nodes, and none where it is idle; under each id that it did not draw is what was there.
abbrev pub StepDraws : Running → Option Records → Result Stepped EngineFault → Running → Option Records → Type 0
StepDraws old before result new after = DrawsAtMost (may_draw (length old.flow.nodes) result) old.parts.keep new.parts.keep before after

-- What a step of an engine answers over a store, of which the view is what is known of it.
pub record EngineAnswers {K : Type 0} (view : K → StoreView) (old : Engine) (before : K) (step : Step) (result : Result Stepped EngineFault)
    (new : Engine) (after : K) : Type 0 where
  -- the store holds what the catalogue names, and the flow stays; the ids of what is written ascend
  pub stored : IsStored (keep_of new) (view after).records
  pub flow : flow_of new ≡ flow_of old
  pub in_order : AreAscending (ids_of (keep_of new).entries)
  -- it goes from each state for which it stood as the machine does, unless it can't trust what it read
  pub ok : ForEachState old (view before).records (λ sys state. Trusts sys state step (view after).records
      → IfOk result (λ stepped. FollowsStep sys state step stepped new (view after).records))
  -- What is told is the machine's outcome, also of a recovery that can't trust what it reads. For which state the engine then stands
  -- is not said.
  pub shows : ForEachState old (view before).records (λ sys state. IfOk result (λ stepped. HasOutcome sys state step (outcome_of stepped)))
  -- So it is right in that state; and a recovery is idle only where no declared node is failed.
  pub right : ForEachState old (view before).records (λ sys state. IfOk result (λ stepped. IsRightIn sys state (outcome_of stepped)))
  pub recovers : step ≡ Recover → result ≡ Ok Idle
      → ForEachState old (view before).records (λ sys state. (p : ℕ) → p < length sys.flow.nodes → is_failed state p ≡ false)
  -- after a collection nothing waits for a sweep
  pub swept : step ≡ Collect → OnOk result ((keep_of new).waiting ≡ [])
  -- A store that tells its records goes on telling them, unless it ceases in a recovery, which reads; and what it tells then it told
  -- before. A step that by the flow's policies never calls it leaves it as it is, and so does an idle one that is no collection, and a
  -- progress that asks for no write.
  pub tells : step ≢ Recover → is_some (view after).records ≡ is_some (view before).records
  pub told_before : IsSome (view after).records → IsSome (view before).records
  pub quiet : (MayCallStore (flow_of old) step → ⊥) → after ≡ before
  pub unasked : step ≡ Progress → ForEachState old (view before).records (λ sys state. (AsksAWrite sys state Progress → ⊥) → after ≡ before)
  pub idle : step ≢ Collect → result ≡ Ok Idle → after ≡ before
  -- A step that is no collection, which sweeps, changes nothing in the store but under the ids that it draws; and a collection draws none.
  -- Whether the store may hold records that others put no step changes.
  pub draws : step ≢ Collect → StepDraws (running_of old) (view before).records result (running_of new) (view after).records
  pub undrawn : step ≡ Collect → supply (keep_of new) ≡ supply (keep_of old)
  -- The store's count of faults rises by one at StoreFault (at 2^64 - 1 it stays), and at no other answer. StoreFault comes only in a
  -- step that may call the store: one that asks for a write in the state, a recovery that is enabled and whose choice asks for a record,
  -- or a collection. Then the engine stands where it stood, or where the collection led.
  pub faults : (view after).faults ≡ faults_after_step result (view before).faults
  pub calls : IsErrOf result fault.StoreFault → MayCallStore (flow_of old) step
  pub faulted : ForEachState old (view before).records (λ sys state. IsErrOf result fault.StoreFault
      → IsLeftBy sys state step (λ next. StandsFor sys new (view after).records next))
  -- a record is damaged in a recovery alone, over a store that does not tell its records, or no more
  pub damaged : (id : ℕ) → IsErrOf result (fault.Damaged id) → IsDamaged old id (view after).given
  pub in_recovery : (id : ℕ) → IsErrOf result (fault.Damaged id) → step ≡ Recover
  pub unharmed : (id : ℕ) → ForEachState old (view before).records (λ sys state. IsErrOf result (fault.Damaged id)
      → ((view after).records ≡ None) × IsStepEnabled sys state Recover × StandsFor sys new (view after).records state)
  -- once memory is refused, each later step answers that
  pub refused : IsErrOf result fault.NoMemory → was_refused new ≡ true
  pub told : was_refused new ≡ is_refusal result
  pub stays : IsTrue (was_refused old) → IsErrOf result fault.NoMemory

-- What the first step that is enabled answers.
pub record FirstAnswers {K : Type 0} (view : K → StoreView) (old : Engine) (before : K) (result : Result Stepped EngineFault) (new : Engine)
    (after : K) : Type 0 where
  -- the store holds what the catalogue names, and the flow stays; the ids of what is written ascend
  pub stored : IsStored (keep_of new) (view after).records
  pub flow : flow_of new ≡ flow_of old
  pub in_order : AreAscending (ids_of (keep_of new).entries)
  -- it goes from each state for which it stood as the machine does
  pub ok : ForEachState old (view before).records (λ sys state. IfOk result (λ stepped. FollowsFirstStep sys state stepped new (view after).records))
  -- what is told is right in that state
  pub right : ForEachState old (view before).records (λ sys state. IfOk result (λ stepped. IsRightIn sys state (outcome_of stepped)))
  -- A store that tells its records goes on telling them. Where no step that is taken by itself may call it, and where none is taken,
  -- it is left as it is.
  pub tells : is_some (view after).records ≡ is_some (view before).records
  pub quiet : (MayCallByItself (flow_of old) → ⊥) → after ≡ before
  pub idle : result ≡ Ok Idle → after ≡ before
  -- nothing in the store is changed but under the ids that are drawn
  pub draws : StepDraws (running_of old) (view before).records result (running_of new) (view after).records
  -- The store's count of faults rises by one at StoreFault (at 2^64 - 1 it stays), and at no other answer. StoreFault comes only where
  -- the first step that is enabled asks for a write. Then the engine stands where it stood.
  pub faults : (view after).faults ≡ faults_after_step result (view before).faults
  pub calls : ForEachState old (view before).records (λ sys state. IsErrOf result fault.StoreFault → FirstMayCall sys state)
  pub faulted : ForEachState old (view before).records (λ sys state. IsErrOf result fault.StoreFault → StandsFor sys new (view after).records state)
  -- no record is damaged
  pub unharmed : (id : ℕ) → IsErrOf result (fault.Damaged id) → ⊥
  -- once memory is refused, each later step answers that
  pub refused : IsErrOf result fault.NoMemory → was_refused new ≡ true
  pub told : was_refused new ≡ is_refusal result
  pub stays : IsTrue (was_refused old) → IsErrOf result fault.NoMemory

-- What the first step that is enabled answers, where no input injects more batches than these.
pub record WithinAnswers {K : Type 0} (view : K → StoreView) (old : Engine) (before : K) (came : ℕ → ℕ) (result : Result Stepped EngineFault)
    (new : Engine) (after : K) : Type 0 where
  pub stored : IsStored (keep_of new) (view after).records
  pub flow : flow_of new ≡ flow_of old
  pub in_order : AreAscending (ids_of (keep_of new).entries)
  -- it goes from each state for which it stood as the machine does
  pub ok : ForEachState old (view before).records (λ sys state.
      IfOk result (λ stepped. FollowsFirstWithin sys came state (outcome_of stepped) new.running (view after).records))
  -- what is told is right in that state
  pub right : ForEachState old (view before).records (λ sys state. IfOk result (λ stepped. IsRightIn sys state (outcome_of stepped)))
  pub tells : is_some (view after).records ≡ is_some (view before).records
  pub quiet : (MayCallByItself (flow_of old) → ⊥) → after ≡ before
  pub idle : result ≡ Ok Idle → after ≡ before
  -- nothing in the store is changed but under the ids that are drawn
  pub draws : StepDraws (running_of old) (view before).records result (running_of new) (view after).records
  -- the store's count of faults rises by one at StoreFault, which comes only where a step that is taken by itself may call the store, and
  -- the first that is enabled asks for a write; then the engine stands where it stood
  pub faults : (view after).faults ≡ faults_after_step result (view before).faults
  pub calls : IsErrOf result fault.StoreFault → MayCallByItself (flow_of old)
  pub asks : ForEachState old (view before).records (λ sys state. IsErrOf result fault.StoreFault → FirstMayCall sys state)
  pub faulted : ForEachState old (view before).records (λ sys state. IsErrOf result fault.StoreFault → StandsFor sys new (view after).records state)
  -- no record is damaged
  pub unharmed : (id : ℕ) → IsErrOf result (fault.Damaged id) → ⊥
  -- once memory is refused, each later step answers that
  pub refused : IsErrOf result fault.NoMemory → was_refused new ≡ true
  pub told : was_refused new ≡ is_refusal result
  pub stays : IsTrue (was_refused old) → IsErrOf result fault.NoMemory

-- ---- a collection in its two parts

-- What the first part of a collection answers, which never calls the store, whatever that holds and tells.
pub record RaiseAnswers {E : Type 0} (old : Engine) (result : Result Stepped E) (new : Engine) : Type 0 where
  -- the store holds what the catalogue names, and the flow stays; no id is drawn, and the ids of what is written ascend
  pub stored : (records : Option Records) → IsStored (keep_of old) records → IsStored (keep_of new) records
  pub flow : flow_of new ≡ flow_of old
  pub undrawn : supply (keep_of new) ≡ supply (keep_of old)
  pub in_order : AreAscending (ids_of (keep_of new).entries)
  -- it goes from each state for which it stood as the machine does in a collection
  pub ok : (records : Option Records) → ForEachState old records (λ sys state. IfOk result (λ stepped. FollowsStep sys state Collect stepped new records))
  -- once memory is refused, each later step answers that
  pub told : was_refused new ≡ is_err result
  pub stays : IsTrue (was_refused old) → IsErr result

-- What a sweep answers.
pub record SweepAnswers {K : Type 0} (view : K → StoreView) (old : Engine) (before : K) (result : Result (Unit {0}) EngineFault) (new : Engine)
    (after : K) : Type 0 where
  -- the store holds what the catalogue names, and the flow stays; no id is drawn, and the ids of what is written ascend
  pub stored : IsStored (keep_of new) (view after).records
  pub flow : flow_of new ≡ flow_of old
  pub undrawn : supply (keep_of new) ≡ supply (keep_of old)
  pub in_order : AreAscending (ids_of (keep_of new).entries)
  -- it stands where it stood, whatever is answered; where the sweep is done, nothing waits for another
  pub stands : ForEachState old (view before).records (λ sys state. StandsFor sys new (view after).records state)
  pub swept : OnOk result ((keep_of new).waiting ≡ [])
  -- a store that tells its records goes on telling them; under the ids of what is written, and under those that were not drawn, is what was
  -- there
  pub tells : is_some (view after).records ≡ is_some (view before).records
  pub others : (id : ℕ) → (has_entry id (keep_of old).entries ≡ true) ⊎ ((keep_of old).next ≤ id)
      → bytes_under id (view after).records ≡ bytes_under id (view before).records
  -- the store's count of faults rises by one at StoreFault (at 2^64 - 1 it stays), and at no other answer; no record is damaged
  pub faults : (view after).faults ≡ faults_after_step result (view before).faults
  pub unharmed : (id : ℕ) → IsErrOf result (fault.Damaged id) → ⊥
  -- once memory is refused, each later step answers that
  pub refused : IsErrOf result fault.NoMemory → was_refused new ≡ true
  pub told : was_refused new ≡ is_refusal result
  pub stays : IsTrue (was_refused old) → IsErrOf result fault.NoMemory

-- What is asked of an engine from whose steps a run can start again. What it stands for, its catalogue and its flow are told by functions
-- of the engine, so that these are not of one engine alone.
use Rattle.std.specs.Prelude.{◌≡◌, ◌⊎◌, ℕ, ◌+◌, ◌^◌, ◌<◌, ◌≤◌, true, List, [], Option, Some, IsSome, IsErrOf, IfOk, OnOk, Result, Ok}
use Rattle.std.specs.List.{Contains}
use Rattle.fw_outside.specs.Outside.{StoreView}
use Rattle.fw_flow.specs.declared.choice.Choice.{Choice}
use Rattle.fw_flow.specs.declared.step.Step.{Step}
use Rattle.fw_flow.specs.declared.step.Step.TheVariants.{Recover}
use Rattle.fw_flow.specs.Dataflow.{Dataflow, System, system_of}
use Rattle.fw_keep.specs.Catalogue.{KeepState, has_entry, ids_of}
use Rattle.fw_keep.specs.Stored.{Records, AreThere, bytes_under}
use Rattle.fw_model.specs.Auto.{auto_steps, TakesFirst}
use Rattle.fw_model.specs.Machine.{Machine}
use Rattle.fw_model.specs.Reached.{IsReached}
use Rattle.fw_model.specs.Steps.{Outcome, cuts, did, LeadsTo, StepsTo}
use Rattle.fw_regain.specs.Down.{down}
use Rattle.fw_regain.specs.RootOf.{IsRootOf}
use Rattle.fw_root.specs.declared.root.Mark.{Mark}
use Rattle.fw_root.specs.declared.root.Root.{Root}
use Rattle.fw_root.specs.OfFlow.{Given}
use Rattle.fw_root.specs.Sound.{IsMark, IsRootFor}
use Rattle.fw_running.specs.declared.fault.EngineFault.{EngineFault}
use Rattle.fw_running.specs.declared.fault.EngineFault.TheVariants as fault
use Rattle.fw_running.specs.declared.stepped.Stepped.{Stepped}
use Rattle.fw_running.specs.declared.stepped.Stepped.TheVariants.{Idle}
use Rattle.fw_running.specs.Faults.{faults_after_step}
use Rattle.fw_running.specs.Steps.{HasOutcome, Trusts, outcome_of}
use Rattle.fw_named.specs.Named.{AreNamed, named_ids}

-- for which states of a system's machine an engine stands over the records of its store
abbrev pub Standings : Type 0 → Type 1
Standings E = System → E → Option Records → Machine → Type 0

-- the store has a record under the id of each entry, where it tells its records
abbrev pub EntriesAreThere : KeepState → Option Records → Type 0
EntriesAreThere keep records = AreThere (ids_of keep.entries) records

-- where the records are told afterwards they were told before, and under the id of each entry is what was there
pub record KeepsEntryBytes (keep : KeepState) (old new : Option Records) : Type 0 where
  pub told_before : IsSome new → IsSome old
  pub entries : IsSome new → (id : ℕ) → has_entry id keep.entries ≡ true → bytes_under id new ≡ bytes_under id old

-- An engine stands where it stood, whatever others put or remove: where under the ids of its entries is what was there.
pub record StandsOverOthers {E : Type 0} (Stand : Standings E) (keep_of : E → KeepState) (engine : E) : Type 0 where
  pub stands : (sys : System) (state : Machine) (old new : Option Records) → KeepsEntryBytes (keep_of engine) old new → Stand sys engine old state
      → Stand sys engine new state
  pub stored : (old new : Option Records) → KeepsEntryBytes (keep_of engine) old new → EntriesAreThere (keep_of engine) old
      → EntriesAreThere (keep_of engine) new
  pub drawn : (id : ℕ) → has_entry id (keep_of engine).entries ≡ true → id < (keep_of engine).next

-- where the records are told afterwards they were told before, and under each id outside of these bounds is what was there
pub record KeepsOutside (from to : ℕ) (old new : Option Records) : Type 0 where
  pub told_before : IsSome new → IsSome old
  pub others : IsSome new → (id : ℕ) → (id < from) ⊎ (to ≤ id) → bytes_under id new ≡ bytes_under id old

-- the store gave bytes under the id last
abbrev pub GaveBytes : ℕ → Option (ℕ × List ℕ) → Type 0
GaveBytes id given = (bytes : List ℕ) × (given ≡ Some (id, bytes))

-- from a state the machine takes a step with the outcome, and the engine then stands for the state that it leads to
abbrev pub FollowsIn : {E : Type 0} → Standings E → System → Machine → Step → Outcome → E → Option Records → Type 0
FollowsIn Stand sys state step outcome new records = (next : Machine) × StepsTo sys state step next outcome × Stand sys new records next

-- the same of the first step that is enabled
abbrev pub FollowsFirstIn : {E : Type 0} → Standings E → System → Machine → Outcome → E → Option Records → Type 0
FollowsFirstIn Stand sys state outcome new records =
    (next : Machine) × TakesFirst sys state (auto_steps sys.flow) next outcome × Stand sys new records next

-- What any step leaves, whatever it answers: the flow; a record under each entry's id; and nothing is changed but under the ids that it
-- drew, of which there are at most as many as there may be nodes. The store's count of faults rises by one at a fault of the store alone.
pub record LeavesHeld {E K T : Type 0} (view : K → StoreView) (keep_of : E → KeepState) (flow_of : E → Dataflow) (old : E) (before : K)
    (result : Result T EngineFault) (new : E) (after : K) : Type 0 where
  pub flow : flow_of new ≡ flow_of old
  pub stored : EntriesAreThere (keep_of new) (view after).records
  pub outside : KeepsOutside (keep_of old).next (keep_of new).next (view before).records (view after).records
  pub drawn : (keep_of new).next ≤ (keep_of old).next + 256
  pub never_back : (keep_of old).next ≤ (keep_of new).next
  pub faults : (view after).faults ≡ faults_after_step result (view before).faults

-- What a step answers.
pub record StepsHeld {E K : Type 0} (view : K → StoreView) (Stand : Standings E) (keep_of : E → KeepState) (flow_of : E → Dataflow) (old : E)
    (before : K) (step : Step) (result : Result Stepped EngineFault) (new : E) (after : K) : Type 0 where
  pub leaves : LeavesHeld view keep_of flow_of old before result new after
  -- it goes from each state for which it stood as the machine does, unless it can't trust what it read; what is told is the machine's
  -- outcome, also then
  pub ok : (sys : System) (state : Machine) → Stand sys old (view before).records state → Trusts sys state step (view after).records
      → IfOk result (λ stepped. FollowsIn Stand sys state step (outcome_of stepped) new (view after).records)
  pub shows : (sys : System) (state : Machine) → Stand sys old (view before).records state
      → IfOk result (λ stepped. HasOutcome sys state step (outcome_of stepped))
  -- an idle one leaves the store, and draws no id
  pub idle : result ≡ Ok Idle → after ≡ before
  pub none_drawn : result ≡ Ok Idle → (keep_of new).next ≡ (keep_of old).next
  -- a record is damaged in a recovery alone, by bytes that the store gave, and over a store that does not tell its records, or no more
  pub damaged : (id : ℕ) → IsErrOf result (fault.Damaged id) → GaveBytes id (view after).given
  pub in_recovery : (id : ℕ) → IsErrOf result (fault.Damaged id) → step ≡ Recover
  pub unharmed : (id : ℕ) → (sys : System) (state : Machine) → Stand sys old (view before).records state → IsErrOf result (fault.Damaged id)
      → IsSome (view after).records → ⊥

-- What the first step that is enabled answers.
pub record StepsFirstHeld {E K : Type 0} (view : K → StoreView) (Stand : Standings E) (keep_of : E → KeepState) (flow_of : E → Dataflow) (old : E)
    (before : K) (result : Result Stepped EngineFault) (new : E) (after : K) : Type 0 where
  pub leaves : LeavesHeld view keep_of flow_of old before result new after
  pub ok : (sys : System) (state : Machine) → Stand sys old (view before).records state
      → IfOk result (λ stepped. FollowsFirstIn Stand sys state (outcome_of stepped) new (view after).records)
  pub idle : result ≡ Ok Idle → after ≡ before
  pub none_drawn : result ≡ Ok Idle → (keep_of new).next ≡ (keep_of old).next
  pub unharmed : (id : ℕ) → IsErrOf result (fault.Damaged id) → ⊥

-- What a sweep answers: it stands where it stood, and changes nothing under the ids of entries, nor under those that were not drawn. Where
-- it is done, nothing waits for another.
pub record SweepsHeld {E K : Type 0} (view : K → StoreView) (Stand : Standings E) (keep_of : E → KeepState) (flow_of : E → Dataflow) (old : E)
    (before : K) (result : Result (Unit {0}) EngineFault) (new : E) (after : K) : Type 0 where
  pub flow : flow_of new ≡ flow_of old
  pub stored : EntriesAreThere (keep_of new) (view after).records
  pub next : (keep_of new).next ≡ (keep_of old).next
  pub stands : (sys : System) (state : Machine) → Stand sys old (view before).records state
      → IfOk result (λ done. Stand sys new (view after).records state)
  pub swept : OnOk result ((keep_of new).waiting ≡ [])
  pub told_before : IsSome (view after).records → IsSome (view before).records
  pub others : IsSome (view after).records → (id : ℕ) → (has_entry id (keep_of old).entries ≡ true) ⊎ ((keep_of old).next ≤ id)
      → bytes_under id (view after).records ≡ bytes_under id (view before).records
  pub faults : (view after).faults ≡ faults_after_step result (view before).faults
  pub undamaged : (id : ℕ) → IsErrOf result (fault.Damaged id) → ⊥

-- What a root says of an engine: it has the mark, and the next id; it names entries alone, whose ids were drawn, and has the ids that wait
-- for a sweep among its others. It is one of each state for which the engine stands, whose writes it names, and one of the flow and each
-- batches.
pub record IsRootIn {E : Type 0} (Stand : Standings E) (keep_of : E → KeepState) (flow_of : E → Dataflow) (engine : E) (mark : Mark) (root : Root)
    : Type 0 where
  pub marked : root.mark ≡ mark
  pub next : root.next_id ≡ (keep_of engine).next
  pub entries : (id : ℕ) → Contains (named_ids root) id → has_entry id (keep_of engine).entries ≡ true
  pub drawn : (id : ℕ) → Contains (named_ids root) id → id < (keep_of engine).next
  pub waits : (id : ℕ) → Contains (keep_of engine).waiting id → Contains root.others id
  pub of_state : (sys : System) (records : Option Records) (state : Machine) → Stand sys engine records state → IsRootOf sys state root
  pub named : (sys : System) (records : Option Records) (state : Machine) → Stand sys engine records state → AreNamed sys state root records
  pub of_flow : (batches : Given) (records : Option Records) (state : Machine) → Stand (system_of (flow_of engine) batches) engine records state
      → IsMark mark → (keep_of engine).next < 2 ^ 62 → IsRootFor (flow_of engine) batches root

-- Every node was restored from what is left of the state: a recovery was taken, and this came of it.
abbrev pub RestoresAll : {E : Type 0} → Standings E → System → Machine → Outcome → E → Option Records → Type 0
RestoresAll Stand sys state outcome new records = (next : Machine) × (choice : Choice) × LeadsTo sys (down sys state) Recover next (cuts choice)
    × (outcome ≡ did (cuts choice)) × Stand sys new records next

-- What an engine answers that is made of a root, with every node restored.
pub record ResumesHeld {E K : Type 0} (view : K → StoreView) (Stand : Standings E) (keep_of : E → KeepState) (flow_of : E → Dataflow)
    (flow : Dataflow) (batches : Given) (root : Root) (before : K) (result : Result (E × Stepped) EngineFault) (after : K) : Type 0 where
  pub runs : IfOk result (λ made. flow_of made.0 ≡ flow)
  pub stored : IfOk result (λ made. EntriesAreThere (keep_of made.0) (view after).records)
  pub next : IfOk result (λ made. (keep_of made.0).next ≡ root.next_id)
  pub stays : KeepsOutside 0 0 (view before).records (view after).records
  pub restores : (state : Machine) → IsReached (system_of flow batches) state → IsRootOf (system_of flow batches) state root
      → AreNamed (system_of flow batches) state root (view before).records → IsSome (view after).records
      → IfOk result (λ made. RestoresAll Stand (system_of flow batches) state (outcome_of made.1) made.0 (view after).records)
  pub damaged : (id : ℕ) → IsErrOf result (fault.Damaged id) → GaveBytes id (view after).given
  pub unharmed : (id : ℕ) (state : Machine) → IsReached (system_of flow batches) state → IsRootOf (system_of flow batches) state root
      → AreNamed (system_of flow batches) state root (view before).records → IsSome (view after).records → IsErrOf result (fault.Damaged id) → ⊥
  pub faults : (view after).faults ≡ faults_after_step result (view before).faults

-- Where a session stands, and what its calls answer.
use Rattle.std.specs.Prelude.{◌≡◌, ◌≢◌, ℕ, ◌+◌, ◌-◌, ◌^◌, min, Bool, false, length, slice_index_or, slice_set, is_some, Option, None, Result, Ok, IfOk, IsErrOf, IsSome}
use Rattle.fw_flow.specs.declared.step.Step.{Step}
use Rattle.fw_flow.specs.declared.step.Step.TheVariants.{Collect, Recover}
use Rattle.fw_flow.specs.Dataflow.{Dataflow}
use Rattle.fw_flow.specs.WellFormed.{IsWellFormed}
use Rattle.fw_outside.specs.Outside.{StoreView}
use Rattle.fw_keep.specs.Stored.{Records}
use Rattle.fw_model.specs.Auto.{AreIdle, IsFirstEnabled, IsIdle}
use Rattle.fw_model.specs.Machine.{Machine}
use Rattle.fw_model.specs.Steps.{Outcome, did, idle}
use Rattle.fw_running.specs.declared.fault.EngineFault.{EngineFault}
use Rattle.fw_running.specs.declared.fault.EngineFault.TheVariants as fault
use Rattle.fw_running.specs.declared.stepped.Stepped.{Stepped}
use Rattle.fw_running.specs.declared.stepped.Stepped.TheVariants.{Idle}
use Rattle.fw_running.specs.Fed.{auto_steps_within}
use Rattle.fw_running.specs.Steps.{FirstMayCall, MayCallByItself, MayCallStore, NeedsStore, Trusts, outcome_of}
use Rattle.fw_feeding.specs.OpenRuns.{HoldsBack}
use Rattle.fw_engine.specs.declared.engine.Engine.{Engine}
use Rattle.fw_engine.specs.Engine.{flow_of, was_refused, StandsFor}
use Rattle.fw_session.specs.declared.arrivals.Arrivals.{Arrivals}
use Rattle.fw_session.specs.Story.{Story, IsStory, system_now, opening, came_to, after_step}

-- whether a node is a source that is open
abbrev pub is_open_in : Arrivals → ℕ → Bool
is_open_in arrivals s = slice_index_or arrivals.opened.items s false

-- how many batches came to a node
abbrev pub came_in : Arrivals → ℕ → ℕ
came_in arrivals s = slice_index_or arrivals.came.items s 0

-- one batch more is counted of a node, if it is among those that are counted; at 2^64 - 1 it stays
abbrev pub IsCounted : ℕ → Arrivals → Arrivals → Type 0
IsCounted s old new = new.came.items ≡ slice_set old.came.items s (min (came_in old s + 1) (2 ^ 64 - 1))

-- a node is no source any more that is open
abbrev pub IsShut : ℕ → Arrivals → Arrivals → Type 0
IsShut s old new = new.opened.items ≡ slice_set old.opened.items s false

-- A session is at a story: its engine stands for the state of the story in the system of now, over the records of its store, and what is
-- kept of each node is whether this is a source that is open, and how many batches came.
pub record IsAt (engine : Engine) (records : Option Records) (arrivals : Arrivals) (story : Story) : Type 0 where
  pub of_story : IsStory (flow_of engine) story
  pub stands : StandsFor (system_now (flow_of engine) story) engine records story.now.state
  pub opens : (s : ℕ) → is_open_in arrivals s ≡ story.now.opened s
  pub counts : (s : ℕ) → came_in arrivals s ≡ length (came_to (flow_of engine) story.now s)
  pub one_each : length arrivals.came.items ≡ length (flow_of engine).nodes

-- unless memory was refused it is at some story, over a store that tells its records
abbrev pub IsAtSome : Engine → Option Records → Arrivals → Type 0
IsAtSome engine records arrivals = was_refused engine ≡ false → IsSome records → (story : Story) × IsAt engine records arrivals story

-- an engine of the flow stands for the first state over the batches with which a session opens
pub record IsOpened (flow : Dataflow) (engine : Engine) (records : Option Records) : Type 0 where
  pub well_formed : IsWellFormed flow
  pub of_flow : flow_of engine ≡ flow
  pub stands : StandsFor (system_now flow (opening flow)) engine records (opening flow).now.state

-- From one story what came of a step leads to the next one: a step that was done is in it; of an idle one there is nothing to tell, and it
-- is not enabled, if it is no injection of the last batch of an open source.
abbrev pub GoesOnBy : Dataflow → Step → Outcome → Story → Story → Type 0
GoesOnBy flow step (did effect) story next = (state : Machine) × (next ≡ after_step step effect state story)
GoesOnBy flow step idle story next =
    (HoldsBack story.now.opened (system_now flow story) story.now.state step → IsIdle (system_now flow story) story.now.state step)
    × (next ≡ story)

-- a story goes on by the step with the outcome, and of the next one this is true
abbrev pub GoesOnTo : Dataflow → Step → Outcome → Story → (Story → Type 0) → Type 0
GoesOnTo flow step outcome story P = (next : Story) × GoesOnBy flow step outcome story next × P next

-- What a fault of the store leaves: the story, at which the step needs the store, but that a collection, which sweeps last, may be done.
abbrev pub IsLeftAt : Dataflow → Step → Story → (Story → Type 0) → Type 0
IsLeftAt flow Collect story P = (outcome : Outcome) × GoesOnTo flow Collect outcome story P
IsLeftAt flow step story P = NeedsStore (system_now flow story) story.now.state step × P story

-- What a step of a session answers, by the stories at which it is before and after.
pub record StepGoesOn (flow : Dataflow) (step : Step) (result : Result Stepped EngineFault) (after : Option Records) (Before After : Story → Type 0)
    : Type 0 where
  -- the story goes on by what is told, and the session is at the next one, unless it can't trust what it read
  pub ok : (story : Story) → Before story → Trusts (system_now flow story) story.now.state step after
      → IfOk result (λ stepped. GoesOnTo flow step (outcome_of stepped) story After)
  pub shows : (story : Story) → Before story → IfOk result (λ stepped. GoesOnTo flow step (outcome_of stepped) story (IsStory flow))
  -- where the store fails the session is where it was, or behind a collection; and where a record is damaged, where it was
  pub faulted : (story : Story) → Before story → IsErrOf result fault.StoreFault → IsLeftAt flow step story After
  pub unharmed : (id : ℕ) (story : Story) → Before story → IsErrOf result (fault.Damaged id) → (after ≡ None) × After story

-- A story goes on by the first step that is enabled, where no source injects more than came, and of the next one this is true; where
-- none is, there is nothing to tell.
abbrev pub GoesOnFirst : Dataflow → Arrivals → Outcome → Story → (Story → Type 0) → Type 0
GoesOnFirst flow arrivals (did effect) story P =
    (step : Step) × (state : Machine) × P (after_step step effect state story) × IsFirstEnabled (system_now flow story) story.now.state
    (auto_steps_within flow (came_in arrivals) story.now.state) step state effect
GoesOnFirst flow arrivals idle story P =
    P story × AreIdle (system_now flow story) story.now.state (auto_steps_within flow (came_in arrivals) story.now.state)

-- What the first step that is enabled answers: it is one that asks for a write, where the store fails, and no record is damaged.
pub record FirstGoesOn (flow : Dataflow) (arrivals : Arrivals) (result : Result Stepped EngineFault) (Before After : Story → Type 0) : Type 0 where
  pub ok : (story : Story) → Before story → IfOk result (λ stepped. GoesOnFirst flow arrivals (outcome_of stepped) story After)
  pub faulted : (story : Story) → Before story → IsErrOf result fault.StoreFault
      → FirstMayCall (system_now flow story) story.now.state × After story
  pub unharmed : (id : ℕ) → IsErrOf result (fault.Damaged id) → ⊥

-- ---- what a step leaves of the store, whatever the session stands for

-- When a step calls the store, and what it leaves of it.
pub record StepLeaves {K : Type 0} (view : K → StoreView) (flow : Dataflow) (step : Step) (result : Result Stepped EngineFault) (before after : K)
    : Type 0 where
  -- a store that tells its records goes on telling them, unless it ceases in a recovery, which reads
  pub tells : step ≢ Recover → is_some (view after).records ≡ is_some (view before).records
  -- a step that by the flow's policies never calls it leaves it as it is, and so does an idle one that is no collection
  pub quiet : (MayCallStore flow step → ⊥) → after ≡ before
  pub idle : step ≢ Collect → result ≡ Ok Idle → after ≡ before
  -- it fails in a step alone that may call it, and a record is damaged in a recovery alone
  pub calls : IsErrOf result fault.StoreFault → MayCallStore flow step
  pub in_recovery : (id : ℕ) → IsErrOf result (fault.Damaged id) → step ≡ Recover

-- The same of a step that is taken by itself.
pub record FirstLeaves {K : Type 0} (view : K → StoreView) (flow : Dataflow) (result : Result Stepped EngineFault) (before after : K) : Type 0 where
  pub tells : is_some (view after).records ≡ is_some (view before).records
  pub quiet : (MayCallByItself flow → ⊥) → after ≡ before
  pub idle : result ≡ Ok Idle → after ≡ before
  pub calls : IsErrOf result fault.StoreFault → MayCallByItself flow

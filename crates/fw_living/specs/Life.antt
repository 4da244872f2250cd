-- How a session over which lines are answered goes on.
use Rattle.std.specs.Prelude.{◌≡◌, ◌⊎◌, ℕ, List, length, Option, Result, Ok, Err, IfOk, IsErrOf, IsSome}
use Rattle.fw_outside.specs.Outside.{one_more}
use Rattle.fw_flow.specs.declared.step.Step.{Step}
use Rattle.fw_flow.specs.Dataflow.{Dataflow}
use Rattle.fw_keep.specs.Stored.{Records}
use Rattle.fw_model.specs.Auto.{AreIdle, IsFirstEnabled}
use Rattle.fw_model.specs.Machine.{Machine}
use Rattle.fw_model.specs.Steps.{Outcome, did, idle}
use Rattle.fw_running.specs.declared.fault.EngineFault.{EngineFault}
use Rattle.fw_running.specs.declared.fault.EngineFault.TheVariants as fault
use Rattle.fw_running.specs.declared.stepped.Stepped.{Stepped}
use Rattle.fw_running.specs.Fed.{auto_steps_within}
use Rattle.fw_running.specs.Steps.{FirstMayCall, outcome_of}
use Rattle.fw_session.specs.declared.fault.FeedFault.{FeedFault}
use Rattle.fw_session.specs.declared.fault.FeedFault.TheVariants as feed
use Rattle.fw_session.specs.Story.{Story, system_now, came_to, after_step}
use Rattle.fw_living.specs.declared.fault.LifeFault.{LifeFault}
use Rattle.fw_living.specs.declared.fault.LifeFault.TheVariants.{NotFed, StoreFault, NoMemory}

-- how many batches came to a node
abbrev pub came_in_story : Dataflow → Story → ℕ → ℕ
came_in_story flow story s = length (came_to flow story.now s)

-- the steps that `auto` tries, where no source injects more than came
abbrev pub auto_steps_now : Dataflow → Story → List Step
auto_steps_now flow story = auto_steps_within flow (came_in_story flow story) story.now.state

-- A story goes on by the first step that is enabled, where no source injects more than came, and of the next one this is true; where
-- none is, there is nothing to tell.
abbrev pub GoesOnByAuto : Dataflow → Outcome → Story → (Story → Type 0) → Type 0
GoesOnByAuto flow (did effect) story P =
    (step : Step) × (state : Machine) × P (after_step step effect state story) × IsFirstEnabled (system_now flow story) story.now.state
    (auto_steps_now flow story) step state effect
GoesOnByAuto flow idle story P = P story × AreIdle (system_now flow story) story.now.state (auto_steps_now flow story)

-- What the first step that is enabled answers, by the stories at which a session is before and after: it is one that asks for a write, where
-- the store fails, and no record is damaged.
pub record AutoGoesOn (flow : Dataflow) (result : Result Stepped EngineFault) (Before After : Story → Type 0) : Type 0 where
  pub ok : (story : Story) → Before story → IfOk result (λ stepped. GoesOnByAuto flow (outcome_of stepped) story After)
  pub faulted : (story : Story) → Before story → IsErrOf result fault.StoreFault
      → FirstMayCall (system_now flow story) story.now.state × After story
  pub unharmed : (id : ℕ) → IsErrOf result (fault.Damaged id) → ⊥

-- what a session that keeps nothing answers, by the faults of one over which lines are answered
abbrev pub life_of : Result ℕ FeedFault → Result ℕ LifeFault
life_of (Ok epoch) = Ok epoch
life_of (Err (feed.Closed s)) = Err NotFed
life_of (Err (feed.Full s)) = Err NotFed
life_of (Err feed.NoMemory) = Err NoMemory

-- ---- how often the store fails

-- how often a store failed behind a call that answered so: once more where it failed, and else as often as before
abbrev pub life_faults_after : {T : Type 0} → Result T LifeFault → ℕ → ℕ
life_faults_after (Ok x) count = count
life_faults_after (Err NotFed) count = count
life_faults_after (Err StoreFault) count = one_more count
life_faults_after (Err NoMemory) count = count

-- A batch is kept, and so often the store failed behind that. A store of which nothing is known may have a record where the batch goes, which
-- is a fault too, and is not counted; one that tells its records has none there, where the session is at a story.
abbrev pub CountsKeeping : {T : Type 0} → Result T LifeFault → Option Records → (Story → Type 0) → ℕ → ℕ → Type 0
CountsKeeping result records At before after = (after ≡ life_faults_after result before)
    ⊎ ((after ≡ before) × (IsSome records → (story : Story) → At story → ⊥))

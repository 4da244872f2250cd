-- Laws of what is done in a session.
use Rattle.std.specs.Prelude.{◌≡◌, ℕ, ◌+◌, ◌^◌, ◌<◌, true, List, length, map}
use Rattle.std.specs.List.{AllByRecursion}
use Rattle.fw_bag.specs.declared.rec.Rec.{Rec}
use Rattle.fw_lines.specs.Batches.{IsBatch}
use Rattle.fw_flow.specs.declared.step.Step.{Step}
use Rattle.fw_flow.specs.Dataflow.{Dataflow}
use Rattle.fw_flow.specs.WellFormed.{IsWellFormed, IsWellFormedSystem}
use Rattle.fw_model.specs.Acknowledgements.{IsDenotedEffect}
use Rattle.fw_model.specs.Denotation.{Family, IsDenotation}
use Rattle.fw_model.specs.Machine.{Machine, first_state}
use Rattle.fw_model.specs.Steps.{Effect, did, LeadsTo, Run}
use Rattle.fw_feeding.specs.Feeding.{with_batches, GoOnEach}
use Rattle.fw_feeding.specs.FedRuns.{steps_among}
use Rattle.fw_feeding.specs.OpenRuns.{HoldsBack}
use Rattle.fw_session.specs.Story.{Story, IsStory, system_now, opening, came_to, given_to, after_feed, after_close, after_step}

-- the steps of a story with their effects are a run over the batches that came, and over all that go on behind them
abbrev pub StoriesAreRuns : Type 0
StoriesAreRuns = (flow : Dataflow) (story : Story) → IsStory flow story
    → (end : List (List (List Rec))) → GoOnEach story.now.opened flow story.now.batches end
    → Run (with_batches flow end) (first_state (with_batches flow end)) (steps_among story.actions) (map did story.effects) story.now.state

-- what a story acknowledges is denoted, whatever comes
abbrev pub StoriesShowWhatIsDenoted : Type 0
StoriesShowWhatIsDenoted = (flow : Dataflow) (story : Story) → IsStory flow story
    → (end : List (List (List Rec))) → GoOnEach story.now.opened flow story.now.batches end → IsWellFormedSystem (with_batches flow end)
    → (family : Family) → IsDenotation (with_batches flow end) family → AllByRecursion (IsDenotedEffect (with_batches flow end) family) story.effects

-- to each node came what its actions gave it
abbrev pub StoriesHaveWhatCame : Type 0
StoriesHaveWhatCame = (flow : Dataflow) (story : Story) → IsStory flow story → (s : ℕ) → came_to flow story.now s ≡ given_to s story.actions

-- A story goes on by a batch that a source is fed, by a source that is closed, and by a step that is enabled and injects no last batch of an
-- open source.
pub record MayGoOn (flow : Dataflow) (story : Story) : Type 0 where
  pub fed : (s : ℕ) (recs : List Rec) → story.now.opened s ≡ true → IsBatch recs → length (came_to flow story.now s) + 1 < 2 ^ 20
      → IsStory flow (after_feed s recs story)
  pub closed : (s : ℕ) → story.now.opened s ≡ true → IsStory flow (after_close s story)
  pub stepped : (step : Step) (effect : Effect) (next : Machine) → HoldsBack story.now.opened (system_now flow story) story.now.state step
      → LeadsTo (system_now flow story) story.now.state step next effect → IsStory flow (after_step step effect next story)

-- each session opens with a story, and each story goes on
abbrev pub StoriesGoOn : Type 0
StoriesGoOn = (flow : Dataflow) → IsWellFormed flow → IsStory flow (opening flow) × ((story : Story) → IsStory flow story → MayGoOn flow story)

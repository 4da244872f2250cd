-- What a session told, beside what came to its source.
use Rattle.std.specs.Prelude.{◌≡◌, ◌++◌, ◌∷◌, [], ◌⊎◌, ℕ, List, map, Vec}
use Rattle.std.specs.declared.alloc.Global.{Global}
use Rattle.std.specs.List.{AllByRecursion, flat_map}
use Rattle.cimboery.specs.declared.Rec.{Rec}
use Rattle.cimboery.specs.declared.Stepped.{Stepped}
use Rattle.cimboery.specs.Acknowledgements.{IsDenoted}
use Rattle.cimboery.specs.Dataflow.{Dataflow}
use Rattle.cimboery.specs.Denotation.{Family, IsDenotation}
use Rattle.cimboery.specs.EngineSteps.{outcome_of}
use Rattle.cimboery.specs.Feeding.{with_batches, GoOnEach}
use Rattle.cimboery.specs.Keyed.{sorted_recs}
use Rattle.cimboery.specs.Steps.{Effect, Outcome, did, idle}
use Rattle.cimboery.specs.Story.{Story, IsStory, came_to, given_to}
use Rattle.cimboery.specs.WellFormed.{IsWellFormedSystem}

-- what a step shows: nothing, where it is idle
abbrev pub shown_by : Outcome → List Effect
shown_by (did effect) = effect ∷ []
shown_by idle = []

-- what steps show, one after the other
abbrev pub all_shown : List Stepped → List Effect
all_shown told = flat_map (λ stepped. shown_by (outcome_of stepped)) told

-- the first effects are the second ones, of which some may be left out
abbrev pub AreAmong : List Effect → List Effect → Type 0
AreAmong [] effects = Unit {0}
AreAmong (x ∷ xs) [] = ⊥
AreAmong (x ∷ xs) (y ∷ ys) = ((x ≡ y) × AreAmong xs ys) ⊎ AreAmong (x ∷ xs) ys

-- The batches were given to the source, in this order; and what was told was shown by steps of the story, each once and in this order.
pub record IsStoryOf (source : ℕ) (came : List (Vec Rec Global)) (told : List Stepped) (story : Story) : Type 0 where
  pub given : given_to source story.actions ≡ map (λ (recs : Vec Rec Global). sorted_recs recs.items) came
  pub shown : AreAmong (all_shown told) story.effects

-- one thing more was told, behind all others
abbrev pub HasToldOneMore : List Stepped → List Stepped → Type 0
HasToldOneMore old new = (stepped : Stepped) × (new ≡ old ++ stepped ∷ [])

-- To the source came these batches; what was told was shown by steps of a story of the session, each once and in this order; and whatever
-- goes on behind what came, it is what the flow means of it.
pub record IsMeant (flow : Dataflow) (source : ℕ) (batches : List (Vec Rec Global)) (told : List Stepped) : Type 0 where
  pub story : Story
  pub is_story : IsStory flow story
  pub shown : AreAmong (all_shown told) story.effects
  pub came : came_to flow story.now source ≡ map (λ (recs : Vec Rec Global). sorted_recs recs.items) batches
  pub denoted : (end : List (List (List Rec))) → GoOnEach story.now.opened flow story.now.batches end
      → IsWellFormedSystem (with_batches flow end) → (family : Family) → IsDenotation (with_batches flow end) family
      → AllByRecursion (λ stepped. IsDenoted (with_batches flow end) family (outcome_of stepped)) told

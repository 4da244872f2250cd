-- How a session takes the steps of a line, from a story.
use Rattle.std.specs.Prelude.{◌≡◌, ◌≢◌, ◌⊎◌, ℕ, ◌<◌, ◌≤◌, List, [], ◌∷◌, ◌++◌, length, map, Option, Some, None}
use Rattle.fw_flow.specs.declared.step.Step.{Step}
use Rattle.fw_flow.specs.Dataflow.{Dataflow}
use Rattle.fw_schedule.specs.declared.item.Item.{Item}
use Rattle.fw_schedule.specs.declared.item.Item.TheVariants.{One, Auto}
use Rattle.fw_model.specs.Auto.{AreIdle, IsFirstEnabled}
use Rattle.fw_model.specs.Machine.{Machine}
use Rattle.fw_model.specs.Steps.{Effect, Outcome, did}
use Rattle.fw_running.specs.Steps.{FirstMayCall}
use Rattle.fw_session.specs.Session.{GoesOnBy, IsLeftAt}
use Rattle.fw_session.specs.Story.{Story, IsStory, system_now, after_step}
use Rattle.fw_living.specs.Life.{auto_steps_now}

-- From a story `auto` takes steps with these effects, each the first that is enabled where it is taken.
abbrev pub TakesFirsts : Dataflow → Story → List Effect → Story → Type 0
TakesFirsts flow story [] next = next ≡ story
TakesFirsts flow story (effect ∷ effects) next =
    (step : Step) × (state : Machine) × IsFirstEnabled (system_now flow story) story.now.state (auto_steps_now flow story) step state effect
    × TakesFirsts flow (after_step step effect state story) effects next

-- These are at most so many, and fewer only where none is enabled behind them.
pub record TakesAuto (flow : Dataflow) (story : Story) (most : ℕ) (outcomes : List Outcome) (next : Story) : Type 0 where
  pub effects : List Effect
  pub are : outcomes ≡ map did effects
  pub firsts : TakesFirsts flow story effects next
  pub few : length effects ≤ most
  pub rest : length effects < most → AreIdle (system_now flow next) next.now.state (auto_steps_now flow next)

-- Of a step this came, and the story goes on by it.
pub record TakesOne (flow : Dataflow) (story : Story) (step : Step) (outcomes : List Outcome) (next : Story) : Type 0 where
  pub outcome : Outcome
  pub are : outcomes ≡ outcome ∷ []
  pub goes_on : GoesOnBy flow step outcome story next
  pub is_story : IsStory flow next

-- From a story the steps of an item are taken with these outcomes, and lead to the next one.
abbrev pub TakesItem : Dataflow → Story → Item → List Outcome → Story → Type 0
TakesItem flow story (One step) outcomes next = TakesOne flow story step outcomes next
TakesItem flow story (Auto most) outcomes next = TakesAuto flow story most outcomes next

-- ---- where the store ends a line

-- how the steps of a line end: all were taken; the store failed in one; the bytes under this id, which a recovery read, spell no record
pub data Ending : Type 0 where
  all : Ending
  failed : Ending
  spoiled : ℕ → Ending

-- the story that the store left in a step: the one before, at which the step needs the store, but that a collection, which sweeps last, may be
-- done
abbrev pub IsLeftInStory : Dataflow → Story → Step → Story → Type 0
IsLeftInStory flow story step next = IsLeftAt flow step story (λ left. left ≡ next)

-- From a story an item ends so behind steps with these outcomes; where the store failed in `auto`, the next step asks for a write.
abbrev pub StopsItem : Dataflow → Story → Item → Ending → List Outcome → Story → Type 0
StopsItem flow story item all outcomes next = ⊥
StopsItem flow story (One step) failed outcomes next = (outcomes ≡ []) × IsLeftInStory flow story step next
StopsItem flow story (One step) (spoiled id) outcomes next = (outcomes ≡ []) × (next ≡ story)
StopsItem flow story (Auto most) failed outcomes next =
    (effects : List Effect) × (outcomes ≡ map did effects) × TakesFirsts flow story effects next × (length effects < most)
    × FirstMayCall (system_now flow next) next.now.state
StopsItem flow story (Auto most) (spoiled id) outcomes next = ⊥

-- From a story an item is taken, or ends so.
abbrev pub EndsItem : Dataflow → Story → Item → Ending → List Outcome → Story → Type 0
EndsItem flow story item all outcomes next = TakesItem flow story item outcomes next
EndsItem flow story item failed outcomes next = StopsItem flow story item failed outcomes next
EndsItem flow story item (spoiled id) outcomes next = StopsItem flow story item (spoiled id) outcomes next

-- the same of one that may be none, of which nothing comes
abbrev pub EndsMaybe : Dataflow → Story → Option Item → Ending → List Outcome → Story → Type 0
EndsMaybe flow story (Some item) ending outcomes next = EndsItem flow story item ending outcomes next
EndsMaybe flow story None ending outcomes next = (ending ≡ all) × (outcomes ≡ []) × (next ≡ story)

-- both are taken, one after the other, and the second ends so
pub record EndsSecond (flow : Dataflow) (story : Story) (first second : Option Item) (ending : Ending) (outcomes : List Outcome) (next : Story)
    : Type 0 where
  pub before : List Outcome
  pub between : Story
  pub takes : EndsMaybe flow story first all before between
  pub behind : List Outcome
  pub ends : EndsMaybe flow between second ending behind next
  pub are : outcomes ≡ before ++ behind

-- From a story two items are taken, one after the other; or the first ends so, and the second is not begun; or the second does.
abbrev pub EndsBoth : Dataflow → Story → Option Item → Option Item → Ending → List Outcome → Story → Type 0
EndsBoth flow story first second ending outcomes next =
    ((ending ≢ all) × EndsMaybe flow story first ending outcomes next) ⊎ EndsSecond flow story first second ending outcomes next

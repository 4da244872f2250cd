-- What a session shows, as a text.
use Rattle.std.specs.Prelude.{ℕ, Bool, List, [], ◌∷◌, ◌++◌, length, map}
use Rattle.std.specs.List.{AllByRecursion, flat_map}
use Rattle.fw_bag.specs.declared.rec.Rec.{Rec}
use Rattle.fw_flow.specs.Dataflow.{Dataflow}
use Rattle.fw_schedule.specs.declared.item.Item.TheVariants.{One}
use Rattle.fw_running.specs.EffectText.{effect_text}
use Rattle.fw_feeding.specs.Feeding.{with_batches, GoOnEach}
use Rattle.fw_feeding.specs.FedRuns.{steps_among}
use Rattle.fw_session.specs.Story.{Story, IsStory, opening}
use Rattle.fw_run.specs.Headline.{PrintsRun}
use Rattle.fw_run.specs.Printed.{done_line, outcomes_text}
use Rattle.fw_live.specs.Answers.{Answer, refused, turned, IsFaultless}
use Rattle.fw_live.specs.Asked.{LineIn}
use Rattle.fw_live.specs.Life.{AreAnswers}

-- the lines of what the steps of a story showed, and how many they were
abbrev pub story_text : Dataflow → Story → List ℕ
story_text flow story = flat_map (effect_text flow) story.effects ++ done_line (length story.effects) 0

-- what a story showed is what a run prints, whose schedule is its steps, over the batches that came and over all that go on behind them
abbrev pub StoriesPrintAsRuns : Type 0
StoriesPrintAsRuns = (flow : Dataflow) (story : Story) → IsStory flow story
    → (end : List (List (List Rec))) → GoOnEach story.now.opened flow story.now.batches end
    → PrintsRun (with_batches flow end) (map One (steps_among story.actions)) (story_text flow story)

-- ---- the same of lines that were answered

-- the lines of effects among these answers
abbrev pub effects_in : Dataflow → List Answer → List ℕ
effects_in flow [] = []
effects_in flow (refused rule ∷ answers) = effects_in flow answers
effects_in flow (turned turn ∷ answers) = outcomes_text flow turn.outcomes ++ effects_in flow answers

-- the lines of effects among the answers to lines, from the opening of a session on, with the line of the steps that were done behind them,
-- are what a run prints, whose schedule is these steps, over the batches that came and over all that go on behind them
abbrev pub LivesPrintAsRuns : Type 0
LivesPrintAsRuns = (rests : Bool) (flow : Dataflow) (lines : List LineIn) (answers : List Answer) (last : Story)
    → AreAnswers rests flow (opening flow) lines answers last → IsStory flow last → AllByRecursion IsFaultless answers
    → (end : List (List (List Rec))) → GoOnEach last.now.opened flow last.now.batches end
    → PrintsRun (with_batches flow end) (map One (steps_among last.actions)) (effects_in flow answers ++ done_line (length last.effects) 0)

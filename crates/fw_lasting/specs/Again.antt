-- How a story goes on where a session starts again.
use Rattle.std.specs.Prelude.{◌≡◌, ◌⊎◌}
use Rattle.fw_flow.specs.declared.choice.Choice.{Choice}
use Rattle.fw_flow.specs.declared.step.Step.TheVariants.{Fail, Recover}
use Rattle.fw_flow.specs.Dataflow.{Dataflow, node_ids}
use Rattle.fw_model.specs.Machine.{Machine}
use Rattle.fw_model.specs.Steps.{cuts, silent, LeadsTo}
use Rattle.fw_regain.specs.Down.{down}
use Rattle.fw_session.specs.Story.{Story, system_now, after_step}

-- The story is the one in which every node was failed: that of before, where each was and nothing was in flight; else with this step more.
abbrev pub IsStoryDown : Dataflow → Story → Story → Type 0
IsStoryDown flow story fallen =
    ((fallen ≡ story) × (down (system_now flow story) story.now.state ≡ story.now.state))
    ⊎ (fallen ≡ after_step (Fail (node_ids flow)) silent (down (system_now flow story) story.now.state) story)

-- The next story is that of before, and a start behind it: every node was failed, and then restored, by this choice.
pub record IsStartBehind (flow : Dataflow) (story : Story) (choice : Choice) (next : Story) : Type 0 where
  pub fallen : Story
  pub falls : IsStoryDown flow story fallen
  pub state : Machine
  pub recovers : LeadsTo (system_now flow story) (down (system_now flow story) story.now.state) Recover state (cuts choice)
  pub restored : next ≡ after_step Recover (cuts choice) state fallen

-- What the machine does with the items of a schedule, and the text that its run prints.
use Rattle.std.specs.Prelude.{◌≡◌, ℕ, ◌<◌, ◌≤◌, true, List, ◌++◌, length, map}
use Rattle.fw_flow.specs.declared.step.Step.{Step}
use Rattle.fw_flow.specs.Dataflow.{System, kind_of, is_output_kind}
use Rattle.fw_schedule.specs.declared.item.Item.{Item}
use Rattle.fw_schedule.specs.declared.item.Item.TheVariants.{Auto}
use Rattle.fw_schedule.specs.Schedule.{step_count}
use Rattle.fw_model.specs.Denotation.{Family, IsDenotation}
use Rattle.fw_model.specs.Machine.{Machine, first_state}
use Rattle.fw_model.specs.Steps.{Outcome, Run}
use Rattle.fw_rest.specs.Rest.{HasAcknowledgedAll, HasShownAll}
use Rattle.fw_rest.specs.StepsToRest.{steps_enough}
use Rattle.fw_headline.specs.Right.{IsRight, IsTheRun, RunsRight}
use Rattle.fw_hold.specs.Chain.{HasRunTo, Started, StartsLead, starts_text}
use Rattle.fw_hold.specs.Kept.{kept_at_first}
use Rattle.fw_hold.specs.Moves.{KeptPoint}
use Rattle.fw_run.specs.Items.{all_live_after, ComesTo}
use Rattle.fw_run.specs.Printed.{run_text}

-- the items come to steps, the machine takes these from its first state, and this is the text of what comes of them
pub record PrintsRun (sys : System) (items : List Item) (printed : List ℕ) : Type 0 where
  pub steps : List Step
  pub last : Machine
  pub comes : ComesTo sys (first_state sys) items steps last
  pub outcomes : List Outcome
  pub run : Run sys (first_state sys) steps outcomes last
  pub text : printed ≡ run_text sys.flow outcomes

-- the items come to exactly one list of steps, which has exactly one run, to the same last state
pub record HasOneRun (sys : System) (items : List Item) : Type 0 where
  pub steps : List Step
  pub outcomes : List Outcome
  pub last : Machine
  pub comes : ComesTo sys (first_state sys) items steps last
  pub only : (others : List Step) (other : Machine) → ComesTo sys (first_state sys) items others other → (others ≡ steps) × (other ≡ last)
  pub run : IsTheRun sys steps outcomes last

-- The items end in lines of `auto`, where no node is failed as these begin, and these ask for enough steps behind those before them.
pub record EndInAuto (sys : System) (family : Family) (items : List Item) : Type 0 where
  pub earlier : List Item
  pub counts : List ℕ
  pub parts : items ≡ earlier ++ map Auto counts
  pub live : all_live_after true earlier ≡ true
  pub enough : steps_enough sys family (step_count earlier) ≤ step_count (map Auto counts)

-- each output has acknowledged all that is denoted at it, and the outcomes show it
abbrev pub IsAllAcknowledged : System → Family → List Outcome → Machine → Type 0
IsAllAcknowledged sys family outcomes last = (o : ℕ) → o < length sys.flow.nodes → is_output_kind (kind_of sys.flow o) ≡ true
    → HasAcknowledgedAll sys family last o × HasShownAll sys family outcomes o

-- The starts are one run of the machine, to the state of what is kept last, and all is right where it ends; what comes of its steps are the
-- lines of the moves of the starts.
pub record AreOneRightRun (sys : System) (starts : List Started) (last : KeptPoint) : Type 0 where
  pub run : HasRunTo sys (first_state sys) (starts_text sys.flow starts) last.point.state
  pub right : IsRight sys run.outcomes last.point.state

-- what is true of the system that accepted texts spell, and of these items
pub record Headline (sys : System) (items : List Item) : Type 0 where
  -- the items come to one list of steps, and this has one run, so one text can be printed
  pub one_run : HasOneRun sys items
  -- the dataflow has one denotation; and whatever steps are taken, those of the items or others, all is right where they end
  pub right : RunsRight sys
  -- where the items end in enough `auto`, and no node is failed as these begin, their run has acknowledged all that is denoted, whatever failed before
  pub acknowledged : (family : Family) → IsDenotation sys family → EndInAuto sys family items
      → IsAllAcknowledged sys family one_run.outcomes one_run.last
  -- starts of a held run, each from what the one before kept, are one run all together: each output has acknowledged its first epochs or
  -- numbers in order, each once over all starts, with the recs that are denoted
  pub held : (starts : List Started) (last : KeptPoint) → StartsLead sys items (kept_at_first sys) starts last → AreOneRightRun sys starts last

-- What the laws of rest say of the running total whose output failed.
use Rattle.std.specs.Prelude.{◌≡◌, ◌+◌, ◌≤◌, List, [], ◌∷◌, ◌++◌, length}
use Rattle.fw_model.specs.Acknowledgements.{stamps_acknowledged, first_stamps, Shows}
use Rattle.fw_model.specs.LawsOfAuto as auto
use Rattle.fw_model.specs.LawsOfRuns as runs
use Rattle.fw_model.specs.Machine.{Machine, events}
use Rattle.fw_model.specs.Steps.{Outcome}
use Rattle.fw_rest.specs.LawsOfRest as rest
use Rattle.fw_rest.specs.Left.{AsksAndCollects, NothingIsLeft}
use Rattle.fw_rest.specs.Rest.{AreAllLive, HasNothingToDo, HasAcknowledgedAll, RecoversAndGoesOn}
use Rattle.fw_rest.specs.StepsToRest.{count_in_flight, most_events, stamps_due, steps_in_all}
use Rattle.fw_examples.specs.Flows.{out, pair}
use Rattle.fw_examples.specs.RunningTotal.{outcomes_to_failure, output_failed, totals, totals_denoted}

-- The laws of rest, of the state in which the output is failed, two of five epochs are acknowledged and a checkpoint is in flight: a
-- recovery and 136 steps bring all five to the output; and once each node is asked for a checkpoint, and 138 steps and a collection are
-- taken, the newest record is left, with those on which it stands.
pub record RestApplies : Type 0 where
  pub due : stamps_due totals totals_denoted out ≡ 5
  pub enough : steps_in_all totals totals_denoted + count_in_flight output_failed.writes ≡ 136
  pub few : rest.LegalHistoriesEnd → length (events output_failed.history) ≤ most_events totals totals_denoted
  pub comes : auto.AutoRunsAreOne → rest.AutoComesToRest → (last : Machine) × HasNothingToDo totals last
  pub goes_on : rest.EachStateGoesOn → (also : List Outcome) × (last : Machine) × RecoversAndGoesOn totals output_failed 136 also last
  pub rests : rest.RecoveryComesToRest → (also : List Outcome) (last : Machine) → RecoversAndGoesOn totals output_failed 136 also last
      → AreAllLive totals last × HasNothingToDo totals last
  pub all : rest.WhatIsGivenIsAcknowledged → (also : List Outcome) (last : Machine) → RecoversAndGoesOn totals output_failed 136 also last
      → HasAcknowledgedAll totals totals_denoted last out
  pub shown : rest.WhatIsGivenIsAcknowledged → (also : List Outcome) (last : Machine) → RecoversAndGoesOn totals output_failed 136 also last
      → Shows out (4 ∷ []) (pair 1 18 ∷ []) (outcomes_to_failure ++ also)
  pub stamps : rest.WhatIsGivenIsAcknowledged → (also : List Outcome) (last : Machine) → RecoversAndGoesOn totals output_failed 136 also last
      → stamps_acknowledged out (outcomes_to_failure ++ also) ≡ first_stamps 5
  pub asks : runs.RunsGoOn → rest.AskingGoesOn → (also : List Outcome) (rested : Machine) → RecoversAndGoesOn totals output_failed 136 also rested
      → (last : Machine) × AsksAndCollects totals rested 138 last
  pub left : runs.RunsGoOn → rest.RecoveryComesToRest → rest.AskingLeavesNothing → (also : List Outcome) (rested : Machine)
      → RecoversAndGoesOn totals output_failed 136 also rested → (last : Machine) → AsksAndCollects totals rested 138 last → NothingIsLeft totals last

-- What the headline says of the run of the running total.
use Rattle.std.specs.Prelude.{[], ◌++◌, ◌∷◌}
use Rattle.fw_flow.specs.declared.step.Step.TheVariants.{Collect, Recover}
use Rattle.fw_headline.specs.Right.{EveryRunIsRight, IsAllThere, IsRight}
use Rattle.fw_model.specs.Choice.{IsWatermark}
use Rattle.fw_model.specs.Machine.{Machine, is_failed}
use Rattle.fw_model.specs.Steps.{StepsTo, cuts, did, lows}
use Rattle.fw_examples.specs.RunningTotal.{come_back, outcomes_to_failure, outcomes_up_to_two, output_failed, totals, two_epochs_kept}

-- All is right before the collection, where the output failed, and after its recovery; the largest choice of the recovery keeps
-- two epochs of four, and the watermark is what the collection shows.
pub record HeadlineApplies : Type 0 where
  pub before : Machine
  pub collected : Machine
  pub collects : StepsTo totals before Collect collected (did (lows two_epochs_kept))
  pub right_before : EveryRunIsRight → IsRight totals outcomes_up_to_two before
  pub watermark : EveryRunIsRight → IsWatermark totals before two_epochs_kept
  pub right_at_failure : EveryRunIsRight → IsRight totals outcomes_to_failure output_failed
  pub recovers : StepsTo totals output_failed Recover come_back (did (cuts two_epochs_kept))
  pub all_there : EveryRunIsRight → IsAllThere totals output_failed (is_failed output_failed) two_epochs_kept
  pub right_after : EveryRunIsRight → IsRight totals (outcomes_to_failure ++ did (cuts two_epochs_kept) ∷ []) come_back

-- The headline, asked of the run of the running total.
use Rattle.std.proofs.Common.{[], ◌++◌, ◌∷◌}
use Rattle.fw_flow.specs.declared.step.Step.TheVariants.{Recover}
use Rattle.fw_headline.specs.Right.{EveryRunIsRight, RunsRight}
use Rattle.fw_model.specs.Machine.{is_failed}
use Rattle.fw_model.specs.Steps.{cuts, did}
use Rattle.fw_examples.proofs.TotalRuns.{collects, runs_to_two, ten_acknowledged, two_collected}
use Rattle.fw_examples.proofs.Witnesses.{failure_is_reached, recovery_is_reached, something_is_chosen, totals_are_well_formed}
use Rattle.fw_examples.specs.Headline.{HeadlineApplies}
use Rattle.fw_examples.specs.RunningTotal.{come_back, outcomes_to_failure, outcomes_up_to_two, output_failed, steps_to_failure, steps_up_to_two, totals, two_epochs_kept}

run_right : EveryRunIsRight → RunsRight totals
run_right law = law totals totals_are_well_formed.well_formed

pub headline_applies : HeadlineApplies
headline_applies = record {
  before = ten_acknowledged;
  collected = two_collected;
  collects = collects;
  right_before = λ law. (run_right law).right steps_up_to_two outcomes_up_to_two ten_acknowledged runs_to_two;
  watermark = λ law. (((run_right law).right steps_up_to_two outcomes_up_to_two ten_acknowledged runs_to_two).shown two_collected two_epochs_kept collects).0;
  right_at_failure = λ law. (run_right law).right steps_to_failure outcomes_to_failure output_failed failure_is_reached.reached;
  recovers = recovery_is_reached.step;
  all_there = λ law. ((run_right law).right steps_to_failure outcomes_to_failure output_failed failure_is_reached.reached).restored (is_failed output_failed) two_epochs_kept something_is_chosen.largest;
  right_after = λ law. (run_right law).right (steps_to_failure ++ Recover ∷ []) (outcomes_to_failure ++ did (cuts two_epochs_kept) ∷ []) come_back recovery_is_reached.reached;
}

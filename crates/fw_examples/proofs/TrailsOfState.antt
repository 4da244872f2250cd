-- The laws of a state's trail, asked of the running total after the output failed.
use Rattle.fw_model.specs.LawsOfPoorerTrails.{TrailByOffersAboveIsTrail}
use Rattle.fw_model.specs.Machine.{is_failed}
use Rattle.fw_headline.specs.LawsOfTrails.{IsTrailIn}
use Rattle.fw_examples.specs.Certified.{certificate_of_totals}
use Rattle.fw_examples.specs.OffersOfTotals.{offers_of_totals}
use Rattle.fw_examples.specs.RunningTotal.{outcomes_to_failure, output_failed, steps_to_failure, total_flow, totals, two_epochs_kept}
use Rattle.fw_examples.specs.Trails.{trail_of_totals}
use Rattle.fw_examples.specs.TrailsOfState.{TrailsOfStateApply}
use Rattle.fw_examples.proofs.Certified.{certificates_apply}
use Rattle.fw_examples.proofs.Floors.{offers_are_above}
use Rattle.fw_examples.proofs.Witnesses.{failure_is_reached, totals_are_well_formed}

in_state : TrailByOffersAboveIsTrail → IsTrailIn totals output_failed (is_failed output_failed) trail_of_totals two_epochs_kept
in_state law =
    (law totals output_failed (is_failed output_failed) two_epochs_kept offers_of_totals trail_of_totals two_epochs_kept totals_are_well_formed.well_formed.flow offers_are_above).0 certificates_apply.trail

pub trails_of_state_apply : TrailsOfStateApply
trails_of_state_apply = record {
  exists = λ law lost. law totals totals_are_well_formed.well_formed steps_to_failure outcomes_to_failure output_failed failure_is_reached.reached lost;
  trail = in_state;
  one = λ by law other end is.
      law totals output_failed (is_failed output_failed) other trail_of_totals end two_epochs_kept is (in_state by);
  largest = λ by law.
      law totals output_failed (is_failed output_failed) trail_of_totals two_epochs_kept totals_are_well_formed.well_formed.flow (in_state by);
  said = λ law verdict is. law total_flow offers_of_totals certificate_of_totals two_epochs_kept verdict certificates_apply.certificate is;
}

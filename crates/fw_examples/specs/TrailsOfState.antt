-- The trail of the running total's state after the output failed.
use Rattle.std.specs.Prelude.{Bool, List, ℕ, ◌≡◌}
use Rattle.fw_flow.specs.declared.choice.Choice.{Choice}
use Rattle.fw_flow.specs.declared.trail.Lowering.{Lowering}
use Rattle.fw_model.specs.Choice.{IsCandidate, IsLargest, kept}
use Rattle.fw_model.specs.LawsOfPoorerTrails.{TrailByOffersAboveIsTrail}
use Rattle.fw_model.specs.Machine.{is_failed}
use Rattle.fw_model.specs.Offers.{IsOffered, covers_of}
use Rattle.fw_headline.specs.LawsOfTrails.{IsTrailIn, TrailExists, TrailOfStateEndsAtLargest, TrailOfStateIsOne}
use Rattle.fw_certify.specs.Checked.{IsVerdict}
use Rattle.fw_certify.specs.LawsOfCertificates.{CertificateIsSaidYes}
use Rattle.fw_certify.specs.declared.checker.Verdict.{Verdict}
use Rattle.fw_certify.specs.declared.checker.Verdict.TheVariants.{Yes}
use Rattle.fw_examples.specs.Certified.{certificate_of_totals}
use Rattle.fw_examples.specs.OffersOfTotals.{offers_of_totals}
use Rattle.fw_examples.specs.RunningTotal.{output_failed, total_flow, totals, two_epochs_kept}
use Rattle.fw_examples.specs.Trails.{trail_of_totals}

-- Whichever nodes count as failed in that state, there is a trail; where the output alone does, it is that of the data, of four lowerings,
-- and no other one, and ends at the largest choice. The one right verdict on the certificate of the data is yes.
pub record TrailsOfStateApply : Type 0 where
  pub exists : TrailExists → (lost : ℕ → Bool) → (trail : List Lowering) × (end : Choice) × IsTrailIn totals output_failed lost trail end
  pub trail : TrailByOffersAboveIsTrail → IsTrailIn totals output_failed (is_failed output_failed) trail_of_totals two_epochs_kept
  pub one : TrailByOffersAboveIsTrail → TrailOfStateIsOne → (other : List Lowering) (end : Choice)
      → IsTrailIn totals output_failed (is_failed output_failed) other end → (other ≡ trail_of_totals) × (end ≡ two_epochs_kept)
  pub largest : TrailByOffersAboveIsTrail → TrailOfStateEndsAtLargest
      → IsLargest totals output_failed (IsCandidate totals output_failed (is_failed output_failed) kept) two_epochs_kept
  pub said : CertificateIsSaidYes → (verdict : Verdict)
      → IsVerdict total_flow (covers_of total_flow offers_of_totals) (IsOffered total_flow offers_of_totals) certificate_of_totals two_epochs_kept verdict
      → verdict ≡ Yes

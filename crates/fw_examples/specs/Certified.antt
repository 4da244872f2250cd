-- Certificates of the choice that a recovery of the running total makes, and data by which no choice is consistent.
use Rattle.std.specs.Prelude.{List, [], true, ◌∷◌, ◌≡◌}
use Rattle.fw_flow.specs.declared.choice.Choice.{Choice}
use Rattle.fw_flow.specs.declared.choice.Cut.TheVariants.{At}
use Rattle.fw_flow.specs.declared.choice.Offer.{Offer}
use Rattle.fw_flow.specs.declared.choice.Offered.TheVariants.{Listed}
use Rattle.fw_flow.specs.declared.side.Side.TheVariants.{Discarded}
use Rattle.fw_flow.specs.declared.trail.Cause.TheVariants as cause
use Rattle.fw_flow.specs.declared.trail.Lowering.{Lowering}
use Rattle.fw_flow.specs.declared.trail.Part.TheVariants as part
use Rattle.fw_model.specs.Certificates.{IsCertificate, IsDeadEnd, IsTrailBy}
use Rattle.fw_model.specs.Choice.{IsConsistentBy, IsLargest, IsLargestBy, IsCandidate, kept, until}
use Rattle.fw_model.specs.Covers.{covers_in}
use Rattle.fw_model.specs.LawsOfPoorerTrails.{CertificateByOffersAboveIsCertificate}
use Rattle.fw_model.specs.Machine.{is_failed}
use Rattle.fw_model.specs.Offers.{IsOffered, covers_of}
use Rattle.fw_certify.specs.Checked.{IsVerdict}
use Rattle.fw_certify.specs.declared.checker.Verdict.TheVariants.{No}
use Rattle.fw_certify.specs.LawsOfCertificates.{CertificateOfState, CertificateOfStateShowsLargest, CertificateShowsLargest, CertificatesAgree, DeadEndShowsNone, TrailIsCertificate}
use Rattle.fw_examples.specs.Flows.{src}
use Rattle.fw_examples.specs.OffersOfTotals.{alone_at, offer_of_input, offer_of_output, offers_of_totals}
use Rattle.fw_examples.specs.RunningTotal.{output_failed, run_to_out, src_to_run, total_flow, total_node, totals, two_epochs_kept}
use Rattle.fw_examples.specs.Trails.{trail_of_totals}

-- a certificate by the data that the nodes of the running total offer
abbrev pub IsCertificateOfTotals : List Lowering → Choice → Type 0
IsCertificateOfTotals ls end = IsCertificate total_flow (covers_of total_flow offers_of_totals) (IsOffered total_flow offers_of_totals) ls end

-- the lowerings of the trail in another order: first both of the running total
abbrev pub certificate_of_totals : List Lowering
certificate_of_totals =
    record { node = total_node; part = part.Cut; to = At (until 2); by = cause.Discarded run_to_out }
    ∷ record { node = total_node; part = part.Note; to = At (until 2); by = cause.Own }
    ∷ record { node = src; part = part.Cut; to = At (until 2); by = cause.Discarded src_to_run }
    ∷ record { node = src; part = part.Note; to = At (until 2); by = cause.Own }
    ∷ []

-- a lowering that is wrong at first: the notification frontier of the input lies within what it keeps
abbrev pub held_lowering : Lowering
held_lowering = record { node = src; part = part.Note; to = At (until 2); by = cause.Own }

-- the running total without its checkpoint: it can stay as it is, and be restored to nothing
abbrev pub offer_without_checkpoint : Offer
offer_without_checkpoint = record {
  present = true;
  offered = Listed [];
  stamps = record {
    delivered = alone_at src_to_run 2 ∷ alone_at src_to_run 1 ∷ [];
    notified = (2 ∷ []) ∷ (1 ∷ []) ∷ [];
    sent = alone_at run_to_out 2 ∷ alone_at run_to_out 1 ∷ [];
  };
  table = [];
}

abbrev pub offers_without_checkpoint : List Offer
offers_without_checkpoint = offer_of_input ∷ offer_without_checkpoint ∷ offer_of_output ∷ []

-- The trail is a certificate, and another one has its lowerings in another order; by either the choice of the recovery is the largest, by
-- the data and in the state, and no certificate ends elsewhere. Without its checkpoint the running total, which sent the output more
-- than this keeps, has nothing that is left: a dead end, so that no choice is consistent. A lowering of what holds is wrong at its place.
pub record CertificatesApply : Type 0 where
  pub trail : IsTrailBy total_flow (covers_of total_flow offers_of_totals) (IsOffered total_flow offers_of_totals) trail_of_totals two_epochs_kept
  pub by_trail : TrailIsCertificate → IsCertificateOfTotals trail_of_totals two_epochs_kept
  pub certificate : IsCertificateOfTotals certificate_of_totals two_epochs_kept
  pub largest : CertificateShowsLargest
      → IsLargestBy total_flow (covers_of total_flow offers_of_totals) (IsOffered total_flow offers_of_totals) two_epochs_kept
  pub agree : CertificatesAgree → (ls : List Lowering) (end : Choice) → IsCertificateOfTotals ls end → end ≡ two_epochs_kept
  pub exactly_of_state : CertificateOfState
      → IsCertificate total_flow (covers_in totals output_failed) (IsCandidate totals output_failed (is_failed output_failed) kept) certificate_of_totals
      two_epochs_kept
  pub wrong : IsVerdict total_flow (covers_of total_flow offers_of_totals) (IsOffered total_flow offers_of_totals) (held_lowering ∷ []) two_epochs_kept (No 0)
  pub of_state : CertificateByOffersAboveIsCertificate
      → IsCertificate total_flow (covers_in totals output_failed) (IsCandidate totals output_failed (is_failed output_failed) kept) certificate_of_totals
      two_epochs_kept
  pub largest_of_state : CertificateByOffersAboveIsCertificate → CertificateOfStateShowsLargest
      → IsLargest totals output_failed (IsCandidate totals output_failed (is_failed output_failed) kept) two_epochs_kept
  pub dead_end : IsDeadEnd total_flow (covers_of total_flow offers_without_checkpoint) (IsOffered total_flow offers_without_checkpoint) []
      (Discarded run_to_out)
  pub none : DeadEndShowsNone → (choice : Choice)
      → IsConsistentBy total_flow (covers_of total_flow offers_without_checkpoint) (IsOffered total_flow offers_without_checkpoint) choice → ⊥

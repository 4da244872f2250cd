-- The trail of the descent from what the nodes of the running total offer after the output failed.
use Rattle.std.specs.Prelude.{List, [], ℕ, ◌<◌, ◌∷◌, ◌≡◌, length}
use Rattle.fw_flow.specs.declared.choice.Choice.{Choice}
use Rattle.fw_flow.specs.declared.choice.Cut.TheVariants.{At}
use Rattle.fw_flow.specs.declared.trail.Cause.TheVariants as cause
use Rattle.fw_flow.specs.declared.trail.Lowering.{Lowering}
use Rattle.fw_flow.specs.declared.trail.Part.TheVariants as part
use Rattle.fw_model.specs.Choice.{IsLargestBy, cut_of, until}
use Rattle.fw_model.specs.Offers.{IsOffered, covers_of}
use Rattle.fw_monitor.specs.Descent.{HasConsistent}
use Rattle.fw_monitor.specs.Trail.{IsTrail, TrailEndsAtLargest, TrailIsOne}
use Rattle.fw_examples.specs.Flows.{src}
use Rattle.fw_examples.specs.OffersOfTotals.{offers_of_totals}
use Rattle.fw_examples.specs.RunningTotal.{total_node, run_to_out, src_to_run, total_flow, two_epochs_kept}

-- What is lowered to epochs 0 and 1: the running total, which sent the output more than it keeps; then the input, which sent the
-- running total more than its checkpoint holds; then the notices of both, since they lie in what is kept.
abbrev pub trail_of_totals : List Lowering
trail_of_totals =
    record { node = total_node; part = part.Cut; to = At (until 2); by = cause.Discarded run_to_out }
    ∷ record { node = src; part = part.Cut; to = At (until 2); by = cause.Discarded src_to_run }
    ∷ record { node = src; part = part.Note; to = At (until 2); by = cause.Own }
    ∷ record { node = total_node; part = part.Note; to = At (until 2); by = cause.Own }
    ∷ []

-- It leads from all that is offered to the choice of the recovery. So the laws of trails say that there is no other one, and that
-- it ends at the largest choice.
pub record TrailLeadsToLargest : Type 0 where
  pub trail : IsTrail total_flow offers_of_totals trail_of_totals two_epochs_kept
  pub some : HasConsistent total_flow offers_of_totals
  pub offered : (p : ℕ) → p < length total_flow.nodes → IsOffered total_flow offers_of_totals p (cut_of two_epochs_kept p)
  pub one : TrailIsOne → (other : List Lowering) (end : Choice) → IsTrail total_flow offers_of_totals other end
      → (other ≡ trail_of_totals) × (end ≡ two_epochs_kept)
  pub largest : TrailEndsAtLargest
      → IsLargestBy total_flow (covers_of total_flow offers_of_totals) (IsOffered total_flow offers_of_totals) two_epochs_kept

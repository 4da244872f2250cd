-- The trail of the descent from what the nodes of the running total offer: what is lowered, one value after the other.
use Rattle.std.specs.List.{AllByRecursion}
use Rattle.std.proofs.Common.{Bool, List, [], drop, false, inl, inr, lit≤, refl, subst, take, true, ℕ, ◌&&◌, ◌<◌, ◌∷◌, ◌≡◌}
use Rattle.std.proofs.lemmas.Bool.{and_from, and_parts, false≢true}
use Rattle.fw_time.specs.Stamp.{Stamp}
use Rattle.fw_time.specs.declared.stamp.Bounds.{Bounds}
use Rattle.fw_frontier.specs.Front.{Front, IsFrontOf, frontier_of, inside}
use Rattle.fw_frontier.specs.Frontier.{Frontier, Within, cover, everything, some_above}
use Rattle.fw_frontier.proofs.NamesLaws.{frontier-closed}
use Rattle.fw_flow.specs.Dataflow.{batches_of, bounds_of, greatest_number, in_edges, kind_of, out_edges, policy_of, receiver, sender}
use Rattle.fw_flow.specs.Projection.{phi_by_count}
use Rattle.fw_flow.specs.declared.choice.Choice.{Choice}
use Rattle.fw_flow.specs.declared.choice.Cut.{Cut}
use Rattle.fw_flow.specs.declared.choice.Cut.TheVariants.{At, Present}
use Rattle.fw_flow.specs.declared.side.Inclusion.TheVariants.{OfCut, OfNote}
use Rattle.fw_flow.specs.declared.side.Limit.TheVariants.{Own}
use Rattle.fw_flow.specs.declared.side.Side.TheVariants.{Discarded}
use Rattle.fw_model.specs.Choice.{IsCutWithin, cut_of, until}
use Rattle.fw_model.specs.Offers.{IsOffered, IsOfferedFront, offered_by, stamps_on_from, covers_of}
use Rattle.fw_model.proofs.OfferLaws.{consistent-same}
use Rattle.fw_model.specs.Lowerings.{choice_of, IsCutLeft, IsGreatestLeft, IsLoweredBy, IsValueLeft, Leads}
use Rattle.fw_monitor.specs.Descent.{HasConsistent, IsGreatest}
use Rattle.fw_model.specs.Inclusions.{Holds, inclusions, inclusions_to}
use Rattle.fw_monitor.specs.Trail.{IsStart, IsTrail}
use Rattle.fw_offers.proofs.FrontLaws.{all_is_everything}
use Rattle.fw_examples.specs.OffersOfTotals.{alone_at, offers_of_totals}
use Rattle.fw_examples.specs.RunningTotal.{total_flow, two_epochs_kept, two_kept_noting}
use Rattle.fw_examples.specs.Trails.{TrailLeadsToLargest, trail_of_totals}
use Rattle.fw_examples.proofs.Choosing.{until_more}
use Rattle.fw_examples.proofs.Fronts.{by_three, canonical_by, cover_within_by, within_outside}
use Rattle.fw_examples.proofs.OffersOfTotals.{checkpoints_are_offered}
use Rattle.fw_examples.proofs.Witnesses.{totals_are_well_formed}
use Rattle.fw_flow.specs.declared.trail.Cause.TheVariants as cause
use Rattle.fw_flow.specs.declared.trail.Part.TheVariants as part

-- the domain of each node
abbrev pub epochs : Bounds
epochs = record { greatest = greatest_number ∷ []; sides = false }

-- ---- the choices on the way

-- these cuts and notices of the input and the running total, beside what the output offers
abbrev pub beside_output : Cut → Cut → Front → Front → Choice
beside_output at_src at_run told_src told_run = choice_of (at_src ∷ at_run ∷ At (until 2) ∷ []) (told_src ∷ told_run ∷ until 2 ∷ [])

abbrev pub all_offered : Choice
all_offered = beside_output Present Present [] []

abbrev pub run_cut : Choice
run_cut = beside_output Present (At (until 2)) [] []

abbrev both_cut : Choice
both_cut = beside_output (At (until 2)) (At (until 2)) [] []

abbrev src_told : Choice
src_told = beside_output (At (until 2)) (At (until 2)) (until 2) []

-- ---- where it starts

output_greatest : IsGreatest total_flow offers_of_totals 2 (At (until 2))
unfolding kind_of policy_of bounds_of
output_greatest = record { canonical = canonical_by _ (until 2) refl; largest = λ ascend x o. at x o }
  where
    at : (x : Cut) → IsOffered total_flow offers_of_totals 2 x → IsOffered total_flow offers_of_totals 2 (At (until 2)) × IsCutWithin total_flow 2 x (At (until 2))
    at Present o = absurd (false≢true o)
    at (At f) o = ((canonical_by _ (until 2) refl, ((λ t i. i), (λ t i. i))), o.1.1)

starts : IsStart total_flow offers_of_totals all_offered
unfolding kind_of policy_of bounds_of
starts = record {
  one_cut_each = refl;
  one_notice_each = refl;
  cuts = by_three _ (record { canonical = tt; largest = λ ascend x o. (refl, tt) }) (record { canonical = tt; largest = λ ascend x o. (refl, tt) }) output_greatest;
  notices = by_three _ all all (record { canonical = canonical_by _ (until 2) refl; same = λ t. refl });
}
  where
    all : IsFrontOf epochs [] (everything epochs)
    all = record { canonical = tt; same = λ t i. all_is_everything epochs i t }

-- ---- what lies within what

-- what epoch 1 covers is of the first two
one_is_kept : Within (cover epochs ((1 ∷ []) ∷ [])) (frontier_of epochs (until 2))
one_is_kept = cover_within_by epochs (frontier_of epochs (until 2)) ((1 ∷ []) ∷ []) (frontier-closed epochs (until 2)) refl

-- a frontier lies within itself, and within what comes of it on an edge
comes : (f : Front) → (t : Stamp) → frontier_of epochs f t ≡ true → (everything epochs t && frontier_of epochs f t) ≡ true
comes f t i = and_from (everything epochs t) (frontier_of epochs f t) (and_parts (everything epochs t) (inside f t) i).0 i

-- what some stamps cover comes of all
of_all : (ss : List Stamp) (t : Stamp) → cover epochs ss t ≡ true → (everything epochs t && everything epochs t) ≡ true
of_all ss t i = let d = (and_parts (everything epochs t) (some_above ss t) i).0 in and_from _ _ d d

-- epoch 2 is not one of the first two
pub beyond : (f : Frontier) → f (2 ∷ []) ≡ true → Within f (frontier_of epochs (until 2)) → ⊥
beyond f i w = false≢true (w (2 ∷ []) i)

-- of the batches that the input sent, that of epoch 2 comes from each frontier that has this epoch
sends_two : (f : Frontier) → f (2 ∷ []) ≡ true → some_above (stamps_on_from 0 f (alone_at 0 3 ∷ alone_at 0 2 ∷ alone_at 0 1 ∷ [])) (2 ∷ []) ≡ true
sends_two f i = go (f (3 ∷ [])) refl
  where
    go : (b : Bool) → f (3 ∷ []) ≡ b → some_above (stamps_on_from 0 f (alone_at 0 3 ∷ alone_at 0 2 ∷ alone_at 0 1 ∷ [])) (2 ∷ []) ≡ true
    go true e = rw e refl
    go false e = rw e (rw i refl)

-- ---- what is left, whatever the notices

-- the running total sent epoch 2 to the output, which keeps two epochs; its one checkpoint is of these
pub run_left : (told_src told_run : Front)
    → IsGreatestLeft total_flow (covers_of total_flow offers_of_totals) (IsOffered total_flow offers_of_totals) (beside_output Present Present told_src told_run) (OfCut (Discarded 1)) (At (until 2))
unfolding kind_of policy_of bounds_of receiver sender
run_left told_src told_run = record { left = record { offered = (canonical_by _ (until 2) refl, inl refl); within = tt; meets = λ t i. i }; greatest = below }
  where
    below : (y : Cut)
        → IsCutLeft total_flow (covers_of total_flow offers_of_totals) (IsOffered total_flow offers_of_totals) (beside_output Present Present told_src told_run) (Discarded 1) y
        → IsCutWithin total_flow 1 y (At (until 2))
    below Present is = absurd (beyond _ refl is.meets)
    below (At f) is = at is.offered.1
      where
        at : IsOfferedFront epochs (offered_by offers_of_totals 1) f → Within (frontier_of epochs f) (frontier_of epochs (until 2))
        at (inl e) = subst (λ g. Within (frontier_of epochs g) (frontier_of epochs (until 2))) e (λ t i. i)
        at (inr e) = absurd e

-- the input sent epoch 2 to the running total
pub src_left : (told_src told_run : Front)
    → IsGreatestLeft total_flow (covers_of total_flow offers_of_totals) (IsOffered total_flow offers_of_totals) (beside_output Present (At (until 2)) told_src told_run) (OfCut (Discarded 0)) (At (until 2))
unfolding kind_of policy_of bounds_of receiver sender batches_of
src_left told_src told_run = record {
  left = record {
    offered = (canonical_by _ (until 2) refl, inl ((λ t i. i), until_more epochs 2 4 (lit≤ tt)));
    within = tt;
    meets = one_is_kept;
  };
  greatest = below;
}
  where
    below : (y : Cut)
        → IsCutLeft total_flow (covers_of total_flow offers_of_totals) (IsOffered total_flow offers_of_totals) (beside_output Present (At (until 2)) told_src told_run) (Discarded 0) y
        → IsCutWithin total_flow 0 y (At (until 2))
    below Present is = absurd (beyond _ refl is.meets)
    below (At f) is =
        within_outside epochs (frontier_of epochs f) (until 2) (frontier-closed epochs f) refl
        ((λ i. false≢true (is.meets (2 ∷ []) (and_from _ _ refl (sends_two (frontier_of epochs f) i)))), tt)

-- notices lie in what is kept
pub src_note_left : (told_run : Front)
    → IsGreatestLeft total_flow (covers_of total_flow offers_of_totals) (IsOffered total_flow offers_of_totals) (beside_output (At (until 2)) (At (until 2)) [] told_run) (OfNote (Own 0)) (At (until 2))
unfolding kind_of policy_of bounds_of
src_note_left told_run = record {
  left = record { canonical = canonical_by _ (until 2) refl; within = λ t i. and_from _ _ (and_parts _ _ i).0 refl; meets = λ t i. i };
  greatest = below;
}
  where
    below : (y : Cut)
        → IsValueLeft total_flow (covers_of total_flow offers_of_totals) (IsOffered total_flow offers_of_totals) (beside_output (At (until 2)) (At (until 2)) [] told_run) (OfNote (Own 0)) y
        → IsCutWithin total_flow 0 y (At (until 2))
    below Present is = absurd is
    below (At f) is = is.meets

pub run_note_left : (at_src : Cut) (told_src : Front)
    → IsGreatestLeft total_flow (covers_of total_flow offers_of_totals) (IsOffered total_flow offers_of_totals) (beside_output at_src (At (until 2)) told_src []) (OfNote (Own 1)) (At (until 2))
unfolding kind_of policy_of bounds_of
run_note_left at_src told_src = record {
  left = record { canonical = canonical_by _ (until 2) refl; within = λ t i. and_from _ _ (and_parts _ _ i).0 refl; meets = λ t i. i };
  greatest = below;
}
  where
    below : (y : Cut)
        → IsValueLeft total_flow (covers_of total_flow offers_of_totals) (IsOffered total_flow offers_of_totals) (beside_output at_src (At (until 2)) told_src []) (OfNote (Own 1)) y
        → IsCutWithin total_flow 1 y (At (until 2))
    below Present is = absurd is
    below (At f) is = is.meets

-- ---- the lowerings
-- each by the first inclusion that fails
run_lowered : IsLoweredBy total_flow (covers_of total_flow offers_of_totals) (IsOffered total_flow offers_of_totals) all_offered (record { node = 1; part = part.Cut; to = At (until 2); by = cause.Discarded 1 }) run_cut
unfolding kind_of policy_of bounds_of receiver sender in_edges out_edges inclusions_to phi_by_count
run_lowered = record {
  inclusion = OfCut (Discarded 1);
  first = record {
    fails = beyond _ refl;
    earlier = take 4 (inclusions total_flow);
    later = drop 5 (inclusions total_flow);
    place = refl;
    hold = (
      (λ t i. (and_parts _ _ i).0),
      (
        (λ t i. absurd (false≢true (and_parts _ _ i).1)),
        ((λ t i. (and_parts _ _ i).0), (of_all ((2 ∷ []) ∷ (1 ∷ []) ∷ []), tt)),
      ),
    );
  };
  told = refl;
  greatest = run_left [] [];
  with_it = refl;
}

src_lowered : IsLoweredBy total_flow (covers_of total_flow offers_of_totals) (IsOffered total_flow offers_of_totals) run_cut (record { node = 0; part = part.Cut; to = At (until 2); by = cause.Discarded 0 }) both_cut
unfolding kind_of policy_of bounds_of receiver sender in_edges out_edges inclusions_to batches_of
src_lowered = record {
  inclusion = OfCut (Discarded 0);
  first = record { fails = beyond _ refl; earlier = []; later = drop 1 (inclusions total_flow); place = refl; hold = tt };
  told = refl;
  greatest = src_left [] [];
  with_it = refl;
}

src_noted : IsLoweredBy total_flow (covers_of total_flow offers_of_totals) (IsOffered total_flow offers_of_totals) both_cut (record { node = 0; part = part.Note; to = At (until 2); by = cause.Own }) src_told
unfolding kind_of policy_of bounds_of receiver sender in_edges out_edges inclusions_to batches_of
src_noted = record {
  inclusion = OfNote (Own 0);
  first = record {
    fails = beyond _ refl;
    earlier = take 2 (inclusions total_flow);
    later = drop 3 (inclusions total_flow);
    place = refl;
    hold = (
      one_is_kept,
      ((λ t i. absurd (false≢true (and_parts _ _ i).1)), tt),
    );
  };
  told = refl;
  greatest = src_note_left [];
  with_it = refl;
}

run_noted : IsLoweredBy total_flow (covers_of total_flow offers_of_totals) (IsOffered total_flow offers_of_totals) src_told (record { node = 1; part = part.Note; to = At (until 2); by = cause.Own }) two_epochs_kept
unfolding kind_of policy_of bounds_of receiver sender in_edges out_edges inclusions_to batches_of phi_by_count
run_noted = record {
  inclusion = OfNote (Own 1);
  first = record {
    fails = beyond _ refl;
    earlier = take 6 (inclusions total_flow);
    later = drop 7 (inclusions total_flow);
    place = refl;
    hold = (
      one_is_kept,
      (
        (λ t i. absurd (false≢true (and_parts _ _ i).1)),
        ((λ t i. i), (comes (until 2), ((λ t i. i), ((λ t i. and_from _ _ (and_parts _ _ i).0 refl), tt)))),
      ),
    );
  };
  told = refl;
  greatest = run_note_left (At (until 2)) (until 2);
  with_it = refl;
}

-- ---- the whole

pub all_lowered : Leads total_flow (covers_of total_flow offers_of_totals) (IsOffered total_flow offers_of_totals) all_offered trail_of_totals two_epochs_kept
unfolding sender receiver
all_lowered = (run_cut, run_lowered, (both_cut, src_lowered, (src_told, src_noted, (two_epochs_kept, run_noted, refl))))

-- at the choice of the recovery nothing fails
pub all_hold : AllByRecursion (Holds total_flow (covers_of total_flow offers_of_totals) two_epochs_kept) (inclusions total_flow)
unfolding kind_of policy_of bounds_of receiver sender in_edges out_edges inclusions_to batches_of phi_by_count
all_hold = (
  one_is_kept,
  (
    (λ t i. absurd (false≢true (and_parts _ _ i).1)),
    (
      (λ t i. i),
      (
        comes (until 2),
        (
          (λ t i. i),
          (
            (λ t i. i),
            (
              (λ t i. i),
              (comes (until 2), (comes (until 2), ((λ t i. absurd (false≢true (and_parts _ _ i).1)), ((λ t i. i), (comes (until 2), tt))))),
            ),
          ),
        ),
      ),
    ),
  ),
)

trail : IsTrail total_flow offers_of_totals trail_of_totals two_epochs_kept
unfolding sender receiver
trail = record {
  start = all_offered;
  starts = starts;
  leads = all_lowered;
  ends = all_hold;
}

offered : (p : ℕ) → p < 3 → IsOffered total_flow offers_of_totals p (cut_of two_epochs_kept p)
unfolding kind_of policy_of bounds_of
offered =
    by_three _ (canonical_by _ (until 2) refl, inl ((λ t i. i), until_more epochs 2 4 (lit≤ tt))) (canonical_by _ (until 2) refl, inl refl)
    (canonical_by _ (until 2) refl, ((λ t i. i), (λ t i. i)))

pub trail_leads_to_largest : TrailLeadsToLargest
trail_leads_to_largest =
    let flow = totals_are_well_formed.well_formed.flow in
    let some : HasConsistent total_flow offers_of_totals = (checkpoints_are_offered.ascending, (two_kept_noting (until 0), checkpoints_are_offered.consistent consistent-same)) in
    record {
      trail = trail;
      some = some;
      offered = offered;
      one = λ law other end is. law total_flow offers_of_totals other trail_of_totals end two_epochs_kept some is trail;
      largest = λ law. law total_flow offers_of_totals trail_of_totals two_epochs_kept flow checkpoints_are_offered.ascending trail offered;
    }

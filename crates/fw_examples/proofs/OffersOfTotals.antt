-- What the nodes of the running total offer as data is what the machine offers.
use Rattle.std.proofs.Common.{Bool, List, [], ap, arith, cond, false, filter, inl, inr, lit<, lit≤, map, refl, subst, suc, sym, true, zero, ℕ, ◌&&◌, ◌<◌, ◌==◌, ◌↔◌, ◌∷◌, ◌≡◌, ◌≤◌}
use Rattle.std.proofs.lemmas.Bool.{false≢true, true≢false}
use Rattle.std.proofs.lemmas.Bool.Decides.{nat_tests}
use Rattle.fw_time.specs.Stamp.{Stamp}
use Rattle.fw_time.specs.declared.stamp.Bounds.{Bounds}
use Rattle.fw_frontier.specs.Front.{Front, frontier_of}
use Rattle.fw_frontier.specs.Frontier.{Frontier, Within, cover}
use Rattle.fw_flow.specs.Dataflow.{batches_of, bounds_of, greatest_number, kind_of, policy_of, receiver, sender}
use Rattle.fw_flow.specs.NodeFunction.{sends}
use Rattle.fw_flow.specs.Projection.{all_inside, phi, phi_by_count}
use Rattle.fw_flow.specs.declared.choice.Counted.{Counted}
use Rattle.fw_flow.specs.declared.choice.Cut.{Cut}
use Rattle.fw_flow.specs.declared.choice.Cut.TheVariants.{At, Present}
use Rattle.fw_flow.specs.declared.event.Message.{Message}
use Rattle.fw_flow.specs.KeyParts.{is_carried, part_of}
use Rattle.fw_model.specs.Carried.{carried}
use Rattle.fw_model.specs.Choice.{IsCandidate, kept, until}
use Rattle.fw_model.specs.Covers.{covers_in, stamps_from}
use Rattle.fw_model.specs.Machine.{is_failed}
use Rattle.fw_model.specs.Offers.{RecordsAscend, AreOfBatches, AreOffersIn, AreOffersOf, IsOffered, covers_of, offered_by, counted_on_edge, offered_sent, stamps_on_from}
use Rattle.fw_model.proofs.UntilLaws.{within-until}
use Rattle.fw_examples.specs.OffersOfTotals.{CheckpointsAreOffered, offers_of_totals}
use Rattle.fw_examples.specs.RunningTotal.{valued_at_epoch, output_failed, total_flow, totals, two_epochs_kept, two_kept_noting}
use Rattle.fw_examples.proofs.Choosing.{until_more}
use Rattle.fw_examples.proofs.Fronts.{by_three, canonical_by}
use Rattle.fw_examples.proofs.Witnesses.{less_is_consistent, something_is_chosen, totals_are_well_formed}

-- ---- covers of epoch 1

-- the epochs below 2 are what epoch 1 covers
two_by_one : (n : ℕ) (t : Stamp) → frontier_of (record { greatest = n ∷ []; sides = false }) (until 2) t ≡ cover (record { greatest = n ∷ []; sides = false }) ((1 ∷ []) ∷ []) t
two_by_one n [] = refl
two_by_one n (x ∷ y ∷ t) = grind (arith, nat_tests)
two_by_one n (zero ∷ []) = refl
two_by_one n (suc zero ∷ []) = refl
two_by_one n (suc (suc x) ∷ []) = grind (arith, nat_tests)

pub two_is_cover : (n : ℕ) → frontier_of (record { greatest = n ∷ []; sides = false }) (until 2) ≡ cover (record { greatest = n ∷ []; sides = false }) ((1 ∷ []) ∷ [])
two_is_cover n = λ i t. two_by_one n t i

-- ---- the cuts that are offered

-- the domain of each node
abbrev epochs : Bounds
epochs = record { greatest = greatest_number ∷ []; sides = false }

-- the epochs below 2 lie within those below k, unless k is less
holds_two : (f : Front) (k : ℕ) → 2 ≤ k → until k ≡ f → Within (frontier_of epochs (until 2)) (frontier_of epochs f)
holds_two f k l e = subst (λ g. Within (frontier_of epochs (until 2)) (frontier_of epochs g)) e (until_more epochs 2 k l)

lacks_one : (f : Front) (k : ℕ) → k < 2 → f ≡ until k → Within (frontier_of epochs (until 2)) (frontier_of epochs f) → ⊥
lacks_one f k l e w = go k l (subst (λ g. Within (frontier_of epochs (until 2)) (frontier_of epochs g)) e w)
  where
    go : (k : ℕ) → k < 2 → Within (frontier_of epochs (until 2)) (frontier_of epochs (until k)) → ⊥
    go zero l w = false≢true (w (0 ∷ []) refl)
    go (suc zero) l w = false≢true (w (1 ∷ []) refl)
    go (suc (suc k)) l w = absurd (omega arith)

-- the input can be restored to its batches from the low watermark on, and to no others
input_offers : (f : Front) → IsOffered total_flow offers_of_totals 0 (At f) → IsCandidate totals output_failed (is_failed output_failed) kept 0 (At f)
unfolding kind_of policy_of bounds_of batches_of
input_offers f (c, inl b) = (c, inl (within-until 4 f (lit≤ tt) c b.1), b.0)
input_offers f (c, inr e) = absurd (false≢true e.0)

input_restorable : (f : Front) → IsCandidate totals output_failed (is_failed output_failed) kept 0 (At f) → IsOffered total_flow offers_of_totals 0 (At f)
unfolding kind_of policy_of bounds_of batches_of
input_restorable f (c, inl k, w) = (c, inl (w, subst (λ g. Within (frontier_of epochs g) (frontier_of epochs (until 4))) (sym k.2) (until_more epochs k.0 4 k.1)))
input_restorable f (c, inr e, w) = absurd (false≢true e.0)

-- the running total can be restored to its later acknowledged checkpoint alone: to the earlier one not, nor to nothing, since these lack
-- the low watermark
total_listed : (f : Front) → IsOffered total_flow offers_of_totals 1 (At f) → IsCandidate totals output_failed (is_failed output_failed) kept 1 (At f)
unfolding kind_of policy_of bounds_of
total_listed f (c, inl e) = (c, inr (inr (inl (refl, e, refl))), holds_two f 2 (lit≤ tt) e)
total_listed f (c, inr e) = absurd e

total_restorable : (f : Front) → IsCandidate totals output_failed (is_failed output_failed) kept 1 (At f) → IsOffered total_flow offers_of_totals 1 (At f)
unfolding kind_of policy_of bounds_of
total_restorable f (c, inl e, w) = absurd (lacks_one f 0 (lit< tt) e w)
total_restorable f (c, inr (inl is), w) = absurd (lacks_one f 1 (lit< tt) (sym is.1) w)
total_restorable f (c, inr (inr (inl is)), w) = (c, inl is.1)
total_restorable f (c, inr (inr (inr (inl is))), w) = absurd (false≢true is.2)
total_restorable f (c, inr (inr (inr (inr e))), w) = absurd e

-- the output can be restored to what is settled and acknowledged and holds the low watermark
output_same : (f : Front) → IsOffered total_flow offers_of_totals 2 (At f) ↔ IsCandidate totals output_failed (is_failed output_failed) kept 2 (At f)
unfolding kind_of policy_of bounds_of
output_same f = ((λ o. to o), (λ o. (o.0, (o.2, o.1.0))))
  where
    to : IsOffered total_flow offers_of_totals 2 (At f) → IsCandidate totals output_failed (is_failed output_failed) kept 2 (At f)
    to (c, b) = (c, (b.1, b.1), b.0)

offered_same : (p : ℕ) → p < 3 → (cut : Cut) → IsOffered total_flow offers_of_totals p cut ↔ IsCandidate totals output_failed (is_failed output_failed) kept p cut
offered_same zero l Present = ((λ e. refl), (λ e. refl))
offered_same (suc zero) l Present = ((λ e. refl), (λ e. refl))
offered_same (suc (suc zero)) l Present = ((λ e. absurd (false≢true e)), (λ e. absurd (true≢false e)))
offered_same zero l (At f) = (input_offers f, input_restorable f)
offered_same (suc zero) l (At f) = (total_listed f, total_restorable f)
offered_same (suc (suc zero)) l (At f) = output_same f
offered_same (suc (suc (suc p))) l cut = absurd (omega arith)

-- ---- what is offered is of the dataflow

of_flow : AreOffersOf total_flow offers_of_totals
unfolding kind_of policy_of bounds_of receiver sender
of_flow = record {
  one_each = refl;
  records = by_three _ tt (
    record {
      front = canonical_by _ (until 2) refl;
      notified = canonical_by _ (until 2) refl;
      delivered = (canonical_by _ (until 2) refl, tt);
      discarded = (canonical_by _ (until 2) refl, tt);
    },
    tt,
  )
      tt;
  range = by_three _ (canonical_by _ (until 2) refl, canonical_by _ (until 4) refl) tt (canonical_by _ (until 2) refl, canonical_by _ (until 2) refl);
  form_fits = by_three _ refl tt refl;
  delivered = by_three _ tt (refl, (refl, tt)) (refl, tt);
  notified = by_three _ tt (refl, (refl, tt)) tt;
  sent = by_three _ (refl, (refl, (refl, tt))) (refl, (refl, tt)) tt;
  batches = of_batches;
}
  where
    of_batches : (e : ℕ) → e < 2 → AreOfBatches (offered_by offers_of_totals (sender total_flow e)) (counted_on_edge e (offered_sent offers_of_totals (sender total_flow e)))
    of_batches zero l = ((3 ∷ [], refl), ((2 ∷ [], refl), ((1 ∷ [], refl), tt)))
    of_batches (suc zero) l = tt
    of_batches (suc (suc e)) l = absurd (omega arith)

ascending : RecordsAscend total_flow offers_of_totals
ascending = by_three _ tt (tt, tt) tt

-- ---- the same counts

-- the messages on the edge from the input, each alone
abbrev alone_from_input : Message → Counted
alone_from_input m = record { edge = 0; at = m.at; causes = m.causes; count = 1 }

one_sent : (b : Bool) (m : Message) (xs : List Counted) (ms : List Message) → map (λ (x : Counted). x.at) xs ≡ map (λ (x : Message). x.at) ms
    → map (λ (x : Counted). x.at) (cond b (alone_from_input m ∷ xs) xs) ≡ map (λ (x : Message). x.at) (cond b (m ∷ ms) ms)
one_sent true m xs ms e = ap (λ ts. m.at ∷ ts) e
one_sent false m xs ms e = e

-- what comes from a frontier among them
sent_from_input : (f : Frontier) (ms : List Message) → stamps_on_from 0 f (map alone_from_input ms) ≡ stamps_from f ms
sent_from_input f [] = refl
sent_from_input f (m ∷ ms) =
    one_sent (all_inside f m.causes) m (filter (λ (x : Counted). x.edge == 0 && all_inside f x.causes) (map alone_from_input ms))
    (filter (λ (x : Message). all_inside f x.causes) ms) (sent_from_input f ms)

delivered_same : (d : ℕ) → d < 2 → (cut : Cut) → IsOffered total_flow offers_of_totals (receiver total_flow d) cut
    → (covers_of total_flow offers_of_totals).delivered d cut ≡ (covers_in totals output_failed).delivered d cut
unfolding kind_of policy_of bounds_of receiver
delivered_same zero l Present o = refl
delivered_same zero l (At f) (c, inl e) =
    subst (λ g. (covers_of total_flow offers_of_totals).delivered 0 (At g) ≡ (covers_in totals output_failed).delivered 0 (At g)) e (two_is_cover _)
delivered_same zero l (At f) (c, inr e) = absurd e
delivered_same (suc zero) l Present o = refl
delivered_same (suc zero) l (At f) o = refl
delivered_same (suc (suc d)) l cut o = absurd (omega arith)

discarded_same : (e : ℕ) → e < 2 → (cut : Cut) → IsOffered total_flow offers_of_totals (sender total_flow e) cut
    → (covers_of total_flow offers_of_totals).discarded e cut ≡ (covers_in totals output_failed).discarded e cut
unfolding kind_of policy_of bounds_of receiver sender sends batches_of carried is_carried part_of
discarded_same zero l Present o = refl
discarded_same zero l (At f) o =
    ap (cover (bounds_of total_flow 1)) (sent_from_input (frontier_of (bounds_of total_flow 0) f) (valued_at_epoch 3 1 ∷ valued_at_epoch 2 5 ∷ valued_at_epoch 1 10 ∷ []))
discarded_same (suc zero) l Present o = refl
discarded_same (suc zero) l (At f) (c, inl e) =
    subst (λ g. (covers_of total_flow offers_of_totals).discarded 1 (At g) ≡ (covers_in totals output_failed).discarded 1 (At g)) e (two_is_cover _)
discarded_same (suc zero) l (At f) (c, inr e) = absurd e
discarded_same (suc (suc e)) l cut o = absurd (omega arith)

notified_same : (p : ℕ) → p < 3 → (cut : Cut) → IsOffered total_flow offers_of_totals p cut
    → (covers_of total_flow offers_of_totals).notified p cut ≡ (covers_in totals output_failed).notified p cut
unfolding kind_of policy_of bounds_of
notified_same zero l Present o = refl
notified_same zero l (At f) o = refl
notified_same (suc zero) l Present o = refl
notified_same (suc zero) l (At f) (c, inl e) =
    subst (λ g. (covers_of total_flow offers_of_totals).notified 1 (At g) ≡ (covers_in totals output_failed).notified 1 (At g)) e (two_is_cover _)
notified_same (suc zero) l (At f) (c, inr e) = absurd e
notified_same (suc (suc zero)) l Present o = refl
notified_same (suc (suc zero)) l (At f) o = refl
notified_same (suc (suc (suc p))) l cut o = absurd (omega arith)

arrived_same : (e : ℕ) → e < 2 → (f : Frontier) → (covers_of total_flow offers_of_totals).arrived e f ≡ (covers_in totals output_failed).arrived e f
unfolding kind_of sender phi phi_by_count
arrived_same zero l f = refl
arrived_same (suc zero) l f = refl
arrived_same (suc (suc e)) l f = absurd (omega arith)

-- ---- the whole

same : AreOffersIn totals output_failed (is_failed output_failed) offers_of_totals
same = record {
  of_flow = of_flow;
  ascending = ascending;
  offered = offered_same;
  delivered = delivered_same;
  discarded = discarded_same;
  notified = notified_same;
  arrived = arrived_same;
}

pub checkpoints_are_offered : CheckpointsAreOffered
unfolding kind_of policy_of bounds_of
checkpoints_are_offered =
    let flow = totals_are_well_formed.well_formed.flow in
    let lost = is_failed output_failed in
    record {
      way = refl;
      recorded = refl;
      offered = (canonical_by _ (until 2) refl, inl refl);
      present = refl;
      ascending = ascending;
      same = same;
      consistent = λ law. (law totals output_failed lost offers_of_totals (two_kept_noting (until 0)) flow same).1 less_is_consistent.consistent;
      largest = λ law. (law totals output_failed lost offers_of_totals two_epochs_kept flow same).1 something_is_chosen.largest;
    }

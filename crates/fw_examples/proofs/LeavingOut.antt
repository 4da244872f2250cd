-- Leaving out one inclusion, of one select and of two sources.
use Rattle.std.specs.List.{AllByRecursion, list_all}
use Rattle.std.proofs.Common.{Bool, List, None, Some, [], ap, eqb-true, inl, inr, length, lit<, refl, subst, suc, sym, true, zero, ℕ, ⊎_elim, ◌==◌, ◌||◌, ◌∙◌, ◌∷◌, ◌≡◌, ◌≢◌, ◌⊎◌}
use Rattle.std.proofs.lemmas.Bool.{and_from, and_parts, cases_eq, false≢true, or_cases}
use Rattle.fw_lemmas.proofs.Each.{each-of_all}
use Rattle.fw_time.specs.declared.stamp.Bounds.{Bounds}
use Rattle.fw_frontier.specs.Front.{Front, frontier_of}
use Rattle.fw_frontier.specs.Frontier.{Within}
use Rattle.fw_flow.specs.Dataflow.{System, batches_of, bounds_of, kind_of, policy_of, receiver, sender}
use Rattle.fw_flow.specs.NodeFunction.{sends}
use Rattle.fw_flow.specs.Projection.{phi, psi}
use Rattle.fw_flow.specs.WellFormed.{IsWellFormed}
use Rattle.fw_flow.specs.declared.choice.Choice.{Choice}
use Rattle.fw_flow.specs.declared.choice.Cut.{Cut}
use Rattle.fw_flow.specs.declared.choice.Cut.TheVariants.{At, Present}
use Rattle.fw_flow.specs.declared.event.Event.TheVariants.{Notify as Notified}
use Rattle.fw_flow.specs.declared.event.Message.{Message}
use Rattle.fw_flow.specs.KeyParts.{is_carried, part_of}
use Rattle.fw_model.specs.Carried.{carried}
use Rattle.fw_model.specs.Choice.{IsChoiceWithin, IsConsistent, IsCutWithin, cut_of, kept, notice_of}
use Rattle.fw_model.specs.Covers.{covers_in}
use Rattle.fw_model.specs.Machine.{Machine, events, first_state, front_of, is_failed}
use Rattle.fw_model.specs.Steps.{did, offers, silent, with_event}
use Rattle.fw_examples.specs.Flows.{pair, one_select_flow, two_sources_flow}
use Rattle.fw_examples.specs.Inclusions.{DeliveredIsNeeded, DiscardedIsNeeded, Inclusion, IsConsistentWithout, IsFailedAfterNotice, IsNeededForHistories, LeavesAHistory, LeavesOutOne, Meets, NoticesAreNeeded, NotifiedIsNeeded, OwnIsNeeded, all, input_kept, nothing_kept, of_delivered, of_discarded, of_notices, of_notified, of_own, one_comes, one_selected, output_kept, sum_kept, sum_undone}
use Rattle.fw_examples.specs.Logs.{none}
use Rattle.fw_examples.proofs.Choosing.{above_by, are_offered, canonical_notices, consistent_by, delivered_by, discarded_by, is_delivered_kept, is_discarded_kept, is_in_cut, is_notice_kept, is_notified_kept, notices_by, notified_by, offered_by, offered_within, own_by, sender_within, set_within}
use Rattle.fw_examples.proofs.Fronts.{by_six, by_three, each_below, is_canonical}
use Rattle.fw_examples.proofs.Plays.{Move, after_all, deliver, fail, inject, plays}
use Rattle.fw_examples.proofs.Settling.{from_phi, notifies}
use Rattle.fw_examples.proofs.WellFormed.{select_is_well_formed, two_sources_is_well_formed}
use Rattle.fw_flow.specs.declared.kind.Policy.TheVariants as policy
use Rattle.fw_flow.specs.declared.step.Step.TheVariants as step

-- the place of an inclusion
abbrev place : Inclusion → ℕ
place of_delivered = 0
place of_discarded = 1
place of_notified = 2
place of_own = 3
place of_notices = 4

-- the inclusion at a place
abbrev at_place : ℕ → Inclusion
at_place zero = of_delivered
at_place (suc zero) = of_discarded
at_place (suc (suc zero)) = of_notified
at_place (suc (suc (suc zero))) = of_own
at_place (suc (suc (suc (suc n)))) = of_notices

at_its_place : (i : Inclusion) → at_place (place i) ≡ i
at_its_place of_delivered = refl
at_its_place of_discarded = refl
at_its_place of_notified = refl
at_its_place of_own = refl
at_its_place of_notices = refl

-- two inclusions are one or two
one_or_two : (i j : Inclusion) → (i ≡ j) ⊎ (i ≢ j)
one_or_two i j =
    ⊎_elim
    (λ e. inl (sym (at_its_place i) ∙ ap at_place e ∙ at_its_place j))
    (λ n. inr (λ e. n (ap place e)))
    (cases_eq (place i) (place j))

-- a consistent choice meets each
each : (sys : System) (state : Machine) (offers : ℕ → Cut → Type 0) (choice : Choice) → IsConsistent sys state offers choice
    → (i : Inclusion) → Meets sys state choice i
each sys state offers choice is of_delivered = is.delivered
each sys state offers choice is of_discarded = is.discarded
each sys state offers choice is of_notified = is.notified
each sys state offers choice is of_own = is.own
each sys state offers choice is of_notices = is.notices

-- and one that meets the others and the one that is left out meets each
with_one : (left_out : Inclusion) (sys : System) (state : Machine) (offers : ℕ → Cut → Type 0) (choice : Choice)
    → IsConsistentWithout left_out sys state offers choice → Meets sys state choice left_out → (i : Inclusion) → Meets sys state choice i
with_one left_out sys state offers choice is meets i =
    ⊎_elim (λ e. subst (Meets sys state choice) (sym e) meets) (λ n. is.others i n) (one_or_two i left_out)

pub leaves_out_one : LeavesOutOne
leaves_out_one left_out sys state choice = (
  λ is. (
    record {
      one_cut_each = is.one_cut_each;
      one_notice_each = is.one_notice_each;
      offered = is.offered;
      canonical = is.canonical;
      others = λ i n. each sys state (offers sys state) choice is i;
    },
    each sys state (offers sys state) choice is left_out,
  ),
  λ both. record {
    one_cut_each = both.0.one_cut_each;
    one_notice_each = both.0.one_notice_each;
    offered = both.0.offered;
    canonical = both.0.canonical;
    delivered = with_one left_out sys state (offers sys state) choice both.0 both.1 of_delivered;
    discarded = with_one left_out sys state (offers sys state) choice both.0 both.1 of_discarded;
    notified = with_one left_out sys state (offers sys state) choice both.0 both.1 of_notified;
    own = with_one left_out sys state (offers sys state) choice both.0 both.1 of_own;
    notices = with_one left_out sys state (offers sys state) choice both.0 both.1 of_notices;
  },
)

-- ---- a choice that meets all but one, by tests that compute

-- whether the choice meets the inclusion
abbrev pub is_met : System → Machine → Choice → Inclusion → Bool
is_met sys state choice of_delivered = each_below (is_delivered_kept sys state choice) (length sys.flow.edges)
is_met sys state choice of_discarded = each_below (is_discarded_kept sys state choice) (length sys.flow.edges)
is_met sys state choice of_notified = each_below (is_notified_kept sys state choice) (length sys.flow.nodes)
is_met sys state choice of_own = each_below (λ p. is_in_cut (front_of choice.notices p) (cut_of choice p)) (length sys.flow.nodes)
is_met sys state choice of_notices = each_below (is_notice_kept sys choice) (length sys.flow.edges)

met_by : (sys : System) (state : Machine) (choice : Choice) → IsWellFormed sys.flow → (i : Inclusion) → is_met sys state choice i ≡ true → Meets sys state choice i
met_by sys state choice formed of_delivered h = delivered_by sys state choice formed h
met_by sys state choice formed of_discarded h = discarded_by sys state choice formed h
met_by sys state choice formed of_notified h = notified_by sys state choice h
met_by sys state choice formed of_own h = own_by sys choice h
met_by sys state choice formed of_notices h = notices_by sys state choice formed h

-- the five
abbrev pub inclusions : List Inclusion
inclusions = of_delivered ∷ of_discarded ∷ of_notified ∷ of_own ∷ of_notices ∷ []

-- whether the choice meets each but perhaps this one
abbrev pub is_met_but : Inclusion → System → Machine → Choice → Bool
is_met_but left_out sys state choice = list_all (λ i. (place i == place left_out) || is_met sys state choice i) inclusions

pub without_by : (left_out : Inclusion) (sys : System) (state : Machine) (choice : Choice) → IsWellFormed sys.flow
    → length choice.cuts ≡ length sys.flow.nodes → length choice.notices ≡ length sys.flow.nodes → are_offered sys state (is_failed state) kept choice ≡ true
    → each_below (λ p. is_canonical (bounds_of sys.flow p) (front_of choice.notices p)) (length sys.flow.nodes) ≡ true
    → is_met_but left_out sys state choice ≡ true → IsConsistentWithout left_out sys state (offers sys state) choice
without_by left_out sys state choice formed one_cut one_notice o c h = record {
  one_cut_each = one_cut;
  one_notice_each = one_notice;
  offered = offered_by sys state (is_failed state) kept choice o;
  canonical = canonical_notices sys choice c;
  others = λ i n. met_by sys state choice formed i (at i n);
}
  where
    met : AllByRecursion (λ i. ((place i == place left_out) || is_met sys state choice i) ≡ true) inclusions
    met = each-of_all (λ i. (place i == place left_out) || is_met sys state choice i) inclusions h

    by_one : (i : Inclusion) → (i ≡ left_out → ⊥) → ((place i == place left_out) || is_met sys state choice i) ≡ true → is_met sys state choice i ≡ true
    by_one i n k =
        ⊎_elim
        (λ e. absurd (n (sym (at_its_place i) ∙ ap at_place (eqb-true (place i) (place left_out) e) ∙ at_its_place left_out)))
        (λ m. m)
        (or_cases _ _ k)

    at : (i : Inclusion) → (i ≡ left_out → ⊥) → is_met sys state choice i ≡ true
    at of_delivered n = by_one of_delivered n met.0
    at of_discarded n = by_one of_discarded n met.1.0
    at of_notified n = by_one of_notified n met.1.1.0
    at of_own n = by_one of_own n met.1.1.1.0
    at of_notices n = by_one of_notices n met.1.1.1.1.0

-- ---- the inclusions of what was delivered and of what is discarded, at one select

-- the rec that is selected
abbrev message : Message
message = record { at = 0 ∷ []; rec = pair 1 20; causes = (0 ∷ []) ∷ [] }

one_formed : IsWellFormed one_selected.flow
one_formed = select_is_well_formed policy.None refl

-- the select failed before the rec came, or after it went on
abbrev early : List Move
early = inject 0 0 ∷ fail 1 [] ∷ []

abbrev late : List Move
late = inject 0 0 ∷ deliver 0 None message ∷ deliver 1 None message ∷ fail 1 [] ∷ []

abbrev failed_early : Machine
failed_early = after_all one_selected (first_state one_selected) early

abbrev failed_late : Machine
failed_late = after_all one_selected (first_state one_selected) late

-- ---- after the rec was put out

nothing_consistent : IsConsistent one_selected failed_late (offers one_selected failed_late) nothing_kept
unfolding kind_of receiver sender sends batches_of bounds_of policy_of phi psi carried is_carried part_of
nothing_consistent =
    consistent_by one_selected failed_late (is_failed failed_late) kept nothing_kept one_formed refl refl refl refl

-- the output has what the select does not keep, and acknowledged nothing
late_at_output : (cut : Cut) → offers one_selected failed_late 2 cut → Within ((covers_in one_selected failed_late).delivered 1 cut) (frontier_of (bounds_of one_select_flow 1) none)
    → IsCutWithin one_selected.flow 2 cut (At none)
unfolding kind_of receiver policy_of bounds_of
late_at_output Present o w = false≢true (w (0 ∷ []) refl)
late_at_output (At f) o w = o.1.0

nothing_above : (other : Choice) → IsConsistent one_selected failed_late (offers one_selected failed_late) other → IsChoiceWithin one_selected.flow other nothing_kept
unfolding kind_of receiver sender sends batches_of bounds_of policy_of carried is_carried part_of
nothing_above other is =
    let at_select = offered_within one_selected failed_late (is_failed failed_late) kept 1 none refl refl (cut_of other 1) (is.offered 1 (lit< tt)) in
    let at_input = sender_within one_selected failed_late _ other is 0 (lit< tt) none (0 ∷ []) (0 ∷ []) at_select refl refl (λ sent f. refl) refl refl refl in
    let at_output = late_at_output (cut_of other 2) (is.offered 2 (lit< tt))
    (λ t i. set_within one_selected 1 (cut_of other 1) none at_select t (from_phi one_selected _ 1 _ refl t (is.delivered 1 (lit< tt) t i))) in
    above_by one_selected failed_late _ nothing_kept other is (by_three _ at_input at_select at_output) refl

output_kept_without : IsConsistentWithout of_delivered one_selected failed_late (offers one_selected failed_late) output_kept
unfolding kind_of receiver sender sends batches_of bounds_of policy_of phi psi carried is_carried part_of
output_kept_without =
    without_by of_delivered one_selected failed_late output_kept one_formed refl refl refl refl refl

-- nobody sent what the output would have
sent_by_nobody : LeavesAHistory one_selected failed_late output_kept → ⊥
unfolding kind_of receiver sender sends batches_of bounds_of carried is_carried part_of
sent_by_nobody is = false≢true is.0.is_pending

pub delivered_is_needed : DeliveredIsNeeded
unfolding kind_of receiver sender sends batches_of bounds_of policy_of carried is_carried part_of
delivered_is_needed = (
  failed_late,
  plays one_selected late (first_state one_selected) [] [] failed_late refl refl,
  (
    (record { consistent = nothing_consistent; largest = nothing_above }, output_kept_without, λ w. w.cuts 2 (lit< tt)),
    tt,
    sent_by_nobody,
  ),
)

-- ---- before the rec came

output_kept_consistent : IsConsistent one_selected failed_early (offers one_selected failed_early) output_kept
unfolding kind_of receiver sender sends batches_of bounds_of policy_of phi psi carried is_carried part_of
output_kept_consistent =
    consistent_by one_selected failed_early (is_failed failed_early) kept output_kept one_formed refl refl refl refl

output_kept_above : (other : Choice) → IsConsistent one_selected failed_early (offers one_selected failed_early) other → IsChoiceWithin one_selected.flow other output_kept
unfolding kind_of receiver sender sends batches_of bounds_of policy_of carried is_carried part_of
output_kept_above other is =
    let at_select = offered_within one_selected failed_early (is_failed failed_early) kept 1 none refl refl (cut_of other 1) (is.offered 1 (lit< tt)) in
    let at_input = sender_within one_selected failed_early _ other is 0 (lit< tt) none (0 ∷ []) (0 ∷ []) at_select refl refl (λ sent f. refl) refl refl refl in
    let noted : Within (notice_of one_selected.flow other 1) (frontier_of (bounds_of one_select_flow 1) none) =
    λ t i. set_within one_selected 1 (cut_of other 1) none at_select t (is.own 1 (lit< tt) t i) in
    record {
      cuts = by_three _ at_input at_select tt;
      notices = by_three _
          (λ t i. set_within one_selected 0 (cut_of other 0) none at_input t (is.own 0 (lit< tt) t i))
          noted
          (λ t i. noted t (from_phi one_selected (events failed_early.history) 1 _ refl t (is.notices 1 (lit< tt) t i)));
    }

input_kept_without : IsConsistentWithout of_discarded one_selected failed_early (offers one_selected failed_early) input_kept
unfolding kind_of receiver sender sends batches_of bounds_of policy_of phi psi carried is_carried part_of
input_kept_without = without_by of_discarded one_selected failed_early input_kept one_formed refl refl refl refl refl

pub discarded_is_needed : DiscardedIsNeeded
unfolding kind_of receiver sender sends batches_of bounds_of policy_of carried is_carried part_of
discarded_is_needed = (
  failed_early,
  plays one_selected early (first_state one_selected) [] [] failed_early refl refl,
  (record { consistent = output_kept_consistent; largest = output_kept_above }, input_kept_without, λ w. w.cuts 0 (lit< tt)),
  tt,
  (record { input = refl; next = refl; there = lit< tt }, tt),
  refl,
  refl,
)

-- ---- the inclusions of notifications, at two sources

-- the recs, each at epoch 0
abbrev first_rec : Message
first_rec = record { at = 0 ∷ []; rec = pair 1 5; causes = (0 ∷ []) ∷ [] }

abbrev second_rec : Message
second_rec = record { at = 0 ∷ []; rec = pair 2 50; causes = (0 ∷ []) ∷ [] }

-- both come where they go
abbrev coming : List Move
coming = inject 0 0 ∷ inject 1 0 ∷ deliver 0 None first_rec ∷ deliver 1 None second_rec ∷ deliver 3 None first_rec ∷ []

abbrev both_came : Machine
both_came = after_all one_comes (first_state one_comes) coming

abbrev sum_notified : Machine
sum_notified = with_event one_comes both_came (Notified 4 (0 ∷ []))

abbrev select_failed : Machine
select_failed = after_all one_comes sum_notified (fail 2 [] ∷ [])

failed_after_notice : IsFailedAfterNotice select_failed
unfolding kind_of receiver sender sends batches_of bounds_of policy_of phi carried is_carried part_of
failed_after_notice =
    plays one_comes coming (first_state one_comes) (step.Notify 4 (Some (0 ∷ [])) ∷ step.Fail (2 ∷ []) ∷ []) (did silent ∷ did silent ∷ []) select_failed refl (
      sum_notified,
      notifies one_comes both_came 4 (0 ∷ []) (all ∷ all ∷ all ∷ all ∷ none ∷ none ∷ []) two_sources_is_well_formed (lit< tt) refl refl refl,
      plays one_comes (fail 2 [] ∷ []) sum_notified [] [] select_failed refl refl,
    )

-- ---- the largest choice

undone_consistent : IsConsistent one_comes select_failed (offers one_comes select_failed) sum_undone
unfolding kind_of receiver sender sends batches_of bounds_of policy_of phi psi carried is_carried part_of
undone_consistent =
    consistent_by one_comes select_failed (is_failed select_failed) kept sum_undone two_sources_is_well_formed refl refl refl refl

-- the sum settled nothing, and was notified of what it cannot count as notified
at_sum : (cut : Cut) → offers one_comes select_failed 4 cut → Within ((covers_in one_comes select_failed).notified 4 cut) (frontier_of (bounds_of two_sources_flow 4) none)
    → IsCutWithin one_comes.flow 4 cut (At none)
unfolding kind_of policy_of bounds_of receiver
at_sum Present o w = false≢true (w (0 ∷ []) refl)
at_sum (At f) o w = o.1

undone_above : (other : Choice) → IsConsistent one_comes select_failed (offers one_comes select_failed) other → IsChoiceWithin one_comes.flow other sum_undone
unfolding kind_of receiver sender sends batches_of bounds_of policy_of carried is_carried part_of
undone_above other is =
    let at_select = offered_within one_comes select_failed (is_failed select_failed) kept 2 none refl refl (cut_of other 2) (is.offered 2 (lit< tt)) in
    let at_second = sender_within one_comes select_failed _ other is 1 (lit< tt) none (0 ∷ []) (0 ∷ []) at_select refl refl (λ sent f. refl) refl refl refl in
    let epochs : Bounds = bounds_of two_sources_flow 2 in
    let notice_select : Within (notice_of one_comes.flow other 2) (frontier_of epochs none) = λ t i. set_within one_comes 2 (cut_of other 2) none at_select t (is.own 2 (lit< tt) t i) in
    let notice_mix : Within (notice_of one_comes.flow other 3) (frontier_of epochs none) = λ t i. notice_select t (from_phi one_comes (events select_failed.history) 2 _ refl t (is.notices 2 (lit< tt) t i)) in
    let notice_sum : Within (notice_of one_comes.flow other 4) (frontier_of epochs none) = λ t i. notice_mix t (from_phi one_comes (events select_failed.history) 3 _ refl t (is.notices 3 (lit< tt) t i)) in
    record {
      cuts = by_six _ tt at_second at_select tt (at_sum (cut_of other 4) (is.offered 4 (lit< tt)) (λ t i. notice_sum t (is.notified 4 (lit< tt) t i))) tt;
      notices = by_six _
          (λ t i. (and_from _ _ (and_parts _ _ i).0 refl))
          (λ t i. set_within one_comes 1 (cut_of other 1) none at_second t (is.own 1 (lit< tt) t i))
          notice_select
          notice_mix
          notice_sum
          (λ t i. notice_sum t (from_phi one_comes (events select_failed.history) 4 _ refl t (is.notices 4 (lit< tt) t i)));
    }

-- ---- the sum stays as it is, whatever counts as notified

undone_left : LeavesAHistory one_comes select_failed sum_undone
unfolding kind_of receiver sender sends batches_of bounds_of carried is_carried part_of
undone_left = (record { is_pending = refl; numbered = λ n. absurd (false≢true n) }, (record { input = refl; next = refl; there = lit< tt }, tt))

-- the sum would have been notified of an epoch that is not complete: the second input is still to send it
notified_too_early : (notices : List Front) → LeavesAHistory one_comes select_failed (sum_kept notices) → ⊥
unfolding kind_of receiver sender sends batches_of bounds_of phi carried is_carried part_of
notified_too_early notices is =
    let done = is.0.complete.0 in
    let admissible = is.0.complete.1 in
    let at_low : done 2 (0 ∷ []) ≡ true = admissible.follows 2 (0 ∷ []) (is.0.complete.2 3 refl) in
    let at_second_source : done 1 (0 ∷ []) ≡ true = admissible.follows 1 (0 ∷ []) at_low in
    false≢true (admissible.source 1 refl (0 ∷ []) at_second_source)

needed : (left_out : Inclusion) (notices : List Front) → IsConsistentWithout left_out one_comes select_failed (offers one_comes select_failed) (sum_kept notices)
    → IsNeededForHistories left_out one_comes select_failed sum_undone (sum_kept notices)
needed left_out notices without =
    ((record { consistent = undone_consistent; largest = undone_above }, without, λ w. w.cuts 4 (lit< tt)), undone_left, notified_too_early notices)

pub notified_is_needed : NotifiedIsNeeded
unfolding kind_of receiver sender sends batches_of bounds_of policy_of phi psi carried is_carried part_of
notified_is_needed =
    let notices = all ∷ none ∷ none ∷ none ∷ none ∷ none ∷ [] in
    (select_failed, failed_after_notice, needed of_notified notices (without_by of_notified one_comes select_failed (sum_kept notices) two_sources_is_well_formed refl refl refl refl refl))

pub own_is_needed : OwnIsNeeded
unfolding kind_of receiver sender sends batches_of bounds_of policy_of phi psi carried is_carried part_of
own_is_needed =
    let notices = all ∷ all ∷ all ∷ all ∷ all ∷ all ∷ [] in
    (select_failed, failed_after_notice, needed of_own notices (without_by of_own one_comes select_failed (sum_kept notices) two_sources_is_well_formed refl refl refl refl refl))

pub notices_are_needed : NoticesAreNeeded
unfolding kind_of receiver sender sends batches_of bounds_of policy_of phi psi carried is_carried part_of
notices_are_needed =
    let notices = all ∷ none ∷ none ∷ none ∷ all ∷ none ∷ [] in
    (select_failed, failed_after_notice, needed of_notices notices (without_by of_notices one_comes select_failed (sum_kept notices) two_sources_is_well_formed refl refl refl refl refl))

-- How the nodes of the running total settle one after the other.
use Rattle.std.proofs.Common.{[], arith, false, lit<, lit≤, refl, suc, zero, ℕ, ◌<◌, ◌≤◌, ◌∷◌, ◌≡◌}
use Rattle.fw_frontier.specs.Front.{IsCanonical}
use Rattle.fw_flow.specs.Dataflow.{batches_of, bounds_of, kind_of, receiver, sender}
use Rattle.fw_flow.specs.NodeFunction.{sends}
use Rattle.fw_flow.specs.KeyParts.{is_carried, part_of}
use Rattle.fw_model.specs.Carried.{carried}
use Rattle.fw_model.specs.Choice.{until}
use Rattle.fw_model.specs.History.{IsComplete}
use Rattle.fw_model.specs.Machine.{AreCanonical, events, family_of}
use Rattle.fw_progress.specs.Laws.{OneMoreSettles, OthersSettleNothing}
use Rattle.fw_progress.specs.Settle.{AreGrownBefore, NoneGrows, is_growing}
use Rattle.fw_examples.specs.InTurn.{AreSettledBefore, EpochsSettleInTurn, complete_in_turn, state_unsettled}
use Rattle.fw_examples.specs.RunningTotal.{alike, come_back, total_flow, totals, two_epochs}
use Rattle.fw_examples.proofs.Choosing.{until_more}
use Rattle.fw_examples.proofs.Fronts.{by_three, canonical_by, join_by}
use Rattle.fw_examples.proofs.Settling.{complete_by}
use Rattle.fw_examples.proofs.TotalRuns.{totals_formed, unsettled_run}
use Rattle.fw_examples.proofs.Witnesses.{more_is_complete}
use Rattle.fw_progress.proofs.SettleLaws.{none_settled-first, one_more-settles, others-settle_nothing}

-- three epochs of each node, of which each has its own number, are canonical
each_canonical : (k n m : ℕ) → IsCanonical (bounds_of total_flow 0) (until k) → IsCanonical (bounds_of total_flow 1) (until n) → IsCanonical (bounds_of total_flow 2) (until m)
    → AreCanonical total_flow (until k ∷ until n ∷ until m ∷ [])
each_canonical k n m a b c zero = a
each_canonical k n m a b c (suc zero) = b
each_canonical k n m a b c (suc (suc zero)) = c
each_canonical k n m a b c (suc (suc (suc p))) = tt

two_canonical : AreCanonical total_flow (alike 2)
unfolding kind_of bounds_of
two_canonical = each_canonical 2 2 2 (canonical_by _ (until 2) refl) (canonical_by _ (until 2) refl) (canonical_by _ (until 2) refl)

complete_canonical : AreCanonical total_flow complete_in_turn
unfolding kind_of bounds_of
complete_canonical = each_canonical 4 3 2 (canonical_by _ (until 4) refl) (canonical_by _ (until 3) refl) (canonical_by _ (until 2) refl)

-- ---- one after the other

input_settled : OneMoreSettles → AreSettledBefore (until 4 ∷ until 2 ∷ until 2 ∷ []) 1
unfolding kind_of bounds_of
input_settled law =
    law total_flow state_unsettled.failed state_unsettled.settled complete_in_turn (alike 2) 0 0 (until 4) (lit≤ tt) (lit< tt) (λ p l m. absurd (omega (arith, l, m))) refl
    (refl, record { canonical = canonical_by _ (until 4) refl; same = join_by _ _ (until_more (bounds_of total_flow 0) 2 4 (lit≤ tt)) })
    (none_settled-first total_flow state_unsettled.failed state_unsettled.settled complete_in_turn)

total_settled : OneMoreSettles → AreSettledBefore complete_in_turn 2
unfolding kind_of bounds_of
total_settled law =
    law total_flow state_unsettled.failed state_unsettled.settled complete_in_turn (until 4 ∷ until 2 ∷ until 2 ∷ []) 1 1 (until 3) (lit≤ tt) (lit< tt) (λ p l m. absurd (omega (arith, l, m))) refl
    (refl, record { canonical = canonical_by _ (until 3) refl; same = join_by _ _ (until_more (bounds_of total_flow 1) 2 3 (lit≤ tt)) }) (input_settled law)

-- the output failed
nothing_at_output : NoneGrows state_unsettled.failed state_unsettled.settled complete_in_turn 2 3
nothing_at_output p l m =
    by_three (λ p. 2 ≤ p → is_growing state_unsettled.failed state_unsettled.settled complete_in_turn p ≡ false) (λ l. absurd (omega (arith, l))) (λ l. absurd (omega (arith, l))) (λ l. refl) p m l

all_settled : OthersSettleNothing → AreSettledBefore complete_in_turn 3
all_settled law = law total_flow state_unsettled.failed state_unsettled.settled complete_in_turn complete_in_turn 2 3 (lit≤ tt) nothing_at_output (total_settled one_more-settles)

-- ---- the whole

none_after : NoneGrows come_back.failed come_back.settled (alike 2) 0 3
none_after p l m = by_three (λ p. is_growing come_back.failed come_back.settled (alike 2) p ≡ false) refl refl refl p m

none_grew : AreGrownBefore total_flow come_back.failed come_back.settled (alike 2) (alike 2) 3
none_grew = others-settle_nothing total_flow come_back.failed come_back.settled (alike 2) (alike 2) 0 3 (lit≤ tt) none_after (none_settled-first total_flow come_back.failed come_back.settled (alike 2))

two_complete : IsComplete totals (events come_back.history) (family_of total_flow (alike 2))
unfolding kind_of receiver sender sends batches_of bounds_of carried is_carried part_of
two_complete = complete_by totals two_epochs (alike 2) totals_formed refl refl

pub epochs_settle_in_turn : EpochsSettleInTurn
unfolding kind_of bounds_of
epochs_settle_in_turn =
    let complete = more_is_complete.complete in
    record {
      reached = unsettled_run;
      complete = complete;
      input_settles = refl;
      total_settles = refl;
      output_settles_nothing = refl;
      first = λ law. law total_flow state_unsettled.failed state_unsettled.settled complete_in_turn;
      input_settled = input_settled;
      total_settled = total_settled;
      all_settled = all_settled;
      grows = λ law.
          (law totals state_unsettled state_unsettled.failed state_unsettled.settled complete_in_turn complete_in_turn refl refl refl refl two_canonical complete_canonical complete (all_settled others-settle_nothing)).0
          0 (lit< tt) refl;
      none_after = none_after;
      none = λ law. (law totals come_back come_back.failed come_back.settled (alike 2) (alike 2) refl refl refl refl two_canonical two_canonical two_complete none_grew).1 none_after;
    }

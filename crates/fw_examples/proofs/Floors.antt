-- The low watermark is a floor, and covers without what is below one are poorer.
use Rattle.std.proofs.Common.{ap, drop, false, inl, inr, lit<, not, refl, subst, sym, true, ◌&&◌, ◌≡◌}
use Rattle.std.proofs.lemmas.Bool.{and_from, and_parts, cases_Bool, false≢true, or_left, or_right}
use Rattle.fw_lemmas.proofs.Bools.{two_ways}
use Rattle.fw_time.specs.Stamp.{Stamp}
use Rattle.fw_frontier.specs.Frontier.{Frontier}
use Rattle.fw_flow.specs.Dataflow.{batches_of, bounds_of, kind_of, node_frontier, policy_of, receiver, sender}
use Rattle.fw_flow.specs.NodeFunction.{sends}
use Rattle.fw_flow.specs.KeyParts.{is_carried, part_of}
use Rattle.fw_model.specs.Carried.{carried}
use Rattle.fw_model.specs.Choice.{cut_of, until}
use Rattle.fw_model.specs.Covers.{covers_in}
use Rattle.fw_model.specs.Machine.{is_failed}
use Rattle.fw_model.specs.Offers.{covers_of}
use Rattle.fw_model.specs.Poorer.{IsPoorer}
use Rattle.fw_model.proofs.ThinnedLaws.{each-contained}
use Rattle.fw_examples.specs.Floors.{CoversArePoorer, EpochsAreMissing, FloorsAreThere, OffersAreAbove}
use Rattle.fw_examples.specs.OffersOfTotals.{offers_of_totals}
use Rattle.fw_examples.specs.RunningTotal.{alike, output_failed, total_flow, total_node, totals, two_epochs_kept}
use Rattle.fw_examples.specs.Witnesses.{four_epochs}
use Rattle.fw_examples.proofs.OffersOfTotals.{checkpoints_are_offered}
use Rattle.fw_examples.proofs.TotalRuns.{kept_consistent, runs_to_two, ten_acknowledged, two_epochs_are_low}

pub floors_are_there : FloorsAreThere
unfolding bounds_of kind_of
floors_are_there = record {
  low = record { notices = alike 2; consistent = kept_consistent (λ p. true) };
  before = ten_acknowledged;
  reached = runs_to_two;
  low_before = refl;
  above_low = record { notices = alike 2; consistent = two_epochs_are_low.consistent };
}

-- what is left of a frontier without another one is poorer by at most that one
without-poorer : (rich floor : Frontier) → IsPoorer (λ t. rich t && not (floor t)) rich floor
without-poorer rich floor = record {
  within = λ t i. (and_parts (rich t) (not (floor t)) i).0;
  rest = λ t i. elim (cases_Bool (floor t)) [
    | inl k ↦ or_right (rich t && not (floor t)) (floor t) k
    | inr k ↦ or_left (rich t && not (floor t)) (floor t) (and_from (rich t) (not (floor t)) i (ap not k))
  ];
}

pub covers_are_poorer : CoversArePoorer
unfolding kind_of policy_of sender receiver sends bounds_of batches_of carried is_carried part_of
covers_are_poorer =
    let rich = covers_in totals output_failed in
    record {
      poorer = record {
        poorer = record {
          delivered = λ d l cut i. without-poorer (rich.delivered d cut) (rich.delivered d (cut_of two_epochs_kept (receiver total_flow d)));
          discarded = λ e l cut i. without-poorer (rich.discarded e cut) (rich.discarded e (cut_of two_epochs_kept (sender total_flow e)));
          notified = λ p l cut i. without-poorer (rich.notified p cut) (rich.notified p (cut_of two_epochs_kept p));
          arrived = λ e l f. refl;
        };
        consistent = kept_consistent (is_failed output_failed);
      };
      was_there = refl;
      missing = refl;
      left = refl;
    }

equal-poorer : (poor rich floor : Frontier) → poor ≡ rich → IsPoorer poor rich floor
equal-poorer poor rich floor e = record {
  within = λ t i. subst (λ (g : Frontier). g t ≡ true) e i;
  rest = λ t i. or_left (poor t) (floor t) (subst (λ (g : Frontier). g t ≡ true) (sym e) i);
}

pub offers_are_above : OffersAreAbove
offers_are_above =
    let same = checkpoints_are_offered.same in
    let ours = covers_of total_flow offers_of_totals in
    let theirs = covers_in totals output_failed in
    record {
      of_flow = same.of_flow;
      ascending = same.ascending;
      offered = same.offered;
      poorer = record {
        delivered = λ d l cut i. equal-poorer (ours.delivered d cut) (theirs.delivered d cut) (theirs.delivered d (cut_of two_epochs_kept (receiver total_flow d))) (same.delivered d l cut i);
        discarded = λ e l cut i. equal-poorer (ours.discarded e cut) (theirs.discarded e cut) (theirs.discarded e (cut_of two_epochs_kept (sender total_flow e))) (same.discarded e l cut i);
        notified = λ p l cut i. equal-poorer (ours.notified p cut) (theirs.notified p cut) (theirs.notified p (cut_of two_epochs_kept p)) (same.notified p l cut i);
        arrived = same.arrived;
      };
      consistent = kept_consistent (is_failed output_failed);
    }

pub epochs_are_missing : EpochsAreMissing
unfolding bounds_of kind_of
epochs_are_missing =
    let base = node_frontier total_flow total_node (until 2) in
    record {
      thinned = record {
        among = ((2, lit< tt, refl), ((3, lit< tt, refl), tt));
        outside = ((λ k. absurd (false≢true (sym k))), ((λ k. absurd (false≢true (sym k))), ((λ k. (0, lit< tt, refl)), ((λ k. (1, lit< tt, refl)), tt))));
        inside = λ k. absurd (false≢true k);
      };
      not_whole = λ h.
          let k = h.inside.0 refl in
          two_ways (base k.above) k.inside (each-contained (λ (s : Stamp). base s ≡ false) k.above (drop 2 four_epochs) k.is_kept (refl, (refl, tt)));
    }

-- The laws of collections applied to a select that logged two events and to the running total with two checkpoints.
use Rattle.std.proofs.Common.{[], lit<, refl}
use Rattle.std.specs.List.{AllZip}
use Rattle.fw_frontier.specs.Frontier.{Within}
use Rattle.fw_flow.specs.Dataflow.{bounds_of, kind_of, node_frontier, out_edges, policy_of, receiver, sender}
use Rattle.fw_flow.specs.Projection.{phi}
use Rattle.fw_model.specs.Choice.{until}
use Rattle.fw_model.specs.Machine.{front_of}
use Rattle.fw_collect.specs.declared.drops.Drops.{Drops}
use Rattle.fw_collect.specs.Drops.{IsPlanned}
use Rattle.fw_collect.specs.LawsOfCollections.{GoesWith, RisesTo}
use Rattle.fw_collect.proofs.CollectLaws.{drops_what_is_collected}
use Rattle.fw_examples.specs.Collected.{AreBothLeft, CollectionsApply, IsCollected, IsEarlierCollected, IsToCollect, catalogue_of, both_batches, both_checkpoints, both_in_a_chain, both_logged, both_sent, both_written, checkpoints_written, history_then, input_of_both, log_of_both, none_collected_yet}
use Rattle.fw_examples.specs.Logs.{all_but_the_last, events_logged, none}
use Rattle.fw_examples.specs.Loop.{with_serials}
use Rattle.fw_examples.specs.RunningTotal.{alike, come_back, total_flow, totals, two_epochs}
use Rattle.fw_examples.proofs.Choosing.{lies}
use Rattle.fw_examples.proofs.Fronts.{by_three}

-- of the two events of the select that of epoch 0 goes with its write, and that of epoch 1 stays with its
logged_entries : AllZip (GoesWith events_logged history_then all_but_the_last both_written (catalogue_of both_logged)) both_logged both_written
unfolding kind_of bounds_of policy_of receiver sender out_edges phi
logged_entries = (refl, (refl, tt))

-- and so of the two checkpoints
checkpoint_entries : AllZip (GoesWith totals (with_serials two_epochs) (alike 2) checkpoints_written (catalogue_of both_checkpoints)) both_checkpoints checkpoints_written
unfolding kind_of bounds_of policy_of receiver sender out_edges phi
checkpoint_entries = (refl, (refl, tt))

-- and of two of which the later one stands on the earlier
chained_entries : AllZip (GoesWith totals (with_serials two_epochs) (alike 2) come_back.writes (catalogue_of both_in_a_chain)) both_in_a_chain come_back.writes
unfolding kind_of bounds_of policy_of receiver sender out_edges phi
chained_entries = (refl, (refl, tt))

-- nothing lies within everything
rises : RisesTo events_logged.flow none_collected_yet all_but_the_last
rises p l =
    by_three (λ p. Within (node_frontier events_logged.flow p (front_of none_collected_yet p)) (node_frontier events_logged.flow p (front_of all_but_the_last p)))
    (lies _ none [] refl) (lies _ none [] refl) (lies _ none (until 1) refl) p l

to_collect : IsToCollect
unfolding kind_of bounds_of policy_of receiver sender
to_collect = record {
  entries = logged_entries;
  rises = rises;
  resends = refl;
  in_domain = (refl, (refl, tt));
  log = refl;
  is_input = refl;
  batches = refl;
}

logged : (drops : Drops) → IsPlanned events_logged.flow all_but_the_last both_logged drops → IsCollected drops
unfolding kind_of bounds_of policy_of receiver sender out_edges phi
logged drops planned = record {
  first_goes = λ law. (law events_logged.flow all_but_the_last (catalogue_of both_logged) drops planned).0;
  second_stays = λ law. (law events_logged.flow all_but_the_last (catalogue_of both_logged) drops planned).1.0;
  log = λ law. law events_logged.flow all_but_the_last both_logged drops planned 1 log_of_both (lit< tt);
  batches = λ law. law events_logged.flow all_but_the_last both_logged drops planned 0 input_of_both (lit< tt);
  entries = drops_what_is_collected (GoesWith events_logged history_then all_but_the_last both_written (catalogue_of both_logged)) events_logged history_then all_but_the_last both_written
      (catalogue_of both_logged) (λ e write k. k) drops planned logged_entries ((λ e. refl), ((λ e. refl), tt));
  log_holds = λ law. law events_logged.flow none_collected_yet all_but_the_last both_logged drops planned rises 1 log_of_both both_sent (lit< tt) (lit< tt) refl (refl, (refl, tt)) refl;
  input_holds = λ law. law events_logged.flow none_collected_yet all_but_the_last both_logged drops planned rises 0 input_of_both both_batches (lit< tt) refl (refl, (refl, tt)) refl;
}

checkpoints : (drops : Drops) → IsPlanned total_flow (alike 2) both_checkpoints drops → IsEarlierCollected drops
unfolding kind_of bounds_of policy_of receiver sender out_edges phi
checkpoints drops planned = record {
  earlier_goes = λ law. (law total_flow (alike 2) (catalogue_of both_checkpoints) drops planned).0;
  later_stays = λ law. (law total_flow (alike 2) (catalogue_of both_checkpoints) drops planned).1.0;
  one_left = refl;
  entries = drops_what_is_collected (GoesWith totals (with_serials two_epochs) (alike 2) checkpoints_written (catalogue_of both_checkpoints)) totals (with_serials two_epochs) (alike 2) checkpoints_written
      (catalogue_of both_checkpoints) (λ e write k. k) drops planned checkpoint_entries ((λ e. refl), ((λ e. refl), tt));
}

in_a_chain : (drops : Drops) → IsPlanned total_flow (alike 2) both_in_a_chain drops → AreBothLeft drops
unfolding kind_of bounds_of policy_of receiver sender out_edges phi
in_a_chain drops planned = record {
  earlier_stays = λ law. (law total_flow (alike 2) (catalogue_of both_in_a_chain) drops planned).0;
  later_stays = λ law. (law total_flow (alike 2) (catalogue_of both_in_a_chain) drops planned).1.0;
  entries = drops_what_is_collected (GoesWith totals (with_serials two_epochs) (alike 2) come_back.writes (catalogue_of both_in_a_chain)) totals (with_serials two_epochs) (alike 2) come_back.writes
      (catalogue_of both_in_a_chain) (λ e write k. k) drops planned chained_entries ((λ e. refl), ((λ e. refl), tt));
}

pub collections_apply : CollectionsApply
collections_apply = record { asked = to_collect; logged = logged; entries = checkpoint_entries; checkpoints = checkpoints; in_a_chain = in_a_chain }

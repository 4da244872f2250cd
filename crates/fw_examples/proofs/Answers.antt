-- The laws of answers applied to a distinct, the running total and a sum.
use Rattle.std.proofs.Common.{lit<, refl, ◌∷◌, []}
use Rattle.fw_flow.specs.Dataflow.{bounds_of, in_edges, kind_of, receiver}
use Rattle.fw_examples.specs.Answers.{AnswersApply, CameOnItsEdge, FirstEpochSuffices, OtherRecsAreSent, TotalIsSent, came_at_two, each_once, is_first, next_came, once_came}
use Rattle.fw_bag.specs.Arrivals.{arrival}
use Rattle.fw_flow.specs.declared.kind.Kind.TheVariants.{Distinct, Sum}
use Rattle.std.specs.Prelude.{None}
use Rattle.fw_examples.specs.Flows.{pair}
use Rattle.fw_examples.specs.KindsSend.{at}
use Rattle.fw_examples.specs.RunningTotal.{total_node, total_flow, totals, two_epochs}

others : OtherRecsAreSent
unfolding in_edges kind_of receiver bounds_of
others = record {
  single = refl;
  on_its_edge = refl;
  came = (refl, tt);
  again = λ law. law each_once 1 once_came 0 (record { at = at 0; rec = pair 1 5; causes = at 0 ∷ [] }) refl refl (refl, tt);
  other = λ law. law each_once 1 once_came 0 (record { at = at 0; rec = pair 1 6; causes = at 0 ∷ [] }) refl refl (refl, tt);
}

total : TotalIsSent
unfolding in_edges kind_of receiver bounds_of
total = record {
  no_sequence = refl;
  sent = λ law. law totals total_node next_came (2 ∷ []) refl;
}

first_suffices : FirstEpochSuffices
first_suffices = record {
  fewer = refl;
  again = λ law. law (Distinct None) tt is_first came_at_two (arrival 0 (at 0) (pair 1 5)) refl;
  same_as_all = λ law. law (Distinct None) tt is_first came_at_two (arrival 0 (at 0) (pair 1 6)) refl;
  summed = λ law. law (Sum None) tt is_first came_at_two (at 0) refl;
}

on_edge : CameOnItsEdge
unfolding in_edges receiver kind_of
on_edge = record {
  is_node = lit< tt;
  events = refl;
  on_edge = λ law. (law total_flow total_node (lit< tt) two_epochs (λ t. is_first t)).0.0;
}

pub answers_apply : AnswersApply
answers_apply = record { deliveries = others; notifications = total; forgetting = first_suffices; edges = on_edge }

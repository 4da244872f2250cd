-- What the laws of answers say of a distinct, of the running total and of a sum, where they have something to say.
use Rattle.std.specs.Prelude.{List, None, [], Bool, codes, true, false, length, ◌<◌, ◌∷◌, ◌≡◌}
use Rattle.fw_model.specs.Sending.{is_single_kind}
use Rattle.fw_bag.specs.Arrivals.{Arrival, arrival, arrivals_inside}
use Rattle.fw_time.specs.Stamp.{Stamp, same}
use Rattle.fw_flow.specs.Dataflow.{System, in_edges, is_sequence_kind, kind_of}
use Rattle.fw_flow.specs.NodeFunction.{sends}
use Rattle.fw_flow.specs.Projection.{events_at}
use Rattle.fw_flow.specs.declared.event.Event.{Event}
use Rattle.fw_flow.specs.declared.event.Event.TheVariants.{Deliver as Delivered, Notify as Notified}
use Rattle.fw_flow.specs.declared.kind.Kind.TheVariants.{Distinct, Sum}
use Rattle.fw_flow.specs.declared.kind.Policy.TheVariants as policy
use Rattle.fw_node.specs.Answers.{recs_at_notice, recs_for, without_causes}
use Rattle.fw_node.specs.Arrived.{AreOnEdges, IsOneOf}
use Rattle.fw_node.specs.LawsOfAnswers.{DeliveriesAnswer, DeliveriesNeedTheirTime, EventsComeOnInEdges, NotificationsAnswer, NotificationsNeedTheirTime}
use Rattle.fw_examples.specs.Flows.{fed, node, pair}
use Rattle.fw_examples.specs.KindsSend.{at, delivery_at}
use Rattle.fw_examples.specs.RunningTotal.{valued_at_epoch, total_node, src_to_run, total_flow, totals, two_epochs}

-- an input, a distinct and an output, without batches
abbrev pub each_once : System
each_once = fed (node (codes "one") (Distinct None) policy.None) []

-- a rec came to the distinct at epoch 0
abbrev pub once_came : List Event
once_came = delivery_at 0 0 (pair 1 5) ∷ []

-- The rec that came once is not sent when it comes again at its epoch, and another one is.
pub record OtherRecsAreSent : Type 0 where
  pub single : is_single_kind (kind_of each_once.flow 1) ≡ true
  pub on_its_edge : IsOneOf (in_edges each_once.flow 1) 0
  pub came : AreOnEdges (in_edges each_once.flow 1) once_came
  pub again : DeliveriesAnswer → without_causes (sends each_once 1 once_came (delivery_at 0 0 (pair 1 5))) ≡ []
  pub other : DeliveriesAnswer → without_causes (sends each_once 1 once_came (delivery_at 0 0 (pair 1 6))) ≡ (at 0, pair 1 6) ∷ []

-- epoch 1 was summed, and a rec of epoch 2 came
abbrev pub next_came : List Event
next_came = Delivered src_to_run (valued_at_epoch 2 5) ∷ Notified total_node (1 ∷ []) ∷ Delivered src_to_run (valued_at_epoch 1 10) ∷ []

-- Told of epoch 2, the running total sends what came up to there.
pub record TotalIsSent : Type 0 where
  pub no_sequence : is_sequence_kind (kind_of total_flow total_node) ≡ false
  pub sent : NotificationsAnswer → without_causes (sends totals total_node next_came (Notified total_node (2 ∷ []))) ≡ (at 2, pair 1 15) ∷ []

-- a rec came on the one edge at epoch 0, and another one at epoch 1
abbrev pub came_at_two : List Arrival
came_at_two = arrival 0 (at 1) (pair 1 6) ∷ arrival 0 (at 0) (pair 1 5) ∷ []

-- whether a stamp is epoch 0
abbrev pub is_first : Stamp → Bool
is_first t = same t (at 0)

-- Where what came at epoch 0 alone is kept, a distinct and a sum answer there as from all.
pub record FirstEpochSuffices : Type 0 where
  pub fewer : arrivals_inside is_first came_at_two ≡ arrival 0 (at 0) (pair 1 5) ∷ []
  pub again : DeliveriesNeedTheirTime
      → recs_for (Distinct None) (arrivals_inside is_first came_at_two) (arrival 0 (at 0) (pair 1 5)) ≡ []
  pub same_as_all : DeliveriesNeedTheirTime
      → recs_for (Distinct None) (arrivals_inside is_first came_at_two) (arrival 0 (at 0) (pair 1 6))
      ≡ recs_for (Distinct None) came_at_two (arrival 0 (at 0) (pair 1 6))
  pub summed : NotificationsNeedTheirTime → recs_at_notice (Sum None) (arrivals_inside is_first came_at_two) (at 0) ≡ pair 1 5 ∷ []

-- The rec of epoch 1 came to the running total on its one in-edge.
pub record CameOnItsEdge : Type 0 where
  pub is_node : total_node < length total_flow.nodes
  pub events : events_at total_flow total_node two_epochs ≡ Notified total_node (1 ∷ []) ∷ Delivered src_to_run (valued_at_epoch 1 10) ∷ []
  pub on_edge : EventsComeOnInEdges → IsOneOf (in_edges total_flow total_node) src_to_run

-- the laws of answers, of these nodes
pub record AnswersApply : Type 0 where
  pub deliveries : OtherRecsAreSent
  pub notifications : TotalIsSent
  pub forgetting : FirstEpochSuffices
  pub edges : CameOnItsEdge

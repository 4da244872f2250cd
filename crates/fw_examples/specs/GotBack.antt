-- The running total when every node is failed, and the third frontier of a select that logs each event.
use Rattle.std.specs.Prelude.{None, [], false, map, true, ◌∷◌, ◌≡◌}
use Rattle.fw_frontier.specs.Frontier.{Within}
use Rattle.fw_flow.specs.Dataflow.{node_frontier, node_ids}
use Rattle.fw_flow.specs.declared.choice.Choice.{Choice}
use Rattle.fw_flow.specs.declared.choice.Cut.TheVariants.{At}
use Rattle.fw_flow.specs.declared.event.Event.TheVariants.{Deliver as Delivered, Inject as Injected}
use Rattle.fw_flow.specs.declared.event.Message.{Message}
use Rattle.fw_flow.specs.declared.step.Step.TheVariants.{Fail}
use Rattle.fw_model.specs.Choice.{IsCandidate, IsLargest, IsWatermark, kept, until}
use Rattle.fw_model.specs.Machine.{Machine, Write, acknowledged, front_of, in_flight, is_failed, logged_event}
use Rattle.fw_model.specs.Reached.{IsReached}
use Rattle.fw_model.specs.Steps.{Outcome, StepsTo, is_in_flight, offers}
use Rattle.fw_regain.specs.Down.{AllAreDown, AllGoDown, DownChoosesTheWatermark, DownIsReached, DownOffersTheSame, EachStateStartsAgain, IsDown, NothingFliesWhereAllAreFailed, StartsAgain, down}
use Rattle.fw_regain.specs.Third.{IsKeptLogged, NothingOutsideLowIsCollected, ThirdFrontIsOffered, ThirdHoldsLow, ThirdStaysWhereAllAreDown, stamps_not_logged, third_of}
use Rattle.fw_examples.specs.Flows.{big, pair, src, src_to_big}
use Rattle.fw_examples.specs.Logs.{each_written, first_message, in_epoch, none}
use Rattle.fw_examples.specs.Loop.{with_serials}
use Rattle.fw_examples.specs.RunningTotal.{output_failed, total_flow, total_node, totals, two_epochs_kept}

-- In the state of the failure the running total is live, and its third checkpoint is in flight. Where every node is failed that is lost,
-- nothing else is, and a start leads on. Before the collection a start would have chosen what that showed.
pub record EveryNodeIsDown : Type 0 where
  pub live : is_failed output_failed total_node ≡ false
  pub flies : map (λ (w : Write). is_in_flight w.stage) output_failed.writes ≡ false ∷ false ∷ true ∷ []
  pub lost : map (λ (w : Write). is_in_flight w.stage) (down totals output_failed).writes ≡ false ∷ false ∷ []
  pub goes : AllGoDown → (outcome : Outcome) × StepsTo totals output_failed (Fail (node_ids total_flow)) (down totals output_failed) outcome
  pub is_down : AllAreDown → IsDown totals (down totals output_failed)
  pub reached : DownIsReached → IsReached totals (down totals output_failed)
  pub still : DownIsReached → NothingFliesWhereAllAreFailed
      → IsDown totals (down totals output_failed) × (down totals (down totals output_failed) ≡ down totals output_failed)
  pub offered : DownOffersTheSame → IsCandidate totals (down totals output_failed) (λ p. true) kept total_node (At (until 2))
  pub before : Machine
  pub watermark : IsWatermark totals before two_epochs_kept
  pub chosen : DownChoosesTheWatermark → IsLargest totals (down totals before) (offers totals (down totals before)) two_epochs_kept
  pub again : EachStateStartsAgain → (next : Machine) × (choice : Choice) × StartsAgain totals output_failed next choice

-- the second of two recs of an epoch
abbrev pub also_in_epoch : Message
also_in_epoch = in_epoch 0 (pair 2 30)

-- both recs came to the select, and what came is settled; of its two events the first one is acknowledged, and the other is in flight
abbrev pub one_in_flight : Machine
one_in_flight = record {
  history = with_serials (Delivered src_to_big also_in_epoch ∷ Delivered src_to_big first_message ∷ Injected src 0 ∷ []);
  next = 3;
  settled = [] ∷ [] ∷ none ∷ [];
  writes =
      record { node = big; written = logged_event 1; base = None; depth = 0; stage = acknowledged }
      ∷ record { node = big; written = logged_event 2; base = None; depth = 0; stage = in_flight }
      ∷ [];
  failed = false ∷ false ∷ false ∷ [];
  ack_counts = 0 ∷ 0 ∷ 0 ∷ [];
  low = none ∷ none ∷ none ∷ [];
}

-- So the epoch is settled, but not inside the third frontier, and no frontier with it is offered once the select fails. Of the two events
-- the first one is kept.
pub record ThirdLacksAnEpoch : Type 0 where
  pub reached : IsReached each_written one_in_flight
  pub settled : node_frontier each_written.flow big (front_of one_in_flight.settled big) (0 ∷ []) ≡ true
  pub not_logged : stamps_not_logged each_written one_in_flight big ≡ (0 ∷ []) ∷ []
  pub outside : third_of each_written one_in_flight big (0 ∷ []) ≡ false
  pub stays : ThirdStaysWhereAllAreDown → third_of each_written (down each_written one_in_flight) big (0 ∷ []) ≡ false
  pub not_offered : ThirdFrontIsOffered → IsCandidate each_written one_in_flight (λ p. true) kept big (At (until 1)) → ⊥
  pub holds : ThirdHoldsLow → Within (node_frontier each_written.flow big none) (third_of each_written one_in_flight big)
  pub kept_one : NothingOutsideLowIsCollected → IsKeptLogged 1 one_in_flight.writes

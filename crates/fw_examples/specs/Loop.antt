-- What is claimed of the loop that counts up: what it denotes, a run with both batches under way, and a recovery after the node
-- that counts up failed.
use Rattle.std.specs.Prelude.{List, None, Some, [], false, length, map, replicate, slice_index_or, true, ℕ, ◌++◌, ◌∷◌, ◌≡◌}
use Rattle.fw_bag.specs.declared.rec.Rec.{Rec}
use Rattle.fw_time.specs.Stamp.{Stamp, same}
use Rattle.fw_frontier.specs.Front.{Front}
use Rattle.fw_frontier.specs.Frontier.{Frontier}
use Rattle.fw_flow.specs.Dataflow.{node_frontier}
use Rattle.fw_flow.specs.declared.choice.Choice.{Choice}
use Rattle.fw_flow.specs.declared.choice.Cut.TheVariants.{At, Present}
use Rattle.fw_flow.specs.declared.event.Event.{Event}
use Rattle.fw_flow.specs.declared.event.Event.TheVariants.{Deliver, Inject}
use Rattle.fw_flow.specs.declared.event.Message.{Message}
use Rattle.fw_flow.specs.declared.step.Step.{Step}
use Rattle.fw_model.specs.Choice.{filtered_history}
use Rattle.fw_model.specs.Denotation.{IsDenotation, bag_at, rounds}
use Rattle.fw_model.specs.History.{IsComplete, IsLegal, pending_messages}
use Rattle.fw_model.specs.Machine.{Machine, SerialEvent, events, first_state, front_of}
use Rattle.fw_model.specs.Steps.{Outcome, acked, cuts, did, silent}
use Rattle.fw_examples.specs.Flows.{loop_counts_up, pair, two_batches}
use Rattle.fw_flow.specs.declared.step.Step.TheVariants as step

-- the edge out of the feedback
abbrev pub fed_back_edge : ℕ
fed_back_edge = 4

-- the edge to the output
abbrev pub output_edge : ℕ
output_edge = 6

-- Fourteen rounds solve the equations of two batches: each rec reaches the output once for each counter, with the values from 1
-- to 4 at the epoch of its batch.
pub record TwoBatchesCountUp : Type 0 where
  pub solves : IsDenotation two_batches (rounds two_batches 14)
  pub first : bag_at (rounds two_batches 14) output_edge (0 ∷ []) ≡ (pair 1 1 ∷ pair 1 2 ∷ pair 1 3 ∷ pair 1 4 ∷ [])
  pub second : bag_at (rounds two_batches 14) output_edge (1 ∷ [])
      ≡ (pair 2 1 ∷ pair 2 2 ∷ pair 2 3 ∷ pair 2 4 ∷ pair 3 1 ∷ pair 3 2 ∷ pair 3 3 ∷ pair 3 4 ∷ [])
  pub no_more : (t : Stamp) → same t (0 ∷ []) ≡ false → same t (1 ∷ []) ≡ false
      → bag_at (rounds two_batches 14) output_edge t ≡ []

-- ---- a run of the loop that counts up, with both batches under way

-- a message of one cause
abbrev pub message : Stamp → Rec → Stamp → Message
message at rec cause = record { at = at; rec = rec; causes = cause ∷ [] }

-- a stamp of the loop
abbrev pub round : ℕ → ℕ → Stamp
round x c = x ∷ c ∷ []

-- the latest events: the first batch went round twice and was counted up thrice
abbrev pub rounds_of_the_first : List Event
rounds_of_the_first =
    Deliver 2 (message (round 0 2) (pair 1 2) (round 0 2))
    ∷ Deliver 4 (message (round 0 2) (pair 1 2) (round 0 1))
    ∷ Deliver 3 (message (round 0 1) (pair 1 2) (round 0 1))
    ∷ Deliver 2 (message (round 0 1) (pair 1 1) (round 0 1))
    ∷ Deliver 4 (message (round 0 1) (pair 1 1) (round 0 0))
    ∷ Deliver 3 (message (round 0 0) (pair 1 1) (round 0 0))
    ∷ Deliver 2 (message (round 0 0) (pair 1 0) (round 0 0))
    ∷ []

-- the events before: both batches entered the loop
abbrev pub both_entered : List Event
both_entered =
    Deliver 1 (message (round 1 0) (pair 3 0) (1 ∷ []))
    ∷ Deliver 1 (message (round 1 0) (pair 2 0) (1 ∷ []))
    ∷ Deliver 0 (message (1 ∷ []) (pair 3 0) (1 ∷ []))
    ∷ Deliver 0 (message (1 ∷ []) (pair 2 0) (1 ∷ []))
    ∷ Inject 0 1
    ∷ Deliver 1 (message (round 0 0) (pair 1 0) (0 ∷ []))
    ∷ Deliver 0 (message (0 ∷ []) (pair 1 0) (0 ∷ []))
    ∷ Inject 0 0
    ∷ []

-- What happened: between the two one rec of the second batch was counted up.
abbrev pub under_way : List Event
under_way = rounds_of_the_first ++ Deliver 2 (message (round 1 0) (pair 2 0) (round 1 0)) ∷ both_entered

-- what is pending on each edge
abbrev pub still_pending : List (List Message)
still_pending =
    [] ∷ []
    ∷ (message (round 1 0) (pair 3 0) (round 1 0) ∷ [])
    ∷ (message (round 0 2) (pair 1 3) (round 0 2) ∷ message (round 1 0) (pair 2 1) (round 1 0) ∷ [])
    ∷ []
    ∷ (message (round 0 2) (pair 1 3) (round 0 2)
    ∷ message (round 0 1) (pair 1 2) (round 0 1)
    ∷ message (round 0 0) (pair 1 1) (round 0 0)
    ∷ message (round 1 0) (pair 2 1) (round 1 0)
    ∷ [])
    ∷ []
    ∷ []

-- up to which stamps the node that counts up is complete
abbrev pub counted_rounds : Front
counted_rounds = round 0 3 ∷ round 1 0 ∷ []

-- each event was enabled, and just these messages are pending
pub record IsUnderWay : Type 0 where
  pub legal : IsLegal two_batches under_way
  pub waiting : (e : ℕ) → pending_messages two_batches under_way e ≡ slice_index_or still_pending e []

-- The complete frontiers by node: all before the loop; back from what is pending, at the feedback up to what waits for
-- it, at the node where rounds meet one counter further, at the node that counts up less than that by what waits there;
-- and nothing behind the loop.
abbrev pub complete_fronts : List Front
complete_fronts =
    [] ∷ []
    ∷ (round 0 3 ∷ round 1 1 ∷ [])
    ∷ counted_rounds
    ∷ (round 0 2 ∷ round 1 0 ∷ [])
    ∷ (round 0 0 ∷ [])
    ∷ ((0 ∷ []) ∷ [])
    ∷ []

-- the complete frontier of a node
abbrev pub complete_at : ℕ → Frontier
complete_at p = node_frontier loop_counts_up p (front_of complete_fronts p)

-- the largest family inside which all has come
abbrev pub IsCompleteUnderWay : Type 0
IsCompleteUnderWay = IsComplete two_batches under_way complete_at

-- ---- a recovery of the loop that counts up, after the node that counts up failed with both batches under way

-- the events with their serials, from 0 on
abbrev pub with_serials : List Event → List SerialEvent
with_serials [] = []
with_serials (v ∷ h) = record { serial = length h; event = v } ∷ with_serials h

-- the state in which all that is complete is settled, and the node that counts up failed
abbrev pub counting_failed : Machine
counting_failed = record (first_state two_batches) {
  history = with_serials under_way;
  next = length under_way;
  settled = complete_fronts;
  failed = false ∷ false ∷ false ∷ true ∷ false ∷ false ∷ false ∷ [];
}

-- the node that counts up is cut to what is complete of it, and all others stay as they are
abbrev pub restored : Choice
restored = record {
  cuts = Present ∷ Present ∷ Present ∷ At counted_rounds ∷ Present ∷ Present ∷ Present ∷ [];
  notices = [] ∷ [] ∷ (round 1 1 ∷ []) ∷ counted_rounds ∷ counted_rounds ∷ counted_rounds ∷ ((0 ∷ []) ∷ []) ∷ [];
}

-- the events of the run without the delivery of the rec of the second batch that was counted up
abbrev pub without_the_second : List Event
without_the_second = rounds_of_the_first ++ both_entered

-- what is pending on each edge after the recovery
abbrev pub pending_again : List (List Message)
pending_again =
    [] ∷ []
    ∷ (message (round 1 0) (pair 3 0) (round 1 0) ∷ message (round 1 0) (pair 2 0) (round 1 0) ∷ [])
    ∷ (message (round 0 2) (pair 1 3) (round 0 2) ∷ [])
    ∷ []
    ∷ (message (round 0 2) (pair 1 3) (round 0 2)
    ∷ message (round 0 1) (pair 1 2) (round 0 1)
    ∷ message (round 0 0) (pair 1 1) (round 0 0)
    ∷ [])
    ∷ []
    ∷ []

-- the recovery filters out one delivery alone, the rest is legal, and the message that was filtered out is pending again
pub record IsRestoredLoop : Type 0 where
  pub remains : events (filtered_history two_batches restored (with_serials under_way)) ≡ without_the_second
  pub legal : IsLegal two_batches without_the_second
  pub waiting : (e : ℕ) → pending_messages two_batches without_the_second e ≡ slice_index_or pending_again e []

-- the steps up to the recovery: the sixteen events, what is complete becomes settled, and the node that counts up fails
abbrev pub steps_taken : List Step
steps_taken =
    step.Inject 0
    ∷ step.Deliver 0 None
    ∷ step.Deliver 1 None
    ∷ step.Inject 0
    ∷ step.Deliver 0 None
    ∷ step.Deliver 0 None
    ∷ step.Deliver 1 (Some (round 1 0))
    ∷ step.Deliver 1 (Some (round 1 0))
    ∷ step.Deliver 2 (Some (round 1 0))
    ∷ step.Deliver 2 (Some (round 0 0))
    ∷ step.Deliver 3 (Some (round 0 0))
    ∷ step.Deliver 4 None
    ∷ step.Deliver 2 (Some (round 0 1))
    ∷ step.Deliver 3 (Some (round 0 1))
    ∷ step.Deliver 4 None
    ∷ step.Deliver 2 (Some (round 0 2))
    ∷ step.Progress
    ∷ step.Fail (3 ∷ [])
    ∷ step.Recover
    ∷ []

-- none of them shows something but the recovery, which shows its choice
abbrev pub outcomes_shown : List Outcome
outcomes_shown = replicate 18 (did silent) ++ did (cuts restored) ∷ []

-- the edges of the deliveries after the recovery, always the first edge on which something is pending
abbrev pub edges_delivered : List ℕ
edges_delivered =
    2 ∷ 2 ∷ 3 ∷ 3 ∷ 3 ∷ 4 ∷ 2 ∷ 3 ∷ 4 ∷ 2 ∷ 3 ∷ 4 ∷ 2 ∷ 3 ∷ 4 ∷ 2 ∷ 3 ∷ 4 ∷ 2 ∷ 3 ∷ 4 ∷ 2 ∷ 3 ∷ 4 ∷ 2 ∷
    3 ∷ 5 ∷ 5 ∷ 5 ∷ 5 ∷ 5 ∷ 5 ∷ 5 ∷ 5 ∷ 5 ∷ 5 ∷ 5 ∷ 5 ∷ 6 ∷ 6 ∷ 6 ∷ 6 ∷ 6 ∷ 6 ∷ 6 ∷ 6 ∷ 6 ∷ 6 ∷ 6 ∷ 6 ∷ []

-- the steps after the recovery: the deliveries, what is complete becomes settled, and both epochs are acknowledged
abbrev pub steps_left : List Step
steps_left = map (λ e. step.Deliver e None) edges_delivered ++ step.Progress ∷ step.Ack 6 ∷ step.Ack 6 ∷ []

-- none of them shows something but the acknowledgements, which show what the batches denote
abbrev pub outcomes_left : List Outcome
outcomes_left =
    replicate 51 (did silent)
    ++ did (acked 6 (0 ∷ []) (pair 1 1 ∷ pair 1 2 ∷ pair 1 3 ∷ pair 1 4 ∷ []))
    ∷ did (acked 6 (1 ∷ []) (pair 2 1 ∷ pair 2 2 ∷ pair 2 3 ∷ pair 2 4 ∷ pair 3 1 ∷ pair 3 2 ∷ pair 3 3 ∷ pair 3 4 ∷ []))
    ∷ []

-- The running total of an input, which writes checkpoints when asked, and a run of it with a collection, a failure and a
-- recovery.
use Rattle.std.specs.Prelude.{List, None, Some, [], codes, false, replicate, true, ℕ, ◌++◌, ◌∷◌}
use Rattle.fw_bag.specs.declared.rec.Rec.{Rec}
use Rattle.fw_frontier.specs.Front.{Front}
use Rattle.fw_flow.specs.Dataflow.{Dataflow, System}
use Rattle.fw_flow.specs.declared.choice.Choice.{Choice}
use Rattle.fw_flow.specs.declared.choice.Cut.TheVariants.{At}
use Rattle.fw_flow.specs.declared.event.Event.{Event}
use Rattle.fw_flow.specs.declared.event.Event.TheVariants.{Deliver as Delivered, Inject as Injected, Notify as Notified}
use Rattle.fw_flow.specs.declared.event.Message.{Message}
use Rattle.fw_flow.specs.declared.kind.Kind.TheVariants.{Total}
use Rattle.fw_flow.specs.declared.kind.Policy.{Policy}
use Rattle.fw_flow.specs.declared.node.Node.{Node}
use Rattle.fw_flow.specs.declared.step.Step.{Step}
use Rattle.fw_flow.specs.declared.step.Step.TheVariants.{Ack, Checkpoint, Collect, Deliver, Fail, Inject, Notify, Persist, Progress, Recover}
use Rattle.fw_model.specs.Choice.{until}
use Rattle.fw_model.specs.Denotation.{Family, rounds}
use Rattle.fw_model.specs.Machine.{Machine, acknowledged, checkpoint, in_flight}
use Rattle.fw_model.specs.Steps.{Outcome, acked, cuts, did, lows, silent}
use Rattle.fw_examples.specs.Flows.{fed, in_a_row, node, pair, out, src}
use Rattle.fw_examples.specs.Loop.{with_serials}
use Rattle.fw_flow.specs.declared.kind.Policy.TheVariants as policy

-- the running total
abbrev pub total_node : ℕ
total_node = 1

-- the edge from the input to the running total
abbrev pub src_to_run : ℕ
src_to_run = 0

-- the edge from the running total to the output
abbrev pub run_to_out : ℕ
run_to_out = 1

-- the running total, with a policy
abbrev pub summing : Policy → Node
summing keeping = node (codes "run") Total keeping

-- the dataflow whose running total writes checkpoints when asked
abbrev pub total_flow : Dataflow
total_flow = in_a_row (summing policy.Lazy)

-- a batch of no rec and four of one rec each
abbrev pub five_batches : List (List Rec)
five_batches = [] ∷ (pair 1 10 ∷ []) ∷ (pair 1 5 ∷ []) ∷ (pair 1 1 ∷ []) ∷ (pair 1 2 ∷ []) ∷ []

-- the dataflow with them
abbrev pub totals : System
totals = fed (summing policy.Lazy) five_batches

-- what the batches denote
abbrev pub totals_denoted : Family
totals_denoted = rounds totals 4

-- a message with this value that comes from an event at its own epoch
abbrev pub valued_at_epoch : ℕ → ℕ → Message
valued_at_epoch x value = record { at = x ∷ []; rec = pair 1 value; causes = (x ∷ []) ∷ [] }

-- epochs 0 and 1 came through, the latest event first
abbrev pub two_epochs : List Event
two_epochs =
    Delivered run_to_out (valued_at_epoch 1 10)
    ∷ Notified total_node (1 ∷ [])
    ∷ Delivered src_to_run (valued_at_epoch 1 10)
    ∷ Injected src 1
    ∷ Injected src 0
    ∷ []

-- epoch 2 was summed after them, and epoch 3 sent
abbrev pub next_epochs : List Event
next_epochs = Injected src 3 ∷ Notified total_node (2 ∷ []) ∷ Delivered src_to_run (valued_at_epoch 2 5) ∷ Injected src 2 ∷ []

-- the epochs below k at each node
abbrev pub alike : ℕ → List Front
alike k = until k ∷ until k ∷ until k ∷ []

-- The output failed. A checkpoint is acknowledged, and another one that stands on it; the latest, which stands on that, is in flight.
abbrev pub output_failed : Machine
output_failed = record {
  history = with_serials (next_epochs ++ two_epochs);
  next = 9;
  settled = until 3 ∷ until 3 ∷ until 2 ∷ [];
  writes =
      record { node = total_node; written = checkpoint (until 1) (alike 0); base = None; depth = 0; stage = acknowledged }
      ∷ record { node = total_node; written = checkpoint (until 2) (alike 0); base = Some (until 1); depth = 1; stage = acknowledged }
      ∷ record { node = total_node; written = checkpoint (until 3) (alike 2); base = Some (until 2); depth = 2; stage = in_flight }
      ∷ [];
  failed = false ∷ false ∷ true ∷ [];
  ack_counts = 0 ∷ 0 ∷ 2 ∷ [];
  low = alike 2;
}

-- each node keeps epochs 0 and 1, and the notifications of them count, at the output perhaps fewer
abbrev pub two_kept_noting : Front → Choice
two_kept_noting last = record { cuts = At (until 2) ∷ At (until 2) ∷ At (until 2) ∷ []; notices = until 2 ∷ until 2 ∷ last ∷ [] }

-- each node keeps epochs 0 and 1
abbrev pub two_epochs_kept : Choice
two_epochs_kept = two_kept_noting (until 2)

-- each node keeps epoch 0
abbrev pub epoch_kept : Choice
epoch_kept = record { cuts = At (until 1) ∷ At (until 1) ∷ At (until 1) ∷ []; notices = alike 1 }

-- the state after the recovery
abbrev pub come_back : Machine
come_back = record output_failed {
  history = with_serials two_epochs;
  settled = alike 2;
  writes =
      record { node = total_node; written = checkpoint (until 1) (alike 0); base = None; depth = 0; stage = acknowledged }
      ∷ record { node = total_node; written = checkpoint (until 2) (alike 0); base = Some (until 1); depth = 1; stage = acknowledged }
      ∷ [];
  failed = false ∷ false ∷ false ∷ [];
}

-- the steps in which epochs 0 and 1 come through, with a checkpoint after each, and are acknowledged
abbrev pub steps_up_to_two : List Step
steps_up_to_two =
    Inject src ∷ Progress ∷ Checkpoint total_node ∷ Persist
    ∷ Inject src ∷ Deliver src_to_run None ∷ Notify total_node (Some (1 ∷ [])) ∷ Deliver run_to_out None ∷ Progress ∷ Checkpoint total_node ∷ Persist
    ∷ Ack out ∷ Ack out ∷ []

-- what they show
abbrev pub outcomes_up_to_two : List Outcome
outcomes_up_to_two = replicate 11 (did silent) ++ did (acked out (0 ∷ []) []) ∷ did (acked out (1 ∷ []) (pair 1 10 ∷ [])) ∷ []

-- the steps after the collection in which epoch 2 is summed and a checkpoint asked, epoch 3 is sent, and the output fails
abbrev pub steps_of_failure : List Step
steps_of_failure =
    Inject src ∷ Deliver src_to_run None ∷ Notify total_node (Some (2 ∷ [])) ∷ Progress ∷ Checkpoint total_node ∷ Inject src ∷ Fail (out ∷ []) ∷ []

-- they show nothing
abbrev pub outcomes_of_failure : List Outcome
outcomes_of_failure = replicate 7 (did silent)

-- the steps that bring epoch 2 through
abbrev pub steps_of_sum : List Step
steps_of_sum =
    Inject src ∷ Deliver src_to_run None ∷ Notify total_node (Some (2 ∷ [])) ∷ Deliver run_to_out None ∷ Progress ∷ Ack out ∷ []

-- what they show
abbrev pub outcomes_of_sum : List Outcome
outcomes_of_sum = replicate 5 (did silent) ++ did (acked out (2 ∷ []) (pair 1 15 ∷ [])) ∷ []

-- the steps up to the failure, with the collection
abbrev pub steps_to_failure : List Step
steps_to_failure = steps_up_to_two ++ Collect ∷ steps_of_failure

-- what they show
abbrev pub outcomes_to_failure : List Outcome
outcomes_to_failure = outcomes_up_to_two ++ did (lows two_epochs_kept) ∷ outcomes_of_failure

-- the steps with the failure, a recovery, and epoch 2 once more
abbrev pub steps_through_recovery : List Step
steps_through_recovery = steps_to_failure ++ Recover ∷ steps_of_sum

-- what they show
abbrev pub outcomes_through_recovery : List Outcome
outcomes_through_recovery = outcomes_to_failure ++ did (cuts two_epochs_kept) ∷ outcomes_of_sum

-- the steps that bring epoch 2 through without a failure
abbrev pub steps_without_failure : List Step
steps_without_failure = steps_up_to_two ++ Collect ∷ steps_of_sum

-- what they show
abbrev pub outcomes_without_failure : List Outcome
outcomes_without_failure = outcomes_up_to_two ++ did (lows two_epochs_kept) ∷ outcomes_of_sum

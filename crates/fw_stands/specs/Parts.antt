-- What each part of an engine holds of a state of the machine.
use Rattle.std.specs.Prelude.{◌≡◌, ℕ, Bool, true, false, not, ◌&&◌, ◌||◌, if◌then◌else◌, ◌==◌, nat_lt, List, [], ◌∷◌, filter, length, Option, is_some, IfSome}
use Rattle.std.specs.List.{enumerate_from}
use Rattle.fw_time.specs.Stamp.{same}
use Rattle.fw_bag.specs.declared.rec.Rec.{Rec}
use Rattle.fw_bag.specs.Keyed.{sorted_recs}
use Rattle.fw_frontier.specs.Front.{Front, inside}
use Rattle.fw_frontier.specs.Frontier.{Frontier}
use Rattle.fw_flow.specs.declared.event.Message.{Message}
use Rattle.fw_flow.specs.Kind.{Kind}
use Rattle.fw_flow.specs.declared.kind.Kind.TheVariants.{Total, Ledger}
use Rattle.fw_flow.specs.Dataflow.{System, Dataflow, kind_of, policy_of, sender, receiver, batches_of, bounds_of, node_frontier, is_input_kind, is_output_kind}
use Rattle.fw_flow.specs.NodeFunction.{delivered_recs}
use Rattle.fw_flow.specs.Projection.{events_at}
use Rattle.fw_flow.specs.Restoring.{can_resend}
use Rattle.fw_model.specs.Filtering.{messages_outside}
use Rattle.fw_model.specs.History.{pending_messages, sent_messages, injected_count}
use Rattle.fw_model.specs.Machine.{Machine, events, family_of, front_of, is_failed, ack_count_of, no_stamps}
use Rattle.fw_model.specs.SortedMessages.{sorted_messages}
use Rattle.fw_model.specs.Steps.{newest_checkpoint}
use Rattle.fw_model.specs.Writes.{takes_checkpoints}
use Rattle.fw_border.specs.Outputs.{OutputState, recs_at_number}
use Rattle.fw_border.specs.Sources.{SourceState}
use Rattle.fw_node.specs.declared.node.Node.{Node}
use Rattle.fw_node.specs.TableOf.{IsTableOf}
use Rattle.fw_policy.specs.View.{base_of}
use Rattle.fw_progress.specs.declared.traces.Traces.{Traces}
use Rattle.fw_progress.specs.Trace.{IsTraceOf}

-- ---- what fails

-- whether node p has a table: it is no input and no output, and is not failed
abbrev pub has_table : System → Machine → ℕ → Bool
has_table sys state p = not (is_input_kind (kind_of sys.flow p) || (is_output_kind (kind_of sys.flow p) || is_failed state p))

-- whether a node of the kind keeps the total of each key over all that came
abbrev pub sums_up : Kind → Bool
sums_up Total = true
sums_up Ledger = true
sums_up kind = false

-- whether the table of node p settles as its checkpoints are asked: it keeps totals, and takes checkpoints
abbrev pub settles_with_checkpoints : Dataflow → ℕ → Bool
settles_with_checkpoints flow p = takes_checkpoints (policy_of flow p) && sums_up (kind_of flow p)

-- up to where the table of node p is settled: where it settles with the checkpoints up to the newest of these, and to no stamp while
-- there is none; else up to where the node is settled
abbrev pub table_front : System → Machine → ℕ → Front
table_front sys state p =
    if settles_with_checkpoints sys.flow p then newest_checkpoint p (no_stamps (bounds_of sys.flow p)) state.writes
    else front_of state.settled p

-- the same as a frontier
abbrev pub table_base : System → Machine → ℕ → Frontier
table_base sys state p = node_frontier sys.flow p (table_front sys state p)

-- A node has a table exactly where it is to have one, and it is that of its events, where so much is settled into it.
pub record IsTableIn (sys : System) (state : Machine) (p : ℕ) (table : Option Node) : Type 0 where
  pub there : is_some table ≡ has_table sys state p
  pub of_events : IfSome table
      (λ node. IsTableOf sys.flow p (table_base sys state p) node (events_at sys.flow p (events state.history)))

-- what is pending on edge e in order, and nothing where the receiver is failed
abbrev pub queued : System → Machine → ℕ → List Message
queued sys state e =
    if is_failed state (receiver sys.flow e) then [] else sorted_messages (pending_messages sys (events state.history) e)

-- whether the sender of edge e has what it sent, to send it again
abbrev pub is_logging : System → Machine → ℕ → Bool
is_logging sys state e = can_resend (policy_of sys.flow (sender sys.flow e)) && not (is_failed state (sender sys.flow e))

-- what was sent on edge e outside the receiver's low watermark, in order, where the sender can send it again and is not failed
abbrev pub logged : System → Machine → ℕ → List Message
logged sys state e =
    if is_logging sys state e then
    sorted_messages (messages_outside (family_of sys.flow state.low (receiver sys.flow e)) (sent_messages sys (events state.history) e))
    else []

-- the recs of output o at x, and none where it is failed or acknowledged x
abbrev pub kept_recs : System → Machine → ℕ → ℕ → List Rec
kept_recs sys state o x =
    if is_failed state o || nat_lt x (ack_count_of state o) then []
    else sorted_recs (delivered_recs (λ e s. (receiver sys.flow e == o) && same s (x ∷ [])) (events state.history))

-- What is kept of an output: how many stamps it acknowledged, and its recs at each number.
pub record IsOutputOf (sys : System) (state : Machine) (o : ℕ) (output : OutputState) : Type 0 where
  pub bound : output.bound ≡ ack_count_of state o
  pub recs : (x : ℕ) → recs_at_number output.recs x ≡ kept_recs sys state o x

-- ---- what does not

-- An input keeps how many batches it has, how many of them were injected, and those outside its low watermark.
pub record IsSourceOf (sys : System) (state : Machine) (s : ℕ) (source : SourceState) : Type 0 where
  pub given : source.given ≡ length (batches_of sys s)
  pub injected : source.injected ≡ injected_count s (events state.history)
  pub held : source.held
      ≡ filter (λ batch. not (inside (front_of state.low s) (batch.0 ∷ []))) (enumerate_from 0 (batches_of sys s))

-- the traces of node p are those of its events in the state, thinned inside its base above a floor
abbrev pub IsTraceIn : System → List Front → Machine → ℕ → Traces → Type 0
IsTraceIn sys floor state p traces = IsTraceOf sys (events state.history) p (base_of sys floor state p) traces

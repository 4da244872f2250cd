-- What an engine keeps after a recovery, of what it kept before, of the choice, and of the records that were fetched. It
-- speaks of no history.
use Rattle.std.specs.Prelude.{◌≡◌, ℕ, ◌<◌, Bool, true, false, List, [], ◌∷◌, length, Option, Some, None, IfSome, IsSomeAnd}
use Rattle.std.specs.List.{AllByRecursion}
use Rattle.fw_time.specs.Stamp.{Stamp, in_domain}
use Rattle.fw_bag.specs.declared.rec.Rec.{Rec}
use Rattle.fw_frontier.specs.Front.{Front, inside}
use Rattle.fw_flow.specs.declared.choice.Choice.{Choice}
use Rattle.fw_flow.specs.declared.choice.Cut.{Cut}
use Rattle.fw_flow.specs.declared.choice.Cut.TheVariants.{Present, At}
use Rattle.fw_flow.specs.declared.event.Event.{Event}
use Rattle.fw_flow.specs.declared.event.Message.{Message}
use Rattle.fw_flow.specs.declared.restoring.Restoring.{Restoring}
use Rattle.fw_flow.specs.declared.restoring.Restoring.TheVariants.{Batches, Bound, Anything, Checkpoints, Events}
use Rattle.fw_flow.specs.Dataflow.{Dataflow, kind_of, sender, receiver, bounds_of, node_frontier, is_notified_kind}
use Rattle.fw_flow.specs.NodeFunction.{sent_by}
use Rattle.fw_flow.specs.Restoring.{way_of}
use Rattle.fw_model.specs.Carried.{carried}
use Rattle.fw_model.specs.Choice.{cut_of}
use Rattle.fw_model.specs.Filtering.{messages_outside, messages_from}
use Rattle.fw_model.specs.Machine.{front_of}
use Rattle.fw_model.specs.SortedMessages.{sorted_messages}
use Rattle.fw_model.specs.Steps.{front_of_cut}
use Rattle.fw_model.specs.Told.{AreToldInside}
use Rattle.fw_record.specs.declared.record.Checkpoint.{Checkpoint}
use Rattle.fw_record.specs.declared.record.Event.{Event as LoggedEvent}
use Rattle.fw_record.specs.declared.record.Record.{Record}
use Rattle.fw_keep.specs.declared.entry.Entry.{Entry}
use Rattle.fw_keep.specs.Catalogue.{without}
use Rattle.fw_keep.specs.Stored.{Records}
use Rattle.fw_edge.specs.Messages.{MessagesState}
use Rattle.fw_rollback.specs.Edges.{on_edge, nothing_there, IsOnEdge}
use Rattle.fw_node.specs.declared.node.Node.{Node}
use Rattle.fw_node.specs.NodeOf.{IsNodeOf}
use Rattle.fw_node.specs.ChainOf.{last_front, IsOfChain}
use Rattle.fw_node.specs.TableOf.{IsTableOf}
use Rattle.fw_rollback.specs.Tables.{table_at}
use Rattle.fw_border.specs.Outputs.{OutputState, output_at, cleared}
use Rattle.fw_border.specs.Sources.{source_at, rolled_source}
use Rattle.fw_rollback.specs.declared.parts.Parts.{Parts}
use Rattle.fw_rollback.specs.Asked.{AreFetched, first_up_to, events_of, given_of}
use Rattle.fw_rollback.specs.Replay.{AreDoneAgain}
use Rattle.fw_keep.specs.Entry.{is_beyond}
use Rattle.fw_keep.specs.Chains.{changes_of, logged_in_all, states_of}

-- ---- logs

-- of these messages those outside the receiver's low watermark, in order: what the log of edge e holds of them
abbrev pub log_of : Dataflow → List Front → ℕ → List Message → MessagesState
log_of flow low e ms =
    record { messages = sorted_messages (messages_outside (inside (front_of low (receiver flow e))) ms); refused = false }

-- the logs of the edges from node p are these
abbrev pub HasLogs : Dataflow → ℕ → List MessagesState → (ℕ → MessagesState) → Type 0
HasLogs flow p logs log = (e : ℕ) → e < length flow.edges → sender flow e ≡ p → on_edge logs e ≡ log e

-- in the log of each edge from node p each message is one of the edge
abbrev pub HaveOwnMessages : Dataflow → ℕ → List MessagesState → Type 0
HaveOwnMessages flow p logs = (e : ℕ) → e < length flow.edges → sender flow e ≡ p → AllByRecursion (IsOnEdge flow e) (on_edge logs e).messages

-- ---- tables

-- the node is one to which nothing came, whatever is settled
abbrev pub IsNew : Dataflow → ℕ → Node → Type 0
IsNew flow p node = (settled : Stamp → Bool) → IsTableOf flow p settled node []

-- the logs of the edges from node p have what each edge carries of what these logged events sent, done again
abbrev pub HaveSent : Dataflow → List Front → ℕ → List LoggedEvent → List MessagesState → Type 0
HaveSent flow low p logged logs =
    (batches : List (List (List Rec))) (events : List Event) → AreDoneAgain flow p logged events
    → HasLogs flow p logs (λ e. log_of flow low e (carried flow e (sent_by (record { flow = flow; batches = batches }) p events)))

-- The node stands for these logged events, if they can be done again, where f is settled, and the logs of its edges have what
-- they sent. Whatever they are, the node is one of place p, and each message is one of its edge.
pub record HasDone (flow : Dataflow) (low : List Front) (p : ℕ) (f : Front) (logged : List LoggedEvent) (node : Node)
    (logs : List MessagesState) : Type 0 where
  pub of_node : IsNodeOf flow p node
  pub own : HaveOwnMessages flow p logs
  pub table : (events : List Event) → AreDoneAgain flow p logged events
      → (is_notified_kind (kind_of flow p) ≡ true → AreToldInside (node_frontier flow p f) events)
      → AllByRecursion (λ o. in_domain (bounds_of flow p) o ≡ true) f → IsTableOf flow p (node_frontier flow p f) node events
  pub sent : HaveSent flow low p logged logs

-- the node is restored from its first checkpoint and the changes since, of which the last are of f, or, where there are none, it itself, and the
-- logs of its edges have the messages that these hold; where there is no checkpoint it is a new one, and the logs are empty
abbrev pub IsFromChain : Dataflow → List Front → ℕ → Front → Option Checkpoint → List Checkpoint → Node → List MessagesState → Type 0
IsFromChain flow low p f None later node logs = IsNew flow p node × HasLogs flow p logs (λ e. nothing_there)
IsFromChain flow low p f (Some c) later node logs =
    (last_front c.recorded.front (states_of later) ≡ f) × IsNodeOf flow p node × IsOfChain flow p c.recorded.front c.state (states_of later) node
    × HasLogs flow p logs (λ e. log_of flow low e (logged_in_all e (c ∷ later)))

-- what node p has after it was cut to f, by the way in which it is restored
abbrev pub IsBuilt : Dataflow → List Front → ℕ → Front → List Record → Restoring → Option Node → List MessagesState → Type 0
IsBuilt flow low p f given Batches table logs = (table ≡ None) × HasLogs flow p logs (λ e. nothing_there)
IsBuilt flow low p f given Bound table logs = (table ≡ None) × HasLogs flow p logs (λ e. nothing_there)
IsBuilt flow low p f given Anything table logs = IsSomeAnd table (IsNew flow p) × HasLogs flow p logs (λ e. nothing_there)
IsBuilt flow low p f given Checkpoints table logs = IsSomeAnd table (λ node. IsFromChain flow low p f (first_up_to f given) (changes_of given) node logs)
IsBuilt flow low p f given Events table logs = IsSomeAnd table (λ node. HasDone flow low p f (events_of given) node logs)

-- what node p has after its cut: all as it was, or what is built
abbrev pub IsCutTo : Dataflow → ℕ → Parts → List Record → Parts → Cut → Type 0
IsCutTo flow p old given new Present = (table_at new.tables p ≡ table_at old.tables p) × HasLogs flow p new.logs (on_edge old.logs)
IsCutTo flow p old given new (At f) = IsBuilt flow old.low p f given (way_of flow p) (table_at new.tables p) new.logs

-- ---- queues

-- of what was pending what comes from inside a frontier
abbrev pub queue_from : Front → MessagesState → MessagesState
queue_from f queue = record queue { messages = messages_from (inside f) queue.messages }

-- of what was pending on edge e what comes from what the sender keeps
abbrev pub queue_kept : Dataflow → Choice → ℕ → MessagesState → MessagesState
queue_kept flow choice e queue = queue_from (front_of_cut (cut_of choice (sender flow e))) queue

-- what of a log lies outside a frontier, in order
abbrev pub log_left_outside : Front → MessagesState → MessagesState
log_left_outside g log = record { messages = sorted_messages (messages_outside (inside g) log.messages); refused = false }

-- what is pending on edge e, by the cut of its receiver: of what was pending what comes from what the sender keeps, or what the
-- edge's log holds outside the cut
abbrev pub queue_after : Dataflow → Choice → ℕ → MessagesState → MessagesState → Cut → MessagesState
queue_after flow choice e queue log Present = queue_kept flow choice e queue
queue_after flow choice e queue log (At g) = log_left_outside g log

-- ---- writes, inputs and outputs

-- whether an entry goes: it does not lie within the cut of its node
abbrev pub is_undone : Choice → Entry → Bool
is_undone choice e = is_beyond (cut_of choice e.node) e

-- an output after its cut
abbrev pub output_after : Cut → OutputState → OutputState
output_after Present output = output
output_after (At f) output = cleared output

-- ---- the parts

-- There is one place for each node and each edge of the flow.
pub record AreOfFlow (flow : Dataflow) (parts : Parts) : Type 0 where
  pub tables : length parts.tables ≡ length flow.nodes
  pub queues : length parts.queues ≡ length flow.edges
  pub logs : length parts.logs ≡ length flow.edges

-- each node that has a table has one of its place
abbrev pub AreOfNodes : Dataflow → List (Option Node) → Type 0
AreOfNodes flow tables = (p : ℕ) → p < length flow.nodes → IfSome (table_at tables p) (IsNodeOf flow p)

-- The new parts are the old ones cut to the choice, where these records were fetched of each node.
pub record IsRestored (flow : Dataflow) (choice : Choice) (old : Parts) (given : List (List Record)) (new : Parts) : Type 0 where
  pub nodes : (p : ℕ) → p < length flow.nodes → IsCutTo flow p old (given_of given p) new (cut_of choice p)
  pub queues : (e : ℕ) → e < length flow.edges
      → on_edge new.queues e ≡ queue_after flow choice e (on_edge old.queues e) (on_edge new.logs e) (cut_of choice (receiver flow e))
  pub entries : new.keep ≡ without (is_undone choice) old.keep
  pub inputs_each : length new.sources ≡ length old.sources
  pub inputs : (s : ℕ) → s < length flow.nodes → source_at new.sources s ≡ rolled_source (cut_of choice s) (source_at old.sources s)
  pub outputs_each : length new.outputs.outputs ≡ length old.outputs.outputs
  pub outputs : (o : ℕ) → o < length flow.nodes
      → output_at new.outputs.outputs o ≡ output_after (cut_of choice o) (output_at old.outputs.outputs o)
  pub refused : new.outputs.refused ≡ old.outputs.refused
  pub low : new.low ≡ old.low

-- The new parts are the old ones cut to the choice, by records that were fetched of the entries for which the choice asks.
pub record Restores (flow : Dataflow) (choice : Choice) (records : Option Records) (old new : Parts) : Type 0 where
  pub given : List (List Record)
  pub fetched : AreFetched flow choice records old.keep.entries given
  pub restored : IsRestored flow choice old given new

-- ---- for the proofs

-- The log of edge e has of some messages of the edge those outside the receiver's low watermark.
pub record IsLogOfOwn (flow : Dataflow) (low : List Front) (e : ℕ) (log : MessagesState) : Type 0 where
  pub messages : List Message
  pub own : AllByRecursion (IsOnEdge flow e) messages
  pub is : log ≡ log_of flow low e messages

-- so have those of the edges from node p
abbrev pub AreLogsOfOwn : Dataflow → List Front → ℕ → List MessagesState → Type 0
AreLogsOfOwn flow low p logs = (e : ℕ) → e < length flow.edges → sender flow e ≡ p → IsLogOfOwn flow low e (on_edge logs e)

-- the node stands for these logged events, done again, where nothing is settled
abbrev pub StandsForRedone : Dataflow → ℕ → List LoggedEvent → Node → Type 0
StandsForRedone flow p logged node = (events : List Event) → AreDoneAgain flow p logged events → IsTableOf flow p (λ s. false) node events

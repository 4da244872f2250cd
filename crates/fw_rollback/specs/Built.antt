-- For the proofs: what is built anew, before it takes the place of what was there.
use Rattle.std.specs.Prelude.{◌≡◌, ℕ, ◌<◌, List, length, Option}
use Rattle.fw_frontier.specs.Front.{Front}
use Rattle.fw_flow.specs.declared.choice.Choice.{Choice}
use Rattle.fw_flow.specs.declared.choice.Cut.{Cut}
use Rattle.fw_flow.specs.declared.choice.Cut.TheVariants.{Present, At}
use Rattle.fw_flow.specs.Dataflow.{Dataflow, sender, receiver}
use Rattle.fw_flow.specs.Restoring.{way_of}
use Rattle.fw_model.specs.Choice.{cut_of}
use Rattle.fw_record.specs.declared.record.Record.{Record}
use Rattle.fw_edge.specs.Messages.{MessagesState}
use Rattle.fw_rollback.specs.Edges.{on_edge}
use Rattle.fw_node.specs.declared.node.Node.{Node}
use Rattle.fw_rollback.specs.Tables.{table_at}
use Rattle.fw_rollback.specs.declared.parts.Parts.{Parts}
use Rattle.fw_rollback.specs.declared.built.Built.{Built}
use Rattle.fw_rollback.specs.Asked.{given_of}
use Rattle.fw_rollback.specs.Restored.{IsBuilt, log_left_outside, queue_kept}

-- of what was there and what was built that which there is after a cut
abbrev pub by_cut : {A : Type 0} → Cut → A → A → A
by_cut Present kept built = kept
by_cut (At f) kept built = built

-- the table of node p, the log and the queue of edge e after the cut, of what was there and what was built
abbrev pub table_after : Choice → ℕ → Option Node → Option Node → Option Node
table_after choice p kept built = by_cut (cut_of choice p) kept built

abbrev pub log_put : Dataflow → Choice → ℕ → MessagesState → MessagesState → MessagesState
log_put flow choice e kept built = by_cut (cut_of choice (sender flow e)) kept built

abbrev pub queue_put : Dataflow → Choice → ℕ → MessagesState → MessagesState → MessagesState
queue_put flow choice e kept built = by_cut (cut_of choice (receiver flow e)) (queue_kept flow choice e kept) built

-- the log of edge e after the cut, of all that were there and all that were built
abbrev pub log_after : Dataflow → Choice → List MessagesState → List MessagesState → ℕ → MessagesState
log_after flow choice kept built e = log_put flow choice e (on_edge kept e) (on_edge built e)

-- each node that is cut has the table and the logs that are to be built for it
abbrev pub AreNodesBuilt : Dataflow → Choice → List Front → List (List Record) → ℕ → List (Option Node) → List MessagesState → Type 0
AreNodesBuilt flow choice low given n tables logs =
    (p : ℕ) → p < n → (f : Front) → cut_of choice p ≡ At f → IsBuilt flow low p f (given_of given p) (way_of flow p) (table_at tables p) logs

-- each edge to a node that is cut has the queue that is to be built for it
abbrev pub AreQueuesBuilt : Dataflow → Choice → List MessagesState → List MessagesState → ℕ → List MessagesState → Type 0
AreQueuesBuilt flow choice kept built n queues =
    (e : ℕ) → e < n → (g : Front) → cut_of choice (receiver flow e) ≡ At g → on_edge queues e ≡ log_left_outside g (log_after flow choice kept built e)

-- There is a place for each node and each edge, and at those that are cut stands what is to be built.
pub record AreBuilt (flow : Dataflow) (choice : Choice) (parts : Parts) (given : List (List Record)) (built : Built) : Type 0 where
  pub nodes : AreNodesBuilt flow choice parts.low given (length flow.nodes) built.tables built.logs
  pub queues : AreQueuesBuilt flow choice parts.logs built.logs (length flow.edges) built.queues

pub record HasPlaces (flow : Dataflow) (built : Built) : Type 0 where
  pub tables : length built.tables ≡ length flow.nodes
  pub queues : length built.queues ≡ length flow.edges
  pub logs : length built.logs ≡ length flow.edges

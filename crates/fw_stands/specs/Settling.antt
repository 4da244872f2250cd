-- When more is settled, and what then becomes of tables and traces.
use Rattle.std.specs.Prelude.{◌≡◌, ℕ, ◌++◌, Bool, true, false, List, [], ◌∷◌}
use Rattle.fw_time.specs.Stamp.{Stamp}
use Rattle.fw_frontier.specs.Frontier.{Frontier, Within}
use Rattle.fw_frontier.specs.Front.{Front}
use Rattle.fw_flow.specs.declared.event.Event.{Event}
use Rattle.fw_flow.specs.Dataflow.{System, Dataflow, kind_of, node_ids, node_frontier, is_notified_kind}
use Rattle.fw_model.specs.History.{AreEventsInDomain}
use Rattle.fw_model.specs.Machine.{Machine, front_of}
use Rattle.fw_model.specs.Steps.{checkpoint_of, eager_writes}
use Rattle.fw_model.specs.Told.{AreToldInside}
use Rattle.fw_node.specs.declared.node.Node.{Node}
use Rattle.fw_node.specs.TableOf.{IsTableOf}
use Rattle.fw_progress.specs.declared.traces.Traces.{Traces}
use Rattle.fw_progress.specs.Settle.{has_more}
use Rattle.fw_progress.specs.Trace.{IsTraceWithin, IsTraceIf}
use Rattle.fw_stands.specs.Staying.{KeepsQueues, KeepsLogs, KeepsOutputs, KeepsSources, KeepsLost}

-- ---- the step

-- the state in which so much is settled, and the eager nodes that grew have asked their checkpoints
abbrev pub settled_state : System → Machine → List Front → Machine
settled_state sys state settled = record state { settled = settled; writes = state.writes ++ eager_writes sys state settled (node_ids sys.flow) }

-- the state in which node p has asked a checkpoint of what is settled
abbrev pub asked_state : Machine → ℕ → Machine
asked_state state p = record state { writes = state.writes ++ checkpoint_of state p (front_of state.settled p) ∷ [] }

-- What is settled of a node grows by what is kept: it is as it was where the node is failed, and where no more is kept; and where the
-- node is not failed no more is kept than is settled then.
pub record GrowsByKept (failed : Bool) (settled kept both : Front) : Type 0 where
  pub lost : failed ≡ true → both ≡ settled
  pub same : has_more kept settled ≡ false → both ≡ settled
  pub all : failed ≡ false → has_more kept both ≡ false

-- ---- tables

-- A table of node p is settled to a front: it is that of the same events where so much is settled, if it was that where less was.
abbrev pub IsSettledTable : Dataflow → ℕ → Front → Node → Node → Type 0
IsSettledTable flow p f old new = (settled : Stamp → Bool) (before : List Event) → Within settled (node_frontier flow p f)
    → (is_notified_kind (kind_of flow p) ≡ true → AreToldInside (node_frontier flow p f) before)
    → IsTableOf flow p settled old before → IsTableOf flow p (node_frontier flow p f) new before

-- ---- the traces of several nodes

-- The traces of the nodes that pass the test are settled to these fronts, and those of the others kept.
pub record AreSettledAt (flow : Dataflow) (test : ℕ → Bool) (fronts : List Front) (old new : Traces) : Type 0 where
  pub here : (p : ℕ) → test p ≡ true → (whole : Bool) (sys : System) (h : List Event) → sys.flow ≡ flow → AreEventsInDomain flow h p
      → IsTraceWithin whole sys h p (front_of fronts p) old → IsTraceIf whole sys h p (node_frontier flow p (front_of fronts p)) new
  pub others : (p : ℕ) → test p ≡ false → (whole : Bool) (sys : System) (h : List Event) → sys.flow ≡ flow → (base : Frontier)
      → IsTraceIf whole sys h p base old → IsTraceIf whole sys h p base new

-- ---- the rest

-- Queues, logs, outputs, inputs and what is lost stay as they were.
pub record KeepsAllButSettled (sys : System) (state next : Machine) : Type 0 where
  pub queues : KeepsQueues sys state next
  pub logs : KeepsLogs sys state next
  pub outputs : KeepsOutputs sys state next
  pub sources : KeepsSources sys state next
  pub lost : KeepsLost sys state next

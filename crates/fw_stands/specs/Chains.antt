-- Chains of checkpoints: what the records hold of which the first has a node's whole state, and each later one what changed since the one
-- before it.
use Rattle.std.specs.Prelude.{◌≡◌, ℕ, List, [], ◌∷◌}
use Rattle.fw_frontier.specs.Frontier.{Within}
use Rattle.fw_frontier.specs.Front.{Front}
use Rattle.fw_flow.specs.Dataflow.{System, node_frontier}
use Rattle.fw_model.specs.Machine.{Machine, checkpoint}
use Rattle.fw_model.specs.Writes.{IsKeptWithin}
use Rattle.fw_node.specs.ChainOf.{last_front}
use Rattle.fw_record.specs.declared.record.Checkpoint.{Checkpoint}
use Rattle.fw_keep.specs.Chains.{states_of}
use Rattle.fw_stands.specs.Written.{IsChangesFor, IsCheckpointFor}

-- The checkpoint follows one of node p at g: it holds what changed since, was asked at a front that holds g, and with watermarks that lie
-- within today's.
pub record IsNextInChain (sys : System) (state : Machine) (p : ℕ) (g : Front) (c : Checkpoint) : Type 0 where
  pub low : List Front
  pub changes : IsChangesFor sys state p g c.recorded.front low c
  pub later : Within (node_frontier sys.flow p g) (node_frontier sys.flow p c.recorded.front)
  pub kept : IsKeptWithin sys state.low (checkpoint c.recorded.front low)

-- each of the checkpoints follows the one before it, and the first of them one at g
abbrev pub EachIsNext : System → Machine → ℕ → Front → List Checkpoint → Type 0
EachIsNext sys state p g [] = Unit {0}
EachIsNext sys state p g (c ∷ cs) = IsNextInChain sys state p g c × EachIsNext sys state p c.recorded.front cs

-- The checkpoints are a chain of node p that ends at f: the first has its whole state, and each later one follows the one before it.
pub record IsChainFor (sys : System) (state : Machine) (p : ℕ) (f : Front) (first : Checkpoint) (later : List Checkpoint) : Type 0 where
  pub low : List Front
  pub whole : IsCheckpointFor sys state p first.recorded.front low first
  pub kept : IsKeptWithin sys state.low (checkpoint first.recorded.front low)
  pub each : EachIsNext sys state p first.recorded.front later
  pub last : last_front first.recorded.front (states_of later) ≡ f

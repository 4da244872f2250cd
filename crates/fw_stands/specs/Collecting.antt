-- When the low watermark rises, and what is left of each part then.
use Rattle.std.specs.Prelude.{◌≡◌, List, length}
use Rattle.fw_frontier.specs.Front.{Front}
use Rattle.fw_flow.specs.declared.choice.Choice.{Choice}
use Rattle.fw_flow.specs.Dataflow.{System}
use Rattle.fw_model.specs.Machine.{Machine}
use Rattle.fw_model.specs.Steps.{collected_writes}
use Rattle.fw_collect.specs.Drops.{watermark}
use Rattle.fw_stands.specs.Staying.{KeepsTables, KeepsQueues, KeepsOutputs, KeepsLost}

-- ---- the step

-- the state in which these are the low watermarks, and what lies below them is collected
abbrev pub collected_state : System → Machine → List Front → Machine
collected_state sys state low = record state { low = low; writes = collected_writes sys low state.history state.writes }

-- There is one low front for each node, and one front of the watermark.
pub record HaveOneEach (sys : System) (state : Machine) (choice : Choice) : Type 0 where
  pub low : length state.low ≡ length sys.flow.nodes
  pub watermark : length (watermark choice) ≡ length sys.flow.nodes

-- ---- the rest

-- Tables, queues, outputs and what is lost stay as they were.
pub record KeepsAllButLow (sys : System) (state next : Machine) : Type 0 where
  pub tables : KeepsTables sys state next
  pub queues : KeepsQueues sys state next
  pub outputs : KeepsOutputs sys state next
  pub lost : KeepsLost sys state next

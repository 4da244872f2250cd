-- What is kept of nodes and edges by an engine that starts again.
use Rattle.std.specs.Prelude.{◌≡◌, List, length, map, replicate, None}
use Rattle.fw_frontier.specs.Front.{Front}
use Rattle.fw_flow.specs.Dataflow.{Dataflow, batches_of_nodes}
use Rattle.fw_border.specs.Outputs.{new_output}
use Rattle.fw_border.specs.Sources.{unused_source}
use Rattle.fw_keep.specs.Catalogue.{KeepState}
use Rattle.fw_rollback.specs.declared.parts.Parts.{Parts}
use Rattle.fw_rollback.specs.Edges.{nothing_there}
use Rattle.fw_root.specs.OfFlow.{Given, nodes_as}
use Rattle.fw_root.specs.declared.of_flow.Role.TheVariants as role
use Rattle.fw_root.specs.declared.root.NodeFronts.{NodeFronts}
use Rattle.fw_root.specs.declared.root.Root.{Root}
use Rattle.fw_resume.specs.Borders.{AreRaised, AreStarted}

-- the low watermarks that a root tells, and what it says is settled
abbrev pub lows_told : Root → List Front
lows_told root = map (λ (f : NodeFronts). f.low) root.fronts

abbrev pub settled_told : Root → List Front
settled_told root = map (λ (f : NodeFronts). f.settled) root.fronts

-- The parts are those of a flow of which every node is failed, with this catalogue, and with inputs, outputs and low watermarks as the root
-- tells them.
pub record ArePartsOf (flow : Dataflow) (batches : Given) (root : Root) (catalogue : KeepState) (parts : Parts) : Type 0 where
  pub tables : parts.tables ≡ replicate (length flow.nodes) None
  pub queues : parts.queues ≡ replicate (length flow.edges) nothing_there
  pub logs : parts.logs ≡ replicate (length flow.edges) nothing_there
  pub keep : parts.keep ≡ catalogue
  pub sources : AreStarted (nodes_as flow role.Input) root.injected (lows_told root) (length flow.nodes) (map unused_source (batches_of_nodes flow batches)) parts.sources
  pub outputs : AreRaised (nodes_as flow role.Output) root.bounds (length flow.nodes) (replicate (length flow.nodes) new_output) parts.outputs.outputs
  pub low : parts.low ≡ lows_told root

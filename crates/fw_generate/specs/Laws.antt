-- Laws of generated texts.
use Rattle.std.specs.Prelude.{◌≡◌, ℕ, ◌≤◌, map}
use Rattle.fw_flow.specs.Dataflow.{Dataflow}
use Rattle.fw_flow.specs.Sources.{AreInputsOf}
use Rattle.fw_flow_text.specs.Grammar as flows
use Rattle.fw_schedule.specs.Texts.{IsScheduleOf}
use Rattle.fw_generate.specs.Draws.{Words}
use Rattle.fw_generate.specs.Texts.{Texts, flow_text, generated_node_names, texts_of}

-- the three texts are accepted: of a flow, which declares this dataflow, its inputs and its schedule
pub record AreAccepted (texts : Texts) (flow : Dataflow) : Type 0 where
  pub declared : flows.IsAcceptedFlow texts.flow flow
  pub inputs : AreInputsOf flow texts.inputs
  pub schedule : IsScheduleOf flow texts.schedule

-- the greatest size of which the texts are surely accepted
abbrev pub accepted_size_limit : ℕ
accepted_size_limit = 100000

-- the texts of each size up to the greatest are accepted, whatever is drawn for them
abbrev pub GeneratedTextsAreAccepted : Type 0
GeneratedTextsAreAccepted = (size : ℕ) (words : Words) → size ≤ accepted_size_limit → (flow : Dataflow) × AreAccepted (texts_of size words) flow

-- the flow's text declares nodes of these names, in this order
abbrev pub NodesHaveTheirNames : Type 0
NodesHaveTheirNames = (flow : Dataflow) → flows.IsAcceptedFlow flow_text flow → map (λ node. node.name) flow.nodes ≡ generated_node_names

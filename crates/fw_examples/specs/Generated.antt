-- Generated texts of one batch and one round, which the readers accept, and the names of their nodes.
use Rattle.std.specs.Prelude.{map, ◌≡◌}
use Rattle.fw_flow.specs.Dataflow.{Dataflow}
use Rattle.fw_flow_text.specs.Grammar.{IsAcceptedFlow}
use Rattle.fw_generate.specs.Draws.{Words}
use Rattle.fw_generate.specs.Laws.{AreAccepted, GeneratedTextsAreAccepted, NodesHaveTheirNames}
use Rattle.fw_generate.specs.Texts.{flow_text, generated_node_names, texts_of}

-- Whatever is drawn, the three texts of one batch and one round are accepted, and so is the flow's, which declares these nodes.
pub record GenerationApplies : Type 0 where
  pub accepted : GeneratedTextsAreAccepted → (words : Words) → (flow : Dataflow) × AreAccepted (texts_of 1 words) flow
  pub named : GeneratedTextsAreAccepted → NodesHaveTheirNames
      → (flow : Dataflow) × (IsAcceptedFlow flow_text flow × (map (λ node. node.name) flow.nodes ≡ generated_node_names))

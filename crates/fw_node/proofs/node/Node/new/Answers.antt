use Rattle.std.proofs.Common.{◌∙◌}
use Rattle.fw_flow.specs.Dataflow.{in_edges}
use Rattle.fw_node.proofs.MakingLaws.{places_fit}
use Rattle.std.proofs.Common.{[], false}
use Rattle.fw_flow.specs.Dataflow.{kind_of}
use Rattle.fw_node.specs.Past.{past_of}
use Rattle.fw_node.proofs.NodeOfLaws.{table-of}
use Rattle.fw_node.proofs.node.Node.new.Goals as goal

pub returns-clause-table : goal.returns-clause-table
returns-clause-table c = λ settled. record {
  table = c.new.ensures.table (in_edges c.args.flow.now c.args.id) settled;
  sides = c.in_ok-sides.ensures.items ∙ c.in_edges.ensures;
  bounds = c.domain.ensures;
  places = places_fit c.args.flow.now c.args.id c.nodes-nodes.ensures.well_formed;
  on_edges = tt;
  in_the_domain = tt;
}

pub returns-clause-node : goal.returns-clause-node
returns-clause-node c = record {
  table = table-of c.args.flow.now c.new.result (kind_of c.args.flow.now c.args.id) (past_of [] (λ s. false) []) (c.new.ensures.table [] (λ s. false));
  sides = c.in_ok-sides.ensures.items ∙ c.in_edges.ensures;
  bounds = c.domain.ensures;
}

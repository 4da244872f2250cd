use Rattle.fw_model.specs.Offers.{AreFrontsOfEdges}
use Rattle.flow_rows.proofs.choices.of_edges.Given as goal

abbrev pub invariant-loop-edge : goal.invariant-loop-edge
invariant-loop-edge l = AreFrontsOfEdges l.flow l.fronts.items

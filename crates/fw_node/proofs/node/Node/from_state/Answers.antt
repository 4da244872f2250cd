use Rattle.std.proofs.Common.{◌≡◌, ℕ, Bool, true, List, ◌∙◌}
use Rattle.fw_time.specs.Stamp.{Stamp as StampList, in_domain}
use Rattle.fw_bag.specs.Arrivals.{Arrival}
use Rattle.fw_flow.specs.Dataflow.{bounds_of, in_edges}
use Rattle.fw_node.specs.Arrived.{arrived}
use Rattle.fw_node.proofs.MakingLaws.{places_fit}
use Rattle.fw_node.proofs.NodeLaws.{each_arrived, each_of, weaker_arrived}
use Rattle.fw_node.proofs.node.Node.from_state.Goals as goal

pub returns-clause-table : goal.returns-clause-table
returns-clause-table c = λ settled before each on_edges state.
    let flow = c.args.flow.now in
    let p : ℕ = c.args.id in
    let ins : List ℕ = in_edges flow p in
    let d : StampList → Bool = λ s. in_domain (bounds_of flow p) s in
    let both = each_arrived ins (λ s. (settled s ≡ true) × (d s ≡ true)) before each in
    let came : List Arrival = arrived ins before in
    record {
      table = c.in_ok-table.ensures.table ins settled before
          (weaker_arrived (λ s. (settled s ≡ true) × (d s ≡ true)) (λ s. settled s ≡ true) (λ s h. h.0) came both)
          (weaker_arrived (λ s. (settled s ≡ true) × (d s ≡ true)) (λ s. d s ≡ true) (λ s h. h.1) came both) state;
      sides = c.in_ok-sides.ensures.items ∙ c.in_edges.ensures;
      bounds = c.domain.ensures;
      places = places_fit flow p c.nodes-nodes.ensures.well_formed;
      on_edges = on_edges;
      in_the_domain = each_of (λ s. (settled s ≡ true) × (d s ≡ true)) (λ s. d s ≡ true) (λ s h. h.1) before each;
    }

pub returns-clause-node : goal.returns-clause-node
returns-clause-node c = record {
  table = c.in_ok-table.ensures.of_kind;
  sides = c.in_ok-sides.ensures.items ∙ c.in_edges.ensures;
  bounds = c.domain.ensures;
}

use Rattle.std.proofs.Common.{◌≡◌, ◌∙◌, ℕ, Bool, true, List, length, sym, ap}
use Rattle.std.proofs.lemmas.Result.{on_ok_weaker}
use Rattle.fw_time.specs.Stamp.{Stamp as StampList, in_domain}
use Rattle.fw_bag.specs.Arrivals.{Arrival}
use Rattle.fw_flow.specs.Kind.{Kind}
use Rattle.fw_flow.specs.Dataflow.{bounds_of, kind_of, in_edges}
use Rattle.fw_node.specs.Arrived.{arrived}
use Rattle.fw_node.proofs.NodeLaws.{each_arrived, each_of, weaker_arrived}
use Rattle.fw_node.proofs.node.Node.take_changes.Goals as goal

pub returns-clause-ok : goal.returns-clause-ok
returns-clause-ok c = λ flow p settled after before each on_edges node state.
    let ins : List ℕ = in_edges flow p in
    let k : Kind = kind_of flow p in
    let d : StampList → Bool = λ s. in_domain (bounds_of flow p) s in
    let both = each_arrived ins (λ s. (after s ≡ true) × (d s ≡ true)) before each in
    let came : List Arrival = arrived ins before in
    on_ok_weaker c.take_changes-taken.result
    (λ t. record {
      table = t;
      sides = node.sides;
      bounds = node.bounds;
      places = node.places;
      on_edges = on_edges;
      in_the_domain = each_of (λ s. (after s ≡ true) × (d s ≡ true)) (λ s. d s ≡ true) (λ s h. h.1) before each;
    })
    (c.take_changes-taken.ensures.ok flow k ins (bounds_of flow p) settled after before (ap (λ b. length b.greatest) (sym node.bounds) ∙ sym c.args.self.now.fits)
    (weaker_arrived (λ s. (after s ≡ true) × (d s ≡ true)) (λ s. d s ≡ true) (λ s h. h.1) came both)
    (weaker_arrived (λ s. (after s ≡ true) × (d s ≡ true)) (λ s. after s ≡ true) (λ s h. h.0) came both) node.table state)

pub returns-clause-node : goal.returns-clause-node
returns-clause-node c = λ flow p n. record { table = c.take_changes-taken.ensures.of_kind flow (kind_of flow p) ∙ n.table; sides = n.sides; bounds = n.bounds }

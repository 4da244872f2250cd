-- Which node stands for a list of events: the relation of which every call of a node has a clause.
use Rattle.std.specs.Prelude.{◌≡◌, ℕ, Bool, true, List}
use Rattle.fw_time.specs.Stamp.{Stamp, in_domain}
use Rattle.fw_flow.specs.declared.event.Event.{Event}
use Rattle.fw_flow.specs.Dataflow.{Dataflow, kind_of, in_edges, bounds_of}
use Rattle.fw_model.specs.Told.{EachDelivery}
use Rattle.fw_node.specs.declared.node.Node.{Node}
use Rattle.fw_node.specs.Arrived.{AreOnEdges, IsOneOf, place_in}
use Rattle.fw_node.specs.NodeTable.{IsNodeTable}
use Rattle.fw_node.specs.Past.{past_of}
use Rattle.fw_node.specs.TimedTable.{IsSideOf}

-- The node stands for these events of node p, the latest first, where so much is settled: its table is that of its kind after
-- what came to it, and the events' deliveries are on its in-edges, at stamps of its domain.
pub record IsTableOf (flow : Dataflow) (p : ℕ) (settled : Stamp → Bool) (node : Node) (before : List Event) : Type 0 where
  pub table : IsNodeTable flow node.table (kind_of flow p) (past_of (in_edges flow p) settled before)
  pub sides : node.sides.items ≡ in_edges flow p
  pub bounds : node.bounds ≡ bounds_of flow p
  pub places : (e : ℕ) → IsOneOf (in_edges flow p) e → IsSideOf (kind_of flow p) (place_in (in_edges flow p) e)
  pub on_edges : AreOnEdges (in_edges flow p) before
  pub in_the_domain : EachDelivery (λ s. in_domain (bounds_of flow p) s ≡ true) before

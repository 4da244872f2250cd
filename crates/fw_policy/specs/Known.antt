-- What the code asks of what is known of a node; it holds wherever what is known is so in a state.
use Rattle.std.specs.Prelude.{◌≡◌, ℕ, suc, ◌≤◌, true, List, [], ◌∷◌}
use Rattle.std.specs.List.{AllByRecursion}
use Rattle.fw_time.specs.Stamp.{in_domain}
use Rattle.fw_frontier.specs.Front.{IsCanonical}
use Rattle.fw_flow.specs.declared.restoring.Restoring.{Restoring}
use Rattle.fw_flow.specs.declared.restoring.Restoring.TheVariants.{Batches, Bound, Events}
use Rattle.fw_flow.specs.Dataflow.{Dataflow, bounds_of, greatest_number}
use Rattle.fw_flow.specs.Restoring.{way_of}
use Rattle.fw_policy.specs.Offering.{unlogged_stamps}
use Rattle.fw_policy.specs.declared.view.Border.{Border}
use Rattle.fw_policy.specs.declared.view.Border.TheVariants.{Source, Output}
use Rattle.fw_keep.specs.declared.entry.Entry.{Entry}
use Rattle.fw_policy.specs.declared.view.NodeView.{NodeView}

-- The border fits the way: an input's tells how many batches were injected, which are not too many, and an output's how many
-- stamps were acknowledged. Of a node that is restored in another way any border fits, since it plays no part.
abbrev pub FitsWay : Restoring → Border → Type 0
FitsWay Batches (Source injected exhausted) = injected ≤ greatest_number
FitsWay Batches border = ⊥
FitsWay Bound (Output bound) = Unit {0}
FitsWay Bound border = ⊥
FitsWay way border = Unit {0}

-- Of what is known of node p: what is settled is a frontier of its domain, its border fits the way in which it is restored, and
-- where that is by its events, the stamps of those that are not logged are of its domain.
pub record IsKnown (flow : Dataflow) (entries : List Entry) (p : ℕ) (node : NodeView) : Type 0 where
  pub settled : IsCanonical (bounds_of flow p) node.settled
  pub border : FitsWay (way_of flow p) node.border
  pub unlogged : way_of flow p ≡ Events → AllByRecursion (λ t. in_domain (bounds_of flow p) t ≡ true) (unlogged_stamps p entries node.lost)

-- what is known of the nodes from p on
abbrev pub AreNodesKnown : Dataflow → List Entry → ℕ → List NodeView → Type 0
AreNodesKnown flow entries p [] = Unit {0}
AreNodesKnown flow entries p (node ∷ view) = IsKnown flow entries p node × AreNodesKnown flow entries (suc p) view

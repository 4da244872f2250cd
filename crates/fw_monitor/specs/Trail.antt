-- The trail of a descent: what it lowers, in order.
use Rattle.std.specs.Prelude.{◌≡◌, ℕ, ◌+◌, ◌*◌, ◌<◌, List, [], ◌∷◌, ◌++◌, length}
use Rattle.std.specs.List.{AllByRecursion}
use Rattle.fw_frontier.specs.Front.{IsFrontOf}
use Rattle.fw_flow.specs.declared.choice.Choice.{Choice}
use Rattle.fw_flow.specs.declared.choice.Offer.{Offer}
use Rattle.fw_flow.specs.declared.trail.Lowering.{Lowering}
use Rattle.fw_flow.specs.Dataflow.{Dataflow, in_edges, out_edges, bounds_of}
use Rattle.fw_flow.specs.WellFormed.{IsWellFormed}
use Rattle.fw_model.specs.Machine.{front_of}
use Rattle.fw_model.specs.Covers.{set_of}
use Rattle.fw_model.specs.Choice.{cut_of, IsLargestBy}
use Rattle.fw_model.specs.Offers.{IsOffered, RecordsAscend, covers_of}
use Rattle.fw_model.specs.Certificates.{IsTrailBy}
use Rattle.fw_model.specs.Inclusions.{Holds, inclusions}
use Rattle.fw_model.specs.Lowerings.{Leads}
use Rattle.fw_monitor.specs.Descent.{IsGreatest, HasConsistent}

-- the choice of the greatest cut of each node, and of all that it keeps
pub record IsStart (flow : Dataflow) (offers : List Offer) (choice : Choice) : Type 0 where
  pub one_cut_each : length choice.cuts ≡ length flow.nodes
  pub one_notice_each : length choice.notices ≡ length flow.nodes
  pub cuts : (p : ℕ) → p < length flow.nodes → IsGreatest flow offers p (cut_of choice p)
  pub notices : (p : ℕ) → p < length flow.nodes → IsFrontOf (bounds_of flow p) (front_of choice.notices p) (set_of flow p (cut_of choice p))

-- the trail of the descent: it leads from the start to a choice at which each inclusion holds
pub record IsTrail (flow : Dataflow) (offers : List Offer) (trail : List Lowering) (end : Choice) : Type 0 where
  pub start : Choice
  pub starts : IsStart flow offers start
  pub leads : Leads flow (covers_of flow offers) (IsOffered flow offers) start trail end
  pub ends : AllByRecursion (Holds flow (covers_of flow offers) end) (inclusions flow)

-- how many edges a node has
abbrev pub degree : Dataflow → ℕ → ℕ
degree flow p = length (in_edges flow p) + length (out_edges flow p)

-- how many tests the lowerings of a trail can ask for, at most: each two, and three for each edge of its node
abbrev pub tests_after : Dataflow → List Lowering → ℕ
tests_after flow [] = 0
tests_after flow (l ∷ ls) = 2 + 3 * degree flow l.node + tests_after flow ls

-- there is at most one trail, where records ascend and some choice is consistent
abbrev pub TrailIsOne : Type 0
TrailIsOne = (flow : Dataflow) (offers : List Offer) (first second : List Lowering) (one two : Choice) → HasConsistent flow offers
    → IsTrail flow offers first one → IsTrail flow offers second two → (first ≡ second) × (one ≡ two)

-- a trail shows that it ends at the largest choice, where records ascend and the cuts at which it ends are offered
abbrev pub TrailEndsAtLargest : Type 0
TrailEndsAtLargest = (flow : Dataflow) (offers : List Offer) (trail : List Lowering) (end : Choice) → IsWellFormed flow → RecordsAscend flow offers
    → IsTrail flow offers trail end → ((p : ℕ) → p < length flow.nodes → IsOffered flow offers p (cut_of end p))
    → IsLargestBy flow (covers_of flow offers) (IsOffered flow offers) end

-- where records ascend and some choice is consistent, the trail is that from what is offered, by what counts
abbrev pub TrailIsByOffers : Type 0
TrailIsByOffers = (flow : Dataflow) (offers : List Offer) (trail : List Lowering) (end : Choice) → HasConsistent flow offers
    → IsTrail flow offers trail end → IsTrailBy flow (covers_of flow offers) (IsOffered flow offers) trail end

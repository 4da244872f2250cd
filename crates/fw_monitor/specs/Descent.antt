-- For the proofs of src/descent.rt, and of start, passes, lower and offers beside it: what a descent to the largest choice lowers
-- and what it keeps.
use Rattle.std.specs.Prelude.{◌≡◌, ◌≢◌, ℕ, ◌+◌, ◌<◌, ◌==◌, if◌then◌else◌, List, ◌∷◌, length, set, Option, Some, None}
use Rattle.fw_time.specs.declared.stamp.Bounds.{Bounds}
use Rattle.fw_frontier.specs.Frontier.{Within, everything, meet}
use Rattle.fw_frontier.specs.Front.{Front, frontier_of, IsCanonical, IsFrontOf}
use Rattle.fw_flow.specs.declared.choice.Choice.{Choice}
use Rattle.fw_flow.specs.declared.choice.Cut.{Cut}
use Rattle.fw_flow.specs.declared.choice.Cut.TheVariants.{Present, At}
use Rattle.fw_flow.specs.declared.choice.Recorded.{Recorded}
use Rattle.fw_flow.specs.declared.choice.Offer.{Offer}
use Rattle.fw_flow.specs.declared.choice.Offered.TheVariants as form
use Rattle.fw_flow.specs.Dataflow.{Dataflow, bounds_of, node_frontier}
use Rattle.fw_model.specs.Machine.{front_of}
use Rattle.fw_model.specs.Choice.{cut_of, notice_of, IsConsistentBy, IsCutWithin, IsChoiceWithin, IsCanonicalCut}
use Rattle.fw_flow.specs.declared.side.Side.{Side}
use Rattle.fw_monitor.specs.Held.{held_count, sum_below}
use Rattle.fw_model.specs.Offers.{IsOffered, RecordsAscend, covers_of}
use Rattle.fw_model.specs.Inclusions.{owner, side_bounds, left_of}
use Rattle.fw_offers.specs.Sides.{IsLeft}

-- a frontier lies strictly within a cut of its node
abbrev pub IsBelow : Dataflow → ℕ → Front → Cut → Type 0
IsBelow flow p f cut = IsCutWithin flow p (At f) cut × (At f ≢ cut)

-- a record's frontier lies within a cut, and the side in it within a bound
abbrev pub Fits : Dataflow → List Offer → Side → Cut → Front → Recorded → Type 0
Fits flow offers side cut bound r =
    IsCutWithin flow (owner flow side) (At r.front) cut
    × Within (left_of (covers_of flow offers) side (At r.front)) (frontier_of (side_bounds flow side) bound)

-- a lower cut in place of one that fails, within which lies each that is left; it is offered if one is left
pub record IsLower (flow : Dataflow) (offers : List Offer) (side : Side) (cut : Cut) (bound : Front) (new : Cut) : Type 0 where
  pub fails : Within (left_of (covers_of flow offers) side cut) (frontier_of (side_bounds flow side) bound) → ⊥
  pub canonical : IsCanonicalCut (bounds_of flow (owner flow side)) new
  pub within : IsCutWithin flow (owner flow side) new cut
  pub other : new ≢ cut
  pub passes : RecordsAscend flow offers → Within (left_of (covers_of flow offers) side new) (frontier_of (side_bounds flow side) bound)
  pub largest : RecordsAscend flow offers → IsOffered flow offers (owner flow side) cut → (x : Cut) → IsLeft flow offers side cut bound x
      → IsOffered flow offers (owner flow side) new × IsCutWithin flow (owner flow side) x new

-- a lower cut; or else the side lies within the frontier, if some cut is left
abbrev pub IsLowerCut : Dataflow → List Offer → Side → Cut → Front → Option Cut → Type 0
IsLowerCut flow offers side cut bound None =
    RecordsAscend flow offers → (x : Cut) → IsLeft flow offers side cut bound x
    → Within (left_of (covers_of flow offers) side cut) (frontier_of (side_bounds flow side) bound)
IsLowerCut flow offers side cut bound (Some new) = IsLower flow offers side cut bound new

-- a frontier of those within another, whose side lies within a bound: the largest
pub record IsCutDown (flow : Dataflow) (offers : List Offer) (side : Side) (front bound f : Front) : Type 0 where
  pub canonical : IsCanonical (bounds_of flow (owner flow side)) f
  pub within : Within (node_frontier flow (owner flow side) f) (node_frontier flow (owner flow side) front)
  pub passes : Within (left_of (covers_of flow offers) side (At f)) (frontier_of (side_bounds flow side) bound)
  pub largest : (x : Front) → Within (node_frontier flow (owner flow side) x) (node_frontier flow (owner flow side) front)
      → Within (left_of (covers_of flow offers) side (At x)) (frontier_of (side_bounds flow side) bound)
      → Within (node_frontier flow (owner flow side) x) (node_frontier flow (owner flow side) f)

-- the choice is consistent by what the nodes offer
abbrev pub IsConsistentOf : Dataflow → List Offer → Choice → Type 0
IsConsistentOf flow offers choice = IsConsistentBy flow (covers_of flow offers) (IsOffered flow offers) choice

-- cuts and notification frontiers of the nodes, within which each consistent choice lies, and offered if there is one
pub record EnclosesConsistent (flow : Dataflow) (offers : List Offer) (choice : Choice) : Type 0 where
  pub one_cut_each : length choice.cuts ≡ length flow.nodes
  pub one_notice_each : length choice.notices ≡ length flow.nodes
  pub cuts : (p : ℕ) → p < length flow.nodes → IsCanonicalCut (bounds_of flow p) (cut_of choice p)
  pub notices : (p : ℕ) → p < length flow.nodes → IsCanonical (bounds_of flow p) (front_of choice.notices p)
  pub within : RecordsAscend flow offers → (other : Choice) → IsConsistentOf flow offers other → IsChoiceWithin flow other choice
  pub offered : RecordsAscend flow offers → (other : Choice) → IsConsistentOf flow offers other
      → (p : ℕ) → p < length flow.nodes → IsOffered flow offers p (cut_of choice p)

-- records ascend, and there is a consistent choice
abbrev pub HasConsistent : Dataflow → List Offer → Type 0
HasConsistent flow offers = RecordsAscend flow offers × ((other : Choice) × IsConsistentOf flow offers other)

-- how many stamps a cut holds, and one more for a state as it is
unfoldable pub cut_weight : Bounds → Cut → ℕ
cut_weight bounds Present = held_count bounds.greatest (everything bounds) + 1
cut_weight bounds (At f) = held_count bounds.greatest (frontier_of bounds f)

-- the same of a node's cut, and how many stamps its notification frontier holds
unfoldable pub node_weight : Dataflow → Choice → ℕ → ℕ
node_weight flow choice p = cut_weight (bounds_of flow p) (cut_of choice p) + held_count (bounds_of flow p).greatest (notice_of flow choice p)

-- the sum of the nodes'
unfoldable pub weight : Dataflow → Choice → ℕ
weight flow choice = sum_below (length flow.nodes) (node_weight flow choice)

-- A notification frontier lies within a bound, and all stays; or else it is cut to what is inside the bound.
abbrev pub IsNoticeLowered : List Front → List Front → ℕ → Front → Option Cut → Type 0
IsNoticeLowered old new p bound None = (new ≡ old) × ((b : Bounds) → IsCanonical b bound → Within (frontier_of b (front_of old p)) (frontier_of b bound))
IsNoticeLowered old new p bound (Some to) =
    (f : Front) × (to ≡ At f) × (new ≡ set old p f)
    × ((b : Bounds) → IsCanonical b (front_of old p) → IsCanonical b bound
    → IsFrontOf b f (meet (frontier_of b (front_of old p)) (frontier_of b bound)) × (Within (frontier_of b (front_of old p)) (frontier_of b bound) → ⊥))

-- a node's greatest cut: each that it offers lies within it, and it is offered if some cut is
pub record IsGreatest (flow : Dataflow) (offers : List Offer) (p : ℕ) (cut : Cut) : Type 0 where
  pub canonical : IsCanonicalCut (bounds_of flow p) cut
  pub largest : RecordsAscend flow offers → (x : Cut) → IsOffered flow offers p x → IsOffered flow offers p cut × IsCutWithin flow p x cut

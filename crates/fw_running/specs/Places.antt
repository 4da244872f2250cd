-- What becomes of places that are kept, and which is the first of them.
pub use Rattle.fw_places.specs.Places.{IsPut, IsTakenOut, IsFirstFrom, HasNoneBetween, IsFirstPlace}
use Rattle.std.specs.Prelude.{◌≡◌, ℕ, ◌<◌, ◌-◌, ◌^◌, List, length, Option, Some, None}
use Rattle.std.specs.List.{Contains}
use Rattle.fw_flow.specs.Dataflow.{Dataflow}
use Rattle.fw_running.specs.ReadyState.{ReadyState}

-- Node p is put among the nodes of each sort, and the edges stay.
pub record IsNodePut (p : ℕ) (old new : ReadyState) : Type 0 where
  pub edges : new.edges ≡ old.edges
  pub owing : IsPut p old.owing new.owing
  pub growing : IsPut p old.growing new.growing
  pub outputs : IsPut p old.outputs new.outputs
  pub inputs : IsPut p old.inputs new.inputs

-- no number of a node or edge is as great
abbrev pub place_limit : ℕ
place_limit = 2 ^ 32 - 1

-- the answer is the first of the places from k on, and none where there is none; none is asked for from the greatest number on
abbrev pub IsFirstPlaceFrom : ℕ → List ℕ → Option ℕ → Type 0
IsFirstPlaceFrom k places None = HasNoneBetween k place_limit places
IsFirstPlaceFrom k places (Some p) = IsFirstFrom k places p × (p < place_limit)

-- the answer is the first place for which this holds, and none where it holds for none
abbrev pub IsFirstWhere : (ℕ → Type 0) → Option ℕ → Type 0
IsFirstWhere P None = (p : ℕ) → P p → ⊥
IsFirstWhere P (Some p) = P p × ((q : ℕ) → q < p → P q → ⊥)

-- the places below the count are all there
abbrev pub HasAllBelow : ℕ → List ℕ → Type 0
HasAllBelow count places = (p : ℕ) → p < count → Contains places p

-- Every place of the flow is there.
pub record HasAllPlaces (flow : Dataflow) (ready : ReadyState) : Type 0 where
  pub edges : HasAllBelow (length flow.edges) ready.edges
  pub owing : HasAllBelow (length flow.nodes) ready.owing
  pub growing : HasAllBelow (length flow.nodes) ready.growing
  pub outputs : HasAllBelow (length flow.nodes) ready.outputs
  pub inputs : HasAllBelow (length flow.nodes) ready.inputs

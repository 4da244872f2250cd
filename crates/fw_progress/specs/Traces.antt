-- Stamps that are kept thinned inside a base.
use Rattle.std.specs.Prelude.{◌≡◌, ◌≢◌, ℕ, ◌<◌, Bool, true, false, not, ◌&&◌, List, [], ◌∷◌, length, slice_index_or, filter, Option, Some, None, option_and_then, if◌then◌else◌}
use Rattle.std.specs.List.{AllByRecursion, list_any}
use Rattle.std.specs.BTreeSet.{insert_key}
use Rattle.fw_time.specs.Stamp.{Stamp, leq, lesser, in_domain, stamp_cmp}
use Rattle.fw_time.specs.declared.stamp.Bounds.{Bounds}
use Rattle.fw_frontier.specs.Frontier.{Frontier, Within}
use Rattle.fw_frontier.specs.Front.{Front, inside, frontier_of}
use Rattle.fw_flow.specs.Dataflow.{Dataflow, sender, receiver}
use Rattle.fw_model.specs.Thinned.{IsThinned}

-- whether one of these stamps is inside and greater
abbrev pub has_greater_inside : Front → List Stamp → Stamp → Bool
has_greater_inside f ss s = list_any (λ k. inside f k && lesser s k) ss

-- these stamps thinned inside a frontier: without those that are lesser than one of them that is inside
abbrev pub thinned : Front → List Stamp → List Stamp
thinned f ss = filter (λ s. not (has_greater_inside f ss s)) ss

-- the stamps are the domain's
abbrev pub AreOf : Bounds → List Stamp → Type 0
AreOf bounds ss = AllByRecursion (λ s. in_domain bounds s ≡ true) ss

-- a stamp was added to the list, in its place, if it was not there
abbrev pub HasAdded : Stamp → List Stamp → List Stamp → Type 0
HasAdded at old new = new ≡ insert_key stamp_cmp old at

-- what stood for a list, thinned inside a base, stands for it with one stamp more
abbrev pub StandForOneMore : Stamp → List Stamp → List Stamp → Type 0
StandForOneMore at old new = (base : Frontier) (all : List Stamp) → IsThinned base all old → IsThinned base (at ∷ all) new

-- what stood for a list of a domain's stamps, thinned inside a base that a frontier holds, stands for it with the frontier as base
abbrev pub IsSettledTo : Front → List Stamp → List Stamp → Type 0
IsSettledTo f old new =
    (bounds : Bounds) (base : Frontier) (all : List Stamp) → AreOf bounds all → Within base (frontier_of bounds f) → IsThinned base all old
    → IsThinned (frontier_of bounds f) all new

-- it is what the list leaves thinned inside the frontier
abbrev pub IsThinnedBy : Front → List Stamp → List Stamp → Type 0
IsThinnedBy f old new = new ≡ thinned f old

-- it stands for those of the list that are inside the frontier
abbrev pub StandsInside : Front → List Stamp → List Stamp → Type 0
StandsInside f old new =
    (bounds : Bounds) (base : Frontier) (all : List Stamp) → AreOf bounds all → Within base (frontier_of bounds f) → IsThinned base all old
    → IsThinned base (filter (frontier_of bounds f) all) new

-- it stands for those of the list that are inside the frontier, with the frontier as base
abbrev pub IsThinnedTo : Front → List Stamp → List Stamp → Type 0
IsThinnedTo f old new =
    (bounds : Bounds) (base : Frontier) (all : List Stamp) → AreOf bounds all → Within base (frontier_of bounds f) → IsThinned base all old
    → IsThinned (frontier_of bounds f) (filter (frontier_of bounds f) all) new

-- the lists of a node's in-edges are changed so, and those of the other edges are as they were
pub record ChangesInto (flow : Dataflow) (p : ℕ) (R : List Stamp → List Stamp → Type 0) (old new : List (List Stamp)) : Type 0 where
  pub one_each : length new ≡ length old
  pub here : (d : ℕ) → d < length flow.edges → receiver flow d ≡ p → R (slice_index_or old d []) (slice_index_or new d [])
  pub others : (d : ℕ) → receiver flow d ≢ p → slice_index_or new d [] ≡ slice_index_or old d []

-- the list of each out-edge of a node is changed as it is for this edge, and those of the other edges are as they were
pub record ChangesEachOut (flow : Dataflow) (p : ℕ) (R : ℕ → List Stamp → List Stamp → Type 0) (old new : List (List Stamp)) : Type 0 where
  pub one_each : length new ≡ length old
  pub here : (e : ℕ) → e < length flow.edges → sender flow e ≡ p → R e (slice_index_or old e []) (slice_index_or new e [])
  pub others : (e : ℕ) → sender flow e ≢ p → slice_index_or new e [] ≡ slice_index_or old e []

-- the lists of a node's out-edges are changed so, and those of the other edges are as they were
abbrev pub ChangesOut : Dataflow → ℕ → (List Stamp → List Stamp → Type 0) → List (List Stamp) → List (List Stamp) → Type 0
ChangesOut flow p R old new = ChangesEachOut flow p (λ e. R) old new

-- ---- for the proofs

-- whether a stamp is lesser than the top, if there is one
abbrev pub is_lesser_than_top : Option Stamp → Stamp → Bool
is_lesser_than_top None s = false
is_lesser_than_top (Some top) s = lesser s top

-- a stamp, if it is at or above the top so far
abbrev pub raised : Option Stamp → Stamp → Option Stamp
raised None s = Some s
raised (Some top) s = if leq top s then Some s else None

-- the last of the stamps inside a frontier, if each that is inside is at or above the one before it, the first one at or above a top
abbrev pub top_from : Front → Option Stamp → List Stamp → Option Stamp
top_from f top [] = top
top_from f top (s ∷ ss) = if inside f s then option_and_then (λ t. top_from f (Some t) ss) (raised top s) else top_from f top ss

-- Sets of places as ascending lists: what becomes of them, and which place is the first.
use Rattle.std.specs.Prelude.{◌≡◌, ◌≢◌, ◌⊎◌, ℕ, ◌<◌, ◌≤◌, List, [], ◌∷◌, length, Option, Some, None}
use Rattle.std.specs.List.{Contains, AllByRecursion}

-- each place is below those after it
abbrev pub ArePlacesAscending : List ℕ → Type 0
ArePlacesAscending [] = Unit {0}
ArePlacesAscending (p ∷ ps) = AllByRecursion (λ q. p < q) ps × ArePlacesAscending ps

-- p is put among the places.
pub record IsPut (p : ℕ) (old new : List ℕ) : Type 0 where
  pub there : Contains new p
  pub stays : (q : ℕ) → Contains old q → Contains new q
  pub only : (q : ℕ) → Contains new q → (q ≡ p) ⊎ Contains old q

-- p is taken out of the places.
pub record IsTakenOut (p : ℕ) (old new : List ℕ) : Type 0 where
  pub gone : Contains new p → ⊥
  pub stays : (q : ℕ) → q ≢ p → Contains old q → Contains new q
  pub only : (q : ℕ) → Contains new q → Contains old q
  pub fewer : Contains old p → length new < length old

-- p is the first of the places from k on.
pub record IsFirstFrom (k : ℕ) (places : List ℕ) (p : ℕ) : Type 0 where
  pub there : Contains places p
  pub from : k ≤ p
  pub least : (q : ℕ) → Contains places q → k ≤ q → p ≤ q

-- none of the places is from k on and below the limit
abbrev pub HasNoneBetween : ℕ → ℕ → List ℕ → Type 0
HasNoneBetween k limit places = (q : ℕ) → Contains places q → k ≤ q → q < limit → ⊥

-- the answer is the first of the places from k on, and below the limit; none where there is none
abbrev pub IsFirstBetween : ℕ → ℕ → List ℕ → Option ℕ → Type 0
IsFirstBetween k limit places None = HasNoneBetween k limit places
IsFirstBetween k limit places (Some p) = IsFirstFrom k places p × (p < limit)

-- the answer is the first of the places, and none where there is none
abbrev pub IsFirstPlace : List ℕ → Option ℕ → Type 0
IsFirstPlace places None = (q : ℕ) → Contains places q → ⊥
IsFirstPlace places (Some p) = IsFirstFrom 0 places p

-- Frontiers by their least outside stamps, and which list names a frontier.
use Rattle.std.specs.Prelude.{◌≡◌, Bool, true, false, not, ◌&&◌, ◌||◌, if◌then◌else◌, List, [], ◌∷◌, filter}
use Rattle.std.specs.List.{AllByRecursion, list_all}
use Rattle.std.specs.Ordering.{is_lt, is_eq}
use Rattle.std.specs.Cmp.Lexicographic.{slice_cmp}
use Rattle.fw_time.specs.Stamp.{Stamp, leq, origin, in_domain, stamp_cmp}
use Rattle.fw_time.specs.declared.stamp.Bounds.{Bounds}
use Rattle.fw_frontier.specs.Frontier.{Frontier}

-- a frontier by its outside stamps
abbrev pub Front : Type 0
Front = List Stamp

-- whether a stamp is inside: no outside stamp is at most it
abbrev pub inside : Front → Stamp → Bool
inside [] t = true
inside (o ∷ os) t = not (leq o t) && inside os t

-- the frontier of a domain that has these outside stamps
abbrev pub frontier_of : Bounds → Front → Frontier
frontier_of bounds os t = in_domain bounds t && inside os t

-- the least stamps of a domain, in order: the zeros, or where it has sides the least of each
abbrev pub least_stamps : Bounds → Front
least_stamps bounds = if bounds.sides then filter (in_domain bounds) ((0 ∷ 1 ∷ []) ∷ (1 ∷ 0 ∷ []) ∷ []) else origin bounds.greatest ∷ []

-- whether all stamps are the domain's
abbrev pub all_in_domain : Bounds → Front → Bool
all_in_domain bounds [] = true
all_in_domain bounds (o ∷ os) = in_domain bounds o && all_in_domain bounds os

-- whether the frontiers have one list of outside stamps: for canonical fronts of one domain, whether they are one
abbrev pub same_front : Front → Front → Bool
same_front f g = is_eq (slice_cmp stamp_cmp f g)

-- whether each outside stamp of f is outside g: for canonical fronts of one domain, whether g lies within f
abbrev pub is_within : Front → Front → Bool
is_within g f = list_all (λ o. not (inside g o)) f

-- the stamp is a domain's, comes before each of these in order and is not comparable with one
pub record IsLeastBefore (bounds : Bounds) (o : Stamp) (os : Front) : Type 0 where
  pub in_the_domain : in_domain bounds o ≡ true
  pub ascending : AllByRecursion (λ q. is_lt (stamp_cmp o q) ≡ true) os
  pub incomparable : AllByRecursion (λ q. (leq o q || leq q o) ≡ false) os

-- the outside stamps are the domain's, ascend, and no two of them are comparable: the one list that names its frontier
abbrev pub IsCanonical : Bounds → Front → Type 0
IsCanonical bounds [] = Unit {0}
IsCanonical bounds (o ∷ os) = IsLeastBefore bounds o os × IsCanonical bounds os

-- the list names the frontier: it is canonical, and has the same stamps of the domain inside
pub record IsFrontOf (bounds : Bounds) (os : Front) (f : Frontier) : Type 0 where
  pub canonical : IsCanonical bounds os
  pub same : (t : Stamp) → frontier_of bounds os t ≡ f t

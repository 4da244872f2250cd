-- Frontiers as tests on stamps.
use Rattle.std.specs.Prelude.{◌≡◌, Bool, true, false, not, ◌&&◌, ◌||◌, List, [], ◌∷◌}
use Rattle.fw_time.specs.Stamp.{Stamp, leq, in_domain}
use Rattle.fw_time.specs.declared.stamp.Bounds.{Bounds}

-- a set of stamps, as the test of what is inside
abbrev pub Frontier : Type 0
Frontier = Stamp → Bool

-- the test is a frontier of the domain: only the domain's stamps are inside, and with a stamp each lesser one
pub record IsFrontier (bounds : Bounds) (f : Frontier) : Type 0 where
  pub inside_domain : (t : Stamp) → f t ≡ true → in_domain bounds t ≡ true
  pub closed : (s t : Stamp) → in_domain bounds s ≡ true → leq s t ≡ true → f t ≡ true → f s ≡ true

-- each stamp inside the first is inside the second
abbrev pub Within : Frontier → Frontier → Type 0
Within f g = (t : Stamp) → f t ≡ true → g t ≡ true

-- no stamp
abbrev pub nothing : Frontier
nothing t = false

-- each stamp of the domain
abbrev pub everything : Bounds → Frontier
everything bounds t = in_domain bounds t

-- what is inside both
abbrev pub meet : Frontier → Frontier → Frontier
meet f g t = f t && g t

-- what is inside one of the two
abbrev pub join : Frontier → Frontier → Frontier
join f g t = f t || g t

-- whether some stamp of the list is the same or greater
abbrev pub some_above : List Stamp → Stamp → Bool
some_above [] t = false
some_above (s ∷ ss) t = leq t s || some_above ss t

-- the least frontier that has these stamps: what is at most one of them
abbrev pub cover : Bounds → List Stamp → Frontier
cover bounds ss t = in_domain bounds t && some_above ss t

-- what is inside and a stamp is not at most: the largest frontier inside that is without the stamp
abbrev pub without_above : Stamp → Frontier → Frontier
without_above s f t = f t && not (leq s t)

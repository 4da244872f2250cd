-- Logical times as stamps: their order, their domains, and the places of a loop's stamps.
use Rattle.std.specs.Prelude.{ℕ, zero, suc, ◌+◌, Bool, true, false, not, ◌&&◌, nat_le, nat_lt, nat_eq, if◌then◌else◌, List, [], ◌∷◌, ◌++◌}
use Rattle.std.specs.declared.cmp.Ordering.{Ordering}
use Rattle.std.specs.Ordering.{nat_cmp}
use Rattle.std.specs.Cmp.Lexicographic.{slice_cmp}
use Rattle.fw_time.specs.declared.stamp.Bounds.{Bounds}

-- a logical time: the list of its coordinates, outermost first
abbrev pub Stamp : Type 0
Stamp = List ℕ

-- whether each coordinate of the first stamp is at most that of the second; stamps of unequal length are not comparable
abbrev pub leq : Stamp → Stamp → Bool
leq [] [] = true
leq [] (y ∷ t) = false
leq (x ∷ s) [] = false
leq (x ∷ s) (y ∷ t) = nat_le x y && leq s t

-- whether the first stamp is lesser: at most the second, and not the same
abbrev pub lesser : Stamp → Stamp → Bool
lesser s t = leq s t && not (leq t s)

-- whether two stamps are one
abbrev pub same : Stamp → Stamp → Bool
same s t = leq s t && leq t s

-- the greater coordinate at each place
abbrev pub lub : Stamp → Stamp → Stamp
lub [] t = t
lub (x ∷ s) [] = x ∷ s
lub (x ∷ s) (y ∷ t) = (if nat_le x y then y else x) ∷ lub s t

-- the lesser coordinate at each place
abbrev pub glb : Stamp → Stamp → Stamp
glb [] t = []
glb (x ∷ s) [] = []
glb (x ∷ s) (y ∷ t) = (if nat_le x y then x else y) ∷ glb s t

-- the order in which a least one is wanted: by the coordinates from the outermost
abbrev pub stamp_cmp : Stamp → Stamp → Ordering
stamp_cmp = slice_cmp nat_cmp

-- whether one of two coordinates is 0, and the other is not
abbrev pub is_of_side : Stamp → Bool
is_of_side [] = false
is_of_side (x ∷ []) = false
is_of_side (x ∷ y ∷ []) = if nat_eq x 0 then nat_lt 0 y else nat_eq y 0
is_of_side (x ∷ y ∷ z ∷ s) = false

-- whether a stamp counts: each one, or where a domain has sides, those of a side
abbrev pub counts : Bool → Stamp → Bool
counts false s = true
counts true s = is_of_side s

-- whether a list is a stamp of the domain
abbrev pub in_domain : Bounds → Stamp → Bool
in_domain bounds s = counts bounds.sides s && leq s bounds.greatest

-- the domain of all stamps up to a greatest one
abbrev pub up_to : Stamp → Bounds
up_to s = record { greatest = s; sides = false }

-- a stamp of the outer domain with a loop counter
abbrev pub nest : Stamp → ℕ → Stamp
nest s c = s ++ c ∷ []

-- a loop's stamp without its counter
abbrev pub outer : Stamp → Stamp
outer [] = []
outer (x ∷ []) = []
outer (x ∷ y ∷ s) = x ∷ outer (y ∷ s)

-- the loop counter of a loop's stamp
abbrev pub counter : Stamp → ℕ
counter [] = 0
counter (x ∷ []) = x
counter (x ∷ y ∷ s) = counter (y ∷ s)

-- zeros at as many places
abbrev pub origin : Stamp → Stamp
origin [] = []
origin (x ∷ s) = 0 ∷ origin s

-- the least stamp of as many coordinates that has a greater coordinate at a place
abbrev pub stamp_raised_at : Stamp → ℕ → Stamp
stamp_raised_at [] i = []
stamp_raised_at (x ∷ s) zero = (x + 1) ∷ origin s
stamp_raised_at (x ∷ s) (suc i) = 0 ∷ stamp_raised_at s i

-- The greatest stamps of a frontier, and how src/tops.rt finds them.
use Rattle.std.specs.Prelude.{◌≡◌, ℕ, zero, suc, ◌-◌, false, not, ◌||◌, if◌then◌else◌, nat_lt, nat_eq, slice_index, set, List, [], ◌∷◌, ◌++◌, length, filter}
use Rattle.std.specs.List.{AllByRecursion}
use Rattle.fw_time.specs.declared.stamp.Bounds.{Bounds}
use Rattle.fw_time.specs.Stamp.{Stamp, leq}
use Rattle.fw_frontier.specs.Frontier.{some_above}
use Rattle.fw_frontier.specs.Front.{Front}

-- no two of the stamps are comparable: none is lesser than another one, and each is there once
abbrev pub AreIncomparable : List Stamp → Type 0
AreIncomparable [] = Unit {0}
AreIncomparable (s ∷ ss) = AllByRecursion (λ t. (leq s t || leq t s) ≡ false) ss × AreIncomparable ss

-- a stamp among the greatest ones: it takes the place of those that are at most it, unless it is at most one of them
unfoldable pub with_top : Stamp → List Stamp → List Stamp
with_top t tops = if some_above tops t then tops else filter (λ s. not (leq s t)) tops ++ t ∷ []

-- with what an outside stamp leaves of one that it is at most: at each of the first places a coordinate just below its own there
abbrev pub with_lowered : Stamp → Stamp → ℕ → List Stamp → List Stamp
with_lowered o t zero tops = tops
with_lowered o t (suc i) tops =
    if nat_lt 0 (slice_index o i) then with_top (set t i (slice_index o i - 1)) (with_lowered o t i tops) else with_lowered o t i tops

-- with what an outside stamp leaves of one
abbrev pub with_left : Stamp → Stamp → List Stamp → List Stamp
with_left o t tops = if leq o t then with_lowered o t (length o) tops else with_top t tops

-- with what it leaves of each of the stamps
abbrev pub with_all_left : Stamp → List Stamp → List Stamp → List Stamp
with_all_left o [] tops = tops
with_all_left o (t ∷ ts) tops = with_all_left o ts (with_left o t tops)

-- what outside stamps leave of the greatest ones, by one after the other
abbrev pub tops_left : Front → List Stamp → List Stamp
tops_left [] tops = tops
tops_left (o ∷ os) tops = tops_left os (with_all_left o tops [])

-- the greatest stamps of a domain; where it has sides, some of these may be none of its stamps
abbrev pub domain_tops : Bounds → List Stamp
domain_tops bounds =
    let g = bounds.greatest in
    if bounds.sides
    then (if nat_eq (length g) 2 then with_top (slice_index g 0 ∷ 0 ∷ []) (with_top (0 ∷ slice_index g 1 ∷ []) []) else [])
    else g ∷ []

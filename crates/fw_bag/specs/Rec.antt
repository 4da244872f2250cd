-- The order of recs.
use Rattle.std.specs.Prelude.{◌≡◌, false, List, [], ◌∷◌}
use Rattle.std.specs.List.{AllByRecursion}
use Rattle.std.specs.declared.cmp.Ordering.{Ordering}
use Rattle.std.specs.Ordering.{nat_cmp, ordering_then, is_gt}
use Rattle.fw_bag.specs.declared.rec.Rec.{Rec}

-- recs are ordered by key, and then by value
abbrev pub rec_cmp : Rec → Rec → Ordering
rec_cmp x y = ordering_then (nat_cmp x.key y.key) (nat_cmp x.value y.value)

-- no rec of the list is greater than a later one
abbrev pub IsAscending : List Rec → Type 0
IsAscending [] = Unit {0}
IsAscending (x ∷ xs) = AllByRecursion (λ y. is_gt (rec_cmp x y) ≡ false) xs × IsAscending xs

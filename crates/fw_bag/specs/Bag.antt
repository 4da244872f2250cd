-- What a bag holds, as the ascending list of its recs.
use Rattle.std.specs.Prelude.{ℕ, zero, suc, ◌+◌, ◌^◌, ◌<◌, Bool, List, [], ◌∷◌, if◌then◌else◌}
use Rattle.std.specs.List.Sorted.{IsStrictlySortedBy}
use Rattle.std.specs.Map.{keys_of}
use Rattle.std.specs.Ordering.{is_eq, is_le}
use Rattle.fw_bag.specs.declared.rec.Rec.{Rec}
use Rattle.fw_bag.specs.Rec.{rec_cmp}

-- what a bag holds, in ascending order, and whether memory was refused to it
pub record BagState : Type 0 where
  pub recs : List Rec
  pub refused : Bool

-- the key and the value of a rec are numbers of 64 bits
pub record IsRec (r : Rec) : Type 0 where
  pub key : r.key < 2 ^ 64
  pub value : r.value < 2 ^ 64

-- the list with the rec before the first one that is not less, which keeps an ascending list ascending
abbrev pub with_rec : Rec → List Rec → List Rec
with_rec r [] = r ∷ []
with_rec r (x ∷ xs) = if is_le (rec_cmp r x) then r ∷ x ∷ xs else x ∷ with_rec r xs

-- the list without the first rec that equals this one
abbrev pub without_rec : Rec → List Rec → List Rec
without_rec r [] = []
without_rec r (x ∷ xs) = if is_eq (rec_cmp r x) then xs else x ∷ without_rec r xs

-- how many recs of the list equal this one
abbrev pub how_often : Rec → List Rec → ℕ
how_often r [] = 0
how_often r (x ∷ xs) = if is_eq (rec_cmp r x) then how_often r xs + 1 else how_often r xs

-- the second list with each rec of the first put in its place
abbrev pub bag_sum : List Rec → List Rec → List Rec
bag_sum [] ys = ys
bag_sum (x ∷ xs) ys = with_rec x (bag_sum xs ys)

-- the list with the rec put in its place this many times
abbrev pub with_copies : ℕ → Rec → List Rec → List Rec
with_copies zero r xs = xs
with_copies (suc n) r xs = with_rec r (with_copies n r xs)

-- the list after this many copies of the rec
abbrev pub copies_before : ℕ → Rec → List Rec → List Rec
copies_before zero r xs = xs
copies_before (suc n) r xs = r ∷ copies_before n r xs

-- the recs of a map from recs to counts, each as often as its count says
abbrev pub expand : List (Rec × ℕ) → List Rec
expand [] = []
expand (e ∷ es) = copies_before e.1 e.0 (expand es)

-- each count of the entries is at least 1
abbrev pub IsPositive : List (Rec × ℕ) → Type 0
IsPositive [] = Unit {0}
IsPositive (e ∷ es) = (0 < e.1) × IsPositive es

-- the recs of the entries ascend with no two equal, and each count is at least 1
pub record IsTally (entries : List (Rec × ℕ)) : Type 0 where
  pub ordered : IsStrictlySortedBy rec_cmp (keys_of entries)
  pub positive : IsPositive entries

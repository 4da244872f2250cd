-- Places for the keys of sums that are taken into totals.
use Rattle.std.specs.Prelude.{◌≡◌, ℕ, Bool, true, if◌then◌else◌, List, [], ◌∷◌, Option}
use Rattle.std.specs.List.{AllByRecursion}
use Rattle.std.specs.Option.{is_some}
use Rattle.std.specs.Ordering.{nat_cmp}
use Rattle.std.specs.BTreeMap.{BTreeMap, get}
use Rattle.fw_table.specs.declared.sums.Sums.{Sums}
use Rattle.fw_totals.specs.Totals.{combined}

-- each key of the first map has a place in the second
abbrev pub HasPlaceForEach : {A B : Type 0} → BTreeMap ℕ A → BTreeMap ℕ B → Type 0
HasPlaceForEach sums totals = (q : ℕ) → is_some (get nat_cmp sums q) ≡ true → is_some (get nat_cmp totals q) ≡ true

-- each key of the times inside has a place
abbrev pub HasRooms : {T : Type 0} → (T → Bool) → BTreeMap ℕ (Option ℕ) → List (T × Sums) → Type 0
HasRooms {T} inside totals es = AllByRecursion (λ (e : T × Sums). inside e.0 ≡ true → HasPlaceForEach e.1.by_key totals) es

-- ---- for the proofs

-- the total of a key with the sums of the times inside taken in
abbrev pub gathered : {T : Type 0} → (T → Bool) → ℕ → Option ℕ → List (T × Sums) → Option ℕ
gathered inside q o [] = o
gathered inside q o (e ∷ es) = gathered inside q (if inside e.0 then combined o (get nat_cmp e.1.by_key q) else o) es

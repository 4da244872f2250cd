-- Values by key on each of two sides.
use Rattle.std.specs.Prelude.{◌≡◌, ℕ, ◌<◌, Bool, not, ◌&&◌, ◌==◌, List, [], map, filter, reverse, Option, Some, None, Vec}
use Rattle.std.specs.List.{AllByRecursion}
use Rattle.std.specs.Ordering.{nat_cmp}
use Rattle.std.specs.BTreeMap.{BTreeMap, get}
use Rattle.fw_time.specs.Stamp.{Stamp, same}
use Rattle.fw_bag.specs.declared.rec.Rec.{Rec}
use Rattle.fw_bag.specs.Arrivals.{Arrival, recs_where}
use Rattle.fw_bag.specs.Keyed.{plus}

-- the values of a key
abbrev pub values_with : ℕ → List Rec → List ℕ
values_with key rs = map (λ x. x.value) (filter (λ x. key == x.key) rs)

-- the values that are kept at a key, the latest first
abbrev pub values_kept : {A : Type 0} → Option (Vec ℕ A) → List ℕ
values_kept None = []
values_kept (Some vs) = reverse vs.items

-- the map has at each key the values of the recs with it, the earliest first
abbrev pub HasValues : {A : Type 0} → BTreeMap ℕ (Vec ℕ A) → List Rec → Type 0
HasValues values rs = (key : ℕ) → values_kept (get nat_cmp values key) ≡ values_with key rs

-- the recs of a key with each of these values added to it
abbrev pub sums_with : Rec → List ℕ → List Rec
sums_with r vs = map (λ v. record { key = r.key; value = plus r.value v }) vs

-- whether the arrival is on the first of two in-edges
abbrev pub is_left : Arrival → Bool
is_left a = a.side == 0

-- each arrival is on one of two in-edges
abbrev pub AreOfTwo : List Arrival → Type 0
AreOfTwo came = AllByRecursion (λ (a : Arrival). a.side < 2) came

-- the recs that came at the stamp on another in-edge than this one
abbrev pub recs_across : ℕ → Stamp → List Arrival → List Rec
recs_across side t came = recs_where (λ a. not (a.side == side) && same a.at t) came

-- Sums by key: what a table of them finds at each key, and the recs that it gives.
use Rattle.std.specs.Prelude.{◌≡◌, ℕ, if◌then◌else◌, List, map, Option, Some, None}
use Rattle.std.specs.Ordering.{nat_cmp}
use Rattle.std.specs.BTreeMap.{BTreeMap, get}
use Rattle.fw_bag.specs.declared.rec.Rec.{Rec}
use Rattle.fw_bag.specs.Keyed.{sorted_recs, value_sum, has_key, distinct_keys, sums_of}

-- the sum of the values of a key, if the key is there
abbrev pub sum_at : ℕ → List Rec → Option ℕ
sum_at key rs = if has_key key rs then Some (value_sum key rs) else None

-- the map has each key of the recs, with the sum of its values
abbrev pub HasSums : BTreeMap ℕ ℕ → List Rec → Type 0
HasSums sums rs = (key : ℕ) → get nat_cmp sums key ≡ sum_at key rs

-- the keys and values of these entries, as recs
abbrev pub entry_recs : List (ℕ × ℕ) → List Rec
entry_recs es = map (λ (e : ℕ × ℕ). record { key = e.0; value = e.1 }) es

-- for each key of the first recs the sum of its values in the others, in ascending order
abbrev pub sums_at_keys : List Rec → List Rec → List Rec
sums_at_keys keys rs = sorted_recs (sums_of (distinct_keys keys) rs)

-- for each key of the recs the sum of its values, in ascending order
abbrev pub sums_by_key : List Rec → List Rec
sums_by_key rs = sums_at_keys rs rs

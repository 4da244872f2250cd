-- Totals of keys in a map that may have places without a total.
use Rattle.std.specs.Prelude.{◌≡◌, ℕ, if◌then◌else◌, List, [], ◌∷◌, ◌++◌, Option, Some, None, map}
use Rattle.std.specs.List.{AllByRecursion}
use Rattle.std.specs.Ordering.{nat_cmp}
use Rattle.std.specs.BTreeMap.{BTreeMap, get}
use Rattle.std.specs.Option.{unwrap_or}
use Rattle.fw_bag.specs.declared.rec.Rec.{Rec}
use Rattle.fw_bag.specs.Keyed.{plus, value_sum, has_key}
use Rattle.fw_table.specs.Sums.{sum_at}

-- the total of a place, if there is one
abbrev pub total_in : Option (Option ℕ) → Option ℕ
total_in None = None
total_in (Some total) = total

-- the total of a key, if it has one
abbrev pub found : BTreeMap ℕ (Option ℕ) → ℕ → Option ℕ
found totals key = total_in (get nat_cmp totals key)

-- the map has the total of each key of the recs
abbrev pub HasTotals : BTreeMap ℕ (Option ℕ) → List Rec → Type 0
HasTotals totals rs = (key : ℕ) → found totals key ≡ sum_at key rs

-- ---- for the proofs

-- a total with the sum of a time taken in
abbrev pub combined : Option ℕ → Option ℕ → Option ℕ
combined total None = total
combined total (Some s) = Some (plus s (unwrap_or total 0))

-- the key with its total, if there is one
abbrev pub shown_entry : ℕ → Option ℕ → List (ℕ × ℕ)
shown_entry key None = []
shown_entry key (Some total) = (key, total) ∷ []

-- the keys that have a total, with it
abbrev pub shown_entries : List (ℕ × Option ℕ) → List (ℕ × ℕ)
shown_entries [] = []
shown_entries (e ∷ es) = shown_entry e.0 e.1 ++ shown_entries es

-- the sums of these entries with the totals before them added, as recs
abbrev pub raised_recs : BTreeMap ℕ (Option ℕ) → List (ℕ × ℕ) → List Rec
raised_recs totals es = map (λ (e : ℕ × ℕ). record { key = e.0; value = plus e.1 (unwrap_or (found totals e.0) 0) }) es

-- each of the recs has for its value the sum of its key in the first ones
abbrev pub AreSumsIn : List Rec → List Rec → Type 0
AreSumsIn rs xs = AllByRecursion (λ (x : Rec). x.value ≡ value_sum x.key rs) xs

-- the total of a key, where that of each key of the second recs is its sum in the first ones, and else the one before
abbrev pub written : List Rec → List Rec → Option ℕ → ℕ → Option ℕ
written rs xs before key = if has_key key xs then Some (value_sum key rs) else before

-- ---- changes

-- Written over the totals of the old recs these give the totals of all: each is the sum of its key among all, and a key that is not
-- among them has the same sum in both.
pub record WritesOver (changes old all : List Rec) : Type 0 where
  pub sums : AreSumsIn all changes
  pub found : (key : ℕ) → written all changes (sum_at key old) key ≡ sum_at key all

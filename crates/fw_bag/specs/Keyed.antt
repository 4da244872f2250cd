-- What the kinds that look at keys do to recs: join, sum, total and ledger; and which recs are first of their kind.
use Rattle.std.specs.Prelude.{ℕ, ◌+◌, ◌%◌, ◌^◌, Bool, ◌==◌, if◌then◌else◌, List, [], ◌∷◌, map, filter}
use Rattle.std.specs.List.{list_any}
use Rattle.std.specs.Ordering.{is_eq}
use Rattle.fw_bag.specs.declared.rec.Rec.{Rec}
use Rattle.fw_bag.specs.Rec.{rec_cmp}
use Rattle.fw_bag.specs.Bag.{bag_sum}

-- a sum of values
abbrev pub plus : ℕ → ℕ → ℕ
plus x y = (x + y) % 2 ^ 64

-- the recs in ascending order
abbrev pub sorted_recs : List Rec → List Rec
sorted_recs rs = bag_sum rs []

-- whether the rec is among these
abbrev pub is_among : Rec → List Rec → Bool
is_among r xs = list_any (λ x. is_eq (rec_cmp r x)) xs

-- the rec with each of the others of its key: the key, and the sum of both values
abbrev pub joined_rec : Rec → List Rec → List Rec
joined_rec r xs = map (λ x. record { key = r.key; value = plus r.value x.value }) (filter (λ x. r.key == x.key) xs)

-- the sum of the values of a key
abbrev pub value_sum : ℕ → List Rec → ℕ
value_sum key [] = 0
value_sum key (r ∷ rs) = if r.key == key then plus r.value (value_sum key rs) else value_sum key rs

-- whether the key is among those of the recs
abbrev pub has_key : ℕ → List Rec → Bool
has_key key rs = list_any (λ r. r.key == key) rs

-- the keys of the recs, each once
abbrev pub distinct_keys : List Rec → List ℕ
distinct_keys [] = []
distinct_keys (r ∷ rs) = if has_key r.key rs then distinct_keys rs else r.key ∷ distinct_keys rs

-- for each of these keys the sum of its values in the recs
abbrev pub sums_of : List ℕ → List Rec → List Rec
sums_of keys rs = map (λ key. record { key = key; value = value_sum key rs }) keys

-- What recs make that meet: each that comes on one of two in-edges, with the earlier ones of its key on the other, at whatever stamps.
use Rattle.std.specs.Prelude.{ℕ, Bool, not, ◌==◌, if◌then◌else◌, List, [], ◌∷◌, ◌++◌, map, filter}
use Rattle.std.specs.List.{flat_map}
use Rattle.fw_time.specs.Stamp.{Stamp, lub}
use Rattle.fw_bag.specs.declared.rec.Rec.{Rec}
use Rattle.fw_bag.specs.Arrivals.{Arrival}
use Rattle.fw_bag.specs.Keyed.{plus}
use Rattle.fw_keyed.specs.Sides.{is_left}
use Rattle.fw_paired.specs.declared.pair.Pair.{Pair}
use Rattle.fw_paired.specs.declared.pair.StampedValue.{StampedValue}

-- the value of a rec that came, with the stamp at which it came
abbrev pub stamped_value : Arrival → StampedValue
stamped_value a = record { at = a.at; value = a.rec.value }

-- the values of a key, with their stamps
abbrev pub stamped_values : ℕ → List Arrival → List StampedValue
stamped_values key came = map stamped_value (filter (λ a. key == a.rec.key) came)

-- a rec that comes on an in-edge, with an earlier one of its key on the other: the stamp of that on the first in-edge stands first
abbrev pub pair_of : ℕ → Stamp → Rec → StampedValue → Pair
pair_of side t r earlier = record {
  first = if side == 0 then t else earlier.at;
  second = if side == 0 then earlier.at else t;
  rec = record { key = r.key; value = plus r.value earlier.value };
}

-- whether an arrival is on the second of two in-edges
abbrev pub is_right : Arrival → Bool
is_right a = not (is_left a)

-- what came on the other of two in-edges than this one
abbrev pub came_across : ℕ → List Arrival → List Arrival
came_across side came = if side == 0 then filter is_right came else filter is_left came

-- the pairs of an arrival with those before it
abbrev pub pairs_with : Arrival → List Arrival → List Pair
pairs_with a came = map (pair_of a.side a.at a.rec) (stamped_values a.rec.key (came_across a.side came))

-- the pairs that all arrivals made as they came, the latest first: each with those before it
abbrev pub pairs_made : List Arrival → List Pair
pairs_made [] = []
pairs_made (a ∷ came) = pairs_with a came ++ pairs_made came

-- each arrival on the first in-edge, with each of its key on the second
abbrev pub all_pairs : List Arrival → List Pair
all_pairs came = flat_map (λ a. map (pair_of 0 a.at a.rec) (stamped_values a.rec.key (filter is_right came))) (filter is_left came)

-- the stamp at which a pair is sent: the least one that the stamps of both its recs are at most
abbrev pub pair_stamp : Pair → Stamp
pair_stamp pair = lub pair.first pair.second

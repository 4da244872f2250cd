-- Which tables the kinds that pair have after what came, and what they hold.
use Rattle.std.specs.Prelude.{ℕ, Bool, List, [], map, filter, Option, Some, None, Vec}
use Rattle.std.specs.List.{flat_map}
use Rattle.std.specs.Ordering.{nat_cmp, ordering_then}
use Rattle.std.specs.declared.cmp.Ordering.{Ordering}
use Rattle.std.specs.BTreeMap.{BTreeMap, get}
use Rattle.fw_time.specs.Stamp.{Stamp, stamp_cmp}
use Rattle.fw_bag.specs.Rec.{rec_cmp}
use Rattle.fw_bag.specs.Arrivals.{Arrival}
use Rattle.fw_keyed.specs.Sides.{is_left}
use Rattle.fw_paired.specs.declared.cross.Cross.{Cross}
use Rattle.fw_paired.specs.declared.held.HeldRec.{HeldRec}
use Rattle.fw_paired.specs.declared.pair.StampedValue.{StampedValue}
use Rattle.fw_paired.specs.Bags.{AreReordered}
use Rattle.fw_paired.specs.Pairs.{is_right, stamped_values}

-- the values that are kept at a key
abbrev pub values_at : {A : Type 0} → Option (Vec StampedValue A) → List StampedValue
values_at None = []
values_at (Some values) = values.items

-- the map has at each key the values of the arrivals with it, in whatever order
abbrev pub HasArrivals : {A : Type 0} → BTreeMap ℕ (Vec StampedValue A) → List Arrival → Type 0
HasArrivals values came = (key : ℕ) → AreReordered (stamped_values key came) (values_at (get nat_cmp values key))

-- The table of a cross has all that came on each of its two in-edges.
pub record IsCross (cross : Cross) (came : List Arrival) : Type 0 where
  pub first : HasArrivals cross.first (filter is_left came)
  pub second : HasArrivals cross.second (filter is_right came)

-- an arrival, as the rec that is held
abbrev pub held : Arrival → HeldRec
held a = record { side = a.side; at = a.at; rec = a.rec }

-- a held rec, as what came
abbrev pub arrival_of : HeldRec → Arrival
arrival_of h = record { side = h.side; at = h.at; rec = h.rec }

-- held recs are ordered by in-edge, stamp and rec
abbrev pub held_cmp : HeldRec → HeldRec → Ordering
held_cmp x y = ordering_then (nat_cmp x.side y.side) (ordering_then (stamp_cmp x.at y.at) (rec_cmp x.rec y.rec))

-- ---- for the proofs

-- the values of a key on an in-edge that came at the stamps that pass a test, as held recs
abbrev pub held_values : ℕ → ℕ → (Stamp → Bool) → List StampedValue → List HeldRec
held_values side key test values =
    map (λ (v : StampedValue). record { side = side; at = v.at; rec = record { key = key; value = v.value } }) (filter (λ (v : StampedValue). test v.at) values)

-- the same of each key of a map
abbrev pub held_entries : {A : Type 0} → ℕ → (Stamp → Bool) → List (ℕ × Vec StampedValue A) → List HeldRec
held_entries {A} side test entries = flat_map (λ (e : ℕ × Vec StampedValue A). held_values side e.0 test e.1.items) entries

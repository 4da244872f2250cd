-- Numbers by stamp and key, as maps hold them.
use Rattle.std.specs.Prelude.{◌≡◌, ℕ, Bool, true, List, [], ◌∷◌, if◌then◌else◌, map, Some, None, unwrap_or}
use Rattle.std.specs.declared.cmp.Ordering.{Ordering}
use Rattle.std.specs.Ordering.{nat_cmp, ordering_then}
use Rattle.std.specs.List.{AllByRecursion}
use Rattle.std.specs.BTreeMap.{BTreeMap, get}
use Rattle.fw_time.specs.Stamp.{leq, same, stamp_cmp}
use Rattle.fw_bag.specs.Keyed.{value_sum, has_key}
use Rattle.fw_flow.specs.Dataflow.{greatest_number}
use Rattle.fw_flow.specs.WholeBags.{Timed, timed_where}
use Rattle.fw_denote.specs.declared.keyed.Slot.{Slot}

-- slots are ordered by stamp, and then by key
abbrev pub slot_cmp : Slot → Slot → Ordering
slot_cmp x y = ordering_then (stamp_cmp x.at y.at) (nat_cmp x.key y.key)

-- the slot of a timed rec
abbrev pub slot_of : Timed → Slot
slot_of r = record { at = r.at; key = r.rec.key }

-- whether a timed rec of the slot is there
abbrev pub is_there : Slot → List Timed → Bool
is_there slot rs = has_key slot.key (timed_where (same slot.at) rs)

-- the sum of the values at the slot
abbrev pub sum_of_slot : List Timed → Slot → ℕ
sum_of_slot rs slot = value_sum slot.key (timed_where (same slot.at) rs)

-- the sum of the values of the slot's key at its stamp and at lesser ones
abbrev pub total_at : List Timed → Slot → ℕ
total_at rs slot = value_sum slot.key (timed_where (λ t. leq t slot.at) rs)

-- the map has each slot of the timed recs, with this number
abbrev pub HasNumbers : BTreeMap Slot ℕ → (Slot → ℕ) → List Timed → Type 0
HasNumbers numbers number rs =
    (slot : Slot) → get slot_cmp numbers slot ≡ (if is_there slot rs then Some (number slot) else None)

-- the map has for each key the sum of its values, or nothing where that is 0
abbrev pub HasSlotSums : BTreeMap ℕ ℕ → List Timed → Type 0
HasSlotSums totals rs = (key : ℕ) → unwrap_or (get nat_cmp totals key) 0 ≡ value_sum key (map (λ r. r.rec) rs)

-- each timed rec is at a number or an epoch
abbrev pub AreInLine : List Timed → Type 0
AreInLine rs = AllByRecursion (λ (r : Timed). leq r.at (greatest_number ∷ []) ≡ true) rs

-- the timed recs are at stamps at most that of this one
pub record ComeBefore (rs : List Timed) (r : Timed) : Type 0 where
  pub each : AllByRecursion (λ (x : Timed). leq x.at r.at ≡ true) rs
  pub itself : leq r.at r.at ≡ true

-- the entry as a timed rec
abbrev pub entry_rec : (Slot × ℕ) → Timed
entry_rec e = record { at = e.0.at; rec = record { key = e.0.key; value = e.1 } }

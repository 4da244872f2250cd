-- A zip's table: the recs of each number.
use Rattle.std.specs.Prelude.{◌≡◌, ℕ, ◌==◌, ◌∷◌, [], Bool, ◌&&◌, if◌then◌else◌, List, is_some, Option, Some, None}
use Rattle.std.specs.Ordering.{nat_cmp}
use Rattle.std.specs.BTreeMap.{get}
use Rattle.fw_time.specs.Stamp.{Stamp, same}
use Rattle.fw_time.specs.Sending.{side_stamp}
use Rattle.fw_bag.specs.declared.rec.Rec.{Rec}
use Rattle.fw_bag.specs.Arrivals.{Arrival}
use Rattle.fw_bag.specs.Keyed.{plus}
use Rattle.fw_frontier.specs.Below.{is_below}
use Rattle.fw_numbered.specs.declared.zip.Partners.{Partners}
use Rattle.fw_numbered.specs.declared.zip.Zip.{Zip}

-- the rec that came last at a stamp
abbrev pub latest_at : Stamp → List Arrival → Option Rec
latest_at t [] = None
latest_at t (a ∷ came) = if same a.at t then Some a.rec else latest_at t came

-- the recs of a number, of those of its two in-edges that came
abbrev pub partners_at : ℕ → List Arrival → Partners
partners_at n came = record { first = latest_at (side_stamp 0 n) came; second = latest_at (side_stamp 1 n) came }

-- these with one that comes on an in-edge
abbrev pub with_partner : ℕ → Rec → Partners → Partners
with_partner side r m = if side == 0 then record { first = Some r; second = m.second } else record { first = m.first; second = Some r }

-- whether both came
abbrev pub are_both : Partners → Bool
are_both m = is_some m.first && is_some m.second

-- the key of the first rec with the sum of both values, if there are two
abbrev pub zipped_recs : Option Rec → Option Rec → Option Rec
zipped_recs None y = None
zipped_recs (Some x) None = None
zipped_recs (Some x) (Some y) = Some (record { key = x.key; value = plus x.value y.value })

-- what a number makes a zip send
abbrev pub zipped : Partners → Option Rec
zipped m = zipped_recs m.first m.second

-- whether both stamps of a number are settled
abbrev pub are_settled : (Stamp → Bool) → ℕ → Bool
are_settled settled n = settled (side_stamp 0 n) && settled (side_stamp 1 n)

-- the numbers of which both stamps are settled are those below the limit
abbrev pub AreSettledBelow : Option ℕ → (Stamp → Bool) → Type 0
AreSettledBelow until settled = (n : ℕ) → is_below until n ≡ are_settled settled n

-- what is kept of a number: nothing once both its recs came and both their stamps are settled, else what came
abbrev pub kept_at : (Stamp → Bool) → ℕ → List Arrival → Partners
kept_at settled n came = if are_both (partners_at n came) && are_settled settled n then record { first = None; second = None } else partners_at n came

-- what a table has of a number
abbrev pub partners_in : Option Partners → Partners
partners_in None = record { first = None; second = None }
partners_in (Some m) = m

-- the table has of each number what is kept of it
abbrev pub IsZip : (Stamp → Bool) → Zip → List Arrival → Type 0
IsZip settled zip came = (n : ℕ) → partners_in (get nat_cmp zip.by_number n) ≡ kept_at settled n came

-- ---- for the proofs

-- whether a number goes, of which this is kept: its recs are there, and it is below the limit
abbrev pub goes_below : Option ℕ → ℕ → Partners → Bool
goes_below until n m = are_both m && is_below until n

-- What came to a node: lists of recs at stamps, the latest first.
use Rattle.std.specs.Prelude.{◌≡◌, ℕ, Bool, true, List, [], ◌∷◌, if◌then◌else◌, map, filter}
use Rattle.std.specs.List.{AllByRecursion}
use Rattle.fw_time.specs.Stamp.{Stamp, same}
use Rattle.fw_bag.specs.declared.rec.Rec.{Rec}

-- a rec that came to a node: on which of its in-edges, by the edge's place among them, and at which stamp
pub record Arrival : Type 0 where
  pub side : ℕ
  pub at : Stamp
  pub rec : Rec

-- a rec that came on an in-edge at a stamp
abbrev pub arrival : ℕ → Stamp → Rec → Arrival
arrival side t r = record { side = side; at = t; rec = r }

-- the arrivals at a stamp
abbrev pub arrivals_at : Stamp → List Arrival → List Arrival
arrivals_at t came = filter (λ a. same a.at t) came

-- the arrivals at the stamps that pass a test
abbrev pub arrivals_inside : (Stamp → Bool) → List Arrival → List Arrival
arrivals_inside test came = filter (λ a. test a.at) came

-- the recs of these arrivals
abbrev pub recs_of : List Arrival → List Rec
recs_of came = map (λ a. a.rec) came

-- the recs of the arrivals that pass a test
abbrev pub recs_where : (Arrival → Bool) → List Arrival → List Rec
recs_where test [] = []
recs_where test (a ∷ came) = if test a then a.rec ∷ recs_where test came else recs_where test came

-- the recs that came at a stamp
abbrev pub recs_arrived_at : Stamp → List Arrival → List Rec
recs_arrived_at t came = recs_of (arrivals_at t came)

-- the recs that came at the stamps that pass a test
abbrev pub recs_inside : (Stamp → Bool) → List Arrival → List Rec
recs_inside test came = recs_where (λ a. test a.at) came

-- each arrival is at a stamp that passes the test
abbrev pub AreInside : (Stamp → Bool) → List Arrival → Type 0
AreInside test came = AllByRecursion (λ a. test a.at ≡ true) came

-- each arrival is at a time of the type that has these coordinates
abbrev pub AreTimes : {T : Type 0} → (T → Stamp) → List Arrival → Type 0
AreTimes {T} coords came = AllByRecursion (λ (a : Arrival). (t : T) × (coords t ≡ a.at)) came

-- How many there are of each stamp.
use Rattle.std.specs.Prelude.{◌≡◌, ℕ, ◌+◌, ◌-◌, ◌<◌, Bool, true, nat_lt, List, [], ◌∷◌, if◌then◌else◌, unwrap_or}
use Rattle.std.specs.List.{AllByRecursion}
use Rattle.std.specs.Map.{keys_of, lookup}
use Rattle.std.specs.BTreeMap.{is_at}
use Rattle.fw_time.specs.Stamp.{Stamp, same, in_domain, stamp_cmp}
use Rattle.fw_time.specs.declared.stamp.Bounds.{Bounds}
use Rattle.fw_frontier.specs.Frontier.{Frontier}
use Rattle.fw_frontier.specs.Front.{frontier_of}
use Rattle.fw_flow.specs.Counting.{how_many}

-- how many there are of a stamp
unfoldable pub times_in : Stamp → List (Stamp × ℕ) → ℕ
times_in t entries = unwrap_or (lookup (is_at (stamp_cmp t)) entries) 0

-- whether there is one of a stamp
abbrev pub has_one : Stamp → List (Stamp × ℕ) → Bool
has_one t entries = nat_lt 0 (times_in t entries)

-- there is one at least of each stamp that is listed
abbrev pub AreCountsPositive : List (Stamp × ℕ) → Type 0
AreCountsPositive [] = Unit {0}
AreCountsPositive (e ∷ es) = (0 < e.1) × AreCountsPositive es

-- the stamps are those of a domain, and there is one at least of each
pub record IsTallyOf (bounds : Bounds) (entries : List (Stamp × ℕ)) : Type 0 where
  pub of_domain : AllByRecursion (λ s. in_domain bounds s ≡ true) (keys_of entries)
  pub positive : AreCountsPositive entries

-- There is one more of a stamp, and of the others as many as before.
pub record HasOneMore (at : Stamp) (old new : List (Stamp × ℕ)) : Type 0 where
  pub times : (t : Stamp) → times_in t new ≡ (if same at t then times_in t old + 1 else times_in t old)
  pub domain : (bounds : Bounds) → IsTallyOf bounds old → in_domain bounds at ≡ true → IsTallyOf bounds new

-- There is one less of a stamp, if there was one, and of the others as many as before.
pub record HasOneLess (at : Stamp) (old new : List (Stamp × ℕ)) : Type 0 where
  pub times : (t : Stamp) → times_in t new ≡ (if same at t then times_in t old - 1 else times_in t old)
  pub domain : (bounds : Bounds) → IsTallyOf bounds old → IsTallyOf bounds new

-- There is none of a stamp, and of the others there are as many as before.
pub record HasNoMore (at : Stamp) (old new : List (Stamp × ℕ)) : Type 0 where
  pub times : (t : Stamp) → times_in t new ≡ (if same at t then 0 else times_in t old)
  pub domain : (bounds : Bounds) → IsTallyOf bounds old → IsTallyOf bounds new

-- how many there are at stamps inside
abbrev pub count_inside : Frontier → List (Stamp × ℕ) → ℕ
count_inside f [] = 0
count_inside f (entry ∷ entries) = if f entry.0 then entry.1 + count_inside f entries else count_inside f entries

-- So many more are counted at a stamp.
pub record HasManyMore (at : Stamp) (count : ℕ) (old new : List (Stamp × ℕ)) : Type 0 where
  pub times : (t : Stamp) → times_in t new ≡ (if same at t then times_in t old + count else times_in t old)
  pub counts : (f : Frontier) → count_inside f new ≡ count_inside f old + (if f at then count else 0)
  pub domain : (bounds : Bounds) → IsTallyOf bounds old → in_domain bounds at ≡ true → IsTallyOf bounds new

-- ---- for the proofs

-- There is one more of each of the stamps.
pub record HasEachMore (stamps : List Stamp) (old new : List (Stamp × ℕ)) : Type 0 where
  pub times : (t : Stamp) → times_in t new ≡ times_in t old + how_many (same t) stamps
  pub domain : (bounds : Bounds) → IsTallyOf bounds old → AllByRecursion (λ s. in_domain bounds s ≡ true) stamps → IsTallyOf bounds new

-- The stamps are among these, and where one of these is at or below a stamp, so is one of them.
pub record AreLowest (stamps all : List Stamp) : Type 0 where
  pub among : (bounds : Bounds) → AllByRecursion (λ s. in_domain bounds s ≡ true) all → AllByRecursion (λ s. in_domain bounds s ≡ true) stamps
  pub same : (bounds : Bounds) → AllByRecursion (λ s. in_domain bounds s ≡ true) all → (t : Stamp) → frontier_of bounds stamps t ≡ frontier_of bounds all t

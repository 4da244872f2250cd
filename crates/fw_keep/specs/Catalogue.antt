-- The catalogue of writes.
use Rattle.std.specs.Prelude.{◌≡◌, ℕ, ◌<◌, ◌≤◌, Bool, true, false, not, ◌==◌, List, [], ◌∷◌, ◌++◌, filter, map, length, take, drop, Option, Some, None, if◌then◌else◌}
use Rattle.std.specs.List.{AllByRecursion, Contains, list_any}
use Rattle.fw_keep.specs.declared.entry.Entry.{Entry}

-- The writes in order of asking, the next id, the ids of earlier writes whose bytes wait for a sweep, in order of their
-- going, whether memory was refused, and whether the store may hold records that others put.
pub record KeepState : Type 0 where
  pub entries : List Entry
  pub next : ℕ
  pub waiting : List ℕ
  pub refused : Bool
  pub shared : Bool

-- the ids of entries, in order
abbrev pub ids_of : List Entry → List ℕ
ids_of es = map (λ (e : Entry). e.id) es

-- whether an id is one of these
abbrev pub is_id_among : ℕ → List ℕ → Bool
is_id_among id ids = list_any (λ (other : ℕ). other == id) ids

-- whether an entry has the id
abbrev pub has_entry : ℕ → List Entry → Bool
has_entry id es = is_id_among id (ids_of es)

-- each id is below those after it
abbrev pub AreAscending : List ℕ → Type 0
AreAscending [] = Unit {0}
AreAscending (id ∷ ids) = AllByRecursion (λ later. id < later) ids × AreAscending ids

-- no id is there twice
abbrev pub AreDistinct : List ℕ → Type 0
AreDistinct [] = Unit {0}
AreDistinct (id ∷ ids) = (is_id_among id ids ≡ false) × AreDistinct ids

-- no entry is deeper than its id
abbrev pub AreNoDeeperThanIds : List Entry → Type 0
AreNoDeeperThanIds es = AllByRecursion (λ (e : Entry). e.depth ≤ e.id) es

-- It is the state of a catalogue: the ids of its entries ascend; those that wait are others, each once; all of them were drawn before
-- the next one; and no entry is deeper than its id.
pub record IsCatalogue (keep : KeepState) : Type 0 where
  pub ascending : AreAscending (ids_of keep.entries)
  pub distinct : AreDistinct keep.waiting
  pub apart : AllByRecursion (λ id. has_entry id keep.entries ≡ false) keep.waiting
  pub drawn : AllByRecursion (λ id. id < keep.next) (ids_of keep.entries)
  pub waiting_drawn : AllByRecursion (λ id. id < keep.next) keep.waiting
  pub depths : AreNoDeeperThanIds keep.entries

-- the id of the first entry in flight, if there is one
abbrev pub oldest : List Entry → Option ℕ
oldest [] = None
oldest (e ∷ es) = if e.acknowledged then oldest es else Some e.id

-- the first entry in flight, if there is one, is acknowledged
abbrev pub persisted : List Entry → List Entry
persisted [] = []
persisted (e ∷ es) = if e.acknowledged then e ∷ persisted es else record e { acknowledged = true } ∷ es

-- the entries at which the test gives true are gone, and their ids wait
abbrev pub without : (Entry → Bool) → KeepState → KeepState
without goes keep = record keep {
  entries = filter (λ e. not (goes e)) keep.entries;
  waiting = keep.waiting ++ ids_of (filter goes keep.entries);
}

-- ---- for the proofs

-- The entry has the id, and no other one of these has it.
pub record IsOnly (es : List Entry) (id : ℕ) (e : Entry) : Type 0 where
  pub named : e.id ≡ id
  pub only : (other : Entry) → Contains es other → other.id ≡ id → other ≡ e

-- the entries are acknowledged
abbrev pub AreAcknowledged : List Entry → Type 0
AreAcknowledged es = AllByRecursion (λ (e : Entry). e.acknowledged ≡ true) es

-- the entries are in flight
abbrev pub AreInFlight : List Entry → Type 0
AreInFlight es = AllByRecursion (λ (e : Entry). e.acknowledged ≡ false) es

-- So many entries are acknowledged: the first ones. The others are in flight.
pub record IsAcknowledgedUpTo (n : ℕ) (es : List Entry) : Type 0 where
  pub there : n ≤ length es
  pub first : AreAcknowledged (take n es)
  pub others : AreInFlight (drop n es)

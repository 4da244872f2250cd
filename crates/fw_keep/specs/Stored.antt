-- What a store holds of a catalogue, and what its calls leave.
use Rattle.std.specs.Prelude.{◌≡◌, ◌⊎◌, ℕ, Bool, true, false, ◌||◌, List, [], ◌∷◌, ◌++◌, Option, Some, None, option_map, is_some, IsSome, Result, Ok, Err}
use Rattle.std.specs.Option.{ForSome, option_and_then}
use Rattle.std.specs.List.{AllByRecursion, Contains}
use Rattle.std.specs.Ordering.{nat_cmp}
use Rattle.std.specs.FinMap as map
use Rattle.fw_flow.specs.Dataflow.{Dataflow}
use Rattle.fw_record.specs.declared.record.Record.{Record}
use Rattle.fw_record.specs.Sound.{IsSound}
use Rattle.fw_record.specs.Spelling.{spelling}
use Rattle.fw_keep.specs.declared.entry.Entry.{Entry}
use Rattle.fw_keep.specs.declared.fault.KeepFault.{KeepFault}
use Rattle.fw_keep.specs.declared.fault.KeepFault.TheVariants as fault
use Rattle.fw_keep.specs.Entry.{IsRecordOfEntry}
use Rattle.fw_keep.specs.Catalogue.{KeepState, has_entry, is_id_among}

-- the bytes of each id
abbrev pub Records : Type 0
Records = map.FinMap nat_cmp (List ℕ)

-- whether an entry has the id, or it waits
abbrev pub is_held : KeepState → ℕ → Bool
is_held keep id = has_entry id keep.entries || is_id_among id keep.waiting

-- the store holds nothing, where it tells its records
abbrev pub IsEmptyStore : Option Records → Type 0
IsEmptyStore records = ForSome records (λ held. held ≡ map.empty)

-- there is a record under the id of each entry
abbrev pub HasEntries : KeepState → Records → Type 0
HasEntries keep held = (id : ℕ) → has_entry id keep.entries ≡ true → IsSome (map.get held id)

-- there is a record under exactly the ids of the entries and those that wait for a sweep
abbrev pub HasJustHeld : KeepState → Records → Type 0
HasJustHeld keep held = (id : ℕ) → is_some (map.get held id) ≡ is_held keep id

-- Where the store tells its records, there is one under the id of each entry; where no others put any, under exactly the ids of the entries
-- and those that wait for a sweep.
abbrev pub IsStored : KeepState → Option Records → Type 0
IsStored keep records = ForSome records (λ held. HasEntries keep held × (keep.shared ≡ false → HasJustHeld keep held))

-- where the store tells its records, there is one under the id
abbrev pub IsThereUnder : ℕ → Option Records → Type 0
IsThereUnder id records = ForSome records (λ held. IsSome (map.get held id))

-- where the store tells its records, there is none under the id
abbrev pub IsNoneUnder : ℕ → Option Records → Type 0
IsNoneUnder id records = ForSome records (λ held. map.get held id ≡ None)

-- the records without the one under the id, if there is one
abbrev pub without_id : ℕ → Option Records → Option Records
without_id id records = option_map (λ held. map.remove held id) records

-- The records are as they were; where others may put some, all but the one under the id are.
abbrev pub IsFreed : Bool → ℕ → Option Records → Option Records → Type 0
IsFreed shared id old new = (new ≡ old) ⊎ ((shared ≡ true) × (new ≡ without_id id old))

-- the bytes under an id, where the store tells its records and there are some
abbrev pub bytes_under : ℕ → Option Records → Option (List ℕ)
bytes_under id records = option_and_then (λ held. map.get held id) records

-- of each of these entries the store holds the bytes that it held
abbrev pub KeepsBytes : List Entry → Option Records → Option Records → Type 0
KeepsBytes entries old new = (e : Entry) → Contains entries e → bytes_under e.id new ≡ bytes_under e.id old

-- The store tells its records, and holds this one as the entry's: it has a spelling, can be the entry's, and its bytes are
-- under the entry's id.
pub record HoldsAs (flow : Dataflow) (records : Option Records) (e : Entry) (r : Record) : Type 0 where
  pub sound : IsSound r
  pub of_entry : IsRecordOfEntry flow e r
  pub bytes : bytes_under e.id records ≡ Some (spelling r)

-- the records without those under the ids
abbrev pub without_ids : List ℕ → Records → Records
without_ids [] held = held
without_ids (id ∷ ids) held = map.remove (without_ids ids held) id

-- The records of the last of the waiting ids were removed, those of the ids that are left were not, nor any others.
pub record Sweeps (waiting : List ℕ) (old : Option Records) (left : List ℕ) (new : Option Records) : Type 0 where
  pub removed : List ℕ
  pub parts : waiting ≡ left ++ removed
  pub records : new ≡ option_map (without_ids removed) old

-- the bytes spell no record that can be that of the entry
abbrev pub SpellsNone : Dataflow → Entry → List ℕ → Type 0
SpellsNone flow e bytes = (r : Record) → IsSound r → bytes ≡ spelling r → IsRecordOfEntry flow e r → ⊥

-- What fetching the record of an entry answered, of the bytes that the store gave: Ok and `Damaged` come by reading these.
abbrev pub Fetches : Dataflow → Entry → Option (ℕ × List ℕ) → Result Record KeepFault → Type 0
Fetches flow e given (Ok r) = (given ≡ Some (e.id, spelling r)) × IsSound r × IsRecordOfEntry flow e r
Fetches flow e given (Err (fault.Damaged at bytes)) =
    (at ≡ e.id) × (given ≡ Some (e.id, bytes.items)) × SpellsNone flow e bytes.items
Fetches flow e given (Err fault.StoreFault) = Unit {0}
Fetches flow e given (Err fault.NoMemory) = Unit {0}

-- The record was fetched of the entry: it is one that can be the entry's, and where the store tells its records the one under
-- the entry's id.
pub record IsFetched (flow : Dataflow) (records : Option Records) (e : Entry) (r : Record) : Type 0 where
  pub sound : IsSound r
  pub fits : IsRecordOfEntry flow e r
  pub told : ForSome records (λ held. map.get held e.id ≡ Some (spelling r))

-- the bytes by which the answer came are those under the id, where the store tells its records
abbrev pub IsToldUnder : ℕ → Option Records → Result Record KeepFault → Type 0
IsToldUnder id records (Ok r) = ForSome records (λ held. map.get held id ≡ Some (spelling r))
IsToldUnder id records (Err (fault.Damaged at bytes)) = ForSome records (λ held. map.get held id ≡ Some bytes.items)
IsToldUnder id records (Err fault.StoreFault) = Unit {0}
IsToldUnder id records (Err fault.NoMemory) = Unit {0}

-- where the call gives a record it is this one, and it does not answer that it is damaged
abbrev pub GivesOnly : Record → Result Record KeepFault → Type 0
GivesOnly r (Ok other) = other ≡ r
GivesOnly r (Err (fault.Damaged at bytes)) = ⊥
GivesOnly r (Err fault.StoreFault) = Unit {0}
GivesOnly r (Err fault.NoMemory) = Unit {0}

-- the call does not answer that a record is damaged
abbrev pub GivesNoDamage : {T : Type 0} → Result T KeepFault → Type 0
GivesNoDamage (Ok x) = Unit {0}
GivesNoDamage (Err (fault.Damaged at bytes)) = ⊥
GivesNoDamage (Err fault.StoreFault) = Unit {0}
GivesNoDamage (Err fault.NoMemory) = Unit {0}

-- ---- for the proofs

-- where the store tells its records, there is one under each of the ids
abbrev pub AreThere : List ℕ → Option Records → Type 0
AreThere ids records = ForSome records (λ held. AllByRecursion (λ id. IsSome (map.get held id)) ids)

-- What reading bytes answered for an entry: the record that they spell, which can be the entry's, or that they spell none.
abbrev pub ReadsAs : Dataflow → Entry → List ℕ → Result Record KeepFault → Type 0
ReadsAs flow e bytes (Ok r) = IsSound r × (bytes ≡ spelling r) × IsRecordOfEntry flow e r
ReadsAs flow e bytes (Err (fault.Damaged at kept)) = (at ≡ e.id) × (kept.items ≡ bytes) × SpellsNone flow e bytes
ReadsAs flow e bytes (Err fault.StoreFault) = ⊥
ReadsAs flow e bytes (Err fault.NoMemory) = Unit {0}

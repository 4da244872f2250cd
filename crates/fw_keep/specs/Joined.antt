-- What the record of a write holds together with those of the writes on which it stands, and what fetching it so answers.
use Rattle.std.specs.Prelude.{◌≡◌, ℕ, ◌==◌, if◌then◌else◌, true, List, [], ◌∷◌, ◌++◌, map, reverse, Option, Some, None, Result, Ok, Err}
use Rattle.std.specs.List.{AllZip, Contains, flat_map}
use Rattle.std.specs.List.Sorted.{IsPermutation}
use Rattle.std.specs.Ordering.{nat_cmp}
use Rattle.std.specs.BTreeMap.{insert_entry}
use Rattle.std.specs.Option.{ForSome}
use Rattle.std.specs.FinMap as records
use Rattle.fw_time.specs.Stamp.{Stamp, stamp_cmp}
use Rattle.fw_bag.specs.declared.rec.Rec.{Rec}
use Rattle.fw_frontier.specs.declared.state.SentCount.{SentCount}
use Rattle.fw_frontier.specs.declared.state.Entries.{Entries}
use Rattle.fw_frontier.specs.declared.state.Entries.TheVariants.{Totals}
use Rattle.fw_bytes.specs.Sound.{each_may_follow}
use Rattle.fw_flow.specs.Dataflow.{Dataflow}
use Rattle.fw_record.specs.declared.logged.Logged.{Logged}
use Rattle.fw_record.specs.declared.record.Checkpoint.{Checkpoint}
use Rattle.fw_record.specs.declared.record.Record.{Record}
use Rattle.fw_record.specs.declared.record.Record.TheVariants as tagged
use Rattle.fw_record.specs.Sound.{may_follow_logged}
use Rattle.fw_record.specs.Spelling.{spelling}
use Rattle.fw_keep.specs.declared.entry.Entry.{Entry}
use Rattle.fw_keep.specs.declared.fault.KeepFault.{KeepFault}
use Rattle.fw_keep.specs.declared.fault.KeepFault.TheVariants as fault
use Rattle.fw_keep.specs.Entry.{base_of_record}
use Rattle.fw_keep.specs.Stored.{Records, IsFetched, SpellsNone}

-- ---- on what a write stands

-- Of these entries, the latest first, the one of an id and those on which it stands: its base, that one's base, and so on. The lowest comes
-- first, and the one of the id last.
abbrev pub chain_to : Option ℕ → List Entry → List Entry
chain_to None es = []
chain_to (Some id) [] = []
chain_to (Some id) (e ∷ es) = if e.id == id then chain_to e.base es ++ e ∷ [] else chain_to (Some id) es

-- the entries on which an entry stands, the lowest first and its base last
abbrev pub bases_of : List Entry → Entry → List Entry
bases_of entries e = chain_to e.base (reverse entries)

-- ---- what records hold together

-- what a record says of how many messages were sent from where
abbrev pub sends_of_record : Record → List SentCount
sends_of_record (tagged.State c) = c.state.sends
sends_of_record (tagged.Event node event) = []
sends_of_record (tagged.Changes base c) = c.state.sends

-- the totals among what a node holds
abbrev pub held_totals : Entries → List Rec
held_totals (Totals totals) = totals

-- the totals of a record
abbrev pub totals_of_record : Record → List Rec
totals_of_record (tagged.State c) = held_totals c.state.entries
totals_of_record (tagged.Event node event) = []
totals_of_record (tagged.Changes base c) = held_totals c.state.entries

-- the logged messages of a record
abbrev pub log_of_record : Record → List Logged
log_of_record (tagged.State c) = c.log
log_of_record (tagged.Event node event) = []
log_of_record (tagged.Changes base c) = c.log

-- these counts put into counts by cause, in order: each takes the place of an earlier one of its cause
abbrev pub counts_over : List (Stamp × ℕ) → List SentCount → List (Stamp × ℕ)
counts_over es [] = es
counts_over es (s ∷ ss) = counts_over (insert_entry stamp_cmp es s.cause s.count) ss

-- the count of a cause
abbrev pub count_at_cause : Stamp × ℕ → SentCount
count_at_cause e = record { cause = e.0; count = e.1 }

-- each cause of these counts with its last one, in ascending order of the causes
abbrev pub last_counts : List SentCount → List SentCount
last_counts ss = map count_at_cause (counts_over [] ss)

-- these totals put into totals by key, in order: each takes the place of an earlier one of its key
abbrev pub totals_over : List (ℕ × ℕ) → List Rec → List (ℕ × ℕ)
totals_over es [] = es
totals_over es (r ∷ rs) = totals_over (insert_entry nat_cmp es r.key r.value) rs

-- the total of a key
abbrev pub total_at_key : ℕ × ℕ → Rec
total_at_key e = record { key = e.0; value = e.1 }

-- each key of these totals with its last one, in ascending order of the keys
abbrev pub last_totals : List Rec → List Rec
last_totals rs = map total_at_key (totals_over [] rs)

-- It holds what these records hold together with the checkpoint that comes after them, each later one of which has changes since the one before it: of
-- each cause the last count, of each key the last total, and the messages of all logs, in order. All else is as the last one has it.
pub record IsJoinedCheckpoint (rs : List Record) (last joined : Checkpoint) : Type 0 where
  pub node : joined.node ≡ last.node
  pub recorded : joined.recorded ≡ last.recorded
  pub sent : joined.state.sent ≡ last.state.sent
  pub sends : joined.state.sends ≡ last_counts (flat_map sends_of_record rs ++ last.state.sends)
  pub totals : joined.state.entries ≡ Totals (last_totals (flat_map totals_of_record rs ++ held_totals last.state.entries))
  pub messages : IsPermutation (flat_map log_of_record rs ++ last.log) joined.log
  pub in_order : each_may_follow may_follow_logged [] joined.log ≡ true

-- the record of a checkpoint: of a whole one where there is no base, and else of changes on it
abbrev pub checkpoint_record : Option ℕ → Checkpoint → Record
checkpoint_record None c = tagged.State c
checkpoint_record (Some base) c = tagged.Changes base c

-- The record is what a write's own spells together with those of the writes on which it stands: changes are joined with these, and stand on what
-- the lowest of them stands on, so that they are whole where that one is. Any other record is given as it is.
abbrev pub AreJoined : List Record → Record → Record → Type 0
AreJoined (r ∷ rs) (tagged.Changes base c) given = (joined : Checkpoint) × (given ≡ checkpoint_record (base_of_record r) joined) × IsJoinedCheckpoint (r ∷ rs) c joined
AreJoined rs own given = given ≡ own

-- ---- what is fetched

-- The record was joined of one that was fetched of the entry, by the bytes that the store gave last, and of those that were fetched of the entries on
-- which it stands.
pub record IsFetchedOver (flow : Dataflow) (all : Option Records) (got : Option (ℕ × List ℕ)) (bases : List Entry) (e : Entry) (r : Record) : Type 0 where
  pub under : List Record
  pub own : Record
  pub lower : AllZip (IsFetched flow all) bases under
  pub itself : IsFetched flow all e own
  pub given : got ≡ Some (e.id, spelling own)
  pub joined : AreJoined under own r

-- The first of these entries whose bytes are wrong has this id: the store gave these last, and they spell no record of it. Of each entry before it
-- a record was fetched.
pub record IsFirstDamaged (flow : Dataflow) (all : Option Records) (got : Option (ℕ × List ℕ)) (es : List Entry) (id : ℕ) (bytes : List ℕ) : Type 0 where
  pub before : List Entry
  pub entry : Entry
  pub after : List Entry
  pub parts : es ≡ before ++ entry ∷ after
  pub read : List Record
  pub fetched : AllZip (IsFetched flow all) before read
  pub named : entry.id ≡ id
  pub given : got ≡ Some (id, bytes)
  pub told : ForSome all (λ held. records.get held id ≡ Some bytes)
  pub none : SpellsNone flow entry bytes

-- What fetching the record of an entry over those of the entries on which it stands answered: these are read first, the lowest first, and the reading
-- stops at the first whose bytes are wrong.
abbrev pub FetchesOver : Dataflow → Option Records → Option (ℕ × List ℕ) → List Entry → Entry → Result Record KeepFault → Type 0
FetchesOver flow all got bases e (Ok r) = IsFetchedOver flow all got bases e r
FetchesOver flow all got bases e (Err (fault.Damaged id bytes)) = IsFirstDamaged flow all got (bases ++ e ∷ []) id bytes.items
FetchesOver flow all got bases e (Err fault.StoreFault) = Unit {0}
FetchesOver flow all got bases e (Err fault.NoMemory) = Unit {0}

-- where the call gives a record it is joined of these, and it does not answer that one is damaged
abbrev pub GivesJoined : List Record → Record → Result Record KeepFault → Type 0
GivesJoined under own (Ok r) = AreJoined under own r
GivesJoined under own (Err (fault.Damaged id bytes)) = ⊥
GivesJoined under own (Err fault.StoreFault) = Unit {0}
GivesJoined under own (Err fault.NoMemory) = Unit {0}

-- ---- for the proofs

-- the record was fetched of each of these entries that has the id
abbrev pub IsFetchedAt : Dataflow → Option Records → List Entry → ℕ → Record → Type 0
IsFetchedAt flow all entries id r = (e : Entry) → Contains entries e → e.id ≡ id → IsFetched flow all e r

-- The first of these ids whose bytes are wrong is this one: the store gave these last, and they spell no record of an entry of the id. Under each id
-- before it a record was fetched.
pub record IsFirstDamagedId (flow : Dataflow) (all : Option Records) (got : Option (ℕ × List ℕ)) (entries : List Entry) (ids : List ℕ) (id : ℕ) (bytes : List ℕ) : Type 0 where
  pub before : List ℕ
  pub after : List ℕ
  pub parts : ids ≡ before ++ id ∷ after
  pub read : List Record
  pub fetched : AllZip (IsFetchedAt flow all entries) before read
  pub given : got ≡ Some (id, bytes)
  pub told : ForSome all (λ held. records.get held id ≡ Some bytes)
  pub none : (e : Entry) → Contains entries e → e.id ≡ id → SpellsNone flow e bytes

-- where fetching the records under these ids is refused so because one is damaged, it is the first one
abbrev pub IsDamagedAt : Dataflow → Option Records → Option (ℕ × List ℕ) → List Entry → List ℕ → KeepFault → Type 0
IsDamagedAt flow all got entries ids (fault.Damaged id bytes) = IsFirstDamagedId flow all got entries ids id bytes.items
IsDamagedAt flow all got entries ids fault.StoreFault = Unit {0}
IsDamagedAt flow all got entries ids fault.NoMemory = Unit {0}

-- What is got back of a catalogue: the writes that a root names, each read again, in order.
use Rattle.std.specs.Prelude.{◌≡◌, ℕ, ◌<◌, ◌^◌, true, false, List, ◌∷◌, ◌++◌, map, Option, Some, Result, Ok, Err}
use Rattle.std.specs.List.{AllByRecursion}
use Rattle.fw_flow.specs.declared.choice.Stamps.{Stamps}
use Rattle.fw_flow.specs.Dataflow.{System, Dataflow}
use Rattle.fw_flow.specs.WellFormed.{IsWellFormedSystem}
use Rattle.fw_model.specs.Machine.{Machine}
use Rattle.fw_model.specs.Reached.{IsReached}
use Rattle.fw_bytes.specs.Sound.{IsList}
use Rattle.fw_record.specs.declared.record.Record.{Record}
use Rattle.fw_record.specs.declared.record.Record.TheVariants as tagged
use Rattle.fw_record.specs.Sound.{IsSound}
use Rattle.fw_keep.specs.declared.entry.Entry.{Entry}
use Rattle.fw_keep.specs.declared.fault.KeepFault.{KeepFault}
use Rattle.fw_keep.specs.declared.fault.KeepFault.TheVariants as fault
use Rattle.fw_keep.specs.Catalogue.{KeepState, AreAcknowledged, ids_of, is_id_among}
use Rattle.fw_keep.specs.Named.{IsRecordNamed, SpellsNoneNamed, with_read}
use Rattle.fw_keep.specs.Stored.{Records, IsToldUnder}
use Rattle.fw_stands.specs.Entries.{AreBasesOf}
use Rattle.fw_stands.specs.Written.{AreEntriesOf, AreStored}
use Rattle.fw_root.specs.declared.root.NamedWrite.{NamedWrite}
use Rattle.fw_root.specs.declared.root.Root.{Root}
use Rattle.fw_root.specs.Sound.{IsId, IsNamedWrite, may_follow_writes, may_follow_others}
use Rattle.fw_regain.specs.GotBack.{AreGotBack}
use Rattle.fw_regain.specs.RootOf.{IsRootOf}
use Rattle.fw_resume.specs.Named.{AreNamed}
use Rattle.fw_resume.specs.Names.{name_of, kept_writes}

-- The ids of a root, and the names of its writes, are those of one of the dataflow.
pub record AreNamesFor (flow : Dataflow) (root : Root) : Type 0 where
  pub next_id : root.next_id < 2 ^ 62
  pub writes : IsList (2 ^ 64) IsNamedWrite (may_follow_writes flow root.next_id) root.writes
  pub others : IsList (2 ^ 64) IsId (may_follow_others root.next_id root.writes) root.others

-- the stamps are got back from what is recorded of a checkpoint; of an event there are none to be kept
abbrev pub AreStampsBack : Dataflow → Record → Stamps → Type 0
AreStampsBack flow (tagged.State c) stamps = AreGotBack flow c.node c.recorded stamps
AreStampsBack flow (tagged.Event node event) stamps = Unit {0}
AreStampsBack flow (tagged.Changes base c) stamps = AreGotBack flow c.node c.recorded stamps

-- ---- all of them

-- The writes are those that the root names, in order, and are acknowledged; the next id and those that wait are the root's; and the
-- store may hold what others put.
pub record IsReadOf (root : Root) (keep : KeepState) : Type 0 where
  pub names : map name_of keep.entries ≡ root.writes
  pub acknowledged : AreAcknowledged keep.entries
  pub next : keep.next ≡ root.next_id
  pub waiting : keep.waiting ≡ root.others
  pub refused : keep.refused ≡ false
  pub shared : keep.shared ≡ true

-- The root is one of a state to which steps of a well-formed system of the dataflow lead, and the records hold the writes that it names.
pub record IsNamedState (flow : Dataflow) (root : Root) (records : Option Records) (sys : System) (state : Machine) : Type 0 where
  pub of_flow : sys.flow ≡ flow
  pub well_formed : IsWellFormedSystem sys
  pub reached : IsReached sys state
  pub of_state : IsRootOf sys state root
  pub named : AreNamed sys state root records

-- The entries stand for the writes of the state that are kept, each on the base of its write, and where the store tells its records,
-- they hold those of the writes.
pub record HoldsKept (sys : System) (state : Machine) (records : Option Records) (keep : KeepState) : Type 0 where
  pub entries : AreEntriesOf sys state keep.entries (kept_writes state)
  pub bases : AreBasesOf keep.entries keep.entries (kept_writes state)
  pub stored : AreStored sys state records keep.entries (kept_writes state)

-- so the catalogue does that was got back, and no record is damaged
abbrev pub GivesKept : System → Machine → Option Records → Result KeepState KeepFault → Type 0
GivesKept sys state records (Ok keep) = HoldsKept sys state records keep
GivesKept sys state records (Err (fault.Damaged id bytes)) = ⊥
GivesKept sys state records (Err fault.StoreFault) = Unit {0}
GivesKept sys state records (Err fault.NoMemory) = Unit {0}

-- The root names a write with this id, and the bytes that were given last, under it, spell no record that can be that of such a write,
-- beside the entries of the writes that are named before it.
pub record IsNamedDamage (flow : Dataflow) (root : Root) (given : Option (ℕ × List ℕ)) (id : ℕ) : Type 0 where
  pub bytes : List ℕ
  pub entries : List Entry
  pub name : NamedWrite
  pub later : List NamedWrite
  pub there : root.writes ≡ map name_of entries ++ name ∷ later
  pub of_id : name.id ≡ id
  pub gave : given ≡ Some (id, bytes)
  pub none : SpellsNoneNamed flow entries name.node name.tag bytes

-- so it is where a record is said to be damaged
abbrev pub TellsDamage : {T : Type 0} → Dataflow → Root → Option (ℕ × List ℕ) → Result T KeepFault → Type 0
TellsDamage flow root given (Ok x) = Unit {0}
TellsDamage flow root given (Err (fault.Damaged id bytes)) = IsNamedDamage flow root given id
TellsDamage flow root given (Err fault.StoreFault) = Unit {0}
TellsDamage flow root given (Err fault.NoMemory) = Unit {0}

-- ---- one after the other

-- A write may be read next under this id: the id is above those of the entries, drawn, and does not wait; all entries are acknowledged.
pub record MayReadNext (id : ℕ) (keep : KeepState) : Type 0 where
  pub above : AllByRecursion (λ other. other < id) (ids_of keep.entries)
  pub drawn : id < keep.next
  pub few : keep.next < 2 ^ 62
  pub apart : is_id_among id keep.waiting ≡ false
  pub acknowledged : AreAcknowledged keep.entries

-- The write that is named so was read, and is the last one: its record can be that of such a write, and is the one under its id where
-- the store tells its records.
pub record IsReadNext (flow : Dataflow) (name : NamedWrite) (records : Option Records) (old new : KeepState) : Type 0 where
  pub what : Record
  pub stamps : Stamps
  pub sound : IsSound what
  pub named : IsRecordNamed flow old.entries name.node name.tag what
  pub told : IsToldUnder name.id records (Ok what)
  pub back : AreStampsBack flow what stamps
  pub added : new ≡ with_read name.id what stamps old

-- the bytes that were given last, under the id of this name, spell no record of it, where that is said to be damaged
abbrev pub TellsDamageOf : {T : Type 0} → Dataflow → List Entry → NamedWrite → Option (ℕ × List ℕ) → Result T KeepFault → Type 0
TellsDamageOf flow entries name given (Ok x) = Unit {0}
TellsDamageOf flow entries name given (Err (fault.Damaged id bytes)) =
    (name.id ≡ id) × (given ≡ Some (id, bytes.items)) × SpellsNoneNamed flow entries name.node name.tag bytes.items
TellsDamageOf flow entries name given (Err fault.StoreFault) = Unit {0}
TellsDamageOf flow entries name given (Err fault.NoMemory) = Unit {0}

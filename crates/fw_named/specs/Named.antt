-- Which records a store holds of the writes that a root names.
use Rattle.std.specs.Prelude.{◌≡◌, ℕ, List, map, filter, Option, Some}
use Rattle.std.specs.List.{Contains}
use Rattle.fw_flow.specs.Dataflow.{System}
use Rattle.fw_model.specs.Choice.{is_counted, kept}
use Rattle.fw_model.specs.Machine.{Machine, Write}
use Rattle.fw_keep.specs.declared.entry.Entry.{Entry}
use Rattle.fw_keep.specs.Catalogue.{ids_of}
use Rattle.fw_keep.specs.Stored.{Records, AreThere, bytes_under}
use Rattle.fw_stands.specs.Entries.{AreBasesOf}
use Rattle.fw_stands.specs.Written.{AreEntriesOf, AreStored}
use Rattle.fw_root.specs.declared.root.NamedWrite.{NamedWrite}
use Rattle.fw_root.specs.declared.root.Root.{Root}

-- the writes that are kept: acknowledged, and not collected
abbrev pub kept_writes : Machine → List Write
kept_writes state = filter (λ (write : Write). is_counted kept write.stage) state.writes

-- the ids that a root names, in order
abbrev pub named_ids : Root → List ℕ
named_ids root = map (λ (w : NamedWrite). w.id) root.writes

-- The records hold the writes that a root names: under each of its ids, in order, there is an entry that stands for a write that is kept, on
-- the base of that; and where the store tells its records, they hold as the entries' the records of the writes.
pub record AreNamed (sys : System) (state : Machine) (root : Root) (records : Option Records) : Type 0 where
  pub entries : List Entry
  pub ids : ids_of entries ≡ named_ids root
  pub stand : AreEntriesOf sys state entries (kept_writes state)
  pub bases : AreBasesOf entries entries (kept_writes state)
  pub stored : AreStored sys state records entries (kept_writes state)

-- where writes are named, the store has a record under each of their ids, where it tells its records
abbrev pub AreThereWhereNamed : Type 0
AreThereWhereNamed = (sys : System) (state : Machine) (root : Root) (records : Option Records) → AreNamed sys state root records
    → AreThere (named_ids root) records

-- writes stay named where under each of their ids is what was there
abbrev pub StayNamed : Type 0
StayNamed = (sys : System) (state : Machine) (root : Root) (old new : Records)
    → ((id : ℕ) → Contains (named_ids root) id → bytes_under id (Some new) ≡ bytes_under id (Some old))
    → AreNamed sys state root (Some old) → AreNamed sys state root (Some new)

-- Under which names a root has the writes of a catalogue, and which of its ids are others.
use Rattle.std.specs.Prelude.{◌≡◌, ℕ, not, List, ◌++◌, filter, map, Option, Some, None}
use Rattle.std.specs.List.Sorted.{IsPermutation, IsStrictlyIncreasing}
use Rattle.fw_keep.specs.declared.entry.Entry.{Entry}
use Rattle.fw_keep.specs.declared.entry.Written.{Written}
use Rattle.fw_keep.specs.declared.entry.Written.TheVariants as written
use Rattle.fw_keep.specs.Catalogue.{KeepState, ids_of}
use Rattle.fw_root.specs.declared.root.NamedWrite.{NamedWrite}
use Rattle.fw_root.specs.declared.root.Root.{Root}
pub use Rattle.fw_named.specs.Named.{kept_writes}

-- the tag of a write, on this base or whole: 1 of a whole checkpoint, 2 of an event, 3 of changes
abbrev pub tag_of_written : Written → Option ℕ → ℕ
tag_of_written (written.Checkpoint recorded stamps sent) None = 1
tag_of_written (written.Checkpoint recorded stamps sent) (Some base) = 3
tag_of_written (written.Event event) base = 2

abbrev pub tag_of_entry : Entry → ℕ
tag_of_entry e = tag_of_written e.written e.base

-- the name of a write
abbrev pub name_of : Entry → NamedWrite
name_of e = record { id = e.id; node = e.node; tag = tag_of_entry e }

-- the ids of the writes in flight, and those that wait for a sweep
abbrev pub other_ids : KeepState → List ℕ
other_ids keep = ids_of (filter (λ (e : Entry). not e.acknowledged) keep.entries) ++ keep.waiting

-- these are those ids, in ascending order
pub record AreOthers (keep : KeepState) (ids : List ℕ) : Type 0 where
  pub same : IsPermutation (other_ids keep) ids
  pub rise : IsStrictlyIncreasing ids

-- The root names the writes of a catalogue that are acknowledged, in order of asking, and has the other ids that were drawn and may have
-- bytes.
pub record HasIdsOf (keep : KeepState) (root : Root) : Type 0 where
  pub next : root.next_id ≡ keep.next
  pub writes : root.writes ≡ map name_of (filter (λ (e : Entry). e.acknowledged) keep.entries)
  pub others : AreOthers keep root.others

-- What a root names: which record stands under an id as a write of a node that is named by a tag, and what reading it answers.
use Rattle.std.specs.Prelude.{◌≡◌, ℕ, true, List, [], ◌∷◌, ◌++◌, Option, Some, Result, Ok, Err}
use Rattle.fw_time.specs.Stamp.{in_domain}
use Rattle.fw_flow.specs.Dataflow.{Dataflow, bounds_of}
use Rattle.fw_flow.specs.declared.choice.Stamps.{Stamps}
use Rattle.fw_record.specs.declared.record.Checkpoint.{Checkpoint}
use Rattle.fw_record.specs.declared.record.Record.{Record}
use Rattle.fw_record.specs.declared.record.Record.TheVariants as tagged
use Rattle.fw_record.specs.Event.{stamp_of_event}
use Rattle.fw_record.specs.OfNode.{AreOfDomain, IsCheckpointRecordOf, AreChangesOf}
use Rattle.fw_record.specs.Sound.{IsSound}
use Rattle.fw_record.specs.Spelling.{spelling}
use Rattle.fw_keep.specs.declared.entry.Entry.{Entry}
use Rattle.fw_keep.specs.declared.fault.KeepFault.{KeepFault}
use Rattle.fw_keep.specs.declared.fault.KeepFault.TheVariants as fault
use Rattle.fw_keep.specs.Entry.{node_of_record, read_beside, IsBased}
use Rattle.fw_keep.specs.Catalogue.{KeepState}
use Rattle.fw_keep.specs.Stored.{Records, bytes_under}

-- the tag of a record, as its fourth byte says it: 1 of a whole checkpoint, 2 of an event, 3 of changes
abbrev pub tag_of_record : Record → ℕ
tag_of_record (tagged.State c) = 1
tag_of_record (tagged.Event node event) = 2
tag_of_record (tagged.Changes base c) = 3

-- The front of the checkpoint is by stamps of the domain of its node.
abbrev pub HasFrontOfDomain : Dataflow → Checkpoint → Type 0
HasFrontOfDomain flow c = AreOfDomain flow c.node c.recorded.front

-- The record can be that of a checkpoint of its node at its front, whole or of changes, and the front is of the node's domain; an event
-- is at a stamp of the domain of its node.
abbrev pub IsRecordOfFlow : Dataflow → Record → Type 0
IsRecordOfFlow flow (tagged.State c) = IsCheckpointRecordOf flow c.node c.recorded.front c × HasFrontOfDomain flow c
IsRecordOfFlow flow (tagged.Event node event) = in_domain (bounds_of flow node) (stamp_of_event event) ≡ true
IsRecordOfFlow flow (tagged.Changes base c) = AreChangesOf flow c.node c.recorded.front c × HasFrontOfDomain flow c

-- The record can be that of the write of node p that is named with this tag, beside these earlier entries: it is of the flow, and where
-- it holds changes its base is one of them, a checkpoint of its node.
pub record IsRecordNamed (flow : Dataflow) (es : List Entry) (p tag : ℕ) (r : Record) : Type 0 where
  pub of_node : node_of_record r ≡ p
  pub of_tag : tag_of_record r ≡ tag
  pub of_flow : IsRecordOfFlow flow r
  pub based : IsBased es r

-- the write of a record that was read under an id is the last one, acknowledged
abbrev pub with_read : ℕ → Record → Stamps → KeepState → KeepState
with_read id r stamps keep = record keep { entries = keep.entries ++ read_beside keep.entries id r stamps ∷ [] }

-- The store tells its records, and holds this one under the id as the write's: it has a spelling, can be that of the write that is named
-- so, and its bytes are under the id.
pub record HoldsNamed (flow : Dataflow) (es : List Entry) (records : Option Records) (id p tag : ℕ) (r : Record) : Type 0 where
  pub sound : IsSound r
  pub named : IsRecordNamed flow es p tag r
  pub bytes : bytes_under id records ≡ Some (spelling r)

-- the bytes spell no record that can be that of the write that is named so
abbrev pub SpellsNoneNamed : Dataflow → List Entry → ℕ → ℕ → List ℕ → Type 0
SpellsNoneNamed flow es p tag bytes = (r : Record) → IsSound r → bytes ≡ spelling r → IsRecordNamed flow es p tag r → ⊥

-- What reading the record of a write that is named answered, of the bytes that the store gave: Ok and `Damaged` come by reading these.
abbrev pub FetchesNamed : Dataflow → List Entry → ℕ → ℕ → ℕ → Option (ℕ × List ℕ) → Result Record KeepFault → Type 0
FetchesNamed flow es id p tag given (Ok r) = (given ≡ Some (id, spelling r)) × IsSound r × IsRecordNamed flow es p tag r
FetchesNamed flow es id p tag given (Err (fault.Damaged at bytes)) =
    (at ≡ id) × (given ≡ Some (id, bytes.items)) × SpellsNoneNamed flow es p tag bytes.items
FetchesNamed flow es id p tag given (Err fault.StoreFault) = Unit {0}
FetchesNamed flow es id p tag given (Err fault.NoMemory) = Unit {0}

-- ---- for the proofs

-- What reading bytes answered for a write that is named: the record that they spell, which can be the write's, or that they spell none.
abbrev pub ReadsNamed : Dataflow → List Entry → ℕ → ℕ → ℕ → List ℕ → Result Record KeepFault → Type 0
ReadsNamed flow es id p tag bytes (Ok r) = IsSound r × (bytes ≡ spelling r) × IsRecordNamed flow es p tag r
ReadsNamed flow es id p tag bytes (Err (fault.Damaged at kept)) = (at ≡ id) × (kept.items ≡ bytes) × SpellsNoneNamed flow es p tag bytes
ReadsNamed flow es id p tag bytes (Err fault.StoreFault) = ⊥
ReadsNamed flow es id p tag bytes (Err fault.NoMemory) = Unit {0}

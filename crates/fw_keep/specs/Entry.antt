-- The writes of a catalogue: what an entry has of a record, and which entries a call speaks of.
use Rattle.std.specs.Prelude.{◌≡◌, ℕ, ◌+◌, Bool, true, false, not, ◌&&◌, ◌==◌, if◌then◌else◌, nat_le, List, [], ◌∷◌, Option, Some, None}
use Rattle.std.specs.List.{Contains}
use Rattle.fw_time.specs.Stamp.{Stamp, same}
use Rattle.fw_frontier.specs.Front.{Front, inside, is_within, same_front}
use Rattle.fw_flow.specs.Dataflow.{Dataflow}
use Rattle.fw_flow.specs.declared.choice.Cut.{Cut}
use Rattle.fw_flow.specs.declared.choice.Cut.TheVariants.{Present, At}
use Rattle.fw_flow.specs.declared.choice.Recorded.{Recorded}
use Rattle.fw_flow.specs.declared.choice.Stamps.{Stamps}
use Rattle.fw_record.specs.declared.record.Record.{Record}
use Rattle.fw_record.specs.declared.record.Record.TheVariants as tagged
use Rattle.fw_record.specs.Event.{stamp_of_event}
use Rattle.fw_record.specs.OfNode.{IsRecordOfCheckpoint, IsRecordOfChanges, IsRecordOfEvent}
use Rattle.fw_keep.specs.declared.entry.Entry.{Entry}
use Rattle.fw_keep.specs.declared.entry.Written.{Written}
use Rattle.fw_keep.specs.declared.entry.Written.TheVariants as written

-- whether a checkpoint is written
abbrev pub is_checkpoint : Written → Bool
is_checkpoint (written.Checkpoint recorded stamps sent) = true
is_checkpoint (written.Event event) = false

-- the front of what is written, if it is a checkpoint
abbrev pub written_front : Written → Option Front
written_front (written.Checkpoint recorded stamps sent) = Some recorded.front
written_front (written.Event event) = None

-- ---- what an entry has of a record

-- the node of a record
abbrev pub node_of_record : Record → ℕ
node_of_record (tagged.State c) = c.node
node_of_record (tagged.Event node event) = node
node_of_record (tagged.Changes base c) = c.node

-- what is written by a record, with these stamps of the node's events where it is a checkpoint
abbrev pub written_of : Record → Stamps → Written
written_of (tagged.State c) stamps = written.Checkpoint c.recorded stamps c.state.sent
written_of (tagged.Event node event) stamps = written.Event event
written_of (tagged.Changes base c) stamps = written.Checkpoint c.recorded stamps c.state.sent

-- the id of the base of a record, if it holds changes
abbrev pub base_of_record : Record → Option ℕ
base_of_record (tagged.Changes base c) = Some base
base_of_record other = None

-- the depth of the entry of this id; 0 where there is none
abbrev pub depth_at : ℕ → List Entry → ℕ
depth_at id [] = 0
depth_at id (e ∷ es) = if e.id == id then e.depth else depth_at id es

-- how deep it is what stands on this base: one deeper than that; 0 where it has no base
abbrev pub depth_on : Option ℕ → List Entry → ℕ
depth_on None es = 0
depth_on (Some base) es = depth_at base es + 1

-- the entry of a record under an id, in flight, beside these earlier ones
abbrev pub asked_beside : List Entry → ℕ → Record → Stamps → Entry
asked_beside es id r stamps = record {
  id = id;
  node = node_of_record r;
  written = written_of r stamps;
  base = base_of_record r;
  depth = depth_on (base_of_record r) es;
  acknowledged = false;
}

-- the entry of a record that is whole, which stands on no other
abbrev pub asked : ℕ → Record → Stamps → Entry
asked id r stamps = asked_beside [] id r stamps

-- the entry of a record that was read under an id, acknowledged, beside these earlier ones
abbrev pub read_beside : List Entry → ℕ → Record → Stamps → Entry
read_beside es id r stamps = record (asked_beside es id r stamps) { acknowledged = true }

-- One of these entries has this id, and is a checkpoint of node p.
pub record IsBase (es : List Entry) (id p : ℕ) : Type 0 where
  pub entry : Entry
  pub there : Contains es entry
  pub named : entry.id ≡ id
  pub of_node : entry.node ≡ p
  pub of_checkpoint : is_checkpoint entry.written ≡ true

-- where the record holds changes, its base is one of these entries, a checkpoint of its node
abbrev pub IsBased : List Entry → Record → Type 0
IsBased es (tagged.Changes base c) = IsBase es base c.node
IsBased es other = Unit {0}

-- this is recorded in it: a frontier, and what stands for the events inside
abbrev pub HasRecorded : Recorded → Record → Type 0
HasRecorded recorded (tagged.State c) = c.recorded ≡ recorded
HasRecorded recorded (tagged.Event node event) = ⊥
HasRecorded recorded (tagged.Changes base c) = c.recorded ≡ recorded

-- the record can be that of a checkpoint of node p at f: of a whole one where there is no base, and else of changes on it
abbrev pub IsRecordOn : Dataflow → ℕ → Front → Option ℕ → Record → Type 0
IsRecordOn flow p f None r = IsRecordOfCheckpoint flow p f r
IsRecordOn flow p f (Some id) r = IsRecordOfChanges flow p f id r

-- The record can be that of a checkpoint of node p in which this is recorded, on this base or whole.
pub record IsRecordWith (flow : Dataflow) (p : ℕ) (base : Option ℕ) (held : Recorded) (r : Record) : Type 0 where
  pub of_node : IsRecordOn flow p held.front base r
  pub recorded : HasRecorded held r

-- the record can be that of the entry: of a checkpoint of its node in which the same is recorded, or of its event
abbrev pub IsRecordAs : Dataflow → ℕ → Option ℕ → Written → Record → Type 0
IsRecordAs flow p base (written.Checkpoint recorded stamps sent) r = IsRecordWith flow p base recorded r
IsRecordAs flow p base (written.Event event) r = IsRecordOfEvent p event r

abbrev pub IsRecordOfEntry : Dataflow → Entry → Record → Type 0
IsRecordOfEntry flow e r = IsRecordAs flow e.node e.base e.written r

-- ---- which entries a call speaks of

-- whether what is written lies within a frontier: a checkpoint by its frontier, an event by its stamp
abbrev pub lies_within : Front → Written → Bool
lies_within f (written.Checkpoint recorded stamps sent) = is_within recorded.front f
lies_within f (written.Event event) = inside f (stamp_of_event event)

-- whether a checkpoint is written whose front this is
abbrev pub is_written_at : Front → Written → Bool
is_written_at f (written.Checkpoint recorded stamps sent) = same_front recorded.front f
is_written_at f (written.Event event) = false

-- whether it is a checkpoint strictly within a frontier
abbrev pub is_checkpoint_below : Front → Written → Bool
is_checkpoint_below f (written.Checkpoint recorded stamps sent) = is_within recorded.front f && not (is_within f recorded.front)
is_checkpoint_below f (written.Event event) = false

-- whether what is written does not lie within the cut
abbrev pub is_beyond : Cut → Entry → Bool
is_beyond Present e = false
is_beyond (At f) e = not (lies_within f e.written)

-- whether it is an event at a stamp
abbrev pub is_event_at : Stamp → Written → Bool
is_event_at t (written.Checkpoint recorded stamps sent) = false
is_event_at t (written.Event event) = same (stamp_of_event event) t

-- the node's entries in flight
abbrev pub is_in_flight_of : ℕ → Entry → Bool
is_in_flight_of p e = (e.node == p) && not e.acknowledged

-- the entries in flight from an id on
abbrev pub is_withdrawn : ℕ → Entry → Bool
is_withdrawn id e = not e.acknowledged && nat_le id e.id

-- the node's entries that do not lie within a frontier
abbrev pub is_above : ℕ → Front → Entry → Bool
is_above p f e = (e.node == p) && not (lies_within f e.written)

-- the node's checkpoints strictly within a frontier
abbrev pub is_entry_below : ℕ → Front → Entry → Bool
is_entry_below p f e = (e.node == p) && is_checkpoint_below f e.written

-- the node's events at a stamp
abbrev pub is_at : ℕ → Stamp → Entry → Bool
is_at p t e = (e.node == p) && is_event_at t e.written

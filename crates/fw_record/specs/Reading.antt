-- Reading a record field by field, up to the first broken one.
use Rattle.std.specs.Prelude.{◌≡◌, ℕ, ◌+◌, Bool, ◌&&◌, ◌||◌, ◌==◌, List, [], length, Result, Ok, Err, if◌then◌else◌}
use Rattle.std.specs.Int.{w16, w32, w64}
use Rattle.std.specs.List.{list_any}
use Rattle.fw_bag.specs.declared.rec.Rec.{Rec}
use Rattle.fw_frontier.specs.declared.state.Entries.{Entries}
use Rattle.fw_frontier.specs.declared.state.Entries.TheVariants.{Totals}
use Rattle.fw_frontier.specs.declared.state.State.{State}
use Rattle.fw_bytes.specs.Fields.{byte_of, number_field, stamp_field}
use Rattle.fw_bytes.specs.Reading.{Reading, ◌>>=◌, kept_if, any, many_of, read_front, sent_counts_of}
use Rattle.fw_flow.specs.declared.choice.OfEdge.{OfEdge}
use Rattle.fw_record.specs.declared.fault.RecordFault.{RecordFault}
use Rattle.fw_record.specs.declared.fault.RecordFault.TheVariants as answer
use Rattle.fw_record.specs.declared.logged.Logged.{Logged}
use Rattle.fw_record.specs.declared.record.Checkpoint.{Checkpoint}
use Rattle.fw_record.specs.declared.record.Event.{Event}
use Rattle.fw_record.specs.declared.record.Event.TheVariants.{Deliver, Notify}
use Rattle.fw_record.specs.declared.record.Record.{Record}
use Rattle.fw_record.specs.declared.record.Record.TheVariants as tagged
use Rattle.fw_record.specs.Fields.{rec_of, logged_of}
use Rattle.fw_record.specs.Spelling.{tags, version_of}
use Rattle.fw_record.specs.Sound.{may_follow_edges, may_follow_totals, may_follow_logged}

-- ---- fields with their rules

-- the next total
abbrev pub next_total_of : List Rec → List ℕ → Reading Rec
next_total_of before bytes = kept_if (may_follow_totals before) bytes (rec_of bytes)

-- the next logged message
abbrev pub next_logged_of : List Logged → List ℕ → Reading Logged
next_logged_of before bytes = kept_if (may_follow_logged before) bytes (logged_of bytes)

-- ---- a checkpoint

-- the next edge, and its front
unfoldable pub of_edge_of : List OfEdge → List ℕ → Reading OfEdge
of_edge_of before bytes = do
  edge ← kept_if (may_follow_edges before) bytes (number_field w32 bytes)
  front ← read_front edge.1
  Ok (record { edge = edge.0; front = front.0 }, front.1)

-- a count, and that many edges with their fronts
unfoldable pub of_edges_of : List ℕ → Reading (List OfEdge)
of_edges_of bytes = do
  count ← any bytes (number_field w32 bytes)
  many_of of_edge_of count.0 [] count.1

-- a count, and that many totals
unfoldable pub totals_of : List ℕ → Reading (List Rec)
totals_of bytes = do
  count ← any bytes (number_field w64 bytes)
  many_of next_total_of count.0 [] count.1

-- what a node holds: its totals
unfoldable pub read_entries : List ℕ → Reading Entries
read_entries bytes = do
  totals ← totals_of bytes
  Ok (Totals totals.0, totals.1)

-- how many messages were sent, how many from where, and what is held
unfoldable pub read_state : List ℕ → Reading State
read_state bytes = do
  sent ← any bytes (number_field w64 bytes)
  sends ← sent_counts_of sent.1
  entries ← read_entries sends.1
  Ok (record { sent = sent.0; sends = sends.0; entries = entries.0 }, entries.1)

-- a count, and that many logged messages
unfoldable pub read_log : List ℕ → Reading (List Logged)
read_log bytes = do
  count ← any bytes (number_field w64 bytes)
  many_of next_logged_of count.0 [] count.1

-- a node, the frontier, what it covers, the state and the log
unfoldable pub read_checkpoint : List ℕ → Reading Checkpoint
read_checkpoint bytes = do
  node ← any bytes (number_field w32 bytes)
  front ← read_front node.1
  notified ← read_front front.1
  delivered ← of_edges_of notified.1
  discarded ← of_edges_of delivered.1
  state ← read_state discarded.1
  log ← read_log state.1
  Ok (
    record {
      node = node.0;
      recorded = record { front = front.0; notified = notified.0; delivered = delivered.0; discarded = discarded.0 };
      state = state.0;
      log = log.0;
    },
    log.1,
  )

-- a node, the frontier, the id of the base, and the other parts of a checkpoint, which are changes
unfoldable pub read_changes : List ℕ → Reading (ℕ × Checkpoint)
read_changes bytes = do
  node ← any bytes (number_field w32 bytes)
  front ← read_front node.1
  base ← any front.1 (number_field w64 front.1)
  notified ← read_front base.1
  delivered ← of_edges_of notified.1
  discarded ← of_edges_of delivered.1
  state ← read_state discarded.1
  log ← read_log state.1
  Ok (
    (
      base.0,
      record {
        node = node.0;
        recorded = record { front = front.0; notified = notified.0; delivered = delivered.0; discarded = discarded.0 };
        state = state.0;
        log = log.0;
      },
    ),
    log.1,
  )

-- ---- an event

-- a key and a value, each a field
unfoldable pub key_and_value_of : List ℕ → Reading Rec
key_and_value_of bytes = do
  key ← any bytes (number_field w64 bytes)
  value ← any key.1 (number_field w64 key.1)
  Ok (record { key = key.0; value = value.0 }, value.1)

-- a delivery
unfoldable pub delivery_of : List ℕ → Reading Event
delivery_of bytes = do
  edge ← any bytes (number_field w32 bytes)
  at ← any edge.1 (stamp_field edge.1)
  rec ← key_and_value_of at.1
  Ok (Deliver edge.0 at.0 rec.0, rec.1)

-- a notification
unfoldable pub read_notice : List ℕ → Reading Event
read_notice bytes = do
  at ← any bytes (stamp_field bytes)
  Ok (Notify at.0, at.1)

-- whether it is the byte of a delivery, 1, or of a notification, 2
abbrev pub is_event_byte : ℕ → Bool
is_event_byte b = b == 1 || b == 2

-- an event's byte, and what it says
unfoldable pub read_event : List ℕ → Reading Event
read_event bytes = do
  byte ← kept_if is_event_byte bytes (byte_of bytes)
  if byte.0 == 1 then delivery_of byte.1 else read_notice byte.1

-- ---- a record

-- whether some tag is of the version
abbrev pub is_version : ℕ → Bool
is_version version = list_any (λ tag. version == version_of tag) tags

-- whether the version has the tag
abbrev pub is_tag : ℕ → ℕ → Bool
is_tag version tag = version == version_of tag && list_any (λ known. tag == known) tags

-- the letters FW, a version, and a tag of that version
unfoldable pub tag_of : List ℕ → Reading ℕ
tag_of bytes = do
  magic ← kept_if (λ m. m == 18007) bytes (number_field w16 bytes)
  version ← kept_if is_version magic.1 (byte_of magic.1)
  kept_if (is_tag version.0) version.1 (byte_of version.1)

-- a node and one of its events
unfoldable pub event_record_of : List ℕ → Reading Record
event_record_of bytes = do
  node ← any bytes (number_field w32 bytes)
  event ← read_event node.1
  Ok (tagged.Event node.0 event.0, event.1)

-- a checkpoint as a record
unfoldable pub state_record_of : List ℕ → Reading Record
state_record_of bytes = do
  checkpoint ← read_checkpoint bytes
  Ok (tagged.State checkpoint.0, checkpoint.1)

-- changes as a record
unfoldable pub changes_record_of : List ℕ → Reading Record
changes_record_of bytes = do
  changes ← read_changes bytes
  Ok (tagged.Changes changes.0.0 changes.0.1, changes.1)

-- an event, or changes, by the tag
abbrev pub other_record_of : ℕ → List ℕ → Reading Record
other_record_of tag bytes = if tag == 2 then event_record_of bytes else changes_record_of bytes

-- the head, and what its tag says
unfoldable pub read_whole_record : List ℕ → Reading Record
read_whole_record bytes = do
  tag ← tag_of bytes
  if tag.0 == 1 then state_record_of tag.1 else other_record_of tag.0 tag.1

-- a record and no byte more
unfoldable pub whole_of : List ℕ → Result Record ℕ
whole_of bytes = do
  r ← read_whole_record bytes
  if length r.1 == 0 then Ok r.0 else Err (length r.1)

-- ---- what the functions that read give

-- the record that these bytes give, or the place in them at which the first broken field begins
abbrev pub Decodes : List ℕ → Result Record RecordFault → Type 0
Decodes bytes (Ok r) = whole_of bytes ≡ Ok r
Decodes bytes (Err (answer.BadRecord at)) = (left : ℕ) × (whole_of bytes ≡ Err left) × (at + left ≡ length bytes)
Decodes bytes (Err answer.NoMemory) = Unit {0}

-- the answer is this record, or want of memory
abbrev pub IsOkOrNoMemory : Record → Result Record RecordFault → Type 0
IsOkOrNoMemory r (Ok q) = q ≡ r
IsOkOrNoMemory r (Err (answer.BadRecord at)) = ⊥
IsOkOrNoMemory r (Err answer.NoMemory) = Unit {0}

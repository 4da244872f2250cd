-- The bytes of a record. All numbers are big-endian.
use Rattle.std.specs.Prelude.{ℕ, ◌==◌, if◌then◌else◌, List, [], ◌∷◌, ◌++◌, length}
use Rattle.std.specs.List.{flat_map, AllByRecursion}
use Rattle.fw_time.specs.Stamp.{Stamp}
use Rattle.fw_bag.specs.declared.rec.Rec.{Rec}
use Rattle.fw_frontier.specs.declared.state.Entries.{Entries}
use Rattle.fw_frontier.specs.declared.state.Entries.TheVariants.{Totals}
use Rattle.fw_frontier.specs.declared.state.State.{State}
use Rattle.fw_bytes.specs.Spelling.{u32_bytes, u64_bytes, stamp_bytes, front_bytes, sent_counts_bytes, IsCountable}
use Rattle.fw_flow.specs.declared.choice.OfEdge.{OfEdge}
use Rattle.fw_record.specs.declared.logged.Logged.{Logged}
use Rattle.fw_record.specs.declared.record.Checkpoint.{Checkpoint}
use Rattle.fw_record.specs.declared.record.Event.{Event}
use Rattle.fw_record.specs.declared.record.Event.TheVariants.{Deliver, Notify}
use Rattle.fw_record.specs.declared.record.Record.{Record}
use Rattle.fw_record.specs.declared.record.Record.TheVariants as tagged

-- key and value
abbrev pub rec_bytes : Rec → List ℕ
rec_bytes r = u64_bytes r.key ++ u64_bytes r.value

-- an edge and its frontier
abbrev pub of_edge_bytes : OfEdge → List ℕ
of_edge_bytes e = u32_bytes e.edge ++ front_bytes e.front

-- how many edges, and these with their frontiers
abbrev pub of_edges_bytes : List OfEdge → List ℕ
of_edges_bytes es = u32_bytes (length es) ++ flat_map of_edge_bytes es

-- how many recs, and these
abbrev pub recs_bytes : List Rec → List ℕ
recs_bytes rs = u64_bytes (length rs) ++ flat_map rec_bytes rs

-- what a node holds: its totals
abbrev pub entries_bytes : Entries → List ℕ
entries_bytes (Totals totals) = recs_bytes totals

-- how many messages were sent, how many from where, and what is held
unfoldable pub state_bytes : State → List ℕ
state_bytes s = u64_bytes s.sent ++ sent_counts_bytes s.sends ++ entries_bytes s.entries

-- an edge, a stamp, the causes and a rec
unfoldable pub logged_bytes : Logged → List ℕ
logged_bytes m = u32_bytes m.edge ++ stamp_bytes m.message.at ++ flat_map stamp_bytes m.message.causes ++ rec_bytes m.message.rec

-- how many logged messages, and these
abbrev pub log_bytes : List Logged → List ℕ
log_bytes ms = u64_bytes (length ms) ++ flat_map logged_bytes ms

-- a node, the frontier, what it covers, the state and the log
abbrev pub checkpoint_bytes : Checkpoint → List ℕ
checkpoint_bytes c =
    u32_bytes c.node
    ++ front_bytes c.recorded.front
    ++ front_bytes c.recorded.notified
    ++ of_edges_bytes c.recorded.delivered
    ++ of_edges_bytes c.recorded.discarded
    ++ state_bytes c.state
    ++ log_bytes c.log

-- a checkpoint whose parts are changes: the id of its base stands behind the frontier
abbrev pub changes_bytes : ℕ → Checkpoint → List ℕ
changes_bytes base c =
    u32_bytes c.node
    ++ front_bytes c.recorded.front
    ++ u64_bytes base
    ++ front_bytes c.recorded.notified
    ++ of_edges_bytes c.recorded.delivered
    ++ of_edges_bytes c.recorded.discarded
    ++ state_bytes c.state
    ++ log_bytes c.log

-- an edge, a stamp and a rec
abbrev pub delivery_bytes : ℕ → Stamp → Rec → List ℕ
delivery_bytes edge at rec = u32_bytes edge ++ stamp_bytes at ++ rec_bytes rec

-- 1 and a delivery, or 2 and the stamp of a notification
abbrev pub event_bytes : Event → List ℕ
event_bytes (Deliver edge at rec) = 1 ∷ delivery_bytes edge at rec
event_bytes (Notify at) = 2 ∷ stamp_bytes at

-- the tags: 1 of a checkpoint, 2 of an event, 3 of changes
abbrev pub tags : List ℕ
tags = 1 ∷ 2 ∷ 3 ∷ []

-- the version of the format that has a tag: changes came with the second one
abbrev pub version_of : ℕ → ℕ
version_of tag = if tag == 3 then 2 else 1

-- the letters FW, the version that has a tag, and the tag
abbrev pub head_bytes : ℕ → List ℕ
head_bytes tag = 70 ∷ 87 ∷ version_of tag ∷ tag ∷ []

-- the tag of a checkpoint, by what the node holds
abbrev pub checkpoint_tag : Entries → ℕ
checkpoint_tag (Totals totals) = 1

-- the one spelling of a record
abbrev pub spelling : Record → List ℕ
spelling (tagged.State c) = head_bytes (checkpoint_tag c.state.entries) ++ checkpoint_bytes c
spelling (tagged.Event node event) = head_bytes 2 ++ u32_bytes node ++ event_bytes event
spelling (tagged.Changes base c) = head_bytes 3 ++ changes_bytes base c

-- ---- counts

-- So has the list of edges, and the front of each.
pub record HasCountableEdges (es : List OfEdge) : Type 0 where
  pub edges : IsCountable es
  pub fronts : AllByRecursion (λ e. IsCountable e.front) es

-- So has each list of a checkpoint that has a count of four bytes. Those of eight bytes say how many parts any list has.
pub record HasCountableLists (c : Checkpoint) : Type 0 where
  pub front : IsCountable c.recorded.front
  pub notified : IsCountable c.recorded.notified
  pub delivered : HasCountableEdges c.recorded.delivered
  pub discarded : HasCountableEdges c.recorded.discarded
  pub sends : IsCountable c.state.sends

-- No list of the record has more parts than its count can say.
abbrev pub FitsItsCounts : Record → Type 0
FitsItsCounts (tagged.State c) = HasCountableLists c
FitsItsCounts (tagged.Event node event) = Unit {0}
FitsItsCounts (tagged.Changes base c) = HasCountableLists c

-- What is written: the record that the store holds of each entry of the catalogue.
use Rattle.std.specs.Prelude.{◌≡◌, ℕ, ◌+◌, true, false, not, if◌then◌else◌, List, [], ◌∷◌, filter, map, length, Option, Some, None}
use Rattle.std.specs.List.{AllZip, Contains}
use Rattle.std.specs.Option.{ForSome}
use Rattle.fw_frontier.specs.Frontier.{Frontier}
use Rattle.fw_frontier.specs.Front.{Front}
use Rattle.fw_frontier.specs.declared.state.SentCount.{SentCount}
use Rattle.fw_flow.specs.declared.choice.OfEdge.{OfEdge}
use Rattle.fw_flow.specs.declared.event.Message.{Message}
use Rattle.fw_flow.specs.Dataflow.{System, kind_of, policy_of, sender, receiver, in_edges, out_edges, node_frontier, is_sequence_kind}
use Rattle.fw_flow.specs.Projection.{all_inside, events_at}
use Rattle.fw_flow.specs.Restoring.{can_resend}
use Rattle.fw_model.specs.Filtering.{messages_from, messages_outside}
use Rattle.fw_model.specs.History.{sent_messages}
use Rattle.fw_model.specs.Machine.{Machine, Write, checkpoint, logged_event, events, family_of}
use Rattle.fw_model.specs.Machine.{Written as WrittenBy}
use Rattle.fw_model.specs.SortedMessages.{sorted_messages}
use Rattle.fw_node.specs.StateOf.{IsStateOf, IsStateSince}
use Rattle.fw_policy.specs.Entries.{IsRecorded, sent_by_node}
pub use Rattle.fw_policy.specs.Entries.{told_of, IsToldAs, HasEventTold, events_within, count_within, HoldsWithin, HoldsWhatIsWritten, HasBaseOf, IsEntryOf, AreEntriesOf, uncollected}
use Rattle.fw_record.specs.declared.logged.Logged.{Logged}
use Rattle.fw_record.specs.declared.record.Checkpoint.{Checkpoint}
use Rattle.fw_record.specs.declared.record.Record.{Record}
use Rattle.fw_record.specs.declared.record.Record.TheVariants as tagged
use Rattle.fw_keep.specs.declared.entry.Entry.{Entry}
use Rattle.fw_keep.specs.Stored.{Records, HoldsAs}
use Rattle.fw_record.specs.Log.{logged_on}

-- ---- records

-- what node p sent on edge e from inside f and has to be able to send again: what lay outside the receiver's low watermark
abbrev pub to_log : System → Machine → ℕ → Front → List Front → ℕ → List Message
to_log sys state p f low e =
    if can_resend (policy_of sys.flow p) then
    messages_outside (family_of sys.flow low (receiver sys.flow e))
    (messages_from (node_frontier sys.flow p f) (sent_messages sys (events state.history) e))
    else []

-- the edges of fronts
abbrev pub edges_of : List OfEdge → List ℕ
edges_of fronts = map (λ (e : OfEdge). e.edge) fronts

-- how many messages these counts tell of events inside a frontier
abbrev pub told_inside : Frontier → List SentCount → ℕ
told_inside g [] = 0
told_inside g (s ∷ ss) = (if g s.cause then s.count else 0) + told_inside g ss

-- The checkpoint is that of node p at f, asked with these low watermarks: it has the covers of the events inside, one for each
-- edge, their table, how many messages they sent, and the messages that may have to be sent again.
pub record IsCheckpointFor (sys : System) (state : Machine) (p : ℕ) (f : Front) (low : List Front) (c : Checkpoint) : Type 0 where
  pub node : c.node ≡ p
  pub recorded : IsRecorded sys state p f c.recorded
  pub in_each : edges_of c.recorded.delivered ≡ in_edges sys.flow p
  pub out_each : edges_of c.recorded.discarded ≡ out_edges sys.flow p
  pub table : IsStateOf (kind_of sys.flow p) (events_at sys.flow p (events_within sys state p f)) c.state
  pub sent : c.state.sent ≡ count_within sys state p f
  pub sends : is_sequence_kind (kind_of sys.flow p) ≡ true → (g : Frontier) → told_inside g c.state.sends
      ≡ length (messages_from g (messages_from (node_frontier sys.flow p f) (sent_by_node sys (events state.history) p)))
  pub sends_none : is_sequence_kind (kind_of sys.flow p) ≡ false → c.state.sends ≡ []
  pub log : (e : ℕ) → sender sys.flow e ≡ p → sorted_messages (logged_on e c.log) ≡ sorted_messages (to_log sys state p f low e)
  pub log_edges : (l : Logged) → Contains c.log l → sender sys.flow l.edge ≡ p

-- the messages from inside f that are not from inside g
abbrev pub messages_since : Frontier → Frontier → List Message → List Message
messages_since g f ms = filter (λ m. not (all_inside g m.causes)) (messages_from f ms)

-- what node p sent on edge e from inside f since g, and has to be able to send again: what lay outside the receiver's low watermark
abbrev pub to_log_since : System → Machine → ℕ → Front → Front → List Front → ℕ → List Message
to_log_since sys state p g f low e =
    if can_resend (policy_of sys.flow p) then
    messages_outside (family_of sys.flow low (receiver sys.flow e))
    (messages_since (node_frontier sys.flow p g) (node_frontier sys.flow p f) (sent_messages sys (events state.history) e))
    else []

-- The checkpoint holds what changed of node p from g to f, asked with these low watermarks: it has the covers of the events inside f, one
-- for each edge, and how many messages they sent; of the table what changed, of the messages that may have to be sent again those since g.
pub record IsChangesFor (sys : System) (state : Machine) (p : ℕ) (g f : Front) (low : List Front) (c : Checkpoint) : Type 0 where
  pub node : c.node ≡ p
  pub recorded : IsRecorded sys state p f c.recorded
  pub in_each : edges_of c.recorded.delivered ≡ in_edges sys.flow p
  pub out_each : edges_of c.recorded.discarded ≡ out_edges sys.flow p
  pub table : IsStateSince (kind_of sys.flow p) (node_frontier sys.flow p g) (events_at sys.flow p (events_within sys state p f)) c.state
  pub sent : c.state.sent ≡ count_within sys state p f
  pub sends : is_sequence_kind (kind_of sys.flow p) ≡ true → (h : Frontier) → told_inside h c.state.sends
      ≡ length (messages_from h (messages_since (node_frontier sys.flow p g) (node_frontier sys.flow p f) (sent_by_node sys (events state.history) p)))
  pub sends_none : is_sequence_kind (kind_of sys.flow p) ≡ false → c.state.sends ≡ []
  pub log : (e : ℕ) → sender sys.flow e ≡ p → sorted_messages (logged_on e c.log) ≡ sorted_messages (to_log_since sys state p g f low e)
  pub log_edges : (l : Logged) → Contains c.log l → sender sys.flow l.edge ≡ p

-- the record is the one of a write of node p: of a checkpoint that has no base a whole one, and else the changes since that; of a logged
-- event, which has none, the event
abbrev pub IsRecordFor : System → Machine → ℕ → Option Front → WrittenBy → Record → Type 0
IsRecordFor sys state p None (checkpoint f low) (tagged.State c) = IsCheckpointFor sys state p f low c
IsRecordFor sys state p (Some g) (checkpoint f low) (tagged.Changes id c) = IsChangesFor sys state p g f low c
IsRecordFor sys state p None (logged_event serial) (tagged.Event node event) = (node ≡ p) × HasEventTold sys.flow p serial event state.history
IsRecordFor sys state p base what r = ⊥

-- The records hold as an entry's the record of a write: it has a spelling, can be the entry's, and its bytes are under the
-- entry's id.
pub record IsHeldAs (sys : System) (state : Machine) (held : Records) (entry : Entry) (write : Write) : Type 0 where
  pub what : Record
  pub of_entry : HoldsAs sys.flow (Some held) entry what
  pub of_write : IsRecordFor sys state write.node write.base write.written what

-- the records hold as the entries' the records of the writes, in order
abbrev pub AreHeld : System → Machine → Records → List Entry → List Write → Type 0
AreHeld sys state held entries writes = AllZip (IsHeldAs sys state held) entries writes

-- where the store tells its records, they hold those of the writes under the ids of their entries
abbrev pub AreStored : System → Machine → Option Records → List Entry → List Write → Type 0
AreStored sys state records entries writes = ForSome records (λ held. AreHeld sys state held entries writes)

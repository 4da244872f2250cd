-- Which records are those of a node of a dataflow: of a checkpoint of the node at a frontier, or of one of its events.
use Rattle.std.specs.Prelude.{◌≡◌, ℕ, ◌+◌, ◌^◌, ◌≤◌, true, List, [], ◌∷◌}
use Rattle.std.specs.List.{AllByRecursion, Contains}
use Rattle.fw_time.specs.Stamp.{Stamp, in_domain}
use Rattle.fw_frontier.specs.Front.{Front, IsCanonical}
use Rattle.fw_frontier.specs.declared.state.SentCount.{SentCount}
use Rattle.fw_frontier.specs.declared.state.Entries.{Entries}
use Rattle.fw_frontier.specs.declared.state.Entries.TheVariants.{Totals}
use Rattle.fw_frontier.specs.declared.state.State.{State}
use Rattle.fw_flow.specs.declared.choice.OfEdge.{OfEdge}
use Rattle.fw_flow.specs.declared.choice.Recorded.{Recorded}
use Rattle.fw_flow.specs.Kind.{Kind}
use Rattle.fw_flow.specs.declared.kind.Kind.TheVariants.{Total, Sequence, Ledger}
use Rattle.fw_flow.specs.declared.kind.Policy.{Policy}
use Rattle.fw_flow.specs.declared.kind.Policy.TheVariants.{Lazy}
use Rattle.fw_flow.specs.Dataflow.{Dataflow, kind_of, policy_of, in_edges, out_edges, receiver, bounds_of, node_frontier}
use Rattle.fw_record.specs.declared.logged.Logged.{Logged}
use Rattle.fw_record.specs.declared.record.Checkpoint.{Checkpoint}
use Rattle.fw_record.specs.declared.record.Event.{Event}
use Rattle.fw_record.specs.declared.record.Record.{Record}
use Rattle.fw_record.specs.declared.record.Record.TheVariants as tagged

-- ---- the frontier, and what is recorded of the events inside

-- The stamps are of the domain of node p.
abbrev pub AreOfDomain : Dataflow → ℕ → List Stamp → Type 0
AreOfDomain flow p stamps = AllByRecursion (λ t. in_domain (bounds_of flow p) t ≡ true) stamps

-- The front is of one of these edges, by stamps of the domain of the edge's receiver.
pub record IsOnOneOf (flow : Dataflow) (edges : List ℕ) (e : OfEdge) : Type 0 where
  pub edge : Contains edges e.edge
  pub stamps : AreOfDomain flow (receiver flow e.edge) e.front

-- What is recorded at f is of node p: it was notified of stamps of its domain, and has fronts of its in-edges of what was
-- delivered to it, and of its out-edges of what it sent and cannot send again; an edge may be missing.
pub record IsRecordedOf (flow : Dataflow) (p : ℕ) (f : Front) (r : Recorded) : Type 0 where
  pub front : r.front ≡ f
  pub notified : AreOfDomain flow p r.notified
  pub delivered : AllByRecursion (IsOnOneOf flow (in_edges flow p)) r.delivered
  pub discarded : AllByRecursion (IsOnOneOf flow (out_edges flow p)) r.discarded

-- ---- the table

-- the sum of the counts
abbrev pub count_sum : List SentCount → ℕ
count_sum [] = 0
count_sum (s ∷ ss) = s.count + count_sum ss

-- A sequence counts by stamps all that it sent; other kinds count nothing so.
abbrev pub CountsFitKind : Kind → State → Type 0
CountsFitKind Sequence state = count_sum state.sends ≡ state.sent
CountsFitKind kind state = state.sends ≡ []

-- A total and a ledger hold totals; other kinds hold none.
abbrev pub TotalsFitKind : Kind → Entries → Type 0
TotalsFitKind Total entries = Unit {0}
TotalsFitKind Ledger entries = Unit {0}
TotalsFitKind kind entries = entries ≡ Totals []

-- A sequence and a ledger, which number what they send, sent no more messages than there are numbers.
abbrev pub HasNumbersFor : Kind → ℕ → Type 0
HasNumbersFor Sequence sent = sent ≤ 2 ^ 32
HasNumbersFor Ledger sent = sent ≤ 2 ^ 32
HasNumbersFor kind sent = Unit {0}

-- The table is of node p at f: what is counted by stamps was sent by events inside, and its kind has such a table.
pub record IsTableAt (flow : Dataflow) (p : ℕ) (f : Front) (state : State) : Type 0 where
  pub causes : AllByRecursion (λ s. node_frontier flow p f s.cause ≡ true) state.sends
  pub counts : CountsFitKind (kind_of flow p) state
  pub entries : TotalsFitKind (kind_of flow p) state.entries
  pub numbers : HasNumbersFor (kind_of flow p) state.sent

-- ---- the log

-- Events of node p inside f can have sent the message: it is on an out-edge, at a stamp of the receiver's domain, and all its
-- causes are inside.
pub record CanBeLogged (flow : Dataflow) (p : ℕ) (f : Front) (m : Logged) : Type 0 where
  pub edge : Contains (out_edges flow p) m.edge
  pub at : in_domain (bounds_of flow (receiver flow m.edge)) m.message.at ≡ true
  pub causes : AllByRecursion (λ t. node_frontier flow p f t ≡ true) m.message.causes

-- A lazy node keeps no messages.
abbrev pub IsLogUnder : Policy → List Logged → Type 0
IsLogUnder Lazy log = log ≡ []
IsLogUnder policy log = Unit {0}

-- The messages are of node p's log at f: its events inside can have sent each, and its policy keeps them.
pub record IsLogOf (flow : Dataflow) (p : ℕ) (f : Front) (log : List Logged) : Type 0 where
  pub messages : AllByRecursion (CanBeLogged flow p f) log
  pub policy : IsLogUnder (policy_of flow p) log

-- ---- records

-- It is a checkpoint of node p at the frontier f: it names the node, and its parts are of the node at f.
pub record IsCheckpointRecordOf (flow : Dataflow) (p : ℕ) (f : Front) (c : Checkpoint) : Type 0 where
  pub node : c.node ≡ p
  pub recorded : IsRecordedOf flow p f c.recorded
  pub state : IsTableAt flow p f c.state
  pub log : IsLogOf flow p f c.log

-- It is the record of a checkpoint of node p at the frontier f.
abbrev pub IsRecordOfCheckpoint : Dataflow → ℕ → Front → Record → Type 0
IsRecordOfCheckpoint flow p f (tagged.State c) = IsCheckpointRecordOf flow p f c
IsRecordOfCheckpoint flow p f (tagged.Event node event) = ⊥
IsRecordOfCheckpoint flow p f (tagged.Changes base c) = ⊥

-- It is the record of this event of node p.
abbrev pub IsRecordOfEvent : ℕ → Event → Record → Type 0
IsRecordOfEvent p event r = r ≡ tagged.Event p event

-- ---- records of changes

-- A sequence counts by stamps no more than it sent; other kinds count nothing so.
abbrev pub CountsFitChanges : Kind → State → Type 0
CountsFitChanges Sequence state = count_sum state.sends ≤ state.sent
CountsFitChanges kind state = state.sends ≡ []

-- The table holds changes of node p at f: it is one of the node at f, but that a sequence may have sent more than it counts.
pub record IsTableOfChanges (flow : Dataflow) (p : ℕ) (f : Front) (state : State) : Type 0 where
  pub causes : AllByRecursion (λ s. node_frontier flow p f s.cause ≡ true) state.sends
  pub counts : CountsFitChanges (kind_of flow p) state
  pub entries : TotalsFitKind (kind_of flow p) state.entries
  pub numbers : HasNumbersFor (kind_of flow p) state.sent

-- It holds changes of node p at the frontier f: it names the node, and its parts are of the node at f.
pub record AreChangesOf (flow : Dataflow) (p : ℕ) (f : Front) (c : Checkpoint) : Type 0 where
  pub node : c.node ≡ p
  pub recorded : IsRecordedOf flow p f c.recorded
  pub state : IsTableOfChanges flow p f c.state
  pub log : IsLogOf flow p f c.log

-- It is the record of changes of node p at the frontier f, on the base of this id.
abbrev pub IsRecordOfChanges : Dataflow → ℕ → Front → ℕ → Record → Type 0
IsRecordOfChanges flow p f id (tagged.State c) = ⊥
IsRecordOfChanges flow p f id (tagged.Event node event) = ⊥
IsRecordOfChanges flow p f id (tagged.Changes base c) = (base ≡ id) × AreChangesOf flow p f c

-- ---- what follows for a checkpoint that has a spelling

-- The front is the one list that names its frontier, in the domain of the edge's receiver.
abbrev pub IsCanonicalOnEdge : Dataflow → OfEdge → Type 0
IsCanonicalOnEdge flow e = IsCanonical (bounds_of flow (receiver flow e.edge)) e.front

-- Each front that is recorded of node p is the one list that names its frontier.
pub record HasCanonicalFronts (flow : Dataflow) (p : ℕ) (r : Recorded) : Type 0 where
  pub notified : IsCanonical (bounds_of flow p) r.notified
  pub delivered : AllByRecursion (IsCanonicalOnEdge flow) r.delivered
  pub discarded : AllByRecursion (IsCanonicalOnEdge flow) r.discarded

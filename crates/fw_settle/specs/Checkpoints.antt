-- Of what the record of a checkpoint is made: in words of the parts from which it is read.
use Rattle.std.specs.Prelude.{◌≡◌, ◌≢◌, ℕ, ◌<◌, ◌^◌, ◌&&◌, ◌||◌, Bool, true, false, not, nat_lt, if◌then◌else◌, List, [], filter, map, length, Option, Some, None, IfSome}
use Rattle.std.specs.List.{AllByRecursion, AllZip, flat_map}
use Rattle.std.specs.List.Sorted.{IsPermutation}
use Rattle.std.specs.Ordering.{is_lt}
use Rattle.fw_time.specs.Stamp.{Stamp, leq, stamp_cmp}
use Rattle.fw_bag.specs.declared.rec.Rec.{Rec}
use Rattle.fw_frontier.specs.Frontier.{Frontier, Within, nothing}
use Rattle.fw_frontier.specs.Front.{Front, inside, IsCanonical, IsFrontOf}
use Rattle.fw_frontier.specs.declared.state.SentCount.{SentCount}
use Rattle.fw_frontier.specs.declared.state.State.{State}
use Rattle.fw_flow.specs.declared.choice.OfEdge.{OfEdge}
use Rattle.fw_flow.specs.declared.choice.Recorded.{Recorded}
use Rattle.fw_flow.specs.declared.choice.Stamps.{Stamps}
use Rattle.fw_flow.specs.declared.event.Event.{Event}
use Rattle.fw_flow.specs.declared.event.Message.{Message}
use Rattle.fw_flow.specs.Dataflow.{System, Dataflow, kind_of, policy_of, sender, receiver, in_edges, out_edges, bounds_of, node_frontier, is_sequence_kind, HasEpochs}
use Rattle.fw_flow.specs.NodeFunction.{delivered_recs}
use Rattle.fw_flow.specs.Projection.{all_inside, sent_count, table_count}
use Rattle.fw_flow.specs.Restoring.{can_resend}
use Rattle.fw_flow.specs.SentTable.{EpochsAscend}
use Rattle.fw_flow.specs.WellFormed.{IsWellFormedSystem}
use Rattle.fw_model.specs.EventStamps.{AreStampsIf, tells_sent}
use Rattle.fw_model.specs.Filtering.{events_inside, messages_from}
use Rattle.fw_model.specs.History.{IsLegal}
use Rattle.fw_model.specs.Machine.{Machine, events, family_of, front_of, is_failed, no_stamps}
use Rattle.fw_model.specs.Offers.{IsRecordOf}
use Rattle.fw_model.specs.Reached.{IsReached}
use Rattle.fw_model.specs.Steps.{is_asked_for_checkpoints, last_or}
use Rattle.fw_model.specs.Writes.{takes_checkpoints}
use Rattle.fw_node.specs.declared.node.Node.{Node}
use Rattle.fw_node.specs.Past.{totals_kept, totals_changed}
use Rattle.fw_node.specs.StateOf.{totals_in}
use Rattle.fw_node.specs.TableOf.{IsTableOf}
use Rattle.fw_record.specs.declared.logged.Logged.{Logged}
use Rattle.fw_record.specs.declared.record.Checkpoint.{Checkpoint}
use Rattle.fw_record.specs.declared.record.Record.{Record}
use Rattle.fw_record.specs.declared.record.Record.TheVariants as tagged
use Rattle.fw_keep.specs.declared.entry.Entry.{Entry}
use Rattle.fw_keep.specs.Catalogue.{AreAscending, ids_of}
use Rattle.fw_keep.specs.Entry.{written_front}
use Rattle.fw_keep.specs.Newest.{newest_by}
use Rattle.fw_bytes.specs.Sound.{IsSentCount, each_may_follow, may_follow_counts}
use Rattle.fw_record.specs.Sound.{may_follow_logged}
use Rattle.fw_bag.specs.Bag.{IsRec}
use Rattle.fw_record.specs.Spelling.{HasCountableLists}
use Rattle.fw_keep.specs.Stored.{Records}
use Rattle.fw_progress.specs.declared.traces.Traces.{Traces}
use Rattle.fw_progress.specs.Counts.{sent_of}
use Rattle.fw_progress.specs.Covers.{CoversDelivered, CoversNotified, CoversSent}
use Rattle.fw_progress.specs.History.{IsCountOf}
use Rattle.fw_progress.specs.Trace.{IsTraceWithin, counts_sent}
use Rattle.fw_stands.specs.Entries.{entry_fronts}
use Rattle.fw_stands.specs.Parts.{sums_up, IsTableIn, IsTraceIn, logged}
use Rattle.fw_stands.specs.Written.{told_inside}
use Rattle.fw_running.specs.declared.running.Running.{Running}
use Rattle.fw_running.specs.Kept.{is_down, log_at, table_of}
use Rattle.fw_running.specs.Logging.{IsAsked}

-- ---- covers

-- It is so in each history of which these are the whole traces of node p, thinned inside a base that the frontier holds.
abbrev pub IsSoInEachHistory : Dataflow → Traces → ℕ → Front → (System → List Event → Type 0) → Type 0
IsSoInEachHistory flow traces p f IsSo =
    (sys : System) (h : List Event) → sys.flow ≡ flow → HasEpochs sys → IsLegal sys h → IsTraceWithin true sys h p f traces → IsSo sys h

-- the front is the cover of what was delivered on edge d inside a frontier
abbrev pub IsCoverDelivered : Dataflow → Traces → Front → ℕ → Front → Type 0
IsCoverDelivered flow traces f d front = IsSoInEachHistory flow traces (receiver flow d) f (λ sys h. CoversDelivered sys h d f front)

-- the front is the cover of what was sent on edge e from inside a frontier, where its sender cannot send it again, or none
abbrev pub IsDiscarded : Dataflow → Traces → Front → Bool → ℕ → Front → Type 0
IsDiscarded flow traces f true e front = IsFrontOf (bounds_of flow (receiver flow e)) front nothing
IsDiscarded flow traces f false e front =
    IsSoInEachHistory flow traces (sender flow e) f (λ sys h. tells_sent flow (sender flow e) ≡ true → CoversSent sys h e f front)

-- The front is listed for edge e.
pub record IsOfEdge (Is : ℕ → Front → Type 0) (e : ℕ) (x : OfEdge) : Type 0 where
  pub edge : x.edge ≡ e
  pub front : Is e x.front

-- What is recorded of node p at f: the covers of the events inside, one for each edge.
pub record IsRecordedAt (flow : Dataflow) (traces : Traces) (p : ℕ) (f : Front) (r : Recorded) : Type 0 where
  pub front : r.front ≡ f
  pub notified : IsSoInEachHistory flow traces p f (λ sys h. CoversNotified sys h p f r.notified)
  pub delivered : AllZip (IsOfEdge (IsCoverDelivered flow traces f)) (in_edges flow p) r.delivered
  pub discarded : AllZip (IsOfEdge (IsDiscarded flow traces f (can_resend (policy_of flow p)))) (out_edges flow p) r.discarded

-- ---- since when

-- the entry of the newest checkpoint, unless its depth is 7 or more
abbrev pub base_after : Option Entry → Option Entry
base_after None = None
base_after (Some newest) = if nat_lt newest.depth 7 then Some newest else None

-- the entry on which the next checkpoint of node p stands: that of the newest one, or none, where the next one is whole
abbrev pub next_base : ℕ → List Entry → Option Entry
next_base p entries = base_after (newest_by p entries)

-- the front of an entry's checkpoint, if there is one
abbrev pub front_of_entry : Option Entry → Option Front
front_of_entry None = None
front_of_entry (Some entry) = written_front entry.written

-- the record of a checkpoint that stands on this entry, or is whole where there is none
abbrev pub record_on : Option Entry → Checkpoint → Record
record_on None c = tagged.State c
record_on (Some entry) c = tagged.Changes entry.id c

-- whether a stamp is outside the front since which changes are told; so it is where all is told
abbrev pub is_stamp_since : Option Front → Stamp → Bool
is_stamp_since None t = true
is_stamp_since (Some g) t = not (inside g t)

-- whether a message with these causes was sent since then: some cause is outside the front
abbrev pub is_sent_since : Option Front → List Stamp → Bool
is_sent_since None causes = true
is_sent_since (Some g) causes = not (all_inside (inside g) causes)

-- the messages from inside f that were sent since then
abbrev pub messages_told : Option Front → Front → List Message → List Message
messages_told since f ms = filter (λ m. is_sent_since since m.causes) (messages_from (inside f) ms)

-- ---- the state

-- the totals of what came to node p inside f; none where it has no table
abbrev pub AreTotalsAt : Dataflow → Option Node → ℕ → Front → List Rec → Type 0
AreTotalsAt flow None p f totals = totals ≡ []
AreTotalsAt flow (Some table) p f totals =
    (settled : Stamp → Bool) (before : List Event) → Within settled (node_frontier flow p f) → IsTableOf flow p settled table before
    → totals ≡ totals_kept (kind_of flow p) (delivered_recs (λ d s. node_frontier flow p f s) before)

-- the totals of what came to node p inside f, of the keys to which something came outside g, where g is what is settled into its table if
-- that keeps totals; none where it has no table
abbrev pub AreTotalsSince : Dataflow → Option Node → ℕ → Front → Front → List Rec → Type 0
AreTotalsSince flow None p g f totals = totals ≡ []
AreTotalsSince flow (Some table) p g f totals =
    (settled : Front) (before : List Event) → Within (node_frontier flow p settled) (node_frontier flow p f)
    → (sums_up (kind_of flow p) ≡ true → settled ≡ g) → IsTableOf flow p (node_frontier flow p settled) table before
    → totals ≡ totals_changed (kind_of flow p) (delivered_recs (λ d s. node_frontier flow p f s && not (node_frontier flow p g s)) before)
    (delivered_recs (λ d s. node_frontier flow p f s) before)

-- all of them, or those that changed since then
abbrev pub AreTotalsTold : Dataflow → Option Node → ℕ → Option Front → Front → List Rec → Type 0
AreTotalsTold flow table p None f totals = AreTotalsAt flow table p f totals
AreTotalsTold flow table p (Some g) f totals = AreTotalsSince flow table p g f totals

-- What a sequence sent in the epochs of its table that are among these: each epoch once, with what it sent there in all.
pub record AreSendsOf (among : Frontier) (table : List (ℕ × ℕ)) (sends : List SentCount) : Type 0 where
  pub told : (g : Frontier) → told_inside g sends ≡ table_count (λ t. among t && g t) table
  pub parts : AllByRecursion IsSentCount sends
  pub follow : EpochsAscend table → each_may_follow may_follow_counts [] sends ≡ true

-- the epochs inside f since then
abbrev pub told_epochs : Option Front → Front → Frontier
told_epochs since f t = is_stamp_since since t && inside f t

-- the same of a sequence, of its epochs inside f since then; of other nodes nothing
abbrev pub AreSendsAt : Bool → Option Front → Front → List (ℕ × ℕ) → List SentCount → Type 0
AreSendsAt true since f table sends = AreSendsOf (told_epochs since f) table sends
AreSendsAt false since f table sends = sends ≡ []

-- A state of node p at f, or what changed of it since then: its totals, and how much it sent.
pub record IsStateAt (running : Running) (p : ℕ) (since : Option Front) (f : Front) (state : State) : Type 0 where
  pub totals : AreTotalsTold running.flow (table_of running p) p since f (totals_in state.entries)
  pub small : AllByRecursion IsRec (totals_in state.entries)
  pub few : length (totals_in state.entries) < 2 ^ 64
  pub sent : IsSoInEachHistory running.flow running.traces p f
      (λ sys h. counts_sent running.flow p ≡ true → state.sent ≡ sent_count sys h p (node_frontier running.flow p f))
  pub fits : state.sent < 2 ^ 64
  pub sends : AreSendsAt (is_sequence_kind (kind_of running.flow p)) since f (sent_of running.progress.counts p) state.sends

-- ---- the log

-- these messages of each of these edges
abbrev pub logged_from : (ℕ → List Message) → List ℕ → List Logged
logged_from logs es = flat_map (λ e. map (λ (m : Message). record { edge = e; message = m }) (logs e)) es

-- these messages of node p: none, where it can't send again
abbrev pub logged_at : Dataflow → (ℕ → List Message) → ℕ → List Logged
logged_at flow logs p = if can_resend (policy_of flow p) then logged_from logs (out_edges flow p) else []

-- A log of node p: these messages on its edges, in order.
pub record IsLogOf (flow : Dataflow) (logs : ℕ → List Message) (p : ℕ) (log : List Logged) : Type 0 where
  pub same : IsPermutation (logged_at flow logs p) log
  pub follow : each_may_follow may_follow_logged [] log ≡ true
  pub small : AllByRecursion (λ (l : Logged). IsRec l.message.rec) log
  pub few : length log < 2 ^ 64

-- what is logged on an edge from inside f since then
abbrev pub told_log : Running → Option Front → Front → ℕ → List Message
told_log running since f e = messages_told since f (log_at running e)

-- ---- the checkpoint

-- The checkpoint is made of what is kept of node p, at f: of all, or of what changed since then.
pub record IsMadeSince (running : Running) (p : ℕ) (since : Option Front) (f : Front) (c : Checkpoint) : Type 0 where
  pub node : c.node ≡ p
  pub recorded : IsRecordedAt running.flow running.traces p f c.recorded
  pub state : IsStateAt running p since f c.state
  pub log : IsLogOf running.flow (told_log running since f) p c.log

-- Node p can take a checkpoint at f: it takes them and is not failed, what is kept of it is that of a state, and f holds what is
-- settled in it.
pub record CanBeMadeAt (sys : System) (running : Running) (state : Machine) (p : ℕ) (f : Front) : Type 0 where
  pub flow : running.flow ≡ sys.flow
  pub well_formed : IsWellFormedSystem sys
  pub reached : IsReached sys state
  pub live : is_failed state p ≡ false
  pub takes : takes_checkpoints (policy_of sys.flow p) ≡ true
  pub canonical : IsCanonical (bounds_of sys.flow p) f
  pub settled : Within (family_of sys.flow state.settled p) (node_frontier sys.flow p f)
  pub table : IsTableIn sys state p (table_of running p)
  pub logs : (e : ℕ) → sender sys.flow e ≡ p → log_at running e ≡ logged sys state e
  pub floor : List Front
  pub traces : IsTraceIn sys floor state p running.traces
  pub counts : IsCountOf sys (events state.history) running.progress.counts

-- ---- asking

-- The one stamp comes before the other in order, and is not comparable with it.
pub record Precedes (first stamp : Stamp) : Type 0 where
  pub before : is_lt (stamp_cmp first stamp) ≡ true
  pub apart : (leq first stamp || leq stamp first) ≡ false

-- The record is that of node p's next checkpoint, at f: it is made of what is kept, of all or of what changed since the one on which it
-- stands, none of its lists is longer than its count can say, and its fronts are of the flow. The ids of the entries ascend, and that of the
-- one on which it stands fits 64 bits.
pub record IsNextRecord (running : Running) (p : ℕ) (f : Front) (what : Record) : Type 0 where
  pub checkpoint : Checkpoint
  pub is : what ≡ record_on (next_base p running.parts.keep.entries) checkpoint
  pub made : IsMadeSince running p (front_of_entry (next_base p running.parts.keep.entries)) f checkpoint
  pub few : HasCountableLists checkpoint
  pub of_flow : IsRecordOf running.flow p checkpoint.recorded
  pub ascending : AreAscending (ids_of running.parts.keep.entries)
  pub fits : IfSome (next_base p running.parts.keep.entries) (λ (e : Entry). e.id < 2 ^ 64)

-- A checkpoint of node p at f is asked: the record is that of its next one, and the stamps stand for the node's events inside.
pub record AsksCheckpoint (p : ℕ) (f : Front) (old new : Running) (before after : Option Records) : Type 0 where
  pub what : Record
  pub next : IsNextRecord old p f what
  pub stamps : Stamps
  pub held : IsSoInEachHistory old.flow old.traces p f
      (λ sys h. AreStampsIf true sys (events_inside (node_frontier old.flow p f) h) p (node_frontier old.flow p f) stamps)
  pub asked : IsAsked what stamps old.parts.keep.entries new.parts.keep.entries before after

-- ---- the steps

-- Node p takes a checkpoint when asked: its policy does, it is not failed, and what is settled is not the frontier of its newest one,
-- or is something where it has none.
pub record MayTakeCheckpoint (running : Running) (p : ℕ) : Type 0 where
  pub asks : is_asked_for_checkpoints (policy_of running.flow p) ≡ true
  pub live : is_down running p ≡ false
  pub other : front_of running.progress.settled p ≢ last_or (no_stamps (bounds_of running.flow p)) (entry_fronts p running.parts.keep.entries)

-- A checkpoint that is made of what is kept of a node at a front is the one for which the machine asks, and has a spelling.
use Rattle.std.proofs.Common.{◌≡◌, ℕ, ◌<◌, ◌^◌, Bool, true, false, cond, List, [], length, Option, Some, None, refl, sym, ap, subst, ◌∙◌, arith}
use Rattle.fw_lemmas.proofs.Bools.{two_ways}
use Rattle.std.specs.List.{Contains}
use Rattle.fw_frontier.specs.Frontier.{Frontier}
use Rattle.fw_frontier.specs.Front.{Front}
use Rattle.fw_frontier.specs.declared.state.Entries.{Entries}
use Rattle.fw_frontier.specs.declared.state.Entries.TheVariants.{Totals}
use Rattle.fw_frontier.specs.declared.state.SentCount.{SentCount}
use Rattle.fw_flow.specs.declared.restoring.Restoring.TheVariants.{Checkpoints}
use Rattle.fw_flow.specs.Dataflow.{System, kind_of, policy_of, sender, receiver, in_edges, out_edges, bounds_of, node_frontier, is_sequence_kind}
use Rattle.fw_flow.specs.Projection.{sent_count}
use Rattle.fw_flow.specs.SentTable.{EpochsAscend}
use Rattle.fw_flow.specs.Restoring.{can_resend, way_of}
use Rattle.fw_flow.proofs.EdgeLaws.{in_edges-from}
use Rattle.fw_flow.proofs.OutEdgeLaws.{out_edges-from}
use Rattle.fw_model.specs.Filtering.{messages_from, messages_outside}
use Rattle.fw_model.specs.History.{sent_messages}
use Rattle.fw_model.specs.Machine.{Machine, events, family_of, no_stamps}
use Rattle.fw_model.specs.SortedMessages.{sorted_messages}
use Rattle.fw_model.specs.Steps.{newest_checkpoint}
use Rattle.fw_model.proofs.AskedLaws.{takes-declared, takes-restoring}
use Rattle.fw_model.proofs.DomainLaws.{has_epochs}
use Rattle.fw_model.proofs.KindSorts.{is_sequence}
use Rattle.fw_node.specs.StateOf.{totals_in}
use Rattle.fw_policy.specs.Entries.{IsRecorded, sent_by_node}
use Rattle.fw_record.specs.declared.logged.Logged.{Logged}
use Rattle.fw_record.specs.declared.record.Checkpoint.{Checkpoint}
use Rattle.fw_record.specs.Log.{logged_on}
use Rattle.fw_bytes.specs.Sound.{AreSentCounts, each_may_follow}
use Rattle.fw_record.specs.Sound.{AreTotals, AreEntries, IsCheckpoint, may_follow_totals}
use Rattle.fw_record.specs.Spelling.{HasCountableLists}
use Rattle.fw_progress.specs.Counts.{sent_of}
use Rattle.fw_progress.specs.Trace.{counts_sent}
use Rattle.fw_stands.specs.Written.{IsCheckpointFor, IsChangesFor, count_within, edges_of, told_inside}
use Rattle.fw_stands.proofs.AtReached.{reached-legal}
use Rattle.fw_running.specs.declared.running.Running.{Running}
use Rattle.fw_running.specs.Kept.{log_at, table_of}
use Rattle.fw_settle.specs.Checkpoints.{IsCoverDelivered, IsDiscarded, IsSoInEachHistory, IsRecordedAt, AreTotalsTold, AreSendsOf, AreSendsAt, IsLogOf, IsMadeSince, CanBeMadeAt, told_epochs, told_log}
use Rattle.fw_settle.proofs.CheckpointLaws.{recorded-at, within-front}
use Rattle.fw_settle.proofs.EachEdgeLaws.{zip-edges, front-sound, in_edges-sound, out_edges-sound}
use Rattle.fw_settle.proofs.LogLaws.{messages_due, log-is, log-edges, log-sound}
use Rattle.fw_settle.proofs.StateLaws.{totals-are, totals-since, sent-within, numbered-within, sends-are}
use Rattle.fw_settle.proofs.TotalsLaws.{totals-follow, changed-follow}

sends-of : (b : Bool) (since : Option Front) (f : Front) (table : List (ℕ × ℕ)) (sends : List SentCount) → AreSendsAt b since f table sends → b ≡ true
    → AreSendsOf (told_epochs since f) table sends
sends-of true since f table sends a e = a
sends-of false since f table sends a e = absurd (two_ways false e refl)

sends-none : (b : Bool) (since : Option Front) (f : Front) (table : List (ℕ × ℕ)) (sends : List SentCount) → AreSendsAt b since f table sends → b ≡ false → sends ≡ []
sends-none true since f table sends a e = absurd (two_ways true refl e)
sends-none false since f table sends a e = a

-- What is so of a checkpoint that is made at a front of a node that can take it.
pub record IsSo (sys : System) (running : Running) (state : Machine) (p : ℕ) (since : Option Front) (f : Front) (c : Checkpoint) : Type 0 where
  pub can : CanBeMadeAt sys running state p f
  pub node : c.node ≡ p
  pub recorded : IsRecordedAt sys.flow running.traces p f c.recorded
  pub totals : AreTotalsTold sys.flow (table_of running p) p since f (totals_in c.state.entries)
  pub sent : c.state.sent ≡ sent_count sys (events state.history) p (node_frontier sys.flow p f)
  pub sends : AreSendsAt (is_sequence_kind (kind_of sys.flow p)) since f (sent_of running.progress.counts p) c.state.sends
  pub log : IsLogOf sys.flow (told_log running since f) p c.log

made-so : (sys : System) (running : Running) (state : Machine) (p : ℕ) (since : Option Front) (f : Front) (c : Checkpoint) → CanBeMadeAt sys running state p f
    → IsMadeSince running p since f c → IsSo sys running state p since f c
made-so sys running state p since f c can made =
    let told = subst (λ flow. IsSoInEachHistory flow running.traces p f (λ s h. counts_sent flow p ≡ true → c.state.sent ≡ sent_count s h p (node_frontier flow p f))) can.flow made.state.sent in
    record {
      can = can;
      node = made.node;
      recorded = subst (λ flow. IsRecordedAt flow running.traces p f c.recorded) can.flow made.recorded;
      totals = subst (λ flow. AreTotalsTold flow (table_of running p) p since f (totals_in c.state.entries)) can.flow made.state.totals;
      sent = told sys (events state.history) refl (has_epochs sys can.well_formed) (reached-legal sys state can.well_formed can.reached)
          (within-front sys can.floor state p f running.traces can.takes can.settled can.traces) can.takes;
      sends = subst (λ flow. AreSendsAt (is_sequence_kind (kind_of flow p)) since f (sent_of running.progress.counts p) c.state.sends) can.flow made.state.sends;
      log = subst (λ flow. IsLogOf flow (told_log running since f) p c.log) can.flow made.log;
    }

-- What is so of it whether it is whole or not.
record IsSoOfBoth (sys : System) (state : Machine) (p : ℕ) (since : Option Front) (f : Front) (c : Checkpoint) : Type 0 where
  node : c.node ≡ p
  recorded : IsRecorded sys state p f c.recorded
  in_each : edges_of c.recorded.delivered ≡ in_edges sys.flow p
  out_each : edges_of c.recorded.discarded ≡ out_edges sys.flow p
  way : way_of sys.flow p ≡ Checkpoints
  sent : c.state.sent ≡ count_within sys state p f
  sends : is_sequence_kind (kind_of sys.flow p) ≡ true → (h : Frontier) → told_inside h c.state.sends
      ≡ length (messages_from h (messages_due sys.flow p since f (sent_by_node sys (events state.history) p)))
  sends_none : is_sequence_kind (kind_of sys.flow p) ≡ false → c.state.sends ≡ []
  log : (e : ℕ) → sender sys.flow e ≡ p → sorted_messages (logged_on e c.log) ≡ sorted_messages (cond (can_resend (policy_of sys.flow p))
      (messages_outside (family_of sys.flow state.low (receiver sys.flow e)) (messages_due sys.flow p since f (sent_messages sys (events state.history) e))) [])
  log_edges : (l : Logged) → Contains c.log l → sender sys.flow l.edge ≡ p

made-both : (sys : System) (running : Running) (state : Machine) (p : ℕ) (since : Option Front) (f : Front) (c : Checkpoint) → IsSo sys running state p since f c
    → IsSoOfBoth sys state p since f c
made-both sys running state p since f c so =
    let can = so.can in
    let w = can.well_formed in
    let flow = sys.flow in
    let l = takes-declared flow p can.takes in
    let t = within-front sys can.floor state p f running.traces can.takes can.settled can.traces in
    let k = kind_of flow p in
    record {
      node = so.node;
      recorded = recorded-at sys state p f running.traces c.recorded w can.reached can.takes can.canonical t so.recorded;
      in_each = zip-edges (IsCoverDelivered flow running.traces f) (in_edges flow p) c.recorded.delivered so.recorded.delivered;
      out_each = zip-edges (IsDiscarded flow running.traces f (can_resend (policy_of flow p))) (out_edges flow p) c.recorded.discarded so.recorded.discarded;
      way = takes-restoring (kind_of flow p) (policy_of flow p) (w.flow.policies p l) can.takes;
      sent = sent-within sys state p f c.state.sent so.sent;
      sends = λ is g.
          sends-are sys state w can.reached p l (is_sequence k is) since f running.progress.counts can.counts c.state.sends
          (sends-of (is_sequence_kind k) since f (sent_of running.progress.counts p) c.state.sends so.sends is) g;
      sends_none = λ is. sends-none (is_sequence_kind k) since f (sent_of running.progress.counts p) c.state.sends so.sends is;
      log = λ e s. log-is sys state w can.reached p l can.live since f (log_at running) c.log can.logs so.log e s;
      log_edges = log-edges flow (told_log running since f) p c.log so.log;
    }

-- what changes are told since is the front of the newest checkpoint
abbrev pub IsSinceNewest : System → Machine → ℕ → Option Front → Type 0
IsSinceNewest sys state p None = Unit {0}
IsSinceNewest sys state p (Some g) = newest_checkpoint p (no_stamps (bounds_of sys.flow p)) state.writes ≡ g

-- the checkpoint is the one for which the machine asks: whole, or what changed since then
abbrev pub IsToldFor : System → Machine → ℕ → Option Front → Front → Checkpoint → Type 0
IsToldFor sys state p None f c = IsCheckpointFor sys state p f state.low c
IsToldFor sys state p (Some g) f c = IsChangesFor sys state p g f state.low c

-- it is the one for which the machine asks
pub made-for : (sys : System) (running : Running) (state : Machine) (p : ℕ) (since : Option Front) (f : Front) (c : Checkpoint) → CanBeMadeAt sys running state p f
    → IsSinceNewest sys state p since → IsMadeSince running p since f c → IsToldFor sys state p since f c
made-for sys running state p None f c can newest made =
    let so = made-so sys running state p None f c can made in
    let both = made-both sys running state p None f c so in
    record {
      node = both.node;
      recorded = both.recorded;
      in_each = both.in_each;
      out_each = both.out_each;
      table = record {
        totals = totals-are sys state can.well_formed can.reached p f both.way can.live can.settled (table_of running p) can.table (totals_in c.state.entries) so.totals;
        sent = λ is. both.sent ∙ numbered-within sys state can.well_formed can.reached p f is;
      };
      sent = both.sent;
      sends = both.sends;
      sends_none = both.sends_none;
      log = both.log;
      log_edges = both.log_edges;
    }
made-for sys running state p (Some g) f c can newest made =
    let so = made-so sys running state p (Some g) f c can made in
    let both = made-both sys running state p (Some g) f c so in
    record {
      node = both.node;
      recorded = both.recorded;
      in_each = both.in_each;
      out_each = both.out_each;
      table = record {
        totals = totals-since sys state can.well_formed can.reached p g f can.takes newest both.way can.live can.settled (table_of running p) can.table
            (totals_in c.state.entries) so.totals;
        sent = λ is. both.sent ∙ numbered-within sys state can.well_formed can.reached p f is;
      };
      sent = both.sent;
      sends = both.sends;
      sends_none = both.sends_none;
      log = both.log;
      log_edges = both.log_edges;
    }

-- ---- it has a spelling

entries-sound : (entries : Entries) → AreTotals (totals_in entries) → AreEntries entries
entries-sound (Totals totals) a = a

sends-sound : (b : Bool) (since : Option Front) (f : Front) (table : List (ℕ × ℕ)) (sends : List SentCount) → AreSendsAt b since f table sends → (b ≡ true → EpochsAscend table) → length sends < 2 ^ 32
    → AreSentCounts sends
sends-sound true since f table sends a in_order few = record { few = few; parts = a.parts; follow = a.follow (in_order refl) }
sends-sound false since f table sends a in_order few = subst AreSentCounts (sym a) (record { few = omega arith; parts = tt; follow = refl })

-- its totals may stand one after the other
told-follow : (sys : System) (state : Machine) (p : ℕ) (since : Option Front) (f : Front) (c : Checkpoint) → IsToldFor sys state p since f c
    → each_may_follow may_follow_totals [] (totals_in c.state.entries) ≡ true
told-follow sys state p None f c is = ap (each_may_follow may_follow_totals []) is.table.totals ∙ totals-follow (kind_of sys.flow p) _
told-follow sys state p (Some g) f c is = ap (each_may_follow may_follow_totals []) is.table.totals ∙ changed-follow (kind_of sys.flow p) _ _

pub made-sound : (sys : System) (running : Running) (state : Machine) (p : ℕ) (since : Option Front) (f : Front) (c : Checkpoint) → CanBeMadeAt sys running state p f
    → IsSinceNewest sys state p since → IsMadeSince running p since f c → HasCountableLists c → IsCheckpoint c
made-sound sys running state p since f c can newest made few =
    let w = can.well_formed in
    let flow = sys.flow in
    let l = takes-declared flow p can.takes in
    let nodes = w.flow.limits.nodes in
    let so = made-so sys running state p since f c can made in
    let is = made-both sys running state p since f c so in
    let node = so.node in
    let k = kind_of flow p in
    record {
      node = omega (arith, nodes, l, node);
      front = front-sound flow w.flow p c.recorded.front few.front is.recorded.of_flow.front;
      notified = front-sound flow w.flow p c.recorded.notified few.notified is.recorded.of_flow.notified;
      delivered = in_edges-sound flow w.flow p c.recorded.delivered is.in_each is.recorded.of_flow.delivered few.delivered
          (in_edges-from (λ e. e < length flow.edges) flow p (λ e i r. i));
      discarded = out_edges-sound flow w.flow p c.recorded.discarded is.out_each is.recorded.of_flow.discarded few.discarded
          (out_edges-from (λ e. e < length flow.edges) flow p (λ e i r. i));
      state = record {
        sent = made.state.fits;
        sends = sends-sound (is_sequence_kind k) since f (sent_of running.progress.counts p) c.state.sends so.sends
            (λ i. can.counts.in_order p l (is_sequence k i)) few.sends;
        entries = entries-sound c.state.entries (record {
          few = made.state.few;
          parts = made.state.small;
          follow = told-follow sys state p since f c (made-for sys running state p since f c can newest made);
        });
      };
      log = log-sound sys state w can.reached p since f (log_at running) c.log can.logs so.log;
    }

-- An engine that is fed stands over the later batches for the state for which it stood.
use Rattle.std.proofs.Common.{◌≡◌, ◌↔◌, ℕ, true, ◌&&◌, cond, List, [], ◌∷◌, length, map, Option, Some, None, sym, ap, subst, ◌∙◌, Bool}
use Rattle.std.specs.List.{AllByRecursion, Contains}
use Rattle.fw_lemmas.proofs.Each.{each-kept}
use Rattle.fw_lemmas.proofs.SideBySide.{zip-weaker}
use Rattle.fw_time.specs.Stamp.{Stamp}
use Rattle.fw_bag.specs.declared.rec.Rec.{Rec}
use Rattle.fw_frontier.specs.Frontier.{Frontier, everything}
use Rattle.fw_frontier.specs.Front.{Front}
use Rattle.fw_flow.specs.declared.choice.Cut.TheVariants.{At}
use Rattle.fw_flow.specs.declared.choice.Recorded.{Recorded}
use Rattle.fw_flow.specs.declared.choice.Stamps.{Stamps}
use Rattle.fw_flow.specs.declared.event.Event.{Event}
use Rattle.fw_flow.specs.declared.event.Message.{Message}
use Rattle.fw_flow.specs.Dataflow.{Dataflow, policy_of, sender, receiver, bounds_of, node_frontier}
use Rattle.fw_flow.specs.NodeFunction.{event_stamp}
use Rattle.fw_flow.specs.Projection.{count_from, IsSentTable}
use Rattle.fw_flow.specs.Restoring.{can_resend}
use Rattle.fw_flow.specs.SentTable.{EpochsAscend}
use Rattle.fw_model.specs.Alike.{StandForCauses}
use Rattle.fw_model.specs.EventStamps.{causes_of, causes_in, base_of_sent, tells_sent, AreStampsIf}
use Rattle.fw_model.specs.Filtering.{messages_from, messages_outside}
use Rattle.fw_model.specs.History.{was_notified, IsAdmissible}
use Rattle.fw_model.specs.LawsOfProgress.{IsStuck}
use Rattle.fw_model.specs.Choice.{kept}
use Rattle.fw_model.specs.Choosing.{choice_at}
use Rattle.fw_model.specs.Machine.{Machine, Write, checkpoint, logged_event, events, family_of, is_failed, first_state}
use Rattle.fw_model.specs.Machine.{Written as WrittenBy}
use Rattle.fw_model.specs.Offers.{counted_on_edge, stamps_on_from}
use Rattle.fw_model.specs.SortedMessages.{sorted_messages}
use Rattle.fw_model.specs.Steps.{did}
use Rattle.fw_model.specs.Thinned.{IsThinned}
use Rattle.fw_policy.specs.Entries.{IsRecorded}
use Rattle.fw_policy.specs.View.{base_of, IsLostAt}
use Rattle.fw_progress.specs.Counts.{is_in}
use Rattle.fw_progress.specs.History.{count_at}
use Rattle.fw_progress.specs.SentTally.{IsSentTally}
use Rattle.fw_progress.specs.Tally.{times_in, has_one}
use Rattle.fw_progress.specs.Trace.{stamps_where_sent, counted_of}
use Rattle.fw_progress.specs.declared.traces.Traces.{Traces}
use Rattle.fw_record.specs.declared.record.Record.{Record}
use Rattle.fw_record.specs.declared.record.Record.TheVariants as tagged
use Rattle.fw_keep.specs.declared.entry.Entry.{Entry}
use Rattle.fw_keep.specs.declared.entry.Written.{Written}
use Rattle.fw_keep.specs.declared.entry.Written.TheVariants as written
use Rattle.fw_keep.specs.Stored.{Records}
use Rattle.fw_border.specs.Outputs.{OutputState}
use Rattle.fw_node.specs.declared.node.Node.{Node}
use Rattle.fw_stands.specs.Parts.{IsTableIn, queued, is_logging, logged, IsOutputOf, IsTraceIn}
use Rattle.fw_stands.specs.Entries.{AreBasesOf}
use Rattle.fw_stands.specs.Written.{events_within, count_within, HoldsWhatIsWritten, IsEntryOf, AreEntriesOf, messages_since, to_log, to_log_since, IsRecordFor, IsHeldAs, AreStored, uncollected}
use Rattle.fw_feeding.specs.Feeding.{with_batches}
use Rattle.fw_feeding.specs.LawsOfFeeding.{FedEnginesStand}
use Rattle.fw_feeding.proofs.AlikeLaws.{InjectsAlike, AreAlikeIn, alike-back, node-alike, messages-alike, pending-alike, phi-alike, quiet-alike, epochs-alike, admissible-alike}
use Rattle.fw_feeding.proofs.AlikeChoices.{consistent-alike, discarded-alike}
use Rattle.fw_feeding.proofs.OpenRunLaws.{open-runs_go_on, open-runs_are_runs, run-alike}
use Rattle.fw_model.specs.Writes.{takes_checkpoints}

-- ---- parts

table-alike : (flow : Dataflow) (now later : List (List (List Rec))) (state : Machine) (p : ℕ) (table : Option Node)
    → IsTableIn (with_batches flow now) state p table → IsTableIn (with_batches flow later) state p table
table-alike flow now later state p table t = record { there = t.there; of_events = t.of_events }

queued-alike : (flow : Dataflow) (now later : List (List (List Rec))) (state : Machine) → AreAlikeIn flow now later (events state.history) → (e : ℕ)
    → queued (with_batches flow now) state e ≡ queued (with_batches flow later) state e
queued-alike flow now later state a e =
    ap (λ ms. cond (is_failed state (receiver flow e)) [] (sorted_messages ms)) (pending-alike flow now later (events state.history) a e)

logged-alike : (flow : Dataflow) (now later : List (List (List Rec))) (state : Machine) → AreAlikeIn flow now later (events state.history) → (e : ℕ)
    → logged (with_batches flow now) state e ≡ logged (with_batches flow later) state e
logged-alike flow now later state a e =
    ap (λ ms. cond (is_logging (with_batches flow now) state e)
    (sorted_messages (messages_outside (family_of flow state.low (receiver flow e)) ms)) [])
    (messages-alike flow now later (events state.history) a.injected e)

output-alike : (flow : Dataflow) (now later : List (List (List Rec))) (state : Machine) (o : ℕ) (output : OutputState)
    → IsOutputOf (with_batches flow now) state o output → IsOutputOf (with_batches flow later) state o output
output-alike flow now later state o output t = record { bound = t.bound; recs = t.recs }

trace-alike : (flow : Dataflow) (now later : List (List (List Rec))) (state : Machine) → AreAlikeIn flow now later (events state.history)
    → (floor : List Front) (p : ℕ) (traces : Traces) → IsTraceIn (with_batches flow now) floor state p traces → IsTraceIn (with_batches flow later) floor state p traces
trace-alike flow now later state a floor p traces t =
    let same = node-alike flow now later (events state.history) a.injected p in
    let base = base_of (with_batches flow now) floor state p in
    let takes = takes_checkpoints (policy_of flow p) in
    record {
      delivered = t.delivered;
      notified = t.notified;
      sent = λ d l r k. subst (λ ms. StandForCauses flow p (takes && tells_sent flow p) (base_of_sent flow p base) (causes_in ms) (stamps_where_sent traces d))
          (messages-alike flow now later (events state.history) a.injected d) (t.sent d l r k);
      counted = λ k. subst (λ ms. IsSentTally base ms (counted_of traces p)) same (t.counted k);
    }

lost-alike : (flow : Dataflow) (now later : List (List (List Rec))) (state : Machine) (p : ℕ) (t : Stamp)
    → IsLostAt (with_batches flow now) state p t → IsLostAt (with_batches flow later) state p t
lost-alike flow now later state p t l =
    let u = l.1 in
    (l.0, record { event = u.event; there = u.there; is = u.is; not_logged = u.not_logged })

-- ---- progress

stuck-alike : (flow : Dataflow) (now later : List (List (List Rec))) (h : List Event) → AreAlikeIn flow now later h → (done : ℕ → Frontier) (p : ℕ)
    → IsStuck (with_batches flow now) h done p → IsStuck (with_batches flow later) h done p
stuck-alike flow now later h a done p k = λ t o. k t (record {
  of_domain = o.of_domain;
  quiet = λ s l. quiet-alike flow later now h (alike-back flow now later h a) p s (o.quiet s l);
  paid = o.paid;
  source = λ i. epochs-alike flow now later h a p t ∙ o.source i;
  arrives = λ e l r. phi-alike flow now later h a e (done (sender flow e)) t ∙ o.arrives e l r;
})

-- ---- what is written

recorded-alike : (flow : Dataflow) (now later : List (List (List Rec))) (state : Machine) → AreAlikeIn flow now later (events state.history)
    → (p : ℕ) (f : Front) (r : Recorded) → IsRecorded (with_batches flow now) state p f r → IsRecorded (with_batches flow later) state p f r
recorded-alike flow now later state a p f r k = record {
  front = k.front;
  of_flow = k.of_flow;
  delivered = k.delivered;
  notified = k.notified;
  discarded = λ e l s. k.discarded e l s ∙ discarded-alike flow now later state a e (At f);
}

stamps-alike : (whole : Bool) (flow : Dataflow) (now later : List (List (List Rec))) (h : List Event) → AllByRecursion (InjectsAlike flow now later) h
    → (p : ℕ) (base : Frontier) (stamps : Stamps) → AreStampsIf whole (with_batches flow now) h p base stamps → AreStampsIf whole (with_batches flow later) h p base stamps
stamps-alike whole flow now later h a p base stamps k = record {
  on_edges = k.on_edges;
  in_domain = k.in_domain;
  delivered = k.delivered;
  notified = k.notified;
  sent = λ s e l q. let stand = k.sent s e l q in record {
    of_cause = stand.of_cause;
    thinned = subst (λ ms. StandForCauses flow p (whole && tells_sent flow p) (base_of_sent flow p base) (causes_in ms) (causes_of (counted_on_edge e stamps.sent))) (messages-alike flow now later h a e) stand.thinned;
  };
  numbered = λ s t e l q. subst
      (λ ms. IsThinned (everything (bounds_of flow (receiver flow e))) (map (λ (m : Message). m.at) ms)
      (stamps_on_from e (everything (bounds_of flow (sender flow e))) stamps.sent))
      (messages-alike flow now later h a e) (k.numbered s t e l q);
}

count-within : (flow : Dataflow) (now later : List (List (List Rec))) (state : Machine) → AreAlikeIn flow now later (events state.history)
    → (p : ℕ) (f : Front) → count_within (with_batches flow now) state p f ≡ count_within (with_batches flow later) state p f
count-within flow now later state a p f =
    ap (λ ms. length (messages_from (node_frontier flow p f) ms)) (node-alike flow now later (events state.history) a.injected p)

holds-alike : (flow : Dataflow) (now later : List (List (List Rec))) (state : Machine) → AreAlikeIn flow now later (events state.history)
    → (p : ℕ) (entry : Written) (what : WrittenBy) → HoldsWhatIsWritten (with_batches flow now) state p entry what → HoldsWhatIsWritten (with_batches flow later) state p entry what
holds-alike flow now later state a p (written.Checkpoint recorded stamps sent) (checkpoint f low) k = record {
  recorded = recorded-alike flow now later state a p f recorded k.recorded;
  stamps = stamps-alike true flow now later (events_within (with_batches flow now) state p f)
      (each-kept (InjectsAlike flow now later) (λ v. node_frontier flow p f (event_stamp v)) (events state.history) a.injected)
      p (node_frontier flow p f) stamps k.stamps;
  sent = k.sent ∙ count-within flow now later state a p f;
}
holds-alike flow now later state a p (written.Checkpoint recorded stamps sent) (logged_event serial) k = absurd k
holds-alike flow now later state a p (written.Event event) (checkpoint f low) k = absurd k
holds-alike flow now later state a p (written.Event event) (logged_event serial) k = k

pub entries-alike : (flow : Dataflow) (now later : List (List (List Rec))) (state : Machine) → AreAlikeIn flow now later (events state.history)
    → (entries : List Entry) (writes : List Write)
    → AreEntriesOf (with_batches flow now) state entries writes → AreEntriesOf (with_batches flow later) state entries writes
entries-alike flow now later state a entries writes k =
    zip-weaker (IsEntryOf (with_batches flow now) state) (IsEntryOf (with_batches flow later) state) entries writes
    (λ entry write one. record {
      node = one.node;
      acknowledged = one.acknowledged;
      base = one.base;
      depth = one.depth;
      holds = holds-alike flow now later state a write.node entry.written write.written one.holds;
    }) k

to_log-alike : (flow : Dataflow) (now later : List (List (List Rec))) (state : Machine) → AreAlikeIn flow now later (events state.history)
    → (p : ℕ) (f : Front) (low : List Front) (e : ℕ) → to_log (with_batches flow now) state p f low e ≡ to_log (with_batches flow later) state p f low e
to_log-alike flow now later state a p f low e =
    ap (λ ms. cond (can_resend (policy_of flow p))
    (messages_outside (family_of flow low (receiver flow e)) (messages_from (node_frontier flow p f) ms)) [])
    (messages-alike flow now later (events state.history) a.injected e)

to_log_since-alike : (flow : Dataflow) (now later : List (List (List Rec))) (state : Machine) → AreAlikeIn flow now later (events state.history)
    → (p : ℕ) (g f : Front) (low : List Front) (e : ℕ) → to_log_since (with_batches flow now) state p g f low e ≡ to_log_since (with_batches flow later) state p g f low e
to_log_since-alike flow now later state a p g f low e =
    ap (λ ms. cond (can_resend (policy_of flow p))
    (messages_outside (family_of flow low (receiver flow e)) (messages_since (node_frontier flow p g) (node_frontier flow p f) ms)) [])
    (messages-alike flow now later (events state.history) a.injected e)

record-alike : (flow : Dataflow) (now later : List (List (List Rec))) (state : Machine) → AreAlikeIn flow now later (events state.history)
    → (p : ℕ) (base : Option Front) (what : WrittenBy) (r : Record) → IsRecordFor (with_batches flow now) state p base what r
    → IsRecordFor (with_batches flow later) state p base what r
record-alike flow now later state a p None (checkpoint f low) (tagged.State c) k =
    let same = node-alike flow now later (events state.history) a.injected p in
    record {
      node = k.node;
      recorded = recorded-alike flow now later state a p f c.recorded k.recorded;
      in_each = k.in_each;
      out_each = k.out_each;
      table = k.table;
      sent = k.sent ∙ count-within flow now later state a p f;
      sends = λ is g. k.sends is g ∙ ap (λ ms. length (messages_from g (messages_from (node_frontier flow p f) ms))) same;
      sends_none = k.sends_none;
      log = λ e s. k.log e s ∙ ap sorted_messages (to_log-alike flow now later state a p f low e);
      log_edges = k.log_edges;
    }
record-alike flow now later state a p (Some g) (checkpoint f low) (tagged.Changes id c) k =
    let same = node-alike flow now later (events state.history) a.injected p in
    record {
      node = k.node;
      recorded = recorded-alike flow now later state a p f c.recorded k.recorded;
      in_each = k.in_each;
      out_each = k.out_each;
      table = k.table;
      sent = k.sent ∙ count-within flow now later state a p f;
      sends = λ is h. k.sends is h ∙ ap (λ ms. length (messages_from h (messages_since (node_frontier flow p g) (node_frontier flow p f) ms))) same;
      sends_none = k.sends_none;
      log = λ e s. k.log e s ∙ ap sorted_messages (to_log_since-alike flow now later state a p g f low e);
      log_edges = k.log_edges;
    }
record-alike flow now later state a p None (checkpoint f low) (tagged.Event node event) k = absurd k
record-alike flow now later state a p None (checkpoint f low) (tagged.Changes id c) k = absurd k
record-alike flow now later state a p None (logged_event serial) (tagged.State c) k = absurd k
record-alike flow now later state a p None (logged_event serial) (tagged.Event node event) k = k
record-alike flow now later state a p None (logged_event serial) (tagged.Changes id c) k = absurd k
record-alike flow now later state a p (Some g) (checkpoint f low) (tagged.State c) k = absurd k
record-alike flow now later state a p (Some g) (checkpoint f low) (tagged.Event node event) k = absurd k
record-alike flow now later state a p (Some g) (logged_event serial) (tagged.State c) k = absurd k
record-alike flow now later state a p (Some g) (logged_event serial) (tagged.Event node event) k = absurd k
record-alike flow now later state a p (Some g) (logged_event serial) (tagged.Changes id c) k = absurd k

pub stored-alike : (flow : Dataflow) (now later : List (List (List Rec))) (state : Machine) → AreAlikeIn flow now later (events state.history)
    → (records : Option Records) (entries : List Entry) (writes : List Write)
    → AreStored (with_batches flow now) state records entries writes → AreStored (with_batches flow later) state records entries writes
stored-alike flow now later state a records entries writes k = λ held e.
    zip-weaker (IsHeldAs (with_batches flow now) state held) (IsHeldAs (with_batches flow later) state held) entries writes
    (λ entry write one. record {
      what = one.what;
      of_entry = one.of_entry;
      of_write = record-alike flow now later state a write.node write.base write.written one.what one.of_write;
    }) (k held e)

-- ---- the engine

pub fed-engines_stand : FedEnginesStand
fed-engines_stand opened flow now later g well steps effects state run old new f records s =
    let stays = f.stays in
    let sys = with_batches flow later in
    let h = events state.history in
    let a = run-alike opened flow now later g steps effects state run in
    let on = open-runs_are_runs opened sys (first_state sys) steps effects state (open-runs_go_on opened flow now later g steps effects state run) in
    let counts = s.apart.progress.counts in
    let before = s.apart.progress.kept in
    record {
      apart = record {
        flow = stays.of_flow ∙ s.apart.flow;
        well_formed = well;
        reached = (steps, map did effects, on);
        settled = stays.settled ∙ s.apart.settled;
        failed = stays.failed ∙ s.apart.failed;
        low = stays.low ∙ s.apart.low;
        epochs = f.epochs;
        tables = λ p l. subst (λ t. IsTableIn sys state p t) (sym (stays.tables p)) (table-alike flow now later state p _ (s.apart.tables p l));
        queues = λ e l. stays.queues e ∙ s.apart.queues e l ∙ queued-alike flow now later state a e;
        logs = λ e l. stays.logs e ∙ s.apart.logs e l ∙ logged-alike flow now later state a e;
        outputs = λ o l is. subst (λ t. IsOutputOf sys state o t) (sym (stays.outputs o)) (output-alike flow now later state o _ (s.apart.outputs o l is));
        sources = f.sources;
        progress = record {
          counts = record {
            pending = λ e l t. ap (times_in t) (stays.pending e) ∙ counts.pending e l t ∙ ap (count_at t) (pending-alike flow now later h a e);
            owed = λ p l t. ap (has_one t) (stays.owed p) ∙ counts.owed p l t;
            batches = f.batches;
            injected = λ p l. stays.injected p ∙ counts.injected p l;
            sent = λ p l k. subst (λ table. IsSentTable sys h p table) (sym (stays.sent p))
                (λ i. counts.sent p l k i ∙ ap (count_from i) (node-alike flow now later h a.injected p));
            in_order = λ p l k. subst EpochsAscend (sym (stays.sent p)) (counts.in_order p l k);
            epochs = λ p l k. subst (λ table. AllByRecursion (λ (entry : ℕ × ℕ). was_notified p (entry.0 ∷ []) h ≡ true) table) (sym (stays.sent p)) (counts.epochs p l k);
          };
          kept = record {
            admissible = subst (λ fronts. IsAdmissible sys h (family_of flow fronts)) (sym stays.kept)
                (admissible-alike flow now later h a (family_of flow old.progress.kept) before.admissible);
            stuck = λ p l i. subst (λ fronts. IsStuck sys h (family_of flow fronts) p) (sym stays.kept)
                (stuck-alike flow now later h a (family_of flow old.progress.kept) p
                (before.stuck p l (ap (λ w. is_in w p) (sym stays.work) ∙ i)));
          };
        };
        entries = subst (λ es. AreEntriesOf sys state es (uncollected state)) (sym stays.entries)
            (entries-alike flow now later state a old.parts.keep.entries (uncollected state) s.apart.entries);
        bases = subst (λ es. AreBasesOf es es (uncollected state)) (sym stays.entries) s.apart.bases;
        stored = subst (λ es. AreStored sys state records es (uncollected state)) (sym stays.entries)
            (stored-alike flow now later state a records old.parts.keep.entries (uncollected state) s.apart.stored);
      };
      traces = record {
        floor = s.traces.floor;
        above = record {
          notices = s.traces.above.notices;
          consistent = consistent-alike flow now later state a (λ p. true) kept (choice_at s.traces.floor s.traces.above.notices) s.traces.above.consistent;
        };
        each = λ p l. subst (λ t. IsTraceIn sys s.traces.floor state p t) (sym stays.traces) (trace-alike flow now later state a s.traces.floor p old.traces (s.traces.each p l));
      };
      lost = λ p is t. subst (λ ts. Contains ts t ↔ IsLostAt sys state p t) (sym (stays.lost p))
          (let both = s.lost p is t in
          (λ c. lost-alike flow now later state p t (both.0 c), λ l. both.1 (lost-alike flow later now state p t l)));
    }

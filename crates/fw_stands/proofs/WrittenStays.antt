-- What stands for a write stands for it after each step.
use Rattle.std.proofs.Common.{◌≡◌, ℕ, ◌<◌, Bool, true, false, cond, not, ◌&&◌, ◌==◌, List, [], ◌∷◌, ◌++◌, length, filter, map, Option, Some, None, refl, sym, ap, subst, ◌∙◌, inl, inr, arith}
use Rattle.std.specs.List.{flat_map, AllByRecursion}
use Rattle.std.proofs.lemmas.Bool.{cond_both, eqb-true, eq-eqb}
use Rattle.fw_lemmas.proofs.Bools.{two_ways}
use Rattle.fw_lemmas.proofs.Each.{each-weaker, each-both, each-one}
use Rattle.fw_lemmas.proofs.Filters.{filter-swap, flat_map-filter}
use Rattle.fw_time.specs.Stamp.{Stamp}
use Rattle.fw_frontier.specs.Frontier.{Frontier, everything}
use Rattle.fw_frontier.specs.Front.{Front}
use Rattle.fw_flow.specs.declared.choice.Cut.TheVariants.{At}
use Rattle.fw_flow.specs.declared.choice.Recorded.{Recorded}
use Rattle.fw_flow.specs.declared.choice.Stamps.{Stamps}
use Rattle.fw_flow.specs.declared.event.Event.{Event as Happened}
use Rattle.fw_flow.specs.declared.event.Event.TheVariants.{Inject as Injected, Deliver as Delivered, Notify as Notified}
use Rattle.fw_flow.specs.declared.event.Message.{Message}
use Rattle.fw_flow.specs.declared.step.Step.{Step}
use Rattle.fw_flow.specs.declared.step.Step.TheVariants.{Inject, Deliver, Notify, Progress as ProgressStep, Checkpoint as CheckpointStep, Persist, Fail, Recover, Collect, Ack}
use Rattle.fw_flow.specs.Dataflow.{System, Dataflow, kind_of, policy_of, sender, receiver, bounds_of, node_frontier}
use Rattle.fw_flow.specs.NodeFunction.{event_node, event_stamp, sent_by, sequence_sent, delivered_recs}
use Rattle.fw_flow.specs.Projection.{all_inside, events_at}
use Rattle.fw_flow.specs.Restoring.{can_resend}
use Rattle.fw_flow.specs.WellFormed.{IsWellFormedSystem}
use Rattle.fw_model.specs.Carried.{carried}
use Rattle.fw_model.specs.Choice.{kept_of}
use Rattle.fw_model.specs.Covers.{stamp_of_notice}
use Rattle.fw_model.specs.Alike.{StandForCauses}
use Rattle.fw_model.specs.EventStamps.{AreStampsIf, base_of_sent, tells_sent, causes_in, causes_of}
use Rattle.fw_model.specs.Filtering.{events_inside, messages_from, messages_outside}
use Rattle.fw_model.specs.History.{message_on, delivered_messages, sent_messages, IsLegal}
use Rattle.fw_model.specs.LawsOfWrites.{HasEventOf, HasItsEvent}
use Rattle.fw_model.specs.Machine.{Machine, SerialEvent, Write, checkpoint, logged_event, events, family_of, first_state, Written as WrittenBy}
use Rattle.fw_model.specs.Offers.{counted_on_edge, stamps_on, stamps_on_from}
use Rattle.fw_model.specs.Reached.{IsReached}
use Rattle.fw_model.specs.SortedMessages.{sorted_messages}
use Rattle.fw_model.specs.Steps.{Effect, did, LeadsTo}
use Rattle.fw_model.specs.Thinned.{IsThinned, IsThinnedIf}
use Rattle.fw_model.specs.Writes.{CountsTheSame, CountsWritten}
use Rattle.fw_model.proofs.AskedLaws.{AreSerialsBelow, reached-all, took-reached}
use Rattle.fw_model.proofs.DomainLaws.{has_epochs}
use Rattle.fw_model.proofs.FilteredLaws.{set-frontier}
use Rattle.fw_model.proofs.GoingOn.{runs-go_on}
use Rattle.fw_model.proofs.LoggedLaws.{logged-in_order}
use Rattle.fw_model.proofs.RestoringLaws.{took-true}
use Rattle.fw_model.proofs.SendPartLaws.{parts-send}
use Rattle.fw_node.specs.Past.{totals_kept}
use Rattle.fw_node.specs.StateOf.{IsStateSince}
use Rattle.fw_policy.specs.Entries.{IsRecorded, sent_by_node}
use Rattle.fw_record.specs.declared.record.Checkpoint.{Checkpoint}
use Rattle.fw_record.specs.declared.record.Event.{Event}
use Rattle.fw_record.specs.declared.record.Record.{Record}
use Rattle.fw_record.specs.declared.record.Record.TheVariants as tagged
use Rattle.fw_keep.specs.declared.entry.Written.{Written}
use Rattle.fw_keep.specs.declared.entry.Written.TheVariants as written
use Rattle.fw_stands.specs.Written.{HasEventTold, events_within, HoldsWithin, HoldsWhatIsWritten, IsChangesFor, IsCheckpointFor, IsRecordFor}
use Rattle.fw_stands.specs.Entries.{StaysWritten}

-- ---- what a node's stamps stand for hangs on its events alone

delivered-own : (flow : Dataflow) (p d : ℕ) → receiver flow d ≡ p → (h : List Happened) → delivered_messages (events_at flow p h) d ≡ delivered_messages h d
delivered-own flow p d r h =
    flat_map-filter (message_on d) (λ v. event_node flow v == p) h (each-one (λ v. (event_node flow v == p) ≡ false → message_on d v ≡ []) h elsewhere)
  where
    elsewhere : (v : Happened) → (event_node flow v == p) ≡ false → message_on d v ≡ []
    elsewhere (Injected s x) n = refl
    elsewhere (Notified q t) n = refl
    elsewhere (Delivered e m) n =
        cond_both (e == d) (m ∷ []) [] (λ (ms : List Message). ms ≡ [])
        (λ c. absurd (two_ways (receiver flow e == p) (eq-eqb (receiver flow e) p (ap (receiver flow) (eqb-true e d c) ∙ r)) n)) (λ c. refl)

notices-own : (flow : Dataflow) (p : ℕ) (h : List Happened) → flat_map (stamp_of_notice p) (events_at flow p h) ≡ flat_map (stamp_of_notice p) h
notices-own flow p h =
    flat_map-filter (stamp_of_notice p) (λ v. event_node flow v == p) h (each-one (λ v. (event_node flow v == p) ≡ false → stamp_of_notice p v ≡ []) h elsewhere)
  where
    elsewhere : (v : Happened) → (event_node flow v == p) ≡ false → stamp_of_notice p v ≡ []
    elsewhere (Injected s x) n = refl
    elsewhere (Delivered e m) n = refl
    elsewhere (Notified q t) n = cond_both (q == p) (t ∷ []) [] (λ (ts : List Stamp). ts ≡ []) (λ c. absurd (two_ways (q == p) c n)) (λ c. refl)

-- the stamps stand for a node's events in each history in which these are the same
pub stamps-own : (whole : Bool) (sys : System) (h k : List Happened) (p : ℕ) (base : Frontier) (stamps : Stamps) → events_at sys.flow p k ≡ events_at sys.flow p h
    → AreStampsIf whole sys h p base stamps → AreStampsIf whole sys k p base stamps
stamps-own whole sys h k p base stamps same a =
    let own : (e : ℕ) → sender sys.flow e ≡ p → sent_messages sys h e ≡ sent_messages sys k e =
    λ e s. ap (carried sys.flow e) (subst (λ q. sent_by sys q (events_at sys.flow q h) ≡ sent_by sys q (events_at sys.flow q k)) (sym s) (ap (sent_by sys p) (sym same))) in
    record {
      on_edges = a.on_edges;
      in_domain = a.in_domain;
      delivered = λ d r.
          subst (λ ms. IsThinnedIf whole base (map (λ (m : Message). m.at) ms) (stamps_on d stamps.delivered))
          (sym (delivered-own sys.flow p d r h) ∙ ap (λ vs. delivered_messages vs d) (sym same) ∙ delivered-own sys.flow p d r k) (a.delivered d r);
      notified = subst (λ ts. IsThinnedIf whole base ts stamps.notified)
          (sym (notices-own sys.flow p h) ∙ ap (flat_map (stamp_of_notice p)) (sym same) ∙ notices-own sys.flow p k) a.notified;
      sent = λ n e l s.
          let x = a.sent n e l s in
          record {
            of_cause = x.of_cause;
            thinned = subst (λ ms. StandForCauses sys.flow p (whole && tells_sent sys.flow p) (base_of_sent sys.flow p base) (causes_in ms) (causes_of (counted_on_edge e stamps.sent))) (own e s) x.thinned;
          };
      numbered = λ n t e l s.
          subst (λ ms. IsThinned (everything (bounds_of sys.flow (receiver sys.flow e))) (map (λ (m : Message). m.at) ms)
          (stamps_on_from e (everything (bounds_of sys.flow (sender sys.flow e))) stamps.sent)) (own e s) (a.numbered n t e l s);
    }

-- the node's events inside are those inside of the node's
at-inside : (flow : Dataflow) (p : ℕ) (f : Frontier) (h : List Happened) → events_at flow p (events_inside f h) ≡ events_inside f (events_at flow p h)
at-inside flow p f h =
    let j : Happened → Bool = λ v. event_node flow v == p in
    let k : Happened → Bool = λ v. f (event_stamp v) in
    filter-swap j k k h (each-one (λ v. j v ≡ true → k v ≡ k v) h (λ v e. refl))

-- ---- a checkpoint

-- what two states with legal histories have alike, where they count the same inside f
record AreAlike (sys : System) (state next : Machine) (p : ℕ) (f : Front) : Type 0 where
  counts : CountsTheSame sys state next p f
  within : events_at sys.flow p (events_within sys next p f) ≡ events_at sys.flow p (events_within sys state p f)
  sent : messages_from (node_frontier sys.flow p f) (sent_by_node sys (events next.history) p)
      ≡ messages_from (node_frontier sys.flow p f) (sent_by_node sys (events state.history) p)

alike : (sys : System) → IsWellFormedSystem sys → (state next : Machine) → IsLegal sys (events state.history) → IsLegal sys (events next.history) → (p : ℕ) (f : Front)
    → CountsTheSame sys state next p f → AreAlike sys state next p f
alike sys w state next l m p f c =
    let g : Frontier = node_frontier sys.flow p f in
    record {
      counts = c;
      within = at-inside sys.flow p g (events next.history) ∙ c.part.events ∙ sym (at-inside sys.flow p g (events state.history));
      sent = parts-send sys (events state.history) (events next.history) w.flow (has_epochs sys w) l m p g (set-frontier sys p (At f)) c.part;
    }

recorded-stays : (sys : System) (state next : Machine) (p : ℕ) (f : Front) → CountsTheSame sys state next p f → (r : Recorded) → IsRecorded sys state p f r → IsRecorded sys next p f r
recorded-stays sys state next p f c r a = record {
  front = a.front;
  of_flow = a.of_flow;
  delivered = λ d l e. a.delivered d l e ∙ sym (c.delivered d e);
  notified = a.notified ∙ sym c.notified;
  discarded = λ e l s. a.discarded e l s ∙ sym (c.discarded e s);
}

within-stays : (sys : System) (state next : Machine) (p : ℕ) (f : Front) → AreAlike sys state next p f → (r : Recorded) (s : Stamps) (n : ℕ)
    → HoldsWithin sys state p f r s n → HoldsWithin sys next p f r s n
within-stays sys state next p f a r s n h = record {
  recorded = recorded-stays sys state next p f a.counts r h.recorded;
  stamps = stamps-own true sys (events_within sys state p f) (events_within sys next p f) p (node_frontier sys.flow p f) s a.within h.stamps;
  sent = h.sent ∙ ap length (sym a.sent);
}

checkpoint-stays : (sys : System) (state next : Machine) (p : ℕ) (f : Front) → AreAlike sys state next p f → (low : List Front) (c : Checkpoint)
    → IsCheckpointFor sys state p f low c → IsCheckpointFor sys next p f low c
checkpoint-stays sys state next p f a low c h =
    let g : Frontier = node_frontier sys.flow p f in
    record {
      node = h.node;
      recorded = recorded-stays sys state next p f a.counts c.recorded h.recorded;
      in_each = h.in_each;
      out_each = h.out_each;
      table = record {
        totals = h.table.totals ∙ ap (λ vs. totals_kept (kind_of sys.flow p) (delivered_recs (λ d s. true) vs)) (sym a.within);
        sent = λ k. h.table.sent k ∙ ap (λ vs. length (sequence_sent vs)) (sym a.within);
      };
      sent = h.sent ∙ ap length (sym a.sent);
      sends = λ k i. h.sends k i ∙ ap (λ ms. length (messages_from i ms)) (sym a.sent);
      sends_none = h.sends_none;
      log = λ e s. h.log e s
          ∙ ap (λ ms. sorted_messages (cond (can_resend (policy_of sys.flow p)) (messages_outside (family_of sys.flow low (receiver sys.flow e)) ms) [])) (sym (a.counts.part.sent e s));
      log_edges = h.log_edges;
    }

changes-stay : (sys : System) (state next : Machine) (p : ℕ) (f : Front) → AreAlike sys state next p f → (g : Front) (low : List Front) (c : Checkpoint)
    → IsChangesFor sys state p g f low c → IsChangesFor sys next p g f low c
changes-stay sys state next p f a g low c h =
    let since : List Message → List Message = λ ms. filter (λ m. not (all_inside (node_frontier sys.flow p g) m.causes)) ms in
    record {
      node = h.node;
      recorded = recorded-stays sys state next p f a.counts c.recorded h.recorded;
      in_each = h.in_each;
      out_each = h.out_each;
      table = subst (λ vs. IsStateSince (kind_of sys.flow p) (node_frontier sys.flow p g) vs c.state) (sym a.within) h.table;
      sent = h.sent ∙ ap length (sym a.sent);
      sends = λ k i. h.sends k i ∙ ap (λ ms. length (messages_from i (since ms))) (sym a.sent);
      sends_none = h.sends_none;
      log = λ e s. h.log e s
          ∙ ap (λ ms. sorted_messages (cond (can_resend (policy_of sys.flow p)) (messages_outside (family_of sys.flow low (receiver sys.flow e)) (since ms)) []))
          (sym (a.counts.part.sent e s));
      log_edges = h.log_edges;
    }

-- ---- a logged event

pub told-below : (flow : Dataflow) (p s n : ℕ) (event : Event) (h : List SerialEvent) → AreSerialsBelow n h → HasEventTold flow p s event h → s < n
told-below flow p s n event [] b a = absurd a
told-below flow p s n event (v ∷ h) b (inl a) = let l = b.0 in let e = a.same_serial in omega arith
told-below flow p s n event (v ∷ h) b (inr a) = let l = b.0 in let k = told-below flow p s v.serial event h b.1 a in omega arith

event-below : (flow : Dataflow) (p s n : ℕ) (test : SerialEvent → Bool) (h : List SerialEvent) → AreSerialsBelow n h → HasEventOf flow p s (filter test h) → s < n
event-below flow p s n test [] b a = absurd a
event-below flow p s n test (v ∷ h) b a = by (test v) (λ k. event-below flow p s v.serial test h b.1 k) a
  where
    by : (c : Bool) → (HasEventOf flow p s (filter test h) → s < v.serial) → HasEventOf flow p s (cond c (v ∷ filter test h) (filter test h)) → s < n
    by true rest (inl a) = let l = b.0 in let e = a.0 in omega arith
    by true rest (inr a) = let l = b.0 in let k = rest a in omega arith
    by false rest a = let l = b.0 in let k = rest a in omega arith

-- an event that is told of is told of in what is kept of the history, where an event of the serial is kept
told-kept : (flow : Dataflow) (p s n : ℕ) (event : Event) (test : SerialEvent → Bool) (h : List SerialEvent) → AreSerialsBelow n h
    → HasEventOf flow p s (filter test h) → HasEventTold flow p s event h → HasEventTold flow p s event (filter test h)
told-kept flow p s n event test [] b k a = absurd a
told-kept flow p s n event test (v ∷ h) b k a = by (test v) (λ c d. told-kept flow p s v.serial event test h b.1 c d) k a
  where
    by : (c : Bool) → (HasEventOf flow p s (filter test h) → HasEventTold flow p s event h → HasEventTold flow p s event (filter test h))
        → HasEventOf flow p s (cond c (v ∷ filter test h) (filter test h)) → HasEventTold flow p s event (v ∷ h)
        → HasEventTold flow p s event (cond c (v ∷ filter test h) (filter test h))
    by true rest k (inl a) = inl a
    by true rest (inl k) (inr a) = let l = told-below flow p s v.serial event h b.1 a in let e = k.0 in absurd (omega arith)
    by true rest (inr k) (inr a) = inr (rest k a)
    by false rest k (inl a) = let l = event-below flow p s v.serial test h b.1 k in let e = a.same_serial in absurd (omega arith)
    by false rest k (inr a) = rest k a

-- each event that is told of in a state and is in the next one's history is told of there
abbrev ToldStay : Dataflow → Machine → Machine → Type 0
ToldStay flow state next = (p s : ℕ) (event : Event) → HasEventOf flow p s next.history → HasEventTold flow p s event state.history → HasEventTold flow p s event next.history

told-same : (flow : Dataflow) (state next : Machine) → next.history ≡ state.history → ToldStay flow state next
told-same flow state next e p s event k a = subst (HasEventTold flow p s event) (sym e) a

told-later : (flow : Dataflow) (state next : Machine) (v : SerialEvent) → next.history ≡ v ∷ state.history → ToldStay flow state next
told-later flow state next v e p s event k a = subst (HasEventTold flow p s event) (sym e) (inr a)

told-filtered : (flow : Dataflow) (state next : Machine) (test : SerialEvent → Bool) → AreSerialsBelow state.next state.history → next.history ≡ filter test state.history → ToldStay flow state next
told-filtered flow state next test b e p s event k a =
    subst (HasEventTold flow p s event) (sym e) (told-kept flow p s state.next event test state.history b (subst (HasEventOf flow p s) e k) a)

told-step : (sys : System) (state : Machine) → AreSerialsBelow state.next state.history → (step : Step) (next : Machine) (effect : Effect) → LeadsTo sys state step next effect
    → ToldStay sys.flow state next
told-step sys state b (Inject s) next effect t = told-later sys.flow state next (record { serial = state.next; event = Injected s t.0 }) (ap (λ (m : Machine). m.history) t.3)
told-step sys state b (Deliver e at) next effect t = told-later sys.flow state next (record { serial = state.next; event = Delivered e t.0 }) (ap (λ (m : Machine). m.history) t.3)
told-step sys state b (Notify p at) next effect t = told-later sys.flow state next (record { serial = state.next; event = Notified p t.0 }) (ap (λ (m : Machine). m.history) t.3)
told-step sys state b ProgressStep next effect t = told-same sys.flow state next (ap (λ (m : Machine). m.history) t.3)
told-step sys state b (CheckpointStep p) next effect t = told-same sys.flow state next (ap (λ (m : Machine). m.history) t.3)
told-step sys state b Persist next effect t = told-same sys.flow state next (ap (λ (m : Machine). m.history) t.2)
told-step sys state b (Fail ps) next effect t = told-same sys.flow state next (ap (λ (m : Machine). m.history) t.4)
told-step sys state b Recover next effect t =
    told-filtered sys.flow state next (λ v. kept_of sys.flow t.1 (event_node sys.flow v.event) (event_stamp v.event)) b (ap (λ (m : Machine). m.history) t.7)
told-step sys state b Collect next effect t = told-same sys.flow state next (ap (λ (m : Machine). m.history) t.3)
told-step sys state b (Ack o) next effect t = told-same sys.flow state next (ap (λ (m : Machine). m.history) t.2)

-- ---- what is written

written-stays : (sys : System) → IsWellFormedSystem sys → (state next : Machine) → IsLegal sys (events state.history) → IsLegal sys (events next.history)
    → ToldStay sys.flow state next → (p : ℕ) (base : Option Front) (what : WrittenBy) → CountsWritten sys state next p what → HasItsEvent sys.flow next.history p what
    → StaysWritten sys state next p base what
written-stays sys w state next l m told p base (checkpoint f low) c k =
    let a = alike sys w state next l m p f c in
    record { held = λ entry h. holds entry a h; spelled = λ r h. records base r a h }
  where
    holds : (entry : Written) → AreAlike sys state next p f → HoldsWhatIsWritten sys state p entry (checkpoint f low) → HoldsWhatIsWritten sys next p entry (checkpoint f low)
    holds (written.Checkpoint r s n) a h = within-stays sys state next p f a r s n h
    holds (written.Event event) a h = absurd h

    records : (b : Option Front) (r : Record) → AreAlike sys state next p f → IsRecordFor sys state p b (checkpoint f low) r → IsRecordFor sys next p b (checkpoint f low) r
    records None (tagged.State c) a h = checkpoint-stays sys state next p f a low c h
    records None (tagged.Event q event) a h = absurd h
    records None (tagged.Changes id c) a h = absurd h
    records (Some g) (tagged.State c) a h = absurd h
    records (Some g) (tagged.Event q event) a h = absurd h
    records (Some g) (tagged.Changes id c) a h = changes-stay sys state next p f a g low c h
written-stays sys w state next l m told p base (logged_event s) c k = record { held = holds; spelled = records base }
  where
    holds : (entry : Written) → HoldsWhatIsWritten sys state p entry (logged_event s) → HoldsWhatIsWritten sys next p entry (logged_event s)
    holds (written.Checkpoint r t n) h = absurd h
    holds (written.Event event) h = told p s event k h

    records : (b : Option Front) (r : Record) → IsRecordFor sys state p b (logged_event s) r → IsRecordFor sys next p b (logged_event s) r
    records None (tagged.State c) h = absurd h
    records None (tagged.Event q event) h = (h.0, told p s event k h.1)
    records None (tagged.Changes id c) h = absurd h
    records (Some g) (tagged.State c) h = absurd h
    records (Some g) (tagged.Event q event) h = absurd h
    records (Some g) (tagged.Changes id c) h = absurd h

-- where a state is reached the next one is
pub reached-next : (sys : System) (state : Machine) → IsReached sys state → (step : Step) (next : Machine) (effect : Effect) → LeadsTo sys state step next effect → IsReached sys next
reached-next sys state r step next effect t =
    (r.0 ++ step ∷ [], r.1 ++ did effect ∷ [], runs-go_on sys (first_state sys) state next r.0 (step ∷ []) r.1 (did effect ∷ []) r.2 (next, t, refl))

-- each step from a state to which steps of a well-formed system lead leaves what stands for each write that is among the
-- writes after it: asked in that step or before, and in a recovery those that lie within the cuts of their nodes
pub what_is_written_stays : (sys : System) → IsWellFormedSystem sys → (state : Machine) → IsReached sys state
    → (step : Step) (next : Machine) (effect : Effect) → LeadsTo sys state step next effect
    → AllByRecursion (λ (write : Write). StaysWritten sys state next write.node write.base write.written) next.writes
what_is_written_stays sys w state r step next effect t =
    let f = reached-all sys w r.0 r.1 state r.2 in
    let g = took-reached sys w state step next effect f t in
    let also = reached-next sys state r step next effect t in
    let there = (logged-in_order sys w also.0 also.1 next also.2).there in
    let Counts : Write → Type 0 = λ x. CountsWritten sys state next x.node x.written in
    let Has : Write → Type 0 = λ x. HasItsEvent sys.flow next.history x.node x.written in
    each-weaker (λ x. Counts x × Has x) (λ (x : Write). StaysWritten sys state next x.node x.base x.written) next.writes
    (λ x a. written-stays sys w state next f.recover.holds.legal g.recover.holds.legal (told-step sys state f.restore.serials step next effect t) x.node x.base x.written a.0 a.1)
    (each-both Counts Has next.writes (took-true sys w state step next effect f g t) there)

-- An engine that takes an event stands for the state with the event.
use Rattle.std.proofs.Common.{◌≡◌, ℕ, ◌<◌, Bool, true, false, not, ◌&&◌, ◌==◌, List, [], ◌∷◌, ◌++◌, length, Option, Some, refl, sym, ap, subst, ◌∙◌, inl, inr}
use Rattle.std.specs.Prelude.{◌↔◌, ◌⊎◌, slice_index_or}
use Rattle.std.specs.List.{Contains}
use Rattle.std.proofs.lemmas.Bool.{cases_Bool, cond-true, cond-false, eqb-true, false_from_ne_true, false≢true}
use Rattle.fw_frontier.specs.Front.{inside}
use Rattle.fw_flow.specs.declared.event.Event.{Event}
use Rattle.fw_flow.specs.declared.event.Event.TheVariants.{Inject, Deliver, Notify}
use Rattle.fw_flow.specs.declared.event.Message.{Message}
use Rattle.fw_flow.specs.declared.kind.Policy.TheVariants as policy
use Rattle.fw_flow.specs.declared.kind.Policy.{Policy}
use Rattle.fw_flow.specs.declared.step.Step.{Step}
use Rattle.fw_flow.specs.declared.step.Step.TheVariants.{Inject as InjectStep}
use Rattle.fw_flow.specs.Dataflow.{System, Dataflow, kind_of, policy_of, sender, receiver, is_input_kind, is_output_kind}
use Rattle.fw_flow.specs.Message.{messages_less}
use Rattle.fw_flow.specs.NodeFunction.{event_node}
use Rattle.fw_flow.specs.Restoring.{can_resend}
use Rattle.fw_flow.specs.WellFormed.{IsWellFormedSystem}
use Rattle.fw_model.specs.Carried.{carried}
use Rattle.fw_model.specs.Filtering.{messages_outside}
use Rattle.fw_model.specs.History.{is_injection, message_on, IsEnabled}
use Rattle.fw_model.specs.Machine.{Machine, Write, events, front_of, is_failed}
use Rattle.fw_model.specs.Reached.{IsReached}
use Rattle.fw_model.specs.SortedMessages.{with_messages}
use Rattle.fw_model.specs.Steps.{Effect, HasEpoch, LeadsTo, did, with_event, write_of_event}
use Rattle.fw_model.proofs.NothingInsideLaws.{kind-declared}
use Rattle.fw_record.specs.declared.record.Event.{Event as Told}
use Rattle.fw_record.specs.declared.record.Record.TheVariants as tagged
use Rattle.fw_keep.specs.declared.entry.Entry.{Entry}
use Rattle.fw_keep.specs.Entry.{asked}
use Rattle.fw_keep.specs.Stored.{Records}
use Rattle.fw_policy.specs.View.{IsLostAt}
use Rattle.fw_node.specs.Answers.{without_causes}
use Rattle.fw_progress.specs.History.{FollowsEvent}
use Rattle.fw_progress.specs.Trace.{TracesFollow}
use Rattle.fw_stands.specs.Events.{put_on, LogFollows, QueueFollows}
use Rattle.fw_stands.specs.Entries.{entries_of_event, AreBasesOf}
use Rattle.fw_stands.specs.Parts.{queued, is_logging, logged, IsTableIn, IsOutputOf, IsSourceOf}
use Rattle.fw_stands.specs.Written.{told_of, uncollected, AreEntriesOf, AreStored}
use Rattle.fw_stands.proofs.BaseSteps.{bases_after_event, bases_after_step}
use Rattle.fw_stands.proofs.EntrySteps.{entries_after_event, entries_after_step, records_after_logged_event, records_after_step, injections_are_not_logged}
use Rattle.fw_stands.proofs.EventBorderLaws.{outputs-stay, sources-stay}
use Rattle.fw_stands.proofs.AtReached.{reached-next}
use Rattle.fw_stands.proofs.EventLostLaws.{lost-stays}
use Rattle.fw_stands.proofs.EventQueueLaws.{queues-follow, logs-follow}
use Rattle.fw_stands.proofs.EventTableLaws.{deliveries-can_be_taken_in, notices-can_be_taken, tables-stay}
use Rattle.fw_stands.proofs.EventTraceLaws.{traces-follow, progress-follows}
use Rattle.fw_stands.proofs.SpellingLaws.{logged_events_have_spellings}
use Rattle.fw_running.proofs.KnownTraces.{knows-next}
use Rattle.fw_running.specs.declared.running.Running.{Running}
use Rattle.fw_running.specs.Kept.{queue_at, log_at, table_of, source_of, output_of, lost_at, is_down}
use Rattle.fw_running.specs.Logging.{IsEventAsked, IsNotAsked}
use Rattle.fw_running.specs.Stands.{Stands}
use Rattle.fw_events.specs.AfterEvent.{EdgesFollow, LeavesOthers, WritesStand, EventsAreFollowed, LoggedEventsAreFollowed}

-- ---- edges

-- a queue that follows an event is the one of the state with the event
queue-after : (sys : System) (state : Machine) (v : Event) (sent : List Message) (e : ℕ) (old new : List Message) → QueueFollows sys state v sent e
    → old ≡ queued sys state e
    → (is_failed state (receiver sys.flow e) ≡ false → new ≡ with_messages (put_on sys.flow e v sent) (messages_less old (message_on e v)))
    → (is_failed state (receiver sys.flow e) ≡ true → new ≡ old) → new ≡ queued sys (with_event sys state v) e
queue-after sys state v sent e old new f is live down = elim (cases_Bool (is_failed state (receiver sys.flow e))) [
  | inl k ↦ down k ∙ is ∙ cond-true (is_failed state (receiver sys.flow e)) [] _ k ∙ sym (f.failed k)
  | inr k ↦ live k ∙ ap (λ q. with_messages (put_on sys.flow e v sent) (messages_less q (message_on e v))) is ∙ sym (f.live k)
]

-- whether edge e is logged, where its sender is a node that is not failed
logging-live : (sys : System) (state : Machine) (p e : ℕ) → is_failed state p ≡ false → (p == sender sys.flow e) ≡ true
    → is_logging sys state e ≡ can_resend (policy_of sys.flow p)
logging-live sys state p e live here =
    ap (λ q. can_resend (policy_of sys.flow q) && not (is_failed state q)) (sym (eqb-true p (sender sys.flow e) here))
    ∙ ap (λ b. can_resend (policy_of sys.flow p) && not b) live ∙ and-true (can_resend (policy_of sys.flow p))
  where
    and-true : (b : Bool) → (b && true) ≡ b
    and-true true = refl
    and-true false = refl

-- nothing is put on an edge that its sender logs not as it would
none-put : (sys : System) (state : Machine) (v : Event) (sent : List Message) (e : ℕ) → is_failed state (event_node sys.flow v) ≡ false
    → (logs : Bool) → can_resend (policy_of sys.flow (event_node sys.flow v)) ≡ logs → is_logging sys state e ≡ not logs → put_on sys.flow e v sent ≡ []
none-put sys state v sent e live logs c k =
    cond-false (event_node sys.flow v == sender sys.flow e) (carried sys.flow e sent) []
    (false_from_ne_true (event_node sys.flow v == sender sys.flow e) (λ here.
    differ logs (sym c ∙ sym (logging-live sys state (event_node sys.flow v) e live here) ∙ k)))
  where
    differ : (b : Bool) → b ≡ not b → ⊥
    differ true e = false≢true (sym e)
    differ false e = false≢true e

-- a log that follows an event is the one of the state with the event
log-after : (sys : System) (state : Machine) (v : Event) (sent : List Message) (e : ℕ) (old new : List Message) → LogFollows sys state v sent e
    → is_failed state (event_node sys.flow v) ≡ false → old ≡ logged sys state e
    → (can_resend (policy_of sys.flow (event_node sys.flow v)) ≡ true → new
    ≡ with_messages (messages_outside (inside (front_of state.low (receiver sys.flow e))) (put_on sys.flow e v sent)) old)
    → (can_resend (policy_of sys.flow (event_node sys.flow v)) ≡ false → new ≡ old) → new ≡ logged sys (with_event sys state v) e
log-after sys state v sent e old new f live is again never =
    let low = inside (front_of state.low (receiver sys.flow e)) in
    let none : (logs : Bool) → can_resend (policy_of sys.flow (event_node sys.flow v)) ≡ logs → is_logging sys state e ≡ not logs
    → with_messages (messages_outside low (put_on sys.flow e v sent)) old ≡ old =
    λ logs c k. ap (λ ms. with_messages (messages_outside low ms) old) (none-put sys state v sent e live logs c k) in
    elim (cases_Bool (can_resend (policy_of sys.flow (event_node sys.flow v)))) [
      | inl c ↦ elim (cases_Bool (is_logging sys state e)) [
        | inl k ↦ again c ∙ ap (with_messages (messages_outside low (put_on sys.flow e v sent))) is ∙ sym (f.logging k)
        | inr k ↦ again c ∙ none true c k ∙ is ∙ cond-false (is_logging sys state e) _ [] k ∙ sym (f.not_logging k)
      ]
      | inr c ↦ elim (cases_Bool (is_logging sys state e)) [
        | inl k ↦ never c ∙ sym (none false c k) ∙ ap (with_messages (messages_outside low (put_on sys.flow e v sent))) is ∙ sym (f.logging k)
        | inr k ↦ never c ∙ is ∙ cond-false (is_logging sys state e) _ [] k ∙ sym (f.not_logging k)
      ]
    ]

-- ---- nodes

-- what stands for each node's part after an event, where its own node's does, and those of others are left
at-each : (own p : ℕ) (P : Type 0) → ((own == p) ≡ true → P) → ((own == p) ≡ false → P) → P
at-each own p P here there = elim (cases_Bool (own == p)) [
  | inl k ↦ here k
  | inr k ↦ there k
]

-- a batch is injected by the node of the event alone
injects-here : (flow : Dataflow) (v : Event) (s : ℕ) → (event_node flow v == s) ≡ false → is_injection s v ≡ false
injects-here flow (Inject q x) s k = k
injects-here flow (Deliver e m) s k = refl
injects-here flow (Notify p t) s k = refl

-- the node of an event that may come next is declared
node-declared : (sys : System) (state : Machine) → IsWellFormedSystem sys → IsReached sys state → (v : Event) → IsEnabled sys (events state.history) v
    → event_node sys.flow v < length sys.flow.nodes
node-declared sys state w r (Inject q x) k = kind-declared sys.flow q is_input_kind k.input refl
node-declared sys state w r (Deliver e m) k = (deliveries-can_be_taken_in sys state w r e m k).declared
node-declared sys state w r (Notify p t) k = (notices-can_be_taken sys state w r p t k).declared

-- ---- all

pub events_are_followed : EventsAreFollowed
events_are_followed sys state v old new before after step effect s enabled live leads t writes =
    let next = with_event sys state v in
    let p = event_node sys.flow v in
    let w = s.apart.well_formed in
    let r = s.apart.reached in
    let o : LeavesOthers sys.flow v old new = subst (λ f. LeavesOthers f v old new) s.apart.flow t.others in
    let d : EdgesFollow sys.flow v t.sent old new = subst (λ f. EdgesFollow f v t.sent old new) s.apart.flow t.edges in
    let down : (q : ℕ) (b : Bool) → is_failed state q ≡ b → is_down old q ≡ b = λ q b k. ap (λ bs. slice_index_or bs q false) s.apart.failed ∙ k in
    let there = node-declared sys state w r v enabled in
    let own = t.own sys state (sym s.apart.flow) w r enabled live
    (record { table = s.apart.tables p there; output = s.apart.outputs p there; source = s.apart.sources p there }) in
    let sent = own.0 in
    record {
      apart = record {
        flow = o.flow ∙ s.apart.flow;
        well_formed = w;
        reached = reached-next sys state next step (did effect) r leads;
        settled = o.settled ∙ s.apart.settled;
        failed = o.failed ∙ s.apart.failed;
        low = o.low ∙ s.apart.low;
        epochs = λ x. subst (λ n. (x < n) ↔ HasEpoch sys.batches x) (sym o.epochs) (s.apart.epochs x);
        tables = λ q l. at-each p q (IsTableIn sys next q (table_of new q))
            (λ k. subst (λ x. IsTableIn sys next x (table_of new x)) (eqb-true p q k) own.1.table)
            (λ k. subst (IsTableIn sys next q) (sym (o.tables q k)) (tables-stay sys state v q k (table_of old q) (s.apart.tables q l)));
        queues = λ e l. queue-after sys state v t.sent e (queue_at old e) (queue_at new e) (queues-follow sys state w r v enabled t.sent sent e) (s.apart.queues e l)
            (λ k. d.queues e l (down (receiver sys.flow e) false k)) (λ k. d.down e (down (receiver sys.flow e) true k));
        logs = λ e l. log-after sys state v t.sent e (log_at old e) (log_at new e) (logs-follow sys state w r v enabled t.sent sent e) live (s.apart.logs e l)
            (λ c. subst (λ low. log_at new e
            ≡ with_messages (messages_outside (inside (front_of low (receiver sys.flow e))) (put_on sys.flow e v t.sent)) (log_at old e)) s.apart.low (d.logs c e l))
            (λ c. d.logs_stay c e);
        outputs = λ q l is. at-each p q (IsOutputOf sys next q (output_of new q))
            (λ k. subst (λ x. is_output_kind (kind_of sys.flow x) ≡ true → IsOutputOf sys next x (output_of new x)) (eqb-true p q k) own.1.output is)
            (λ k. subst (IsOutputOf sys next q) (sym (o.outputs q k)) (outputs-stay sys state v q k (output_of old q) (s.apart.outputs q l is)));
        sources = λ q l. at-each p q (IsSourceOf sys next q (source_of new q))
            (λ k. subst (λ x. IsSourceOf sys next x (source_of new x)) (eqb-true p q k) own.1.source)
            (λ k.
            let not = injects-here sys.flow v q k in
            subst (IsSourceOf sys next q) (sym (o.sources q not)) (sources-stay sys state v q not (source_of old q) (s.apart.sources q l)));
        progress = progress-follows sys state w r v enabled t.sent sent old.progress new.progress
            (subst (λ f. FollowsEvent f v (without_causes t.sent) old.progress new.progress) s.apart.flow t.progress) s.apart.progress;
        entries = writes.0;
        bases = writes.1;
        stored = writes.2;
      };
      traces = knows-next sys state step next effect old.traces new.traces w r refl leads s.traces (λ q l.
          traces-follow sys s.traces.floor state v t.sent sent old.traces new.traces (subst (λ f. TracesFollow f v (without_causes t.sent) old.traces new.traces) s.apart.flow t.traces) q);
      lost = λ q full x.
          let stays = lost-stays sys state v live q x in
          let was : Contains (lost_at new q) x ↔ IsLostAt sys state q x =
          subst (λ ls. Contains (slice_index_or ls q []) x ↔ IsLostAt sys state q x) (sym o.lost) (s.lost q full x) in
          (λ c. stays.1 (was.0 c), λ c. was.1 (stays.0 c));
    }

-- ---- what is logged

full-or_not : (p : Policy) → (p ≡ policy.Full) ⊎ (p ≡ policy.Full → ⊥)
full-or_not policy.Full = inl refl
full-or_not policy.None = inr (λ e. absurd cc)
full-or_not policy.Lazy = inr (λ e. absurd cc)
full-or_not policy.Logged = inr (λ e. absurd cc)
full-or_not policy.Eager = inr (λ e. absurd cc)

append-nil : (xs : List Write) → xs ++ [] ≡ xs
append-nil [] = refl
append-nil (x ∷ xs) = ap (λ ys. x ∷ ys) (append-nil xs)

none-written : (asks : Policy) (p serial : ℕ) → (asks ≡ policy.Full → ⊥) → write_of_event asks p serial ≡ []
none-written policy.Full p serial n = absurd (n refl)
none-written asks p serial n = refl

-- the write that is asked of an event stands for that of the machine
logged-stands : (sys : System) (state : Machine) → IsWellFormedSystem sys → IsReached sys state → (step : Step) (next : Machine) (effect : Effect)
    → LeadsTo sys state step next effect → (v : Event) → next ≡ with_event sys state v → IsEnabled sys (events state.history) v
    → policy_of sys.flow (event_node sys.flow v) ≡ policy.Full → (event : Told) → told_of v ≡ Some event
    → (old new : List Entry) (before after : Option Records) → IsEventAsked (event_node sys.flow v) event old new before after
    → AreEntriesOf sys state old (uncollected state) → AreBasesOf old old (uncollected state) → AreStored sys state before old (uncollected state)
    → AreEntriesOf sys next new (uncollected next) × AreBasesOf new new (uncollected next) × AreStored sys next after new (uncollected next)
logged-stands sys state w r step next effect leads v is enabled full event told old new before after l entries bases stored =
    let p = event_node sys.flow v in
    let a = l.asked in
    let all = old ++ asked a.id (tagged.Event p event) l.stamps ∷ [] in
    let sound = logged_events_have_spellings sys w state r v enabled full event told l.of_64_bits in
    let then_entries : AreEntriesOf sys next all (uncollected next) =
    subst (λ asks. AreEntriesOf sys next (old ++ entries_of_event asks p a.id event l.stamps) (uncollected next)) full
    (entries_after_event sys w state r step next effect leads v is event told a.id l.stamps old entries) in
    let then_bases : AreBasesOf all all (uncollected next) =
    subst (λ asks. let es = old ++ entries_of_event asks p a.id event l.stamps in AreBasesOf es es (uncollected next)) full
    (bases_after_event sys state next v is event a.id l.stamps old entries bases) in
    let then_stored : AreStored sys next after all (uncollected next) =
    records_after_logged_event sys w state r step next effect leads v is full event told a.id l.stamps sound old before after stored a.records a.bytes in (
      subst (λ es. AreEntriesOf sys next es (uncollected next)) (sym a.entries) then_entries,
      subst (λ es. AreBasesOf es es (uncollected next)) (sym a.entries) then_bases,
      subst (λ es. AreStored sys next after es (uncollected next)) (sym a.entries) then_stored,
    )

-- where nothing is asked, the entries stand that stood
unlogged-stands : (sys : System) (state : Machine) → IsWellFormedSystem sys → IsReached sys state → (step : Step) (next : Machine) (effect : Effect)
    → LeadsTo sys state step next effect → next.writes ≡ state.writes
    → (old new : List Entry) (before after : Option Records) → IsNotAsked old new before after
    → AreEntriesOf sys state old (uncollected state) → AreBasesOf old old (uncollected state) → AreStored sys state before old (uncollected state)
    → AreEntriesOf sys next new (uncollected next) × AreBasesOf new new (uncollected next) × AreStored sys next after new (uncollected next)
unlogged-stands sys state w r step next effect leads is old new before after n entries bases stored = (
  subst (λ es. AreEntriesOf sys next es (uncollected next)) (sym n.entries) (entries_after_step sys w state r step next effect leads is old entries),
  subst (λ es. AreBasesOf es es (uncollected next)) (sym n.entries) (bases_after_step state next is old bases),
  subst (λ es. AreStored sys next after es (uncollected next)) (sym n.entries)
      (subst (λ all. AreStored sys next all old (uncollected next)) (sym n.records) (records_after_step sys w state r step next effect leads is old before stored)),
)

pub logged_events_are_followed : LoggedEventsAreFollowed
logged_events_are_followed sys state v old new before after step effect s enabled leads event told l =
    let next = with_event sys state v in
    let p = event_node sys.flow v in
    elim (full-or_not (policy_of sys.flow p)) [
      | inl full ↦ logged-stands sys state s.apart.well_formed s.apart.reached step next effect leads v refl enabled full event told
          old.parts.keep.entries new.parts.keep.entries before after (l.logged full) s.apart.entries s.apart.bases s.apart.stored
      | inr other ↦ unlogged-stands sys state s.apart.well_formed s.apart.reached step next effect leads
          (ap (λ ws. state.writes ++ ws) (none-written (policy_of sys.flow p) p state.next other) ∙ append-nil state.writes)
          old.parts.keep.entries new.parts.keep.entries before after (l.other other) s.apart.entries s.apart.bases s.apart.stored
    ]

-- no event of an input is logged
pub injections_are_followed : (sys : System) (state : Machine) (v : Event) (old new : Running) (before after : Option Records) (p : ℕ) (effect : Effect)
    → Stands sys old before state → LeadsTo sys state (InjectStep p) (with_event sys state v) effect
    → IsNotAsked old.parts.keep.entries new.parts.keep.entries before after → WritesStand sys (with_event sys state v) new after
injections_are_followed sys state v old new before after p effect s leads n =
    let next = with_event sys state v in
    unlogged-stands sys state s.apart.well_formed s.apart.reached (InjectStep p) next effect leads
    (injections_are_not_logged sys s.apart.well_formed state p next effect leads) old.parts.keep.entries new.parts.keep.entries before after n s.apart.entries s.apart.bases s.apart.stored

-- A delivery of an engine is the machine's.
use Rattle.std.proofs.Common.{◌≡◌, ◌≢◌, ℕ, true, false, not, ◌||◌, length, Option, Some, None, refl, sym, ap, subst, ◌∙◌, inl, inr, arith}
use Rattle.std.specs.Prelude.{Result, find, is_some, option_map}
use Rattle.std.proofs.lemmas.Bool.{cases_lt, false≢true}
use Rattle.std.proofs.lemmas.List.{get_or_past}
use Rattle.fw_time.specs.Stamp.{Stamp}
use Rattle.fw_flow.specs.declared.event.Event.{Event}
use Rattle.fw_flow.specs.declared.event.Event.TheVariants.{Deliver as Delivered}
use Rattle.fw_flow.specs.declared.event.Message.{Message}
use Rattle.fw_flow.specs.declared.kind.Policy.TheVariants as policy
use Rattle.fw_flow.specs.declared.step.Step.TheVariants.{Deliver}
use Rattle.fw_flow.specs.Dataflow.{System, Dataflow, kind_of, policy_of, receiver, is_output_kind}
use Rattle.fw_model.specs.History.{IsEnabled}
use Rattle.fw_model.specs.Machine.{Machine, events, is_failed}
use Rattle.fw_model.specs.Steps.{is_asked, silent, did, idle, LeadsTo, with_event}
use Rattle.fw_record.specs.declared.record.Event.TheVariants as logged
use Rattle.fw_keep.specs.Catalogue.{KeepState}
use Rattle.fw_keep.specs.Stored.{Records}
use Rattle.fw_edge.specs.Messages.{MessagesState}
use Rattle.fw_rollback.specs.Edges.{nothing_there}
use Rattle.fw_stands.specs.Events.{next_queued, IsDeliveryOf}
use Rattle.fw_stands.specs.Parts.{queued}
use Rattle.fw_stands.proofs.EventNextLaws.{deliveries-take_next, queues-have_next}
use Rattle.fw_stands.proofs.EventQueueLaws.{nothing-queued_past}
use Rattle.fw_stands.proofs.EventTableLaws.{deliveries-can_be_taken_in, failed-idle}
use Rattle.fw_outside.specs.Outside.{StoreView}
use Rattle.fw_running.specs.declared.fault.EngineFault.{EngineFault}
use Rattle.fw_running.specs.declared.running.Running.{Running}
use Rattle.fw_running.specs.Shaped.{IsShaped}
use Rattle.fw_running.specs.Kept.{queue_at, table_of, is_down}
use Rattle.fw_running.specs.Logging.{with_keep, ChangesKeep, LogsEvent}
use Rattle.fw_running.specs.Stands.{Stands}
use Rattle.fw_running.specs.Steps.{Follows, IsStepEnabled, PartAnswers}
use Rattle.fw_running.proofs.SameStateLaws.{down-failed, idle-follows}
use Rattle.fw_events.specs.AfterEvent.{TakesEvent}
use Rattle.fw_events.specs.declared.delivery.Next.{Next}
use Rattle.fw_events.proofs.AskedLaws.{is_next, next_of, next-first}
use Rattle.fw_events.proofs.AfterEventLaws.{events_are_followed, logged_events_are_followed}

-- ---- a state for which an engine stands

-- what is pending on an edge is what is queued, on each edge
pub queue-is : (sys : System) (running : Running) (records : Option Records) (state : Machine) → Stands sys running records state
    → length running.parts.queues ≡ length running.flow.edges → (e : ℕ) → queue_at running e ≡ queued sys state e
queue-is sys running records state s each e = elim (cases_lt e (length sys.flow.edges)) [
  | inl l ↦ s.apart.queues e l
  | inr past ↦
      let edges : length running.flow.edges ≡ length sys.flow.edges = ap (λ (f : Dataflow). length f.edges) s.apart.flow in
      ap (λ (q : MessagesState). q.messages) (get_or_past running.parts.queues e nothing_there (omega arith)) ∙ sym (nothing-queued_past sys state e past)
]

-- what takes an event after a write was asked takes it from before
pub taken-from : (v : Event) (old mid new : Running) → ChangesKeep old mid → TakesEvent v mid new → TakesEvent v old new
taken-from v old mid new c t = by (subst (λ (r : Running). TakesEvent v r new) c t)
  where
    by : TakesEvent v (with_keep mid.parts.keep old) new → TakesEvent v old new
    by k = record {
      sent = k.sent;
      others = record {
        flow = k.others.flow;
        epochs = k.others.epochs;
        low = k.others.low;
        failed = k.others.failed;
        lost = k.others.lost;
        settled = k.others.settled;
        tables = k.others.tables;
        outputs = k.others.outputs;
        sources = k.others.sources;
      };
      edges = record { queues = k.edges.queues; down = k.edges.down; logs = k.edges.logs; logs_stay = k.edges.logs_stay };
      own = λ sys state flow w r enabled alive o.
          k.own sys state flow w r enabled alive (record { table = o.table; output = o.output; source = o.source });
      progress = k.progress;
      traces = k.traces;
    }

-- ---- deliveries

-- nothing is delivered to a node that is failed
pub failed-delivers_none : (sys : System) (running : Running) (records : Option Records) (state : Machine) (e : ℕ) (at : Option Stamp)
    → Stands sys running records state → is_down running (receiver running.flow e) ≡ true → Follows sys state (Deliver e at) idle running records
failed-delivers_none sys running records state e at s k =
    let here : is_failed state (receiver sys.flow e) ≡ true =
    sym (down-failed sys running records state s (receiver sys.flow e)) ∙ ap (λ f. is_down running (receiver f e)) (sym s.apart.flow) ∙ k in
    idle-follows sys running records state (Deliver e at) s ((failed-idle sys state (receiver sys.flow e) here).1 e at refl)

-- what the machine delivers next is what the queue has next
next-is : (sys : System) (running : Running) (records : Option Records) (state : Machine) (e : ℕ) (at : Option Stamp) (m : Option Message)
    → Stands sys running records state → length running.parts.queues ≡ length running.flow.edges
    → next_queued running.flow e at (queue_at running e) ≡ m → next_queued sys.flow e at (queued sys state e) ≡ m
next-is sys running records state e at m s each k =
    ap (λ f. next_queued f e at (queued sys state e)) (sym s.apart.flow)
    ∙ ap (next_queued running.flow e at) (sym (queue-is sys running records state s each e)) ∙ k

-- where the queue has none, nothing is delivered
pub none-delivers : (sys : System) (running : Running) (records : Option Records) (state : Machine) (e : ℕ) (at : Option Stamp)
    → Stands sys running records state → length running.parts.queues ≡ length running.flow.edges
    → next_queued running.flow e at (queue_at running e) ≡ None → Follows sys state (Deliver e at) idle running records
none-delivers sys running records state e at s each k =
    idle-follows sys running records state (Deliver e at) s
    (subst (IsDeliveryOf sys state e at) (next-is sys running records state e at None s each k) (deliveries-take_next sys state s.apart.well_formed s.apart.reached e at))

-- what the queue has next may be delivered
pub next-enabled : (sys : System) (running : Running) (records : Option Records) (state : Machine) (e : ℕ) (at : Option Stamp) (m : Message)
    → Stands sys running records state → length running.parts.queues ≡ length running.flow.edges
    → next_queued running.flow e at (queue_at running e) ≡ Some m → is_failed state (receiver sys.flow e) ≡ false
    → IsEnabled sys (events state.history) (Delivered e m)
next-enabled sys running records state e at m s each k live =
    ((queues-have_next sys state s.apart.well_formed s.apart.reached e at m live).1 (next-is sys running records state e at (Some m) s each k)).enabled

-- a node that a delivery comes to has a table, unless it is an output
pub receiver-has_table : (sys : System) (running : Running) (records : Option Records) (state : Machine) (e : ℕ) (m : Message)
    → Stands sys running records state → IsEnabled sys (events state.history) (Delivered e m) → is_failed state (receiver sys.flow e) ≡ false
    → is_output_kind (kind_of sys.flow (receiver sys.flow e)) ≡ false → table_of running (receiver sys.flow e) ≢ None
receiver-has_table sys running records state e m s k live no_output none =
    let p = receiver sys.flow e in
    let can = deliveries-can_be_taken_in sys state s.apart.well_formed s.apart.reached e m k in
    let there : is_some (table_of running p) ≡ true =
    (s.apart.tables p can.declared).there ∙ ap (λ b. not (b || (is_output_kind (kind_of sys.flow p) || is_failed state p))) can.no_input
    ∙ ap (λ b. not (b || is_failed state p)) no_output ∙ ap not live in
    false≢true (sym (ap is_some none) ∙ there)

-- what the queue has next the machine delivers
delivery-leads : (sys : System) (state : Machine) (e : ℕ) (at : Option Stamp) (m : Message) (old : Running) (before : Option Records)
    → Stands sys old before state → length old.parts.queues ≡ length old.flow.edges → next_queued old.flow e at (queue_at old e) ≡ Some m
    → LeadsTo sys state (Deliver e at) (with_event sys state (Delivered e m)) silent
delivery-leads sys state e at m old before s each k =
    subst (IsDeliveryOf sys state e at) (next-is sys old before state e at (Some m) s each k) (deliveries-take_next sys state s.apart.well_formed s.apart.reached e at)

-- where it is found, the step is enabled
pub found-enabled : (sys : System) (state : Machine) (e : ℕ) (asked : Option Stamp) (n : Next) (old : Running) (before : Option Records)
    → Stands sys old before state → IsShaped old → Some n ≡ option_map next_of (next_queued old.flow e asked (queue_at old e))
    → IsStepEnabled sys state (Deliver e asked)
found-enabled sys state e asked n old before s shaped some =
    let next = is_next old e asked n some in
    (with_event sys state (Delivered e next.m), silent, delivery-leads sys state e asked next.m old before s shaped.one_each.parts.queues next.next)

-- an engine that takes what is next in and logs it, if its node logs each event, follows the machine
pub delivery-follows : (sys : System) (state : Machine) (e : ℕ) (at : Option Stamp) (m : Message) (old new : Running) (before after : Option Records)
    → Stands sys old before state → length old.parts.queues ≡ length old.flow.edges
    → is_down old (receiver old.flow e) ≡ false → next_queued old.flow e at (queue_at old e) ≡ Some m
    → TakesEvent (Delivered e m) old new
    → LogsEvent old.flow (receiver old.flow e) (logged.Deliver e m.at m.rec) old.parts.keep.entries new.parts.keep.entries before after
    → Follows sys state (Deliver e at) (did silent) new after
delivery-follows sys state e at m old new before after s each live k taken logs =
    let alive : is_failed state (receiver sys.flow e) ≡ false =
    sym (down-failed sys old before state s (receiver sys.flow e)) ∙ ap (λ f. is_down old (receiver f e)) (sym s.apart.flow) ∙ live in
    let v = Delivered e m in
    let enabled = next-enabled sys old before state e at m s each k alive in
    let steps = delivery-leads sys state e at m old before s each k in
    let logs_it = subst (λ f. LogsEvent f (receiver f e) (logged.Deliver e m.at m.rec) old.parts.keep.entries new.parts.keep.entries before after) s.apart.flow logs in
    record {
      next = with_event sys state v;
      steps = steps;
      stands = events_are_followed sys state v old new before after (Deliver e at) silent s enabled alive steps taken
          (logged_events_are_followed sys state v old new before after (Deliver e at) silent s enabled steps (logged.Deliver e m.at m.rec) refl logs_it);
    }

-- so does what is found, logged and taken in
pub delivery-done : (sys : System) (state : Machine) (e p : ℕ) (asked : Option Stamp) (n : Next) (old mid new : Running) (before after : Option Records)
    → Stands sys old before state → IsShaped old → p ≡ receiver old.flow e → is_down old p ≡ false
    → Some n ≡ option_map next_of (next_queued old.flow e asked (queue_at old e)) → ChangesKeep old mid
    → LogsEvent old.flow p (logged.Deliver e n.at n.rec) old.parts.keep.entries mid.parts.keep.entries before after
    → new.parts.keep ≡ mid.parts.keep
    → ((m : Message) → m.at ≡ n.at → m.rec ≡ n.rec → find (λ (x : Message). is_asked (Some n.at) x.at) (queue_at mid e) ≡ Some m → is_down mid p ≡ false
    → (is_output_kind (kind_of mid.flow p) ≡ false → table_of mid p ≢ None) → TakesEvent (Delivered e m) mid new)
    → Follows sys state (Deliver e asked) (did silent) new after
delivery-done sys state e p asked n old mid new before after s shaped to live some c logs keep takes =
    let next = is_next old e asked n some in
    let m = next.m in
    let each = shaped.one_each.parts.queues in
    let down : is_down old (receiver old.flow e) ≡ false = ap (is_down old) (sym to) ∙ live in
    let alive : is_failed state (receiver sys.flow e) ≡ false =
    sym (down-failed sys old before state s (receiver sys.flow e)) ∙ ap (λ f. is_down old (receiver f e)) (sym s.apart.flow) ∙ down in
    let enabled = next-enabled sys old before state e asked m s each next.next alive in
    let here : p ≡ receiver sys.flow e = to ∙ ap (λ f. receiver f e) s.apart.flow in
    let found : find (λ (x : Message). is_asked (Some n.at) x.at) (queue_at mid e) ≡ Some m =
    ap (λ (r : Running). find (λ (x : Message). is_asked (Some n.at) x.at) (queue_at r e)) c
    ∙ ap (λ t. find (λ (x : Message). is_asked (Some t) x.at) (queue_at old e)) (sym next.at_is) ∙ next-first old e asked m next.next in
    let table : is_output_kind (kind_of mid.flow p) ≡ false → table_of mid p ≢ None = λ kind none.
    receiver-has_table sys old before state e m s enabled alive
    (ap (λ q. is_output_kind (kind_of sys.flow q)) (sym here) ∙ ap (λ f. is_output_kind (kind_of f p)) (sym s.apart.flow)
    ∙ sym (ap (λ (r : Running). is_output_kind (kind_of r.flow p)) c) ∙ kind)
    (ap (table_of old) (sym here) ∙ sym (ap (λ (r : Running). table_of r p) c) ∙ none) in
    let taken = takes m next.at_is next.rec_is found (ap (λ (r : Running). is_down r p) c ∙ live) table in
    let event : logged.Deliver e n.at n.rec ≡ logged.Deliver e m.at m.rec =
    ap (λ t. logged.Deliver e t n.rec) (sym next.at_is) ∙ ap (logged.Deliver e m.at) (sym next.rec_is) in
    delivery-follows sys state e asked m old new before after s each down next.next (taken-from (Delivered e m) old mid new c taken)
    (subst (λ q. LogsEvent old.flow q (logged.Deliver e m.at m.rec) old.parts.keep.entries new.parts.keep.entries before after) to
    (subst (λ v. LogsEvent old.flow p v old.parts.keep.entries new.parts.keep.entries before after) event
    (subst (λ (k : KeepState). LogsEvent old.flow p (logged.Deliver e n.at n.rec) old.parts.keep.entries k.entries before after) (sym keep) logs)))

-- the receiver of an edge asks the write
pub at-receiver : {T K : Type 0} {view : K → StoreView} (flow : Dataflow) (e : ℕ) {p : ℕ} {old new : Running} {before after : K} {result : Result T EngineFault}
    → p ≡ receiver flow e → PartAnswers view (policy_of flow p ≡ policy.Full) old before result new after
    → PartAnswers view (policy_of flow (receiver flow e) ≡ policy.Full) old before result new after
at-receiver {T} {K} {view} flow e {p} {old} {new} {before} {after} {result} is part =
    subst (λ q. PartAnswers view (policy_of flow q ≡ policy.Full) old before result new after) is part

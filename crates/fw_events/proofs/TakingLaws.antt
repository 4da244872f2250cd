-- What a delivery makes of what is kept, from what its calls make of it one after the other.
use Rattle.std.proofs.Common.{◌≡◌, ◌≢◌, ℕ, ◌<◌, Bool, true, false, not, ◌||◌, ◌==◌, List, [], ◌∷◌, length, Option, Some, None, refl, sym, ap, subst, ◌∙◌, inl, inr}
use Rattle.std.specs.Prelude.{is_some}
use Rattle.std.specs.List.{Contains}
use Rattle.std.proofs.lemmas.Bool.{cases_eq, cond-true, cond-false, eq-eqb, eqb-true, false_from_ne_true, false≢true}
use Rattle.std.proofs.lemmas.List.{get_or-set_same, get_or-set_other}
use Rattle.fw_time.specs.Stamp.{Stamp}
use Rattle.fw_bag.specs.declared.rec.Rec.{Rec}
use Rattle.fw_frontier.specs.Front.{Front}
use Rattle.fw_flow.specs.declared.event.Event.{Event}
use Rattle.fw_flow.specs.declared.event.Event.TheVariants.{Deliver, Notify}
use Rattle.fw_flow.specs.declared.event.Message.{Message}
use Rattle.fw_flow.specs.Dataflow.{System, Dataflow, kind_of, out_edges, policy_of, receiver, is_input_kind, is_notified_kind, is_output_kind}
use Rattle.fw_flow.specs.Message.{messages_less}
use Rattle.fw_flow.specs.NodeFunction.{event_node}
use Rattle.fw_flow.specs.Projection.{first_coordinate}
use Rattle.fw_flow.specs.Restoring.{can_resend}
use Rattle.fw_flow.specs.WellFormed.{IsWellFormedSystem}
use Rattle.fw_model.specs.History.{is_injection, message_on, IsEnabled}
use Rattle.fw_model.specs.Machine.{Machine, events, is_failed}
use Rattle.fw_model.specs.Reached.{IsReached}
use Rattle.fw_model.specs.Steps.{with_event}
use Rattle.fw_border.specs.Outputs.{OutputState, output_at, new_output, with_output, with_rec_at}
use Rattle.fw_border.specs.Sources.{SourceState}
use Rattle.fw_node.specs.declared.node.Node.{Node}
use Rattle.fw_node.specs.Answers.{without_causes}
use Rattle.fw_node.specs.NodeOf.{CanBeSent}
use Rattle.fw_progress.specs.declared.traces.Traces.{Traces}
use Rattle.fw_progress.specs.History.{FollowsEvent}
use Rattle.fw_progress.specs.Progress.{CanSend, Standing, stamps_of_recs}
use Rattle.fw_progress.specs.Trace.{TracesFollow}
use Rattle.fw_stands.specs.Parts.{has_table, IsTableIn, IsOutputOf, IsSourceOf}
use Rattle.fw_stands.proofs.EventAnswerLaws.{outputs-send_nothing}
use Rattle.fw_stands.proofs.EventBorderLaws.{outputs-take_in, sources-stay}
use Rattle.fw_stands.proofs.EventTableLaws.{no-tables_stay, notices-can_be_taken}
use Rattle.fw_running.specs.declared.running.Running.{Running}
use Rattle.fw_running.specs.Kept.{queue_at, log_at, table_of, source_of, output_of, is_down, with_tables}
use Rattle.fw_events.specs.AfterEvent.{EdgesFollow, OwnFollow, TakesEvent}
use Rattle.fw_events.specs.Sending.{with_queues, with_logs, ChangesEdges, SendsOn}
use Rattle.fw_events.specs.Taking.{with_outputs, with_owing, with_told, HearsOf, KeepsRec, TakesOff, TableTakes, TellsOf}
use Rattle.fw_events.proofs.SendingLaws.{edges-follow, sends-nothing}

-- ---- the queue of the edge

-- without what is delivered on another edge nothing is less
taken-live : (d : ℕ) (m : Message) (old a : Running) → TakesOff d m old a → (e : ℕ)
    → queue_at a e ≡ messages_less (queue_at old e) (message_on e (Deliver d m))
taken-live d m old a t e = elim (cases_eq d e) [
  | inl k ↦ subst (λ x. queue_at a x ≡ messages_less (queue_at old x) (message_on x (Deliver d m))) k
      (t.queue ∙ ap (λ ms. messages_less (queue_at old d) ms) (sym (cond-true (d == d) (m ∷ []) [] (eq-eqb d d refl))))
  | inr n ↦ t.others e (λ k. n (sym k))
      ∙ ap (λ ms. messages_less (queue_at old e) ms) (sym (cond-false (d == e) (m ∷ []) [] (false_from_ne_true (d == e) (λ k. n (eqb-true d e k)))))
]

-- an edge to a failed node is another one
taken-down : (d : ℕ) (m : Message) (old a : Running) → TakesOff d m old a → is_down old (receiver old.flow d) ≡ false → (e : ℕ)
    → is_down old (receiver old.flow e) ≡ true → queue_at a e ≡ queue_at old e
taken-down d m old a t live e k = t.others e (λ is. false≢true (sym live ∙ ap (λ x. is_down old (receiver old.flow x)) (sym is) ∙ k))

-- ---- a node with a table

-- what the calls for a node with a table make of what is kept, one after the other
pub hears-of : (v : Event) (p : ℕ) (recs : List (Stamp × Rec)) (sent : List Message) (old noted taken put new : Running)
    → p ≡ event_node old.flow v → recs ≡ without_causes sent
    → noted ≡ with_owing noted.ready.owing old → taken ≡ with_tables taken.parts.tables noted
    → ((q : ℕ) → q ≢ p → table_of taken q ≡ table_of noted q)
    → TableTakes noted.flow v sent (table_of noted p) (table_of taken p)
    → ChangesEdges taken put
    → SendsOn (out_edges taken.flow p) (can_resend (policy_of taken.flow p)) sent taken put
    → new ≡ with_told new.traces new.progress put → TellsOf v recs put new → HearsOf v old new
hears-of v p recs sent old noted taken put new here is note take others table changes sends tell told =
    let n = event_node old.flow v in
    let flow : noted.flow ≡ old.flow = ap (λ (r : Running). r.flow) note in
    let flows : taken.flow ≡ old.flow = ap (λ (r : Running). r.flow) take ∙ flow in
    let tables : (q : ℕ) → table_of noted q ≡ table_of old q = λ q. ap (λ (r : Running). table_of r q) note in
    record {
      sent = sent;
      taken = taken;
      put = put;
      changing = take ∙ ap (with_tables taken.parts.tables) note
          ∙ ap (λ (r : Running). with_tables taken.parts.tables (with_owing r.ready.owing old)) (sym take);
      tables = λ q m. others q (λ k. m (k ∙ here)) ∙ tables q;
      table = subst (λ q. TableTakes old.flow v sent (table_of old q) (table_of taken q)) here
          (subst (λ (b : Option Node). TableTakes old.flow v sent b (table_of taken p)) (tables p)
          (subst (λ f. TableTakes f v sent (table_of noted p) (table_of taken p)) flow table));
      sending = changes;
      sends = subst (λ q. SendsOn (out_edges old.flow q) (can_resend (policy_of old.flow q)) sent taken put) here
          (subst (λ f. SendsOn (out_edges f p) (can_resend (policy_of f p)) sent taken put) flows sends);
      telling = tell;
      told = subst (λ rs. TellsOf v rs put new) is told;
    }

-- a node that takes an event in which is no injection, and whose message is pending no more, takes the event
pub heard-is_taken : (v : Event) (old a new : Running) → a ≡ with_queues a.parts.queues old.ready.edges old
    → ((e : ℕ) → is_down old (receiver old.flow e) ≡ false → queue_at a e ≡ messages_less (queue_at old e) (message_on e v))
    → ((e : ℕ) → is_down old (receiver old.flow e) ≡ true → queue_at a e ≡ queue_at old e) → HearsOf v a new
    → ((sys : System) (state : Machine) → sys.flow ≡ old.flow → IsWellFormedSystem sys → IsReached sys state → IsEnabled sys (events state.history) v
    → is_output_kind (kind_of sys.flow (event_node sys.flow v)) ≡ false)
    → ((s : ℕ) → is_injection s v ≡ false) → TakesEvent v old new
heard-is_taken v old a new taking live idle t no_output no_injection = record {
  sent = t.sent;
  others = record {
    flow = same Dataflow (λ r. r.flow) refl refl refl refl;
    epochs = same ℕ (λ r. r.epochs) refl refl refl refl;
    low = same (List Front) (λ r. r.parts.low) refl refl refl refl;
    failed = same (List Bool) (λ r. r.failed.items) refl refl refl refl;
    lost = same (List (List Stamp)) (λ r. r.lost.items) refl refl refl refl;
    settled = t.told.settled ∙ to_put (List Front) (λ r. r.progress.settled) refl refl refl;
    tables = λ p n.
        let other : p ≢ event_node a.flow v = λ k. false≢true (sym n ∙ eq-eqb (event_node old.flow v) p (sym k_of ∙ sym k)) in
        ap (λ (r : Running). table_of r p) t.telling ∙ ap (λ (r : Running). table_of r p) t.sending ∙ t.tables p other ∙ ap (λ (r : Running). table_of r p) taking;
    outputs = λ o n. same OutputState (λ r. output_of r o) refl refl refl refl;
    sources = λ s n. same SourceState (λ r. source_of r s) refl refl refl refl;
  };
  edges = subst (EdgesFollow old.flow v t.sent old) (sym t.telling) (record {
    queues = edges.queues;
    down = edges.down;
    logs = edges.logs;
    logs_stay = edges.logs_stay;
  });
  own = own;
  progress = subst (λ f. FollowsEvent f v (without_causes t.sent) old.progress new.progress) (to_put Dataflow (λ r. r.flow) refl refl refl)
      (subst (λ p. FollowsEvent t.put.flow v (without_causes t.sent) p new.progress) (to_put Standing (λ r. r.progress) refl refl refl) t.told.progress);
  traces = subst (λ f. TracesFollow f v (without_causes t.sent) old.traces new.traces) (to_put Dataflow (λ r. r.flow) refl refl refl)
      (subst (λ p. TracesFollow t.put.flow v (without_causes t.sent) p new.traces) (to_put Traces (λ r. r.traces) refl refl refl) t.told.traces);
}
  where
    k_of : event_node a.flow v ≡ event_node old.flow v
    k_of = ap (λ (r : Running). event_node r.flow v) taking

    to_taken : (T : Type 0) (F : Running → T) → F (with_tables t.taken.parts.tables (with_owing t.taken.ready.owing a)) ≡ F a
        → F (with_queues a.parts.queues old.ready.edges old) ≡ F old → F t.taken ≡ F old
    to_taken T F y z = ap F t.changing ∙ y ∙ ap F taking ∙ z

    to_put : (T : Type 0) (F : Running → T) → F (with_queues t.put.parts.queues t.put.ready.edges (with_logs t.put.parts.logs t.taken)) ≡ F t.taken
        → F (with_tables t.taken.parts.tables (with_owing t.taken.ready.owing a)) ≡ F a → F (with_queues a.parts.queues old.ready.edges old) ≡ F old → F t.put ≡ F old
    to_put T F x y z = ap F t.sending ∙ x ∙ to_taken T F y z

    same : (T : Type 0) (F : Running → T) → F (with_told new.traces new.progress t.put) ≡ F t.put
        → F (with_queues t.put.parts.queues t.put.ready.edges (with_logs t.put.parts.logs t.taken)) ≡ F t.taken
        → F (with_tables t.taken.parts.tables (with_owing t.taken.ready.owing a)) ≡ F a → F (with_queues a.parts.queues old.ready.edges old) ≡ F old → F new ≡ F old
    same T F w x y z = ap F t.telling ∙ w ∙ to_put T F x y z

    queue_b : (e : ℕ) → queue_at t.taken e ≡ queue_at a e
    queue_b e = ap (λ (r : Running). queue_at r e) t.changing

    sends : SendsOn (out_edges old.flow (event_node old.flow v)) (can_resend (policy_of old.flow (event_node old.flow v))) t.sent t.taken t.put
    sends = subst (λ (f : Dataflow). SendsOn (out_edges f (event_node f v)) (can_resend (policy_of f (event_node f v))) t.sent t.taken t.put)
        (ap (λ (r : Running). r.flow) taking) t.sends

    edges : EdgesFollow old.flow v t.sent old t.put
    edges = edges-follow v t.sent old t.taken t.put (to_taken Dataflow (λ r. r.flow) refl refl) (to_taken (List Front) (λ r. r.parts.low) refl refl)
        (to_taken (List Bool) (λ r. r.failed.items) refl refl)
        (λ e k. queue_b e ∙ live e k) (λ e k. queue_b e ∙ idle e k) (λ e. to_taken (List Message) (λ r. log_at r e) refl refl) sends

    own : OwnFollow v t.sent old new
    own sys state flow w r enabled alive o =
        let p = event_node sys.flow v in
        let next = with_event sys state v in
        let is : event_node a.flow v ≡ p = k_of ∙ ap (λ f. event_node f v) (sym flow) in
        let flow_a : sys.flow ≡ a.flow = flow ∙ ap (λ (x : Running). x.flow) (sym taking) in
        let table_is : table_of new (event_node a.flow v) ≡ table_of t.taken (event_node a.flow v) =
        ap (λ (x : Running). table_of x (event_node a.flow v)) t.telling ∙ ap (λ (x : Running). table_of x (event_node a.flow v)) t.sending in
        let table_was : table_of a (event_node a.flow v) ≡ table_of old p =
        ap (λ (x : Running). table_of x (event_node a.flow v)) taking ∙ ap (table_of old) is in
        let takes = t.table sys state flow_a w r enabled (subst (IsTableIn sys state p) (sym table_was) o.table) in (
          takes.0,
          record {
            table = subst (λ q. IsTableIn sys next p (table_of new q)) is (subst (IsTableIn sys next p) (sym table_is) takes.1);
            output = λ k. absurd (false≢true (sym (no_output sys state flow w r enabled) ∙ k));
            source = subst (IsSourceOf sys next p) (sym (same SourceState (λ x. source_of x p) refl refl refl refl))
                (sources-stay sys state v p (no_injection p) (source_of old p) o.source);
          },
        )

-- a node that is no output, and takes a message in, takes the delivery
pub taken_by_table : (d : ℕ) (m : Message) (old a new : Running) → a ≡ with_queues a.parts.queues old.ready.edges old → TakesOff d m old a
    → HearsOf (Deliver d m) a new → is_down old (receiver old.flow d) ≡ false → is_output_kind (kind_of old.flow (receiver old.flow d)) ≡ false
    → TakesEvent (Deliver d m) old new
taken_by_table d m old a new taking taken t live no_output =
    heard-is_taken (Deliver d m) old a new taking (λ e k. taken-live d m old a taken e) (λ e k. taken-down d m old a taken live e k) t
    (λ sys state flow w r enabled. ap (λ f. is_output_kind (kind_of f (receiver f d))) flow ∙ no_output) (λ s. refl)

-- a node that is notified takes the notification
pub taken_by_notice : (p : ℕ) (x : Stamp) (old new : Running) → HearsOf (Notify p x) old new → TakesEvent (Notify p x) old new
taken_by_notice p x old new t =
    heard-is_taken (Notify p x) old old new refl (λ e k. refl) (λ e k. refl) t
    (λ sys state flow w r enabled. (notices-can_be_taken sys state w r p x enabled).no_output) (λ s. refl)

-- ---- an output

none-there : (table : Option Node) → is_some table ≡ false → table ≡ None
none-there None k = refl
none-there (Some x) k = absurd (false≢true (sym k))

or-true : (b : Bool) → not (b || true) ≡ false
or-true true = refl
or-true false = refl

no-table : (sys : System) (state : Machine) (p : ℕ) → is_output_kind (kind_of sys.flow p) ≡ true → has_table sys state p ≡ false
no-table sys state p k = ap (λ b. not (is_input_kind (kind_of sys.flow p) || (b || is_failed state p))) k ∙ or-true (is_input_kind (kind_of sys.flow p))

-- an output from whose edge a message is taken off, and which keeps its rec, takes the delivery
pub taken_by_output : (d : ℕ) (m : Message) (old a new : Running) → a ≡ with_queues a.parts.queues old.ready.edges old → TakesOff d m old a
    → KeepsRec d m a new → is_down old (receiver old.flow d) ≡ false → is_output_kind (kind_of old.flow (receiver old.flow d)) ≡ true
    → receiver old.flow d < length old.parts.outputs.outputs → TakesEvent (Deliver d m) old new
taken_by_output d m old a new taking taken t live output there = record {
  sent = [];
  others = record {
    flow = same Dataflow (λ r. r.flow) refl refl refl;
    epochs = same ℕ (λ r. r.epochs) refl refl refl;
    low = same (List Front) (λ r. r.parts.low) refl refl refl;
    failed = same (List Bool) (λ r. r.failed.items) refl refl refl;
    lost = same (List (List Stamp)) (λ r. r.lost.items) refl refl refl;
    settled = t.told.settled ∙ to_b (List Front) (λ r. r.progress.settled) refl refl;
    tables = λ p n. same (Option Node) (λ r. table_of r p) refl refl refl;
    outputs = λ o n.
        let other : o ≢ receiver old.flow d = λ k. false≢true (sym n ∙ eq-eqb (receiver old.flow d) o (sym k)) in
        ap (λ (r : Running). output_of r o) t.telling ∙ ap (λ os. output_at os o) outputs_are
        ∙ get_or-set_other old.parts.outputs.outputs (receiver old.flow d) o _ new_output other;
    sources = λ s n. same SourceState (λ r. source_of r s) refl refl refl;
  };
  edges = subst (EdgesFollow old.flow (Deliver d m) [] old) (sym t.telling) (record {
    queues = edges.queues;
    down = edges.down;
    logs = edges.logs;
    logs_stay = edges.logs_stay;
  });
  own = own;
  progress = subst (λ f. FollowsEvent f (Deliver d m) [] old.progress new.progress) (to_b Dataflow (λ r. r.flow) refl refl)
      (subst (λ p. FollowsEvent t.between.flow (Deliver d m) [] p new.progress) (to_b Standing (λ r. r.progress) refl refl) t.told.progress);
  traces = subst (λ f. TracesFollow f (Deliver d m) [] old.traces new.traces) (to_b Dataflow (λ r. r.flow) refl refl)
      (subst (λ p. TracesFollow t.between.flow (Deliver d m) [] p new.traces) (to_b Traces (λ r. r.traces) refl refl) t.told.traces);
}
  where
    to_b : (T : Type 0) (F : Running → T) → F (with_outputs t.between.parts.outputs t.between.ready.outputs a) ≡ F a
        → F (with_queues a.parts.queues old.ready.edges old) ≡ F old → F t.between ≡ F old
    to_b T F y z = ap F t.changing ∙ y ∙ ap F taking ∙ z

    same : (T : Type 0) (F : Running → T) → F (with_told new.traces new.progress t.between) ≡ F t.between
        → F (with_outputs t.between.parts.outputs t.between.ready.outputs a) ≡ F a → F (with_queues a.parts.queues old.ready.edges old) ≡ F old → F new ≡ F old
    same T F w y z = ap F t.telling ∙ w ∙ to_b T F y z

    outputs_are : t.between.parts.outputs.outputs ≡ with_output (with_rec_at (first_coordinate m.at) m.rec) old.parts.outputs.outputs (receiver old.flow d)
    outputs_are = t.output ∙ ap (λ (r : Running). with_output (with_rec_at (first_coordinate m.at) m.rec) r.parts.outputs.outputs (receiver r.flow d)) taking

    queue_b : (e : ℕ) → queue_at t.between e ≡ queue_at a e
    queue_b e = ap (λ (r : Running). queue_at r e) t.changing

    edges : EdgesFollow old.flow (Deliver d m) [] old t.between
    edges = edges-follow (Deliver d m) [] old t.between t.between (to_b Dataflow (λ r. r.flow) refl refl) (to_b (List Front) (λ r. r.parts.low) refl refl)
        (to_b (List Bool) (λ r. r.failed.items) refl refl)
        (λ e k. queue_b e ∙ taken-live d m old a taken e) (λ e k. queue_b e ∙ taken-down d m old a taken live e k)
        (λ e. to_b (List Message) (λ r. log_at r e) refl refl)
        (sends-nothing (out_edges old.flow (receiver old.flow d)) (can_resend (policy_of old.flow (receiver old.flow d))) t.between)

    own : OwnFollow (Deliver d m) [] old new
    own sys state flow w r enabled alive o =
        let p = receiver sys.flow d in
        let next = with_event sys state (Deliver d m) in
        let is : receiver old.flow d ≡ p = ap (λ f. receiver f d) (sym flow) in
        let kind : is_output_kind (kind_of sys.flow p) ≡ true = ap (λ f. is_output_kind (kind_of f (receiver f d))) flow ∙ output in
        let none : table_of old p ≡ None = none-there (table_of old p) (o.table.there ∙ no-table sys state p kind) in
        let kept : output_of new p ≡ with_rec_at (first_coordinate m.at) m.rec (output_of old p) =
        ap (λ (x : Running). output_of x p) t.telling ∙ ap (λ os. output_at os p) outputs_are
        ∙ subst (λ q. output_at (with_output (with_rec_at (first_coordinate m.at) m.rec) old.parts.outputs.outputs (receiver old.flow d)) q
        ≡ with_rec_at (first_coordinate m.at) m.rec (output_of old q)) is
        (get_or-set_same old.parts.outputs.outputs (receiver old.flow d) (with_rec_at (first_coordinate m.at) m.rec (output_of old (receiver old.flow d))) new_output there) in (
          outputs-send_nothing sys (events state.history) (Deliver d m) kind,
          record {
            table = subst (IsTableIn sys next p) (sym (same (Option Node) (λ x. table_of x p) refl refl refl ∙ none))
                (no-tables_stay sys state (Deliver d m) p (subst (IsTableIn sys state p) none o.table));
            output = λ k. subst (IsOutputOf sys next p) (sym kept) (outputs-take_in sys state w r d m enabled kind alive (output_of old p) (o.output kind));
            source = subst (IsSourceOf sys next p) (sym (same SourceState (λ x. source_of x p) refl refl refl))
                (sources-stay sys state (Deliver d m) p refl (source_of old p) o.source);
          },
        )

-- so an output keeps the rec of a message
pub keeps-rec : (d : ℕ) (m : Message) (at : Stamp) (rec : Rec) (o : ℕ) (old between new : Running) → m.at ≡ at → m.rec ≡ rec → o ≡ receiver old.flow d
    → between ≡ with_outputs between.parts.outputs between.ready.outputs old
    → between.parts.outputs.outputs ≡ with_output (with_rec_at (first_coordinate at) rec) old.parts.outputs.outputs o
    → new ≡ with_told new.traces new.progress between → TellsOf (Deliver d m) [] between new → KeepsRec d m old new
keeps-rec d m at rec o old between new at_is rec_is here changing output telling told = record {
  between = between;
  changing = changing;
  output = output ∙ ap (λ t. with_output (with_rec_at (first_coordinate t) rec) old.parts.outputs.outputs o) (sym at_is)
      ∙ ap (λ r. with_output (with_rec_at (first_coordinate m.at) r) old.parts.outputs.outputs o) (sym rec_is)
      ∙ ap (with_output (with_rec_at (first_coordinate m.at) m.rec) old.parts.outputs.outputs) here;
  telling = telling;
  told = told;
}

-- ---- what is sent and told

-- what a node can send it can tell, of the same flow
pub can-tell : (flow now : Dataflow) (p q : ℕ) (sent told : List (Stamp × Rec)) → now ≡ flow → p ≡ q → told ≡ sent → CanBeSent flow p (stamps_of_recs sent)
    → CanSend now q (stamps_of_recs told)
can-tell flow now p q sent told same here is can =
    subst (λ (f : Dataflow). CanSend f q (stamps_of_recs told)) (sym same)
    (subst (λ n. CanSend flow n (stamps_of_recs told)) here (subst (λ rs. CanSend flow p (stamps_of_recs rs)) (sym is) can))

-- a node that was put among those that may be owed a notification is among them while tables and edges are changed
pub still-owing : (d p : ℕ) (old noted taken put : Running) → p ≡ receiver old.flow d → noted ≡ with_owing noted.ready.owing old
    → taken ≡ with_tables taken.parts.tables noted → ChangesEdges taken put
    → (is_notified_kind (kind_of old.flow p) ≡ true → Contains noted.ready.owing p)
    → is_notified_kind (kind_of put.flow (receiver put.flow d)) ≡ true → Contains put.ready.owing (receiver put.flow d)
still-owing d p old noted taken put is note take changes there k =
    let flow : put.flow ≡ old.flow = ap (λ (r : Running). r.flow) changes ∙ ap (λ (r : Running). r.flow) take ∙ ap (λ (r : Running). r.flow) note in
    let owing : put.ready.owing ≡ noted.ready.owing = ap (λ (r : Running). r.ready.owing) changes ∙ ap (λ (r : Running). r.ready.owing) take in
    let here : p ≡ receiver put.flow d = is ∙ ap (λ f. receiver f d) (sym flow) in
    let kind : is_notified_kind (kind_of old.flow p) ≡ true =
    ap (λ q. is_notified_kind (kind_of old.flow q)) here ∙ ap (λ f. is_notified_kind (kind_of f (receiver put.flow d))) (sym flow) ∙ k in
    subst (Contains put.ready.owing) here (subst (λ (os : List ℕ). Contains os p) (sym owing) (there kind))

-- An injection of an engine is the machine's.
use Rattle.std.proofs.Common.{◌≡◌, ◌≢◌, ℕ, ◌<◌, ◌≤◌, ◌^◌, Bool, true, false, not, ◌||◌, List, [], ◌∷◌, length, map, Option, Some, None, refl, sym, ap, subst, ◌∙◌}
use Rattle.std.specs.Prelude.{is_some, slice_index_or}
use Rattle.std.proofs.lemmas.Bool.{eq-eqb, false≢true}
use Rattle.std.proofs.lemmas.List.{get_or-set_same, get_or-set_other}
use Rattle.fw_time.specs.Stamp.{Stamp}
use Rattle.fw_bag.specs.declared.rec.Rec.{Rec}
use Rattle.fw_frontier.specs.Front.{Front}
use Rattle.fw_flow.specs.declared.event.Event.TheVariants.{Inject as Injected}
use Rattle.fw_flow.specs.declared.event.Message.{Message}
use Rattle.fw_flow.specs.Kind.{Kind}
use Rattle.fw_flow.specs.declared.kind.Kind.TheVariants.{Input}
use Rattle.fw_flow.specs.declared.step.Step.TheVariants.{Inject}
use Rattle.fw_flow.specs.Dataflow.{System, Dataflow, batches_of, kind_of, out_edges, policy_of, is_input_kind, is_output_kind}
use Rattle.fw_flow.specs.Restoring.{can_resend}
use Rattle.fw_flow.specs.WellFormed.{IsWellFormed}
use Rattle.fw_model.specs.History.{IsEnabled}
use Rattle.fw_model.specs.Machine.{Machine, events, is_failed}
use Rattle.fw_model.specs.Steps.{silent, did, idle, StepsTo, with_event}
use Rattle.fw_model.proofs.NothingInsideLaws.{kind-declared}
use Rattle.fw_table.specs.declared.sent.Sent.{Sent}
use Rattle.fw_border.specs.Outputs.{OutputState}
use Rattle.fw_border.specs.Sources.{SourceState, advanced, next_batch, source_at, unused_source, with_source}
use Rattle.fw_keep.specs.Stored.{Records}
use Rattle.fw_node.specs.declared.node.Node.{Node}
use Rattle.fw_node.specs.declared.sends.Sends.{Sends}
use Rattle.fw_node.specs.Answers.{without_causes}
use Rattle.fw_node.specs.NodeOf.{CanBeSent, stamps_of}
use Rattle.fw_node.specs.Sends.{messages_of, sends_list}
use Rattle.fw_node.proofs.MessageLaws.{caused-at, messages-at, messages-recs}
use Rattle.fw_node.proofs.NodeOfLaws.{input-can_send}
use Rattle.fw_progress.specs.declared.traces.Traces.{Traces}
use Rattle.fw_progress.specs.History.{FollowsEvent as ProgressFollows}
use Rattle.fw_progress.specs.Progress.{Standing}
use Rattle.fw_progress.specs.Trace.{TracesFollow}
use Rattle.fw_stands.specs.Events.{at_epoch, AreSent, IsInjectionOf}
use Rattle.fw_stands.specs.Parts.{has_table, IsTableIn, IsSourceOf}
use Rattle.fw_stands.proofs.EventAnswerLaws.{injections-send}
use Rattle.fw_stands.proofs.EventBorderLaws.{sources-go_on, sources-have_next}
use Rattle.fw_stands.proofs.EventTableLaws.{failed-idle, no-tables_stay}
use Rattle.fw_running.specs.declared.running.Running.{Running}
use Rattle.fw_running.specs.Kept.{queue_at, log_at, table_of, source_of, output_of, is_down}
use Rattle.fw_running.specs.Logging.{IsNotAsked}
use Rattle.fw_running.specs.Stands.{Stands}
use Rattle.fw_running.specs.Steps.{Follows}
use Rattle.fw_running.proofs.SameStateLaws.{down-failed, idle-follows}
use Rattle.fw_events.specs.AfterEvent.{EdgesFollow, OwnFollow, TakesEvent}
use Rattle.fw_events.specs.Sending.{with_queues, with_logs, ChangesEdges, SendsOn}
use Rattle.fw_events.specs.Taking.{with_sources, with_told, IsNextSent, TellsOf}
use Rattle.fw_events.proofs.AfterEventLaws.{events_are_followed, injections_are_followed}
use Rattle.fw_events.proofs.SendingLaws.{edges-follow}

-- ---- what is kept

-- what the calls for an input make of what is kept, one after the other: it goes on by one, its batch is sent, and progress and traces
-- are told
pub record TakenFromSource (s x : ℕ) (sent : List Message) (old a b new : Running) : Type 0 where
  pub changing : a ≡ with_sources a.parts.sources old
  pub source : a.parts.sources ≡ with_source advanced old.parts.sources s
  pub sending : ChangesEdges a b
  pub sends : SendsOn (out_edges old.flow s) (can_resend (policy_of old.flow s)) sent a b
  pub telling : new ≡ with_told new.traces new.progress b
  pub told : TellsOf (Injected s x) (without_causes sent) b new

none-there : (table : Option Node) → is_some table ≡ false → table ≡ None
none-there None k = refl
none-there (Some x) k = absurd (false≢true (sym k))

no-output : (k : Kind) → is_input_kind k ≡ true → is_output_kind k ≡ false
no-output Input i = refl
no-output k i = absurd cc

no-table : (sys : System) (state : Machine) (p : ℕ) → is_input_kind (kind_of sys.flow p) ≡ true → has_table sys state p ≡ false
no-table sys state p k = ap (λ b. not (b || (is_output_kind (kind_of sys.flow p) || is_failed state p))) k

pub taken_from_source : (s x : ℕ) (batch : List Rec) (sent : List Message) (old a b new : Running) → TakenFromSource s x sent old a b new
    → is_input_kind (kind_of old.flow s) ≡ true → s < length old.parts.sources
    → next_batch (source_of old s) ≡ Some batch → (source_of old s).injected ≡ x → sent ≡ at_epoch x batch → TakesEvent (Injected s x) old new
taken_from_source s x batch sent old a b new t input there next injected sent_is = record {
  sent = sent;
  others = record {
    flow = same Dataflow (λ r. r.flow) refl refl refl;
    epochs = same ℕ (λ r. r.epochs) refl refl refl;
    low = same (List Front) (λ r. r.parts.low) refl refl refl;
    failed = same (List Bool) (λ r. r.failed.items) refl refl refl;
    lost = same (List (List Stamp)) (λ r. r.lost.items) refl refl refl;
    settled = t.told.settled ∙ to_b (List Front) (λ r. r.progress.settled) refl refl;
    tables = λ p n. same (Option Node) (λ r. table_of r p) refl refl refl;
    outputs = λ o n. same OutputState (λ r. output_of r o) refl refl refl;
    sources = λ q n.
        let other : q ≢ s = λ k. false≢true (sym n ∙ eq-eqb s q (sym k)) in
        sources_are q ∙ get_or-set_other old.parts.sources s q (advanced (source_of old s)) (unused_source []) other;
  };
  edges = subst (EdgesFollow old.flow (Injected s x) sent old) (sym t.telling) (record {
    queues = edges.queues;
    down = edges.down;
    logs = edges.logs;
    logs_stay = edges.logs_stay;
  });
  own = own;
  progress = subst (λ f. ProgressFollows f (Injected s x) (without_causes sent) old.progress new.progress) (to_b Dataflow (λ r. r.flow) refl refl)
      (subst (λ p. ProgressFollows b.flow (Injected s x) (without_causes sent) p new.progress) (to_b Standing (λ r. r.progress) refl refl) t.told.progress);
  traces = subst (λ f. TracesFollow f (Injected s x) (without_causes sent) old.traces new.traces) (to_b Dataflow (λ r. r.flow) refl refl)
      (subst (λ p. TracesFollow b.flow (Injected s x) (without_causes sent) p new.traces) (to_b Traces (λ r. r.traces) refl refl) t.told.traces);
}
  where
    to_b : (T : Type 0) (F : Running → T) → F (with_queues b.parts.queues b.ready.edges (with_logs b.parts.logs a)) ≡ F a
        → F (with_sources a.parts.sources old) ≡ F old → F b ≡ F old
    to_b T F y z = ap F t.sending ∙ y ∙ ap F t.changing ∙ z

    same : (T : Type 0) (F : Running → T) → F (with_told new.traces new.progress b) ≡ F b
        → F (with_queues b.parts.queues b.ready.edges (with_logs b.parts.logs a)) ≡ F a → F (with_sources a.parts.sources old) ≡ F old → F new ≡ F old
    same T F w y z = ap F t.telling ∙ w ∙ to_b T F y z

    sources_are : (q : ℕ) → source_of new q ≡ source_at (with_source advanced old.parts.sources s) q
    sources_are q = ap (λ (r : Running). source_of r q) t.telling ∙ ap (λ (r : Running). source_of r q) t.sending ∙ ap (λ ss. source_at ss q) t.source

    edges : EdgesFollow old.flow (Injected s x) sent old b
    edges = edges-follow (Injected s x) sent old a b (ap (λ (r : Running). r.flow) t.changing) (ap (λ (r : Running). r.parts.low) t.changing)
        (ap (λ (r : Running). r.failed.items) t.changing) (λ e k. ap (λ (r : Running). queue_at r e) t.changing) (λ e k. ap (λ (r : Running). queue_at r e) t.changing)
        (λ e. ap (λ (r : Running). log_at r e) t.changing) t.sends

    own : OwnFollow (Injected s x) sent old new
    own sys state flow w r enabled alive o =
        let next_state = with_event sys state (Injected s x) in
        let kind : is_input_kind (kind_of sys.flow s) ≡ true = ap (λ f. is_input_kind (kind_of f s)) flow ∙ input in
        let none : table_of old s ≡ None = none-there (table_of old s) (o.table.there ∙ no-table sys state s kind) in
        let kept : source_of new s ≡ advanced (source_of old s) =
        sources_are s ∙ get_or-set_same old.parts.sources s (advanced (source_of old s)) (unused_source []) there in
        let found : IsInjectionOf sys state s (source_of old s).injected (Some batch) =
        subst (IsInjectionOf sys state s (source_of old s).injected) next (sources-have_next sys state w r s alive (source_of old s) o.source) in
        let is : sent ≡ at_epoch x (slice_index_or (batches_of sys s) x []) =
        sent_is ∙ ap (at_epoch x) (found.1 ∙ ap (λ n. slice_index_or (batches_of sys s) n []) injected) in (
          subst (AreSent sys (events state.history) (Injected s x)) (sym is) (injections-send sys (events state.history) s x kind),
          record {
            table = subst (IsTableIn sys next_state s) (sym (same (Option Node) (λ y. table_of y s) refl refl refl ∙ none))
                (no-tables_stay sys state (Injected s x) s (subst (IsTableIn sys state s) none o.table));
            output = λ k. absurd (false≢true (sym (no-output (kind_of sys.flow s) kind) ∙ k));
            source = subst (IsSourceOf sys next_state s) (sym kept) (sources-go_on sys state s x enabled (source_of old s) o.source);
          },
        )

-- so an input takes the injection of its next batch, which it sends
pub injected-takes : (s x : ℕ) (cause : Stamp) (recs : List (Stamp × Rec)) (sends : Sends) (old a b new : Running) → IsNextSent (source_of old s) x sends
    → is_input_kind (kind_of old.flow s) ≡ true → s < length old.parts.sources → cause ≡ x ∷ [] → recs ≡ sends_list sends
    → a ≡ with_sources a.parts.sources old → a.parts.sources ≡ with_source advanced old.parts.sources s → ChangesEdges a b
    → SendsOn (out_edges a.flow s) (can_resend (policy_of a.flow s)) (messages_of cause sends) a b
    → new ≡ with_told new.traces new.progress b → TellsOf (Injected s x) recs b new → TakesEvent (Injected s x) old new
injected-takes s x cause recs sends old a b new n input there at is changing source sending sent telling told =
    taken_from_source s x n.batch (messages_of (x ∷ []) sends) old a b new (record {
      changing = changing;
      source = source;
      sending = sending;
      sends = subst (λ t. SendsOn (out_edges old.flow s) (can_resend (policy_of old.flow s)) (messages_of t sends) a b) at
          (subst (λ (f : Dataflow). SendsOn (out_edges f s) (can_resend (policy_of f s)) (messages_of cause sends) a b)
          (ap (λ (r : Running). r.flow) changing) sent);
      telling = telling;
      told = subst (λ rs. TellsOf (Injected s x) rs b new) (is ∙ sym (messages-recs (x ∷ []) sends)) told;
    }) input there n.next n.injected n.sent

-- what an input injects next can be sent
pub next-can_be_sent : (flow : Dataflow) (s x : ℕ) (source : SourceState) (sends : Sends) → IsWellFormed flow → is_input_kind (kind_of flow s) ≡ true → x < 2 ^ 32
    → IsNextSent source x sends → CanBeSent flow s (stamps_of sends)
next-can_be_sent flow s x source sends w input l n =
    let sent : Sent Stamp = record { at = x ∷ []; recs = n.batch } in
    subst (CanBeSent flow s) (sym (caused-at (x ∷ []) (map (λ (r : Rec). (x ∷ [], r)) n.batch)) ∙ sym (ap (map (λ (m : Message). m.at)) n.sent) ∙ messages-at (x ∷ []) sends)
    (input-can_send flow s x sent w input l refl)

-- ---- steps

-- a node that is failed, or has no batch that is next, injects nothing
pub failed-injects_none : (sys : System) (running : Running) (records : Option Records) (state : Machine) (s : ℕ)
    → Stands sys running records state → is_down running s ≡ true → Follows sys state (Inject s) idle running records
failed-injects_none sys running records state s st k =
    idle-follows sys running records state (Inject s) st ((failed-idle sys state s (sym (down-failed sys running records state st s) ∙ k)).0)

-- nor does a node that is no input
pub other-injects_none : (sys : System) (running : Running) (records : Option Records) (state : Machine) (s : ℕ)
    → Stands sys running records state → is_input_kind (kind_of running.flow s) ≡ false → Follows sys state (Inject s) idle running records
other-injects_none sys running records state s st k =
    let no_input : is_input_kind (kind_of sys.flow s) ≡ false = ap (λ f. is_input_kind (kind_of f s)) (sym st.apart.flow) ∙ k in
    idle-follows sys running records state (Inject s) st ((λ other effect t. false≢true (sym no_input ∙ (t.1).input)), refl)

declared : (sys : System) (running : Running) (records : Option Records) (state : Machine) (s : ℕ)
    → Stands sys running records state → is_input_kind (kind_of running.flow s) ≡ true → s < length sys.flow.nodes
declared sys running records state s st k = kind-declared sys.flow s is_input_kind (ap (λ f. is_input_kind (kind_of f s)) (sym st.apart.flow) ∙ k) refl

alive-is : (sys : System) (running : Running) (records : Option Records) (state : Machine) (s : ℕ)
    → Stands sys running records state → is_down running s ≡ false → is_failed state s ≡ false
alive-is sys running records state s st k = sym (down-failed sys running records state st s) ∙ k

-- nor an input whose batches were all injected
pub none-injects : (sys : System) (running : Running) (records : Option Records) (state : Machine) (s : ℕ)
    → Stands sys running records state → is_down running s ≡ false → is_input_kind (kind_of running.flow s) ≡ true
    → ((source_of running s).given ≤ 2 ^ 20 → next_batch (source_of running s) ≡ None) → Follows sys state (Inject s) idle running records
none-injects sys running records state s st live input found =
    let w = st.apart.well_formed in
    let of = st.apart.sources s (declared sys running records state s st input) in
    let none = found (subst (λ n. n ≤ 2 ^ 20) (sym of.given) (w.few s)) in
    idle-follows sys running records state (Inject s) st
    (subst (IsInjectionOf sys state s (source_of running s).injected) none
    (sources-have_next sys state w st.apart.reached s (alive-is sys running records state s st live) (source_of running s) of))

-- an engine that injects what is next follows the machine
pub injection-follows : (sys : System) (state : Machine) (s x : ℕ) (batch : List Rec) (old new : Running) (before after : Option Records)
    → Stands sys old before state → is_down old s ≡ false → is_input_kind (kind_of old.flow s) ≡ true
    → next_batch (source_of old s) ≡ Some batch → (source_of old s).injected ≡ x → TakesEvent (Injected s x) old new
    → IsNotAsked old.parts.keep.entries new.parts.keep.entries before after → Follows sys state (Inject s) (did silent) new after
injection-follows sys state s x batch old new before after st live input next injected taken none =
    let w = st.apart.well_formed in
    let alive = alive-is sys old before state s st live in
    let of = st.apart.sources s (declared sys old before state s st input) in
    let found : IsInjectionOf sys state s (source_of old s).injected (Some batch) =
    subst (IsInjectionOf sys state s (source_of old s).injected) next (sources-have_next sys state w st.apart.reached s alive (source_of old s) of) in
    let enabled : IsEnabled sys (events state.history) (Injected s x) = subst (λ n. IsEnabled sys (events state.history) (Injected s n)) injected found.0 in
    let steps : StepsTo sys state (Inject s) (with_event sys state (Injected s x)) (did silent) =
    subst (λ n. StepsTo sys state (Inject s) (with_event sys state (Injected s n)) (did silent)) injected found.2 in
    record {
      next = with_event sys state (Injected s x);
      steps = steps;
      stands = events_are_followed sys state (Injected s x) old new before after (Inject s) silent st enabled alive steps taken
          (injections_are_followed sys state (Injected s x) old new before after s silent st steps none);
    }

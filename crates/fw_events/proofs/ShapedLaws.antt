-- What is kept fits the flow, after each change.
use Rattle.std.proofs.Common.{◌≡◌, ℕ, ◌<◌, Bool, true, false, ◌||◌, List, [], ◌∷◌, ◌==◌, length, map, refl, sym, ap, subst, ◌∙◌, inl, inr}
use Rattle.std.specs.Prelude.{Option, IfSome}
use Rattle.std.specs.List.{AllByRecursion, Contains}
use Rattle.std.proofs.lemmas.Bool.{cases_Bool, cond_both, eqb-true}
use Rattle.fw_lemmas.proofs.Each.{each-kept}
use Rattle.fw_time.specs.Stamp.{in_domain}
use Rattle.fw_frontier.specs.Front.{inside}
use Rattle.fw_flow.specs.declared.event.Message.{Message}
use Rattle.fw_flow.specs.Dataflow.{Dataflow, bounds_of, is_one_of, out_edges, receiver, sender}
use Rattle.fw_flow.proofs.OutEdgeLaws.{out_edges-from}
use Rattle.fw_model.specs.Carried.{carried}
use Rattle.fw_model.proofs.CarriedLaws.{carried-each}
use Rattle.fw_model.specs.Filtering.{messages_outside}
use Rattle.fw_model.specs.Machine.{front_of}
use Rattle.fw_model.specs.SortedMessages.{with_messages}
use Rattle.fw_model.proofs.SortedLaws.{each-with_message}
use Rattle.fw_border.specs.Outputs.{OutputsState}
use Rattle.fw_border.specs.Sources.{SourceState}
use Rattle.fw_edge.specs.Messages.{MessagesState}
use Rattle.fw_node.specs.declared.node.Node.{Node}
use Rattle.fw_node.specs.NodeOf.{CanBeSent, IsNodeOf}
use Rattle.fw_progress.specs.declared.traces.Traces.{Traces}
use Rattle.fw_progress.specs.Progress.{IsOfFlow, Standing}
use Rattle.fw_progress.specs.Trace.{HaveLists}
use Rattle.fw_rollback.specs.Edges.{on_edge}
use Rattle.fw_rollback.specs.Tables.{table_at}
use Rattle.fw_running.specs.declared.running.Running.{Running}
use Rattle.fw_running.specs.Kept.{queue_at, log_at, output_of, is_down, with_tables}
use Rattle.fw_running.specs.Ready.{CanAcknowledge, CanDeliver, CanInject, CanAcknowledgeBy, HasGrownBy, IsOwing}
use Rattle.fw_running.specs.Shaped.{IsOnEdge, IsShaped}
use Rattle.fw_running.proofs.KeptShapes.{logs-fit, progress-fits, queues-fit, shaped-changed, shaped-parts, shaped-standing, tables-fit, traces-fit}
use Rattle.fw_events.specs.Sending.{with_queues, with_logs, sent_to, ChangesEdges, SendsOn}
use Rattle.fw_events.specs.Taking.{with_owing, with_outputs, with_sources, with_told}

-- ---- edges

each-put : (P : Message → Type 0) (ms xs : List Message) → AllByRecursion P ms → AllByRecursion P xs → AllByRecursion P (with_messages ms xs)
each-put P [] xs a b = b
each-put P (m ∷ ms) xs a b = each-with_message P m (with_messages ms xs) a.0 (each-put P ms xs a.1 b)

-- what is kept with other queues and logs fits the flow as before, where these do
pub shaped-edges : (old : Running) (queues logs : List MessagesState) (edges : List ℕ) → IsShaped old
    → length queues ≡ length old.parts.queues → length logs ≡ length old.parts.logs
    → ((e : ℕ) → AllByRecursion (IsOnEdge old.flow e) (on_edge queues e).messages)
    → ((e : ℕ) → AllByRecursion (IsOnEdge old.flow e) (on_edge logs e).messages)
    → ((e : ℕ) → CanDeliver (with_queues queues edges (with_logs logs old)) e → Contains edges e)
    → IsShaped (with_queues queues edges (with_logs logs old))
shaped-edges old queues logs edges s queues_each logs_each pending logged ready =
    shaped-changed old (record old.parts { queues = queues; logs = logs }) old.progress old.traces (record old.ready { edges = edges }) s (tables-fit old s)
    (queues_each ∙ s.one_each.parts.queues, pending) (logs_each ∙ s.one_each.parts.logs, logged) s.entries s.one_each.sources s.one_each.outputs refl
    (progress-fits old s) (traces-fit old s)
    (record { edges = ready; owing = s.ready.owing; growing = s.ready.growing; outputs = s.ready.outputs; inputs = s.ready.inputs })

-- what is sent on these edges fits them: so do the queues and logs then
pub shaped-sent : (old new : Running) (es : List ℕ) (again : Bool) (ms : List Message) → IsShaped old → ChangesEdges old new → SendsOn es again ms old new
    → ((e : ℕ) → is_one_of e es ≡ true → AllByRecursion (IsOnEdge old.flow e) ms) → IsShaped new
shaped-sent old new es again ms s c d fits = subst IsShaped (sym c) (shaped-edges old new.parts.queues new.parts.logs new.ready.edges s d.queues_each d.logs_each
    (λ e. pending e (is_down old (receiver old.flow e)) refl) (λ e. logged e again refl)
    (λ e k. d.ready s.ready.edges e (subst (λ (r : Running). CanDeliver r e) (sym c) k)))
  where
    here : (e : ℕ) → AllByRecursion (IsOnEdge old.flow e) (sent_to old.flow es e ms)
    here e =
        cond_both (is_one_of e es) (carried old.flow e ms) [] (AllByRecursion (IsOnEdge old.flow e)) (λ k. carried-each old.flow e (IsOnEdge old.flow e) ms (fits e k)) (λ k. tt)

    pending : (e : ℕ) (b : Bool) → is_down old (receiver old.flow e) ≡ b → AllByRecursion (IsOnEdge old.flow e) (queue_at new e)
    pending e true k = subst (AllByRecursion (IsOnEdge old.flow e)) (sym (d.down e k)) (s.queues e)
    pending e false k = subst (AllByRecursion (IsOnEdge old.flow e)) (sym (d.queues e k)) (each-put (IsOnEdge old.flow e) (sent_to old.flow es e ms) (queue_at old e) (here e) (s.queues e))

    logged : (e : ℕ) (b : Bool) → again ≡ b → AllByRecursion (IsOnEdge old.flow e) (log_at new e)
    logged e true k =
        let f = front_of old.parts.low (receiver old.flow e) in
        subst (AllByRecursion (IsOnEdge old.flow e)) (sym (d.logs k e))
        (each-put (IsOnEdge old.flow e) (messages_outside (inside f) (sent_to old.flow es e ms)) (log_at old e)
        (each-kept (IsOnEdge old.flow e) _ (sent_to old.flow es e ms) (here e)) (s.logs e))
    logged e false k = subst (AllByRecursion (IsOnEdge old.flow e)) (sym (d.logs_stay k e)) (s.logs e)

-- messages at stamps of an edge's domain, whose causes are of its sender's, are on the edge
messages-fit : (flow : Dataflow) (e : ℕ) (ms : List Message)
    → AllByRecursion (λ (m : Message). AllByRecursion (λ t. in_domain (bounds_of flow (sender flow e)) t ≡ true) m.causes) ms
    → AllByRecursion (λ t. in_domain (bounds_of flow (receiver flow e)) t ≡ true) (map (λ (m : Message). m.at) ms)
    → AllByRecursion (IsOnEdge flow e) ms
messages-fit flow e [] c a = tt
messages-fit flow e (m ∷ ms) c a = (record { at = a.0; causes = c.0 }, messages-fit flow e ms c.1 a.1)

among-holds : (P : ℕ → Type 0) (es : List ℕ) (e : ℕ) → is_one_of e es ≡ true → AllByRecursion P es → P e
among-holds P [] e k a = absurd (cc)
among-holds P (x ∷ es) e k a = elim (cases_Bool (x == e)) [
  | inl i ↦ subst P (eqb-true x e i) a.0
  | inr i ↦ among-holds P es e (sym (ap (λ b. b || is_one_of e es) i) ∙ k) a.1
]

-- what a node can send fits each of its out-edges
pub sent-fit : (flow : Dataflow) (p : ℕ) (ms : List Message)
    → AllByRecursion (λ (m : Message). AllByRecursion (λ t. in_domain (bounds_of flow p) t ≡ true) m.causes) ms
    → CanBeSent flow p (map (λ (m : Message). m.at) ms)
    → (e : ℕ) → is_one_of e (out_edges flow p) ≡ true → AllByRecursion (IsOnEdge flow e) ms
sent-fit flow p ms c k e among =
    let both = among-holds (λ d. (d < length flow.edges) × (sender flow d ≡ p)) (out_edges flow p) e among
    (out_edges-from (λ d. (d < length flow.edges) × (sender flow d ≡ p)) flow p (λ d l s. (l, s))) in
    messages-fit flow e ms (subst (λ q. AllByRecursion (λ (m : Message). AllByRecursion (λ t. in_domain (bounds_of flow q) t ≡ true) m.causes) ms) (sym both.1) c)
    (k e both.0 both.1)

-- ---- other parts

-- what is kept with other tables fits the flow, where these do
pub shaped-tables : (old : Running) (tables : List (Option Node)) → IsShaped old
    → length tables ≡ length old.parts.tables
    → ((p : ℕ) → p < length old.flow.nodes → IfSome (table_at tables p) (IsNodeOf old.flow p))
    → IsShaped (with_tables tables old)
shaped-tables old tables s n a =
    shaped-parts old (record old.parts { tables = tables }) s (n ∙ s.one_each.parts.tables, a) (queues-fit old s) (logs-fit old s) s.entries
    s.one_each.sources s.one_each.outputs refl
    (record { edges = s.ready.edges; owing = s.ready.owing; growing = s.ready.growing; outputs = s.ready.outputs; inputs = s.ready.inputs })

-- and with other inputs
pub shaped-sources : (old : Running) (sources : List SourceState) → IsShaped old
    → length sources ≡ length old.parts.sources
    → ((i : ℕ) → CanInject (with_sources sources old) i → Contains old.ready.inputs i)
    → IsShaped (with_sources sources old)
shaped-sources old sources s n a =
    shaped-parts old (record old.parts { sources = sources }) s (tables-fit old s) (queues-fit old s) (logs-fit old s) s.entries
    (n ∙ s.one_each.sources) s.one_each.outputs refl
    (record { edges = s.ready.edges; owing = s.ready.owing; growing = s.ready.growing; outputs = s.ready.outputs; inputs = a })

-- and with other outputs
pub shaped-outputs : (old : Running) (outputs : OutputsState) (places : List ℕ) → IsShaped old
    → length outputs.outputs ≡ length old.parts.outputs.outputs
    → ((o : ℕ) → CanAcknowledge (with_outputs outputs places old) o → Contains places o)
    → IsShaped (with_outputs outputs places old)
shaped-outputs old outputs places s n a =
    shaped-changed old (record old.parts { outputs = outputs }) old.progress old.traces (record old.ready { outputs = places }) s (tables-fit old s)
    (queues-fit old s) (logs-fit old s) s.entries s.one_each.sources (n ∙ s.one_each.outputs) refl (progress-fits old s) (traces-fit old s)
    (record { edges = s.ready.edges; owing = s.ready.owing; growing = s.ready.growing; outputs = a; inputs = s.ready.inputs })

-- and with more nodes that may be owed a notification
pub shaped-owing : (old : Running) (owing : List ℕ) → IsShaped old
    → ((p : ℕ) → Contains old.ready.owing p → Contains owing p)
    → IsShaped (with_owing owing old)
shaped-owing old owing s a =
    shaped-standing old old.progress old.traces (record old.ready { owing = owing }) s (progress-fits old s) (traces-fit old s)
    (record { edges = s.ready.edges; owing = λ p c. a p (s.ready.owing p c); growing = s.ready.growing; outputs = s.ready.outputs; inputs = s.ready.inputs })

-- and with other traces and other progress
pub shaped-told : (old : Running) (traces : Traces) (progress : Standing) → IsShaped old
    → IsOfFlow old.flow progress
    → HaveLists old.flow traces
    → progress.refused ≡ false
    → traces.refused ≡ false
    → progress.settled ≡ old.progress.settled
    → progress.kept ≡ old.progress.kept
    → ((q : ℕ) → IsOwing (with_told traces progress old) q → Contains old.ready.owing q)
    → IsShaped (with_told traces progress old)
shaped-told old traces progress s p t live traced settled kept owing =
    shaped-standing old progress traces old.ready s (p, live) (t, traced) (record {
      edges = s.ready.edges;
      owing = owing;
      growing = λ q c. s.ready.growing q
          (subst (λ fs. HasGrownBy old.flow q (front_of fs q) (front_of old.progress.settled q)) kept (subst (λ fs. HasGrownBy old.flow q (front_of progress.kept q) (front_of fs q)) settled c));
      outputs = λ o c. s.ready.outputs o
          (subst (λ fs. CanAcknowledgeBy old.flow o (is_down old o) old.epochs (output_of old o) (front_of fs o)) settled c);
      inputs = s.ready.inputs;
    })

-- what is kept with other queues fits the flow, where these do
pub shaped-queues : (old : Running) (queues : List MessagesState) (edges : List ℕ) → IsShaped old
    → length queues ≡ length old.parts.queues
    → ((e : ℕ) → AllByRecursion (IsOnEdge old.flow e) (on_edge queues e).messages)
    → ((e : ℕ) → CanDeliver (with_queues queues edges old) e → Contains edges e)
    → IsShaped (with_queues queues edges old)
shaped-queues old queues edges s n a r =
    shaped-edges old queues old.parts.logs edges s n refl a s.logs r

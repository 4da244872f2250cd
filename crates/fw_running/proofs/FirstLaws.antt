-- Where nothing has happened an engine stands for the first state, and what it keeps has its shape.
use Rattle.std.proofs.Common.{◌≡◌, ℕ, zero, suc, ◌+◌, Bool, true, false, not, ◌||◌, filter, List, [], ◌∷◌, length, map, replicate, get_or, refl, sym, subst, ap, ◌∙◌, inl, inr, arith, Option, Some, None, IfSome}
use Rattle.std.proofs.lemmas.Bool.{cases_lt}
use Rattle.std.proofs.lemmas.List.{length-map, length-replicate, get_or-replicate, get_or_past}
use Rattle.std.proofs.lemmas.List.FromFn.{length-map-range_with_len}
use Rattle.std.specs.List.{AllByRecursion, AllZip, range_with_len, enumerate_from}
use Rattle.std.specs.Option.{IsSomeAnd}
use Rattle.fw_lemmas.proofs.Lists.{contains-none}
use Rattle.fw_bag.specs.declared.rec.Rec.{Rec}
use Rattle.fw_frontier.specs.Front.{Front, inside}
use Rattle.fw_flow.specs.Kind.{Kind}
use Rattle.fw_flow.specs.declared.kind.Kind.TheVariants.{Input, OutputEpoch, OutputNumber}
use Rattle.fw_flow.specs.declared.kind.Policy.{Policy}
use Rattle.fw_flow.specs.declared.kind.Policy.TheVariants as policy
use Rattle.fw_flow.specs.Dataflow.{Dataflow, System, system_of, kind_of, policy_of, batches_of, batches_of_nodes, bounds_of, node_ids, is_input_kind, is_output_kind}
use Rattle.fw_flow.specs.Restoring.{restoring, restoring_of_policy}
use Rattle.fw_flow.specs.WellFormed.{IsWellFormedSystem}
use Rattle.fw_model.specs.Machine.{Machine, first_state, front_of, no_stamps, AreCanonical}
use Rattle.fw_keep.specs.declared.entry.Entry.{Entry}
use Rattle.fw_keep.specs.Catalogue.{KeepState}
use Rattle.fw_keep.specs.Stored.{Records}
use Rattle.fw_edge.specs.Messages.{MessagesState}
use Rattle.fw_border.specs.Outputs.{OutputState, OutputsState, new_output}
use Rattle.fw_border.specs.Sources.{SourceState, source_at, unused_source}
use Rattle.fw_node.specs.declared.node.Node.{Node}
use Rattle.fw_node.specs.NodeOf.{IsNodeOf}
use Rattle.fw_node.proofs.NodeOfLaws.{node-of}
use Rattle.fw_model.proofs.FloorLaws.{low-floor}
use Rattle.fw_policy.specs.View.{base_of}
use Rattle.fw_rollback.specs.Edges.{on_edge, nothing_there}
use Rattle.fw_rollback.specs.New.{IsFirstTable}
use Rattle.fw_rollback.specs.Restored.{IsNew}
use Rattle.fw_stands.specs.Entries.{AreBasesOf}
use Rattle.fw_stands.specs.Parts.{IsTableIn, IsOutputOf, IsSourceOf}
use Rattle.fw_stands.specs.Written.{IsEntryOf, IsHeldAs}
use Rattle.fw_stands.proofs.AcknowledgementLaws.{greatest_count-epochs}
use Rattle.fw_stands.proofs.StartingLaws.{first-reached, first_table-stands, borders-have_none, first-holds_nothing, unused_source-stands}
use Rattle.fw_running.specs.declared.running.Running.{Running}
use Rattle.fw_running.specs.Kept.{queue_at, log_at, table_of, source_of, lost_at}
use Rattle.fw_running.specs.Shaped.{IsOnEdge, IsWrittenOf, IsShaped}
use Rattle.fw_running.specs.Stands.{Stands}
use Rattle.fw_running.specs.Starting.{IsFirst}
use Rattle.fw_model.specs.Writes.{takes_checkpoints}

-- ---- lists of one for each

same_from : {A : Type 0} (x : A) (a n : ℕ) → replicate n x ≡ map (λ p. x) (range_with_len a n)
same_from x a zero = refl
same_from x a (suc n) = ap (λ xs. x ∷ xs) (same_from x (a + 1) n)

same_for_each : {A : Type 0} (x : A) (flow : Dataflow) → replicate (length flow.nodes) x ≡ map (λ p. x) (node_ids flow)
same_for_each x flow = same_from x 0 (length flow.nodes)

-- what stands in a list of so many times the same, also past its end
all-same : {A : Type 0} (xs : List A) (n i : ℕ) (x : A) → xs ≡ replicate n x → get_or xs i x ≡ x
all-same xs n i x e = ap (λ ys. get_or ys i x) e ∙ elim (cases_lt i n) [
  | inl l ↦ get_or-replicate n i x x l
  | inr l ↦ get_or_past (replicate n x) i x (omega (arith, l, length-replicate n x))
]

nothing-on : (all : List MessagesState) (n e : ℕ) → all ≡ replicate n nothing_there → (on_edge all e).messages ≡ []
nothing-on all n e is = ap (λ (s : MessagesState). s.messages) (all-same all n e nothing_there is)

-- ---- tables

-- an inner node has a new table, whatever its policy
new-some : (flow : Dataflow) (p : ℕ) (po : Policy) (table : Option Node) → IsFirstTable flow p (restoring_of_policy po) table → IsSomeAnd table (IsNew flow p)
new-some flow p policy.None table t = t
new-some flow p policy.Lazy table t = t
new-some flow p policy.Logged table t = t
new-some flow p policy.Eager table t = t
new-some flow p policy.Full table t = t

inner-stands : (sys : System) (p : ℕ) (table : Option Node) → is_input_kind (kind_of sys.flow p) ≡ false → is_output_kind (kind_of sys.flow p) ≡ false
    → IsSomeAnd table (IsNew sys.flow p) → IsTableIn sys (first_state sys) p table
inner-stands sys p None i o t = absurd t
inner-stands sys p (Some node) i o t = first_table-stands sys p i o node t

border-stands : (sys : System) (p : ℕ) (kind : Kind) (table : Option Node) → kind_of sys.flow p ≡ kind → (is_input_kind kind || is_output_kind kind) ≡ true
    → table ≡ None → IsTableIn sys (first_state sys) p table
border-stands sys p kind table k b t =
    subst (λ (x : Option Node). IsTableIn sys (first_state sys) p x) (sym t) (borders-have_none sys p (ap (λ x. is_input_kind x || is_output_kind x) k ∙ b))

first-table : (sys : System) (p : ℕ) (kind : Kind) (po : Policy) (table : Option Node) → kind_of sys.flow p ≡ kind
    → IsFirstTable sys.flow p (restoring kind po) table → IsTableIn sys (first_state sys) p table
first-table sys p Input po table k t = border-stands sys p Input table k refl t
first-table sys p OutputEpoch po table k t = border-stands sys p OutputEpoch table k refl t
first-table sys p OutputNumber po table k t = border-stands sys p OutputNumber table k refl t
first-table sys p kind po table k t = inner-stands sys p table (ap is_input_kind k) (ap is_output_kind k) (new-some sys.flow p po table t)

some-of : (flow : Dataflow) (p : ℕ) (table : Option Node) → IsSomeAnd table (IsNew flow p) → IfSome table (IsNodeOf flow p)
some-of flow p None t = absurd t
some-of flow p (Some node) t = node-of flow p (λ s. false) node [] (t (λ s. false))

none-of : (flow : Dataflow) (p : ℕ) (table : Option Node) → table ≡ None → IfSome table (IsNodeOf flow p)
none-of flow p table t = subst (λ (x : Option Node). IfSome x (IsNodeOf flow p)) (sym t) tt

first-node : (flow : Dataflow) (p : ℕ) (kind : Kind) (po : Policy) (table : Option Node) → IsFirstTable flow p (restoring kind po) table
    → IfSome table (IsNodeOf flow p)
first-node flow p Input po table t = none-of flow p table t
first-node flow p OutputEpoch po table t = none-of flow p table t
first-node flow p OutputNumber po table t = none-of flow p table t
first-node flow p kind po table t = some-of flow p table (new-some flow p po table t)

-- ---- inputs and outputs

-- a node that is no input has no batches
no_source-stands : (sys : System) (s : ℕ) → batches_of sys s ≡ [] → IsSourceOf sys (first_state sys) s (unused_source [])
no_source-stands sys s e =
    let left : List (List Rec) → List (ℕ × List Rec) =
    λ bs. filter (λ (batch : ℕ × List Rec). not (inside (front_of (first_state sys).low s) (batch.0 ∷ []))) (enumerate_from 0 bs) in
    record {
      given = sym (ap length e);
      injected = refl;
      held = sym (ap left e);
    }

source-stands : (sys : System) (s : ℕ) (source : SourceState) → IsWellFormedSystem sys → source ≡ unused_source (batches_of sys s)
    → IsSourceOf sys (first_state sys) s source
source-stands sys s source w e = subst (λ (x : SourceState). IsSourceOf sys (first_state sys) s x) (sym e) (by (is_input_kind (kind_of sys.flow s)) refl)
  where
    by : (b : Bool) → is_input_kind (kind_of sys.flow s) ≡ b → IsSourceOf sys (first_state sys) s (unused_source (batches_of sys s))
    by true i = unused_source-stands sys s i
    by false i =
        let none : batches_of sys s ≡ [] = w.of_inputs s i in
        subst (λ (bs : List (List Rec)). IsSourceOf sys (first_state sys) s (unused_source bs)) (sym none) (no_source-stands sys s none)

source_there : (flow : Dataflow) (batches : List (ℕ × List (List Rec))) (sources : List SourceState) (s : ℕ)
    → sources ≡ map unused_source (batches_of_nodes flow batches) → source_at sources s ≡ unused_source (batches_of (system_of flow batches) s)
unfolding batches_of
source_there flow batches sources s e = ap (λ (xs : List SourceState). source_at xs s) e ∙ by (batches_of_nodes flow batches) s
  where
    by : (bs : List (List (List Rec))) (i : ℕ) → get_or (map unused_source bs) i (unused_source []) ≡ unused_source (get_or bs i [])
    by [] i = refl
    by (b ∷ bs) zero = refl
    by (b ∷ bs) (suc i) = by bs i

-- ---- the state

none-held : {A B : Type 0} (R : A → B → Type 0) (xs : List A) → xs ≡ [] → AllZip R xs []
none-held {A} R xs e = subst (λ (ys : List A). AllZip R ys []) (sym e) tt

pub first-stands : (flow : Dataflow) (batches : List (ℕ × List (List Rec))) (records : Option Records) (running : Running)
    → IsWellFormedSystem (system_of flow batches) → IsFirst flow batches running
    → Stands (system_of flow batches) running records (first_state (system_of flow batches))
first-stands flow batches records running w f =
    let sys : System = system_of flow batches in
    let state : Machine = first_state sys in
    let entries : running.parts.keep.entries ≡ [] = ap (λ (keep : KeepState). keep.entries) f.parts.keep in
    let nothing = first-holds_nothing sys in
    record {
      apart = record {
        flow = f.runs;
        well_formed = w;
        reached = first-reached sys;
        settled = f.progress.settled;
        failed = f.failed ∙ same_for_each false flow;
        low = f.parts.low;
        epochs = greatest_count-epochs sys running.epochs f.epochs;
        tables = λ p l. first-table sys p (kind_of flow p) (policy_of flow p) (table_of running p) refl (f.parts.tables p l);
        queues = λ e l. nothing-on running.parts.queues (length flow.edges) e f.parts.queues ∙ sym (nothing.queues e);
        logs = λ e l. nothing-on running.parts.logs (length flow.edges) e f.parts.logs ∙ sym (nothing.logs e);
        outputs = λ o l k. subst (λ (x : OutputState). IsOutputOf sys state o x)
            (sym (all-same running.parts.outputs.outputs (length flow.nodes) o new_output (ap (λ (x : OutputsState). x.outputs) f.parts.outputs))) (nothing.outputs o);
        sources = λ s l. source-stands sys s (source_of running s) w (source_there flow batches running.parts.sources s f.parts.sources);
        progress = f.progress.stands;
        entries = none-held (IsEntryOf sys state) running.parts.keep.entries entries;
        bases = subst (λ es. AreBasesOf running.parts.keep.entries es []) (sym entries) tt;
        stored = λ held e. none-held (IsHeldAs sys state held) running.parts.keep.entries entries;
      };
      traces = record { floor = state.low; above = low-floor sys state w (first-reached sys); each = λ p l. f.traces.none (takes_checkpoints (policy_of sys.flow p)) sys p (base_of sys state.low state p) };
      lost = λ p k t. (λ c. absurd (contains-none (lost_at running p) t (all-same running.lost.items (length flow.nodes) p [] f.lost) c), λ l. absurd (nothing.lost p t l));
    }

-- ---- the shape

each-none : {A : Type 0} (P : A → Type 0) (xs : List A) → xs ≡ [] → AllByRecursion P xs
each-none {A} P xs e = subst (λ (ys : List A). AllByRecursion P ys) (sym e) tt

shaped_of_flow : (batches : List (ℕ × List (List Rec))) (running : Running) → IsWellFormedSystem (system_of running.flow batches)
    → IsFirst running.flow batches running → IsShaped running
shaped_of_flow batches running w f =
    let flow = running.flow in
    let all = f.ready in
    record {
      well_formed = w.flow;
      one_each = record {
        parts = f.one_each;
        sources = ap length f.parts.sources ∙ length-map (batches_of_nodes flow batches) unused_source ∙ w.one_each;
        outputs = ap (λ (x : OutputsState). length x.outputs) f.parts.outputs ∙ length-replicate (length flow.nodes) new_output;
        low = ap length f.parts.low ∙ length-map-range_with_len (λ p. no_stamps (bounds_of flow p)) 0 (length flow.nodes);
        failed = ap length f.failed ∙ length-replicate (length flow.nodes) false;
        lost = ap length f.lost ∙ length-replicate (length flow.nodes) [];
      };
      progress = f.progress.of_flow;
      traces = f.traces.lists;
      low = subst (λ (fs : List Front). AreCanonical flow fs) (f.progress.settled ∙ sym f.parts.low) f.progress.of_flow.settled;
      tables = λ p l. first-node flow p (kind_of flow p) (policy_of flow p) (table_of running p) (f.parts.tables p l);
      queues = λ e. each-none (IsOnEdge flow e) (queue_at running e) (nothing-on running.parts.queues (length flow.edges) e f.parts.queues);
      logs = λ e. each-none (IsOnEdge flow e) (log_at running e) (nothing-on running.parts.logs (length flow.edges) e f.parts.logs);
      entries = each-none (λ (entry : Entry). IsWrittenOf flow entry.node entry.written) running.parts.keep.entries (ap (λ (keep : KeepState). keep.entries) f.parts.keep);
      live = f.progress.live;
      traced = f.traces.live;
      ready = record {
        edges = λ e can. all.edges e can.there;
        owing = λ p can. all.owing p can.there;
        growing = λ p can. all.growing p can.there;
        outputs = λ o can. all.outputs o can.there;
        inputs = λ s can. all.inputs s can.there;
      };
    }

pub first-shaped : (flow : Dataflow) (batches : List (ℕ × List (List Rec))) (running : Running) → IsWellFormedSystem (system_of flow batches)
    → IsFirst flow batches running → IsShaped running
first-shaped flow batches running w f =
    let same : flow ≡ running.flow = sym f.runs in
    shaped_of_flow batches running (subst (λ (g : Dataflow). IsWellFormedSystem (system_of g batches)) same w) (subst (λ (g : Dataflow). IsFirst g batches running) same f)

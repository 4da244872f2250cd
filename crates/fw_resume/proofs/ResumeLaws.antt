-- An engine that starts again fits its flow, and holds what is left of the state of its root.
use Rattle.std.proofs.Common.{◌≡◌, ℕ, ◌<◌, Bool, true, false, not, ◌&&◌, ◌||◌, cond, List, [], length, map, replicate, Option, None, IfSome, refl, sym, ap, subst, ◌∙◌, inl, inr, arith}
use Rattle.std.specs.List.{AllByRecursion}
use Rattle.std.proofs.lemmas.Bool.{cases_Bool}
use Rattle.std.proofs.lemmas.List.{length-replicate}
use Rattle.fw_frontier.specs.Front.{Front}
use Rattle.fw_flow.specs.declared.kind.Policy.TheVariants as policy
use Rattle.fw_flow.specs.Dataflow.{Dataflow, System, batches_of, batches_of_nodes, is_input_kind, is_output_kind, kind_of, policy_of, receiver, sender, system_of}
use Rattle.fw_flow.specs.Restoring.{can_resend}
use Rattle.fw_flow.specs.WellFormed.{IsWellFormed, IsWellFormedSystem}
use Rattle.fw_model.specs.Filtering.{messages_outside}
use Rattle.fw_model.specs.History.{injected_count, pending_messages, sent_messages}
use Rattle.fw_model.specs.Machine.{Machine, AreCanonical, ack_count_of, events, family_of, front_of, is_failed}
use Rattle.fw_model.specs.SortedMessages.{sorted_messages}
use Rattle.fw_model.specs.Reached.{IsReached}
use Rattle.fw_model.proofs.AskedLaws.{reached-all}
use Rattle.fw_model.proofs.InputLaws.{injected-few}
use Rattle.fw_model.proofs.LegalLaws.{only_inputs_inject}
use Rattle.fw_border.specs.Outputs.{new_output}
use Rattle.fw_border.specs.Sources.{source_at, unused_source}
use Rattle.fw_keep.specs.declared.entry.Entry.{Entry}
use Rattle.fw_keep.specs.Catalogue.{KeepState}
use Rattle.fw_keep.specs.Stored.{Records}
use Rattle.fw_node.specs.declared.node.Node.{Node}
use Rattle.fw_node.specs.NodeOf.{IsNodeOf}
use Rattle.fw_policy.specs.View.{KnowsLosses}
use Rattle.fw_progress.specs.History.{StandsForHistory}
use Rattle.fw_progress.specs.Progress.{IsOfFlow}
use Rattle.fw_progress.specs.Trace.{HaveLists}
use Rattle.fw_regain.specs.Down.{down}
use Rattle.fw_regain.specs.RootOf.{IsRootOf}
use Rattle.fw_regain.proofs.DownLaws.{are-down, down-reached}
use Rattle.fw_rollback.specs.Edges.{nothing_there}
use Rattle.fw_root.specs.declared.of_flow.Role.TheVariants as role
use Rattle.fw_root.specs.declared.root.NodeFronts.{NodeFronts}
use Rattle.fw_root.specs.declared.root.Root.{Root}
use Rattle.fw_root.specs.OfFlow.{Given, nodes_as}
use Rattle.fw_root.specs.Sound.{IsRootFor}
use Rattle.fw_stands.specs.Entries.{AreBasesOf}
use Rattle.fw_stands.specs.Parts.{IsTableIn, logged}
use Rattle.fw_stands.specs.Written.{AreEntriesOf, AreStored, uncollected}
use Rattle.fw_stands.proofs.AcknowledgementLaws.{greatest_count-epochs}
use Rattle.fw_running.specs.declared.running.Running.{Running}
use Rattle.fw_running.specs.Held.{KnowsTracesHeld, StandsHeld}
use Rattle.fw_running.specs.Kept.{lost_at, output_of, source_of}
use Rattle.fw_running.specs.Shaped.{IsOnEdge, IsShaped, IsWrittenOf}
use Rattle.fw_resume.specs.Borders.{acknowledged_by, number_or_none, started}
use Rattle.fw_resume.specs.Resumed.{IsResumedBy}
use Rattle.fw_resume.proofs.StartLaws.{all-same, at-unused, batches-length, each-same, fronts_each, length-map', lows-canonical, nothing-on, number_of_node, number_of_other, output-is, source-is}

-- ---- the shape

pub resumed_shaped : (flow : Dataflow) (batches : Given) (root : Root) (keep : KeepState) (running : Running) → IsWellFormedSystem (system_of flow batches) → IsRootFor flow batches root
    → IsResumedBy flow batches root keep running → AllByRecursion (λ (e : Entry). IsWrittenOf flow e.node e.written) keep.entries → IsShaped running
resumed_shaped flow batches root keep running w r f written =
    let same : flow ≡ running.flow = sym f.runs in
    let nodes : length flow.nodes ≡ length running.flow.nodes = ap (λ (g : Dataflow). length g.nodes) same in
    let edges : length flow.edges ≡ length running.flow.edges = ap (λ (g : Dataflow). length g.edges) same in
    let lows = lows-canonical flow batches root r in record {
      well_formed = subst IsWellFormed same w.flow;
      one_each = record {
        parts = record {
          tables = ap length f.parts.tables ∙ length-replicate (length flow.nodes) None ∙ nodes;
          queues = ap length f.parts.queues ∙ length-replicate (length flow.edges) nothing_there ∙ edges;
          logs = ap length f.parts.logs ∙ length-replicate (length flow.edges) nothing_there ∙ edges;
        };
        sources = f.parts.sources.one_each ∙ length-map' unused_source (batches_of_nodes flow batches) ∙ batches-length flow batches ∙ nodes;
        outputs = f.parts.outputs.one_each ∙ length-replicate (length flow.nodes) new_output ∙ nodes;
        low = ap length f.parts.low ∙ length-map' (λ (x : NodeFronts). x.low) root.fronts ∙ fronts_each flow batches root r ∙ nodes;
        failed = ap length f.failed ∙ length-replicate (length flow.nodes) true ∙ nodes;
        lost = f.lost.one_each ∙ nodes;
      };
      progress = subst (λ g. IsOfFlow g running.progress) same f.progress;
      traces = subst (λ g. HaveLists g running.traces) same f.traces;
      low = subst (λ g. AreCanonical g running.parts.low) same (subst (AreCanonical flow) (sym f.parts.low) lows);
      tables = λ p l. subst (λ (t : Option Node). IfSome t (IsNodeOf running.flow p)) (sym (all-same running.parts.tables (length flow.nodes) p None f.parts.tables)) tt;
      queues = λ e. subst (AllByRecursion (IsOnEdge running.flow e)) (sym (nothing-on running.parts.queues (length flow.edges) e f.parts.queues)) tt;
      logs = λ e. subst (AllByRecursion (IsOnEdge running.flow e)) (sym (nothing-on running.parts.logs (length flow.edges) e f.parts.logs)) tt;
      entries = subst (λ g. AllByRecursion (λ (e : Entry). IsWrittenOf g e.node e.written) running.parts.keep.entries) same
          (subst (λ (k : KeepState). AllByRecursion (λ (e : Entry). IsWrittenOf flow e.node e.written) k.entries) (sym f.parts.keep) written);
      live = f.live;
      traced = f.traced;
      ready = record {
        edges = λ e can. f.ready.edges e (omega (arith, can.there, edges));
        owing = λ p can. f.ready.owing p (omega (arith, can.there, nodes));
        growing = λ p can. f.ready.growing p (omega (arith, can.there, nodes));
        outputs = λ o can. f.ready.outputs o (omega (arith, can.there, nodes));
        inputs = λ q can. f.ready.inputs q (omega (arith, can.there, nodes));
      };
    }

-- ---- what is left of the state

at-batches : (flow : Dataflow) (batches : Given) (s : ℕ) → source_at (map unused_source (batches_of_nodes flow batches)) s ≡ unused_source (batches_of (system_of flow batches) s)
unfolding batches_of
at-batches flow batches s = at-unused (batches_of_nodes flow batches) s

pub resumed_stands : (flow : Dataflow) (batches : Given) (root : Root) (keep : KeepState) (running : Running) (records : Option Records) (state : Machine)
    → let sys = system_of flow batches in IsWellFormedSystem sys → IsReached sys state → IsRootOf sys state root → IsResumedBy flow batches root keep running
    → StandsForHistory sys (events state.history) running.progress
    → AreEntriesOf sys (down sys state) keep.entries (uncollected (down sys state)) → AreBasesOf keep.entries keep.entries (uncollected (down sys state))
    → AreStored sys (down sys state) records keep.entries (uncollected (down sys state))
    → KnowsTracesHeld sys (down sys state) running.traces → ((p : ℕ) → policy_of flow p ≡ policy.Full → KnowsLosses sys (down sys state) p (lost_at running p))
    → StandsHeld sys running records (down sys state)
resumed_stands flow batches root keep running records state w r o f progress entries bases stored traces lost =
    let sys : System = system_of flow batches in
    let gone = down sys state in
    let all = are-down sys state in
    let n = length flow.nodes in record {
      apart = record {
        flow = f.runs;
        well_formed = w;
        reached = down-reached sys state r;
        settled = f.settled ∙ o.settled;
        failed = f.failed ∙ each-same true 0 n;
        low = f.parts.low ∙ o.low;
        epochs = greatest_count-epochs sys running.epochs f.epochs;
        tables = λ p l. subst (λ (t : Option Node). IsTableIn sys gone p t) (sym (all-same running.parts.tables n p None f.parts.tables))
            (record { there = sym (no-table (is_input_kind (kind_of flow p)) (is_output_kind (kind_of flow p)) (is_failed gone p) (all.failed p l)); of_events = tt });
        queues = λ e l. nothing-on running.parts.queues (length flow.edges) e f.parts.queues
            ∙ sym (ap (λ b. cond b [] (sorted_messages (pending_messages sys (events state.history) e))) (all.failed (receiver flow e) (w.flow.receivers_declared e l)));
        logs = λ e l. nothing-on running.parts.logs (length flow.edges) e f.parts.logs ∙ sym (no-log sys gone e (all.failed (sender flow e) (w.flow.senders_declared e l)));
        outputs = λ p l k. output-is sys gone p (number_or_none (nodes_as flow role.Output) root.bounds p) (output_of running p) (all.failed p l)
            (number_of_node flow role.Output (ack_count_of state) root.bounds p o.bounds l k)
            (f.parts.outputs.each p l ∙ ap (acknowledged_by (number_or_none (nodes_as flow role.Output) root.bounds p)) (all-same (replicate n new_output) n p new_output refl));
        sources = λ s l.
            let count = number_or_none (nodes_as flow role.Input) root.injected s in
            let is : count ≡ injected_count s (events state.history) = injected-is flow batches state root s w r o l in
            source-is sys gone s count (source_of running s) is
            (let m = injected-few sys (events state.history) (reached-all sys w r.0 r.1 state r.2).recover.holds.legal s in omega (arith, m, is))
            (f.parts.sources.each s l ∙ ap (λ (g : Front). started count g (source_at (map unused_source (batches_of_nodes flow batches)) s)) (ap (λ (fs : List Front). front_of fs s) o.low)
            ∙ ap (started count (front_of state.low s)) (at-batches flow batches s));
        progress = progress;
        entries = subst (λ (k : KeepState). AreEntriesOf sys gone k.entries (uncollected gone)) (sym f.parts.keep) entries;
        bases = subst (λ (k : KeepState). AreBasesOf k.entries k.entries (uncollected gone)) (sym f.parts.keep) bases;
        stored = subst (λ (k : KeepState). AreStored sys gone records k.entries (uncollected gone)) (sym f.parts.keep) stored;
      };
      down = all.failed;
      traces = traces;
      lost = lost;
    }
  where
    no-table : (a b c : Bool) → c ≡ true → not (a || (b || c)) ≡ false
    no-table true b c e = refl
    no-table false true c e = refl
    no-table false false c e = ap not e

    no-log : (sys : System) (gone : Machine) (e : ℕ) → is_failed gone (sender sys.flow e) ≡ true → logged sys gone e ≡ []
    no-log sys gone e k = by (can_resend (policy_of sys.flow (sender sys.flow e))) (is_failed gone (sender sys.flow e)) k
      where
        by : (a b : Bool) → b ≡ true
            → cond (a && not b) (sorted_messages (messages_outside (family_of sys.flow gone.low (receiver sys.flow e)) (sent_messages sys (events gone.history) e))) [] ≡ []
        by true b i = ap (λ c. cond (not c) (sorted_messages (messages_outside (family_of sys.flow gone.low (receiver sys.flow e)) (sent_messages sys (events gone.history) e))) []) i
        by false b i = refl

    injected-is : (flow : Dataflow) (batches : Given) (state : Machine) (root : Root) (s : ℕ) → let sys = system_of flow batches in IsWellFormedSystem sys → IsReached sys state
        → IsRootOf sys state root → s < length flow.nodes → number_or_none (nodes_as flow role.Input) root.injected s ≡ injected_count s (events state.history)
    injected-is flow batches state root s w r o l = elim (cases_Bool (is_input_kind (kind_of flow s))) [
      | inl k ↦ number_of_node flow role.Input (λ p. injected_count p (events state.history)) root.injected s o.injected l k
      | inr k ↦
          let sys : System = system_of flow batches in
          let legal = (reached-all sys w r.0 r.1 state r.2).recover.holds.legal in
          number_of_other flow role.Input (λ p. injected_count p (events state.history)) root.injected s o.injected k ∙ sym (only_inputs_inject sys (events state.history) legal s k)
    ]

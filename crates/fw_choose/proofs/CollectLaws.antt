-- What a collection makes of what an engine keeps and stands for.
use Rattle.std.proofs.Common.{◌≡◌, ◌≢◌, ◌↔◌, inl, inr, is_some, ℕ, zero, suc, ◌+◌, ◌<◌, Bool, true, false, not, cond, ◌&&◌, ◌||◌, ◌==◌, nat_lt, List, [], ◌∷◌, length, take, get_or, set, slice_get, filter, Option, Some, None, Ok, Err, IsTrue, refl, sym, ◌∙◌, ap, subst, arith}
use Rattle.std.specs.List.{AllByRecursion, enumerate_from}
use Rattle.std.proofs.lemmas.Bool.{cases_eq, cases_lt, cases_Bool, eqb-true}
use Rattle.std.proofs.lemmas.Bool.Decides.{nat_tests}
use Rattle.std.proofs.lemmas.List.{get_or_past, length-map, get_or-set_same, get_or-set_other, length-set, ext_get_or}
use Rattle.fw_bag.specs.declared.rec.Rec.{Rec}
use Rattle.std.specs.Map.{lookup}
use Rattle.fw_lemmas.proofs.Bools.{two_ways, both-lead}
use Rattle.fw_lemmas.proofs.Each.{each-kept}
use Rattle.fw_border.specs.Sources.{SourceState, next_batch, given_up}
use Rattle.fw_collect.specs.declared.drops.Drops.{Drops}
use Rattle.fw_collect.specs.declared.drops.OfNode.{OfNode}
use Rattle.fw_collect.specs.Drops.{IsPlanned, watermark}
use Rattle.fw_collect.specs.Dropped.{Forgets, is_dropped, log_left, log_outside, with_log_outside, source_left, is_inside_edge, is_inside_node}
use Rattle.fw_collect.specs.LawsOfCollections.{RisesTo}
use Rattle.fw_collect.proofs.PlanLaws.{front_there}
use Rattle.fw_collect.proofs.ApplyLaws.{no_log_changes, logs_more}
use Rattle.fw_collect.proofs.CollectLaws.{drops_batches_of_inputs}
use Rattle.fw_edge.specs.Messages.{MessagesState}
use Rattle.fw_flow.specs.declared.choice.Choice.{Choice}
use Rattle.fw_flow.specs.declared.choice.Cut.{Cut}
use Rattle.fw_flow.specs.declared.choice.Cut.TheVariants.{Present, At}
use Rattle.fw_flow.specs.declared.choice.OfEdge.{OfEdge}
use Rattle.fw_flow.specs.declared.event.Message.{Message}
use Rattle.fw_flow.specs.declared.step.Step.TheVariants.{Collect}
use Rattle.fw_flow.specs.Dataflow.{System, Dataflow, kind_of, policy_of, bounds_of, batches_of, is_input_kind}
use Rattle.fw_flow.specs.WellFormed.{IsWellFormedSystem}
use Rattle.fw_frontier.specs.Front.{Front, inside, same_front, IsCanonical}
use Rattle.fw_frontier.proofs.SameLaws.{same_front-is, same_front-itself}
use Rattle.fw_keep.specs.declared.entry.Entry.{Entry}
use Rattle.fw_keep.specs.declared.fault.KeepFault.{KeepFault}
use Rattle.fw_keep.specs.declared.fault.KeepFault.TheVariants as keep_fault
use Rattle.fw_keep.specs.Catalogue.{KeepState, IsCatalogue}
use Rattle.fw_keep.specs.Stored as stored
use Rattle.fw_keep.specs.Stored.{Records, KeepsBytes, Sweeps, without_ids}
use Rattle.fw_model.proofs.FloorLaws.{low-floor, watermark-holds}
use Rattle.fw_model.specs.Auto.{IsIdle}
use Rattle.fw_model.specs.Choice.{cut_of, IsWatermark, IsChoiceOf, IsCanonicalCut}
use Rattle.fw_model.specs.Machine.{Machine, events, front_of, AreCanonical}
use Rattle.fw_model.specs.History.{injected_count}
use Rattle.fw_model.specs.Steps.{front_of_cut, lows, did, LeadsTo}
use Rattle.fw_model.specs.Writes.{takes_checkpoints}
use Rattle.fw_progress.specs.declared.traces.Traces.{Traces}
use Rattle.fw_progress.specs.Trace.{HaveLists, AreSettledTo}
use Rattle.fw_progress.proofs.CutTraceLaws.{thinned-traces}
use Rattle.fw_rollback.specs.declared.parts.Parts.{Parts}
use Rattle.fw_rollback.specs.Edges.{IsOnEdge, on_edge, nothing_there}
use Rattle.fw_stands.specs.Collecting.{collected_state}
use Rattle.fw_stands.specs.Entries.{AreBasesOf}
use Rattle.fw_stands.specs.Settling.{AreSettledAt}
use Rattle.fw_stands.specs.Parts.{IsSourceOf}
use Rattle.fw_stands.specs.Written.{AreEntriesOf, AreStored, uncollected}
use Rattle.fw_stands.proofs.CollectingLaws.{same_low-idle, other_low-collected, low-rises, collected_logs-stand, collected_sources-stand, all_collected_traces-stand, collection-keeps}
use Rattle.fw_stands.proofs.EntryCollections.{bases_after_collection, entries_after_collection, records_after_collection}
use Rattle.fw_stands.proofs.EntrySteps.{kept_bytes_are_stored}
use Rattle.fw_stands.proofs.SettlingLaws.{none-settled_yet, one_more-settled, same_nodes-settled}
use Rattle.fw_stands.proofs.AtReached.{reached-next}
use Rattle.fw_time.specs.declared.stamp.Bounds.{Bounds}
use Rattle.fw_running.specs.declared.running.Running.{Running}
use Rattle.fw_running.specs.declared.fault.EngineFault.TheVariants as fault
use Rattle.fw_running.specs.declared.stepped.Effect.TheVariants.{Lows}
use Rattle.fw_running.specs.declared.stepped.Stepped.{Stepped}
use Rattle.fw_running.specs.declared.stepped.Stepped.TheVariants.{Did, Idle}
use Rattle.fw_choose.specs.declared.viewing.Lost.TheVariants.{All}
use Rattle.fw_choose.specs.Chosen.{IsChosenBy}
use Rattle.fw_running.specs.Faults.{fault_of}
use Rattle.fw_running.specs.Steps.{TakesStep, StaysShaped, IsUndamaged, outcome_of}
use Rattle.fw_choose.specs.Collecting.{AreLeft, AreGivenUp, IsRaised, AreRaised, RaisesLow, has_low_base}
use Rattle.fw_running.specs.Kept.{source_of}
use Rattle.fw_running.specs.Logging.{with_keep}
use Rattle.fw_running.specs.Shaped.{IsWrittenOf, IsShaped}
use Rattle.fw_running.specs.Stands.{Stands}
use Rattle.fw_running.proofs.KeptShapes.{shaped-keep}
use Rattle.fw_running.proofs.SameStateLaws.{keep-stands}

-- ---- fronts

pub differ-at : (fs gs : List Front) (p : ℕ) → same_front (front_of fs p) (front_of gs p) ≡ false → fs ≡ gs → ⊥
differ-at fs gs p e s =
    two_ways (same_front (front_of fs p) (front_of gs p)) (subst (λ hs. same_front (front_of fs p) (front_of hs p) ≡ true) s (same_front-itself (front_of fs p))) e

pub same-each : (fs gs : List Front) → length fs ≡ length gs → ((p : ℕ) → p < length fs → same_front (front_of fs p) (front_of gs p) ≡ true) → fs ≡ gs
same-each fs gs l h = ext_get_or [] fs gs l (λ p m. same_front-is (front_of fs p) (front_of gs p) (h p m))

-- ---- logs

pub left_none : (old : List MessagesState) → AreLeft [] old old
left_none old = record { one_each = refl; logs = λ e. no_log_changes e (on_edge old e) }

one-set : (now next : List MessagesState) (e : ℕ) (log : MessagesState) → length next ≡ length now → on_edge next e ≡ log → ((k : ℕ) → k ≢ e → on_edge next k ≡ on_edge now k)
    → next ≡ set now e log
one-set now next e log each here others = ext_get_or nothing_there next (set now e log) (each ∙ sym (length-set now e log)) (λ k l. elim (cases_eq k e) [
  | inl i ↦ ap (λ q. get_or next q nothing_there) i ∙ here
      ∙ sym (ap (λ q. get_or (set now e log) q nothing_there) i
      ∙ get_or-set_same now e log nothing_there (subst (λ q. q < length now) i (let m = each in omega (arith, l, m))))
  | inr n ↦ others k n ∙ sym (get_or-set_other now e k log nothing_there n)
])

pub left_more : (fronts : List OfEdge) (i : ℕ) (d : OfEdge) (first now next : List MessagesState) → i < length fronts → d ≡ get_or fronts i d → AreLeft (take i fronts) first now
    → length next ≡ length now → on_edge next d.edge ≡ log_outside d.front (on_edge now d.edge) → ((e : ℕ) → e ≢ d.edge → on_edge next e ≡ on_edge now e)
    → AreLeft (take (i + 1) fronts) first next
left_more fronts i d first now next l is a each here others = record {
  one_each = each ∙ a.one_each;
  logs = logs_more fronts i d first now next l a.logs
      (subst (λ (x : OfEdge). next ≡ with_log_outside x.front now x.edge) is (one-set now next d.edge (log_outside d.front (on_edge now d.edge)) each here others));
}

-- ---- traces

pub raised_none : (flow : Dataflow) (low : List Front) (traces : Traces) → HaveLists flow traces → traces.refused ≡ false → AreRaised flow 0 low traces traces
raised_none flow low traces h live = record {
  lists = h;
  live = live;
  settled = same_nodes-settled flow (λ p. false) (has_low_base flow 0) (λ p. none p) low traces traces (none-settled_yet flow low traces);
}
  where
    none : (p : ℕ) → has_low_base flow 0 p ≡ false
    none p = ap (λ b. b && not (takes_checkpoints (policy_of flow p))) (let t : nat_lt p 0 ≡ false = grind (arith, nat_tests) in t)

below-more : (p n : ℕ) → nat_lt p (n + 1) ≡ ((p == n) || nat_lt p n)
below-more p n = grind (arith, nat_tests)

pub raised_more : (flow : Dataflow) (n p : ℕ) (low : List Front) (front : Front) (old between new : Traces) → p ≡ n → front ≡ front_of low p → AreRaised flow n low old between
    → IsRaised flow p front between new → AreRaised flow (n + 1) low old new
raised_more flow n p low front old between new at is a r = elim (cases_Bool (takes_checkpoints (policy_of flow n))) [
  | inl t ↦
      let same : new ≡ between = r.stays (ap (λ q. takes_checkpoints (policy_of flow q)) at ∙ t) in
      record {
        lists = r.lists;
        live = r.live;
        settled = subst (λ (x : Traces). AreSettledAt flow (has_low_base flow (n + 1)) low old x) (sym same)
            (same_nodes-settled flow (has_low_base flow n) (has_low_base flow (n + 1)) (λ q. still t q) low old between a.settled);
      }
  | inr f ↦
      let settled : AreSettledTo flow n (front_of low n) between new =
      subst (λ q. AreSettledTo flow q (front_of low q) between new) at (subst (λ g. AreSettledTo flow p g between new) is (thinned-traces flow p front between new (r.settled (ap (λ q. takes_checkpoints (policy_of flow q)) at ∙ f)))) in
      record {
        lists = r.lists;
        live = r.live;
        settled = same_nodes-settled flow (λ q. (q == n) || has_low_base flow n q) (has_low_base flow (n + 1)) (λ q. one f q) low old new
            (one_more-settled flow (has_low_base flow n) low old between new a.settled n (ap (λ b. b && not (takes_checkpoints (policy_of flow n))) (let t : nat_lt n n ≡ false = grind (arith, nat_tests) in t)) settled);
      }
]
  where
    by : (q : ℕ) (a b : Bool) → (a ≡ true → not (takes_checkpoints (policy_of flow q)) ≡ false) → ((a || b) && not (takes_checkpoints (policy_of flow q))) ≡ (b && not (takes_checkpoints (policy_of flow q)))
    by q true true h = refl
    by q true false h = h refl
    by q false b h = refl

    still : takes_checkpoints (policy_of flow n) ≡ true → (q : ℕ) → has_low_base flow (n + 1) q ≡ has_low_base flow n q
    still t q = ap (λ b. b && not (takes_checkpoints (policy_of flow q))) (below-more q n)
        ∙ by q (q == n) (nat_lt q n) (λ e. ap (λ k. not (takes_checkpoints (policy_of flow k))) (eqb-true q n e) ∙ ap not t)

    with_it : (q : ℕ) (a b : Bool) → (a ≡ true → not (takes_checkpoints (policy_of flow q)) ≡ true) → ((a || b) && not (takes_checkpoints (policy_of flow q))) ≡ (a || (b && not (takes_checkpoints (policy_of flow q))))
    with_it q true b h = h refl
    with_it q false b h = refl

    one : takes_checkpoints (policy_of flow n) ≡ false → (q : ℕ) → has_low_base flow (n + 1) q ≡ ((q == n) || has_low_base flow n q)
    one f q = ap (λ b. b && not (takes_checkpoints (policy_of flow q))) (below-more q n)
        ∙ with_it q (q == n) (nat_lt q n) (λ e. ap (λ k. not (takes_checkpoints (policy_of flow k))) (eqb-true q n e) ∙ ap not f)

-- ---- the shape

left-messages : (fronts : List OfEdge) (e : ℕ) (log : MessagesState) (P : Message → Type 0) → AllByRecursion P log.messages → AllByRecursion P (log_left fronts e log).messages
left-messages fronts e log P a = each-kept P (λ m. not (is_inside_edge fronts e m.at)) log.messages a

-- what is not found is not found among fewer
found-none : (x : ℕ) (test : ℕ × List Rec → Bool) (held : List (ℕ × List Rec)) → lookup (λ z. x == z) held ≡ None → lookup (λ z. x == z) (filter test held) ≡ None
found-none x test [] i = refl
found-none x test (b ∷ held) i = by (x == b.0) (test b) refl i (found-none x test held)
  where
    rest : List (ℕ × List Rec)
    rest = filter test held

    by : (s t : Bool) → (x == b.0) ≡ s → cond s (Some b.1) (lookup (λ z. x == z) held) ≡ None → (lookup (λ z. x == z) held ≡ None → lookup (λ z. x == z) rest ≡ None)
        → lookup (λ z. x == z) (cond t (b ∷ rest) rest) ≡ None
    by true t k j ih = absurd (cc)
    by false true k j ih = ap (λ c. cond c (Some b.1) (lookup (λ z. x == z) rest)) k ∙ ih j
    by false false k j ih = ih j

-- a batch that an input has left was there
left-next : (fronts : List OfNode) (s : ℕ) (source : SourceState) → next_batch (source_left fronts s source) ≢ None → next_batch source ≢ None
left-next fronts s source n e = n (found-none source.injected (λ batch. not (is_inside_node fronts s (batch.0 ∷ []))) source.held e)

-- the parts without what is given up, and with other low watermarks
abbrev pub given : Parts → Parts → List Front → Parts
given old between low = record old { keep = between.keep; logs = between.logs; sources = between.sources; low = low }

abbrev pub after_collect : Running → Parts → List Front → Traces → Running
after_collect old between low traces = record old { parts = given old.parts between low; traces = traces }

entries-left : (drops : Drops) (old new : KeepState) → Forgets (is_dropped drops old) old new → new.entries ≡ filter (λ e. not (is_dropped drops old e)) old.entries
entries-left drops old new f = ap (λ (keep : KeepState). keep.entries) f.left

after-shaped : (old : Running) (between : Parts) (low : List Front) (traces : Traces) (drops : Drops) → AreGivenUp drops old.parts between
    → AreRaised old.flow (length old.flow.nodes) low old.traces traces → length low ≡ length old.flow.nodes → AreCanonical old.flow low → IsShaped old
    → IsShaped (after_collect old between low traces)
after-shaped old between low traces drops g t each canonical s =
    let flow = old.flow in
    record {
      well_formed = s.well_formed;
      one_each = record {
        parts = record { tables = s.one_each.parts.tables; queues = s.one_each.parts.queues; logs = g.logs.one_each ∙ s.one_each.parts.logs };
        sources = g.sources_each ∙ s.one_each.sources;
        outputs = s.one_each.outputs;
        low = each;
        failed = s.one_each.failed;
        lost = s.one_each.lost;
      };
      progress = s.progress;
      traces = t.lists;
      low = canonical;
      tables = s.tables;
      queues = s.queues;
      logs = λ e. subst (λ (log : MessagesState). AllByRecursion (IsOnEdge flow e) log.messages) (sym (g.logs.logs e))
          (left-messages drops.messages.items e (on_edge old.parts.logs e) (IsOnEdge flow e) (s.logs e));
      entries = subst (λ es. AllByRecursion (λ (entry : Entry). IsWrittenOf flow entry.node entry.written) es) (sym (entries-left drops old.parts.keep between.keep g.entries))
          (each-kept (λ (entry : Entry). IsWrittenOf flow entry.node entry.written) (λ e. not (is_dropped drops old.parts.keep e)) old.parts.keep.entries s.entries);
      live = s.live;
      traced = t.live;
      ready = record {
        edges = λ e c. s.ready.edges e (record { there = c.there; live = c.live; some = c.some });
        owing = λ p c. s.ready.owing p (record { there = c.there; live = c.live; some = c.some });
        growing = λ p c. s.ready.growing p (record { there = c.there; more = c.more });
        outputs = λ o c. s.ready.outputs o (record { there = c.there; live = c.live; output = c.output; number = c.number; settled = c.settled; some = c.some });
        inputs = λ i c. s.ready.inputs i (record {
          there = c.there;
          live = c.live;
          input = c.input;
          some = left-next drops.batches.items i (source_of old i) (subst (λ (x : SourceState). next_batch x ≢ None) (g.sources i) c.some);
        });
      };
    }

-- ---- for which states it stands

-- an input that is none has no batches, and keeps none
other-source : (sys : System) (state next : Machine) (p : ℕ) (source left : SourceState) → batches_of sys p ≡ [] → left ≡ source → next.history ≡ state.history → IsSourceOf sys state p source
    → IsSourceOf sys next p left
other-source sys state next p source left none same h s = record {
  given = ap (λ (x : SourceState). x.given) same ∙ s.given;
  injected = ap (λ (x : SourceState). x.injected) same ∙ s.injected ∙ ap (λ vs. injected_count p (events vs)) (sym h);
  held = ap (λ (x : SourceState). x.held) same ∙ s.held
      ∙ ap (λ bs. filter (λ batch. not (inside (front_of state.low p) (batch.0 ∷ []))) (enumerate_from 0 bs)) none
      ∙ sym (ap (λ bs. filter (λ batch. not (inside (front_of next.low p) (batch.0 ∷ []))) (enumerate_from 0 bs)) none);
}

source-stands : (sys : System) → IsWellFormedSystem sys → (state : Machine) (low : List Front) → RisesTo sys.flow state.low low → (entries : List Entry) (drops : Drops)
    → IsPlanned sys.flow low entries drops → (p : ℕ) → p < length sys.flow.nodes → (source : SourceState) → IsSourceOf sys state p source
    → IsSourceOf sys (collected_state sys state low) p (source_left drops.batches.items p source)
source-stands sys w state low rises entries drops planned p l source s = elim (cases_Bool (is_input_kind (kind_of sys.flow p))) [
  | inl i ↦ collected_sources-stand sys w state low rises entries drops planned p l i source s
  | inr n ↦ other-source sys state (collected_state sys state low) p source (source_left drops.batches.items p source) (w.of_inputs p n)
      (drops_batches_of_inputs sys.flow low entries drops planned p source l ∙ ap (λ b. cond b (given_up (front_of low p) source) source) n) refl s
]

after-stands : (sys : System) (state : Machine) (old : Running) (records : Option Records) (between : Parts) (choice : Choice) (traces : Traces) (drops : Drops)
    → IsCatalogue old.parts.keep → IsPlanned old.flow (watermark choice) old.parts.keep.entries drops → AreGivenUp drops old.parts between
    → AreRaised old.flow (length old.flow.nodes) (watermark choice) old.traces traces → IsWatermark sys state choice → watermark choice ≢ state.low → Stands sys old records state
    → Stands sys (after_collect old between (watermark choice) traces) records (collected_state sys state (watermark choice))
after-stands sys state old records between choice traces drops catalogue planned0 g t0 is differ s =
    let low = watermark choice in
    let next = collected_state sys state low in
    let leads : LeadsTo sys state Collect next (lows choice) = other_low-collected sys state choice is differ in
    let rises = low-rises sys s.apart.well_formed state s.apart.reached choice is in
    let entries = old.parts.keep.entries in
    let planned : IsPlanned sys.flow low entries drops = subst (λ f. IsPlanned f low entries drops) s.apart.flow planned0 in
    let t : AreRaised sys.flow (length sys.flow.nodes) low old.traces traces = subst (λ (f : Dataflow). AreRaised f (length f.nodes) low old.traces traces) s.apart.flow t0 in
    let k = collection-keeps sys state low in
    let left = entries-left drops old.parts.keep between.keep g.entries in
    record {
      apart = record {
        flow = s.apart.flow;
        well_formed = s.apart.well_formed;
        reached = reached-next sys state next Collect (did (lows choice)) s.apart.reached leads;
        settled = s.apart.settled;
        failed = s.apart.failed;
        low = refl;
        epochs = s.apart.epochs;
        tables = λ p l. k.tables p _ (s.apart.tables p l);
        queues = λ e l. s.apart.queues e l ∙ sym (k.queues e);
        logs = λ e l. ap (λ (log : MessagesState). log.messages) (g.logs.logs e)
            ∙ collected_logs-stand sys s.apart.well_formed state s.apart.reached low rises entries drops planned e l (on_edge old.parts.logs e) (s.apart.logs e l);
        outputs = λ o l i. let b = s.apart.outputs o l i in record { bound = b.bound ∙ sym (k.outputs.bound o); recs = λ x. b.recs x ∙ sym (k.outputs.recs o x) };
        sources = λ p l. subst (λ (x : SourceState). IsSourceOf sys next p x) (sym (g.sources p))
            (source-stands sys s.apart.well_formed state low rises entries drops planned p l (source_of old p) (s.apart.sources p l));
        progress = s.apart.progress;
        entries = subst (λ es. AreEntriesOf sys next es (uncollected next)) (sym left)
            (entries_after_collection sys s.apart.well_formed state s.apart.reached next (lows choice) leads old.parts.keep catalogue s.apart.entries drops planned);
        bases = subst (λ es. AreBasesOf es es (uncollected next)) (sym left)
            (bases_after_collection sys s.apart.well_formed state s.apart.reached next (lows choice) leads old.parts.keep catalogue s.apart.entries s.apart.bases drops planned);
        stored = subst (λ es. AreStored sys next records es (uncollected next)) (sym left)
            (records_after_collection sys s.apart.well_formed state s.apart.reached next (lows choice) leads old.parts.keep catalogue s.apart.entries records s.apart.stored drops planned);
      };
      traces = record {
        floor = low;
        above = low-floor sys next s.apart.well_formed (reached-next sys state next Collect (did (lows choice)) s.apart.reached leads);
        each = λ p l. all_collected_traces-stand sys s.traces.floor s.apart.well_formed state s.apart.reached low
            (watermark-holds sys state s.traces.floor next (lows choice) s.traces.above leads) old.traces traces t.settled p l (s.traces.each p l);
      };
      lost = λ p full t. both-lead (s.lost p full t) ((k.lost p t).1, (k.lost p t).0);
    }

-- ---- of the engine that the calls leave

new-is : (choice : Choice) (old new : Running) (c : RaisesLow (watermark choice) old new) → new ≡ after_collect old c.between (watermark choice) new.traces
new-is choice old new c =
    c.rest ∙ ap (λ (parts : Parts). record old { parts = parts; traces = new.traces }) (c.parts ∙ ap (λ (parts : Parts). record parts { low = watermark choice }) c.given_up.rest)

pub collected-shaped : (choice : Choice) (old new : Running) → RaisesLow (watermark choice) old new → length (watermark choice) ≡ length old.flow.nodes
    → AreCanonical old.flow (watermark choice) → IsShaped old → IsShaped new
collected-shaped choice old new c each canonical s =
    subst IsShaped (sym (new-is choice old new c)) (after-shaped old c.between (watermark choice) new.traces c.drops c.given_up c.traces each canonical s)

pub collected-stands : (sys : System) (state : Machine) (records : Option Records) (choice : Choice) (old new : Running) → RaisesLow (watermark choice) old new
    → IsWatermark sys state choice → watermark choice ≢ old.parts.low → Stands sys old records state → Stands sys new records (collected_state sys state (watermark choice))
collected-stands sys state records choice old new c is differ s =
    subst (λ (r : Running). Stands sys r records (collected_state sys state (watermark choice))) (sym (new-is choice old new c))
    (after-stands sys state old records c.between choice new.traces c.drops c.catalogue c.planned c.given_up c.traces is (λ e. differ (e ∙ sym s.apart.low)) s)

-- a sweep leaves the entries, and their bytes
pub swept-stands : (sys : System) (state : Machine) (old : Running) (keep : KeepState) (before after : Option Records) → keep.entries ≡ old.parts.keep.entries
    → Sweeps old.parts.keep.waiting before keep.waiting after → KeepsBytes old.parts.keep.entries before after → Stands sys old before state
    → Stands sys (with_keep keep old) after state
swept-stands sys state old keep before after same sweeps bytes s = keep-stands sys old keep before after state s same
    (kept_bytes_are_stored sys state old.parts.keep.entries (uncollected state) before after (without_ids sweeps.removed) sweeps.records bytes s.apart.stored)

pub swept-shaped : (old : Running) (keep : KeepState) → keep.entries ≡ old.parts.keep.entries → IsShaped old → IsShaped (with_keep keep old)
swept-shaped old keep same s =
    shaped-keep old keep s (subst (λ es. AllByRecursion (λ (entry : Entry). IsWrittenOf old.flow entry.node entry.written) es) (sym same) s.entries)

-- ---- the fronts of a choice

canonical-cut : (bounds : Bounds) (cut : Cut) → IsCanonicalCut bounds cut → IsCanonical bounds (front_of_cut cut)
canonical-cut bounds Present k = tt
canonical-cut bounds (At f) k = k

pub chosen-canonical : (flow : Dataflow) (choice : Choice) → IsChoiceOf flow choice → AreCanonical flow (watermark choice)
chosen-canonical flow choice c p =
    subst (IsCanonical (bounds_of flow p)) (sym (front_there choice.cuts p)) (canonical-cut (bounds_of flow p) (cut_of choice p) (elim (cases_lt p (length flow.nodes)) [
      | inl l ↦ c.cuts p l
      | inr m ↦ subst (IsCanonicalCut (bounds_of flow p)) (sym (get_or_past choice.cuts p Present (let e = c.one_cut_each in omega (arith, m, e)))) tt
    ]))

pub chosen-each : (flow : Dataflow) (choice : Choice) → IsChoiceOf flow choice → length (watermark choice) ≡ length flow.nodes
chosen-each flow choice c = length-map choice.cuts front_of_cut ∙ c.one_cut_each

-- ---- the step

-- where the fronts of the choice are the low watermarks, the step is idle
pub idle-collects : (sys : System) (state : Machine) (running : Running) (records : Option Records) (choice : Choice) → IsChosenBy running All choice → Stands sys running records state
    → watermark choice ≡ running.parts.low → IsIdle sys state Collect
idle-collects sys state running records choice chosen s same = same_low-idle sys state choice (chosen sys records state s) (same ∙ s.apart.low)

pub collect-idle : (old : Running) (before : Option Records) (choice : Choice) → IsChosenBy old All choice → watermark choice ≡ old.parts.low
    → TakesStep old before Collect (Ok Idle) old before
collect-idle old before choice chosen same sys state s trusts = record { next = state; steps = (idle-collects sys state old before choice chosen s same, refl); stands = s }

-- what the test of the fronts tells
pub are-same : (b : Bool) (fs gs low now : List Front) → IsTrue b ↔ fs ≡ gs → b ≡ true → fs ≡ low → gs ≡ now → low ≡ now
are-same b fs gs low now h e f g = sym f ∙ h.0 e ∙ g

pub not-same : (b : Bool) (fs gs low now : List Front) → IsTrue b ↔ fs ≡ gs → b ≡ false → fs ≡ low → gs ≡ now → low ≢ now
not-same b fs gs low now h e f g k = two_ways b (h.1 (f ∙ k ∙ sym g)) e

collect-leads : (sys : System) (state : Machine) (old : Running) (records : Option Records) (choice : Choice) → IsChosenBy old All choice → watermark choice ≢ old.parts.low
    → Stands sys old records state → LeadsTo sys state Collect (collected_state sys state (watermark choice)) (lows choice)
collect-leads sys state old records choice chosen differ s = other_low-collected sys state choice (chosen sys records state s) (λ e. differ (e ∙ sym s.apart.low))

-- where they are others, the step follows the machine's
pub raise-follows : (old new : Running) (choice : Choice) → IsChosenBy old All choice → watermark choice ≢ old.parts.low → RaisesLow (watermark choice) old new
    → (records : Option Records) → TakesStep old records Collect (Ok (Did (Lows choice))) new records
raise-follows old new choice chosen differ c records sys state s trusts = record {
  next = collected_state sys state (watermark choice);
  steps = collect-leads sys state old records choice chosen differ s;
  stands = collected-stands sys state records choice old new c (chosen sys records state s) differ s;
}

-- ---- the sweep

-- a store that is swept tells its records as before
pub swept-tells : (waiting left : List ℕ) (before after : Option Records) → Sweeps waiting before left after → is_some after ≡ is_some before
swept-tells waiting left None after s = ap (λ (r : Option Records). is_some r) s.records
swept-tells waiting left (Some held) after s = ap (λ (r : Option Records). is_some r) s.records

-- what a step follows it follows when what waits is swept
pub swept-follows : (old mid : Running) (keep : KeepState) (before after : Option Records) (stepped : Stepped) → TakesStep old before Collect (Ok stepped) mid before
    → keep.entries ≡ mid.parts.keep.entries → Sweeps mid.parts.keep.waiting before keep.waiting after → KeepsBytes mid.parts.keep.entries before after
    → TakesStep old before Collect (Ok stepped) (with_keep keep mid) after
swept-follows old mid keep before after stepped t same sweeps bytes sys state s trusts =
    let f = t sys state s trusts in
    record { next = f.next; steps = f.steps; stands = swept-stands sys f.next mid keep before after same sweeps bytes f.stands }

-- where the store fails, the engine stands for the state to which the step led
sweep-left : (old mid : Running) (keep : KeepState) (before after : Option Records) (stepped : Stepped) → TakesStep old before Collect (Ok stepped) mid before
    → keep.entries ≡ mid.parts.keep.entries → Sweeps mid.parts.keep.waiting before keep.waiting after → KeepsBytes mid.parts.keep.entries before after
    → TakesStep old before Collect (Err fault.StoreFault) (with_keep keep mid) after
sweep-left old mid keep before after stepped t same sweeps bytes sys state s =
    let f = t sys state s tt in
    (f.next, outcome_of stepped, f.steps, swept-stands sys f.next mid keep before after same sweeps bytes f.stands)

abbrev pub UndamagedSweep : KeepFault → Type 0
UndamagedSweep f = stored.GivesNoDamage {T = Unit {0}} (Err f)

-- whatever the fault of a sweep is, the answer is right
pub sweep-fails : (f : KeepFault) → UndamagedSweep f → (old mid : Running) (keep : KeepState) (before after : Option Records) (stepped : Stepped)
    → TakesStep old before Collect (Ok stepped) mid before → keep.entries ≡ mid.parts.keep.entries → Sweeps mid.parts.keep.waiting before keep.waiting after
    → KeepsBytes mid.parts.keep.entries before after → TakesStep old before Collect (Err (fault_of f)) (with_keep keep mid) after
sweep-fails keep_fault.StoreFault u old mid keep before after stepped t same sweeps bytes = sweep-left old mid keep before after stepped t same sweeps bytes
sweep-fails (keep_fault.Damaged id given) u old mid keep before after stepped t same sweeps bytes = absurd u
sweep-fails keep_fault.NoMemory u old mid keep before after stepped t same sweeps bytes = λ sys state s. tt

pub fault-shaped : (f : KeepFault) (running : Running) → IsShaped running → StaysShaped {T = Stepped} (Err (fault_of f)) running
fault-shaped keep_fault.StoreFault running s = s
fault-shaped (keep_fault.Damaged id given) running s = s
fault-shaped keep_fault.NoMemory running s = tt

pub fault-undamaged : (f : KeepFault) → UndamagedSweep f → IsUndamaged {T = Stepped} (Err (fault_of f))
fault-undamaged keep_fault.StoreFault u = tt
fault-undamaged (keep_fault.Damaged id given) u = u
fault-undamaged keep_fault.NoMemory u = tt

-- ---- an edge past the last

pub none-left : (all : List MessagesState) (e : ℕ) (f : Front) → None ≡ slice_get all e → on_edge all e ≡ log_outside f (on_edge all e)
none-left [] e f i = refl
none-left (x ∷ xs) zero f i = absurd (cc)
none-left (x ∷ xs) (suc e) f i = none-left xs e f i

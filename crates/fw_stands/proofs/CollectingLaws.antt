-- What is left of each part where the low watermark rises.
use Rattle.std.proofs.Common.{Bool, List, [], ap, arith, cond, filter, inl, inr, length, map, nat_le, nat_lt, not, refl, subst, sym, true, ℕ, ◌&&◌, ◌+◌, ◌∙◌, ◌∷◌, ◌≡◌, ◌≤◌, ◌<◌, false, ◌≢◌}
use Rattle.std.proofs.lemmas.Bool.{cases_Bool, cond-true, cond-false, and_right, lt-ltb, and_from, and_parts, le-leb}
use Rattle.std.proofs.lemmas.List.{length-map}
use Rattle.std.specs.List.{AllByRecursion, enumerate_from}
use Rattle.fw_lemmas.proofs.Each.{each-weaker}
use Rattle.fw_time.specs.Stamp.{in_domain}
use Rattle.fw_time.specs.declared.stamp.Bounds.{Bounds}
use Rattle.fw_bag.specs.declared.rec.Rec.{Rec}
use Rattle.fw_frontier.specs.Frontier.{Within}
use Rattle.fw_frontier.specs.Front.{Front, inside, frontier_of}
use Rattle.fw_flow.specs.declared.choice.Choice.{Choice}
use Rattle.fw_flow.specs.declared.choice.Cut.{Cut}
use Rattle.fw_flow.specs.declared.choice.Cut.TheVariants.{At}
use Rattle.fw_flow.specs.declared.event.Message.{Message}
use Rattle.fw_flow.specs.Dataflow.{System, kind_of, policy_of, sender, receiver, batches_of, bounds_of, bounds_of_edge, greatest_number, is_input_kind}
use Rattle.fw_flow.specs.Restoring.{can_resend}
use Rattle.fw_flow.specs.WellFormed.{IsWellFormedSystem}
use Rattle.fw_flow.specs.declared.step.Step.TheVariants.{Collect}
use Rattle.fw_model.specs.Choice.{kept, ever, is_counted, IsLogged, IsCutWithin, IsWatermark}
use Rattle.fw_model.specs.Filtering.{messages_outside}
use Rattle.fw_model.specs.History.{sent_messages}
use Rattle.fw_model.specs.Machine.{Machine, Write, Written, checkpoint, logged_event, Stage, events, family_of, front_of, is_failed}
use Rattle.fw_model.specs.Reached.{IsReached}
use Rattle.fw_model.specs.Writes.{takes_checkpoints}
use Rattle.fw_policy.specs.View.{base_of}
use Rattle.fw_model.specs.SortedMessages.{sorted_messages}
use Rattle.fw_model.specs.Steps.{after_collection, front_of_cut, LeadsTo, lows, is_forgotten}
use Rattle.fw_model.proofs.ChoiceLaws.{bounds-input, largest-one}
use Rattle.fw_model.proofs.ChoosingLaws.{largest-holds_low, reached}
use Rattle.fw_model.proofs.SameInsideLaws.{low_length}
use Rattle.fw_model.proofs.DomainLaws.{edge-bounds, has_epochs}
use Rattle.fw_model.proofs.LegalLaws.{legal_messages-in_domain}
use Rattle.fw_model.proofs.LowLaws.{input-is, watermark-front}
use Rattle.fw_model.specs.Auto.{IsIdle}
use Rattle.fw_collect.specs.Drops.{watermark, IsPlanned}
use Rattle.fw_collect.specs.Dropped.{is_inside_edge, source_left, log_left}
use Rattle.fw_collect.proofs.CollectLaws.{logs_hold_what_is_outside, inputs_hold_what_is_outside}
use Rattle.fw_collect.specs.LawsOfCollections.{RisesTo}
use Rattle.fw_collect.specs.declared.drops.Drops.{Drops}
use Rattle.fw_progress.specs.Trace.{IsTraceOf, AreSettledTo}
use Rattle.fw_progress.specs.declared.traces.Traces.{Traces}
use Rattle.fw_stands.specs.Collecting.{collected_state, KeepsAllButLow, HaveOneEach}
use Rattle.fw_stands.proofs.AtReached.{reached-legal}
use Rattle.fw_stands.proofs.SettlingLaws.{base-floor, base-settled, settled_to-base, trace-settled}
use Rattle.fw_stands.proofs.LossLaws.{counts-collected}
use Rattle.fw_stands.specs.Settling.{AreSettledAt}
use Rattle.fw_stands.specs.Parts.{IsTraceIn, IsSourceOf, logged}
use Rattle.fw_stands.proofs.NodeCheckpoints.{checkpoints-staged}
use Rattle.fw_stands.proofs.TableBaseLaws.{same-front, same_table-stands}
use Rattle.fw_keep.specs.declared.entry.Entry.{Entry}
use Rattle.fw_border.specs.Sources.{SourceState}
use Rattle.fw_edge.specs.Messages.{MessagesState}

-- ---- the step

-- where the fronts of the watermark are the low ones, a collection is idle
pub same_low-idle : (sys : System) (state : Machine) (choice : Choice) → IsWatermark sys state choice → watermark choice ≡ state.low
    → IsIdle sys state Collect
same_low-idle sys state choice m e next effect t =
    t.2 (ap (λ (c : Choice). watermark c) (largest-one sys state (λ p. true) kept t.0 choice t.1 m) ∙ e)

-- where they are not, it leads to the state in which they are
pub other_low-collected : (sys : System) (state : Machine) (choice : Choice) → IsWatermark sys state choice → watermark choice ≢ state.low
    → LeadsTo sys state Collect (collected_state sys state (watermark choice)) (lows choice)
other_low-collected sys state choice m e = (choice, m, e, refl, refl)

-- the low watermark rises to the watermark
pub low-rises : (sys : System) → IsWellFormedSystem sys → (state : Machine) → IsReached sys state → (choice : Choice) → IsWatermark sys state choice
    → RisesTo sys.flow state.low (watermark choice)
low-rises sys w state r choice m p l =
    subst (λ (cut : Cut). IsCutWithin sys.flow p (At (front_of state.low p)) cut) (sym (watermark-front sys state choice m.consistent p l))
    (largest-holds_low sys w r.0 r.1 state r.2 (λ q. true) kept choice m p l)

-- in each reached state there is one low front for each node, and one front of the watermark
pub fronts-one_each : (sys : System) → IsWellFormedSystem sys → (state : Machine) → IsReached sys state
    → (choice : Choice) → IsWatermark sys state choice → HaveOneEach sys state choice
fronts-one_each sys w state r choice m =
    let f = reached sys w r.0 r.1 state r.2 in
    record {
      low = low_length sys state f.notices f.watermark;
      watermark = length-map choice.cuts front_of_cut ∙ m.consistent.one_cut_each;
    }

-- ---- logs

-- what was sent on an edge is at stamps of its receiver
sent-in_domain : (sys : System) → IsWellFormedSystem sys → (state : Machine) → IsReached sys state → (e : ℕ)
    → AllByRecursion (λ (m : Message). in_domain (bounds_of sys.flow (receiver sys.flow e)) m.at ≡ true) (sent_messages sys (events state.history) e)
sent-in_domain sys w state r e =
    each-weaker (λ (m : Message). in_domain (bounds_of_edge sys.flow e) m.at ≡ true) (λ (m : Message). in_domain (bounds_of sys.flow (receiver sys.flow e)) m.at ≡ true)
    (sent_messages sys (events state.history) e) (λ m i. sym (edge-bounds sys.flow w.flow e m.at) ∙ i)
    (legal_messages-in_domain sys (events state.history) w.flow (has_epochs sys w) (reached-legal sys state w r) e)

-- a log that holds what is logged holds, without what is given up, what is logged after the collection
pub collected_logs-stand : (sys : System) → IsWellFormedSystem sys → (state : Machine) → IsReached sys state
    → (low : List Front) → RisesTo sys.flow state.low low → (entries : List Entry) (drops : Drops) → IsPlanned sys.flow low entries drops
    → (e : ℕ) → e < length sys.flow.edges → (log : MessagesState) → log.messages ≡ logged sys state e
    → (log_left drops.messages.items e log).messages ≡ logged sys (collected_state sys state low) e
collected_logs-stand sys w state r low rises entries drops is e l log held =
    let p = receiver sys.flow e in
    let resends = can_resend (policy_of sys.flow (sender sys.flow e)) in
    let live = not (is_failed state (sender sys.flow e)) in
    let sent = sent_messages sys (events state.history) e in
    let before = sorted_messages (messages_outside (family_of sys.flow state.low p) sent) in
    let after = sorted_messages (messages_outside (family_of sys.flow low p) sent) in
    elim (cases_Bool (resends && live)) [
      | inl i ↦
          logs_hold_what_is_outside sys.flow state.low low entries drops is rises e log sent l (w.flow.receivers_declared e l) (and_parts resends live i).0
          (sent-in_domain sys w state r e) (held ∙ cond-true (resends && live) before [] i)
          ∙ sym (cond-true (resends && live) after [] i)
      | inr i ↦
          ap (filter (λ m. not (is_inside_edge drops.messages.items e m.at))) (held ∙ cond-false (resends && live) before [] i)
          ∙ sym (cond-false (resends && live) after [] i)
    ]

-- ---- inputs

-- the batches are at epochs of the input
batches-in : (bounds : Bounds) (n : ℕ) (batches : List (List Rec)) → bounds ≡ record { greatest = greatest_number ∷ []; sides = false } → n + length batches ≤ greatest_number + 1
    → AllByRecursion (λ (batch : ℕ × List Rec). in_domain bounds (batch.0 ∷ []) ≡ true) (enumerate_from n batches)
batches-in bounds n [] e l = tt
batches-in bounds n (b ∷ bs) e l = (
  ap (λ (x : Bounds). in_domain x (n ∷ [])) e ∙ and_from (nat_le n greatest_number) true (le-leb n greatest_number (omega arith)) refl,
  batches-in bounds (n + 1) bs e (omega arith),
)

-- those outside a frontier are those outside its front
same-outside : (bounds : Bounds) (f : Front) (batches : List (ℕ × List Rec)) → AllByRecursion (λ (batch : ℕ × List Rec). in_domain bounds (batch.0 ∷ []) ≡ true) batches
    → filter (λ (batch : ℕ × List Rec). not (inside f (batch.0 ∷ []))) batches ≡ filter (λ (batch : ℕ × List Rec). not (frontier_of bounds f (batch.0 ∷ []))) batches
same-outside bounds f [] d = refl
same-outside bounds f (b ∷ bs) d =
    let rest : List (ℕ × List Rec) = filter (λ (batch : ℕ × List Rec). not (frontier_of bounds f (batch.0 ∷ []))) bs in
    ap (λ xs. cond (not (inside f (b.0 ∷ []))) (b ∷ xs) xs) (same-outside bounds f bs d.1)
    ∙ ap (λ t. cond (not (t && inside f (b.0 ∷ []))) (b ∷ rest) rest) (sym d.0)

-- an input without the batches that are given up is that of the state after the collection
pub collected_sources-stand : (sys : System) → IsWellFormedSystem sys → (state : Machine)
    → (low : List Front) → RisesTo sys.flow state.low low → (entries : List Entry) (drops : Drops) → IsPlanned sys.flow low entries drops
    → (s : ℕ) → s < length sys.flow.nodes → is_input_kind (kind_of sys.flow s) ≡ true → (source : SourceState) → IsSourceOf sys state s source
    → IsSourceOf sys (collected_state sys state low) s (source_left drops.batches.items s source)
collected_sources-stand sys w state low rises entries drops is s l input source t =
    let bounds = bounds_of sys.flow s in
    let batches = enumerate_from 0 (batches_of sys s) in
    let few = has_epochs sys w s in
    let domain = batches-in bounds 0 (batches_of sys s) (bounds-input sys.flow s (input-is (kind_of sys.flow s) input)) (omega (arith, few)) in
    record {
      given = t.given;
      injected = t.injected;
      held = inputs_hold_what_is_outside sys.flow state.low low entries drops is rises s source batches l input domain
          (t.held ∙ same-outside bounds (front_of state.low s) batches domain)
          ∙ sym (same-outside bounds (front_of low s) batches domain);
    }

-- ---- traces

-- the traces of a node that takes no checkpoints, settled to its new low watermark, are those of the state after the collection
pub collected_traces-stand : (sys : System) (floor : List Front) → IsWellFormedSystem sys → (state : Machine) → IsReached sys state
    → (low : List Front) → RisesTo sys.flow floor low → (p : ℕ) → p < length sys.flow.nodes → takes_checkpoints (policy_of sys.flow p) ≡ false
    → (old new : Traces) → AreSettledTo sys.flow p (front_of low p) old new
    → IsTraceIn sys floor state p old → IsTraceIn sys low (collected_state sys state low) p new
collected_traces-stand sys floor w state r low rises p l c old new a t =
    let next = collected_state sys state low in
    subst (λ f. IsTraceOf sys (events state.history) p f new) (sym (base-floor sys low next p c))
    (settled_to-base sys floor w state r p (front_of low p) old new a
    (subst (λ f. Within f (family_of sys.flow low p)) (sym (base-floor sys floor state p c)) (rises p l)) t)

-- the traces of a node that takes checkpoints are those of the state after the collection
pub traces_with_checkpoints-stay : (sys : System) (floor : List Front) (state : Machine) (low : List Front) (p : ℕ) → takes_checkpoints (policy_of sys.flow p) ≡ true
    → (traces : Traces) → IsTraceIn sys floor state p traces → IsTraceIn sys low (collected_state sys state low) p traces
traces_with_checkpoints-stay sys floor state low p c traces t =
    let next = collected_state sys state low in
    subst (λ f. IsTraceOf sys (events state.history) p f traces) (base-settled sys floor state p c ∙ sym (base-settled sys low next p c)) t

-- where the traces of the nodes that take no checkpoints are settled to their new low watermarks, the traces are those of the state
-- after the collection
pub all_collected_traces-stand : (sys : System) (floor : List Front) → IsWellFormedSystem sys → (state : Machine) → IsReached sys state
    → (low : List Front) → RisesTo sys.flow floor low → (old new : Traces)
    → AreSettledAt sys.flow (λ p. nat_lt p (length sys.flow.nodes) && not (takes_checkpoints (policy_of sys.flow p))) low old new
    → (p : ℕ) → p < length sys.flow.nodes → IsTraceIn sys floor state p old → IsTraceIn sys low (collected_state sys state low) p new
all_collected_traces-stand sys floor w state r low rises old new a p l t =
    let next = collected_state sys state low in
    let there = nat_lt p (length sys.flow.nodes) in
    let takes = takes_checkpoints (policy_of sys.flow p) in
    let test : ℕ → Bool = λ q. nat_lt q (length sys.flow.nodes) && not (takes_checkpoints (policy_of sys.flow q)) in
    elim (cases_Bool takes) [
      | inl c ↦ traces_with_checkpoints-stay sys floor state low p c new
          (a.others p (and_right there (not takes) (ap not c)) takes sys (events state.history) refl (base_of sys floor state p) t)
      | inr c ↦ subst (λ f. IsTraceOf sys (events state.history) p f new) (sym (base-floor sys low next p c))
          (trace-settled sys floor w state r test low old new a p (and_from there (not takes) (lt-ltb p (length sys.flow.nodes) l) (ap not c))
          (subst (λ f. Within f (family_of sys.flow low p)) (sym (base-floor sys floor state p c)) (rises p l)) t)
    ]

-- ---- what is lost

-- writes log the same where they count the same
staged : (Write → Stage) → Write → Write
staged stage write = record write { stage = stage write }

logged-one : (serial : ℕ) (of : Write) (n : ℕ) (w : Written) (far other : Stage) (one two : List Write) → is_counted ever other ≡ is_counted ever far
    → (IsLogged serial one → IsLogged serial two)
    → IsLogged serial (record of { node = n; written = w; stage = far } ∷ one) → IsLogged serial (record of { node = n; written = w; stage = other } ∷ two)
logged-one serial of n (checkpoint f low) far other one two e k (inl l) = absurd l
logged-one serial of n (checkpoint f low) far other one two e k (inr l) = inr (k l)
logged-one serial of n (logged_event s) far other one two e k (inl l) = inl (l.0, e ∙ l.1)
logged-one serial of n (logged_event s) far other one two e k (inr l) = inr (k l)

logged-staged : (serial : ℕ) (stage : Write → Stage) (writes : List Write) → ((write : Write) → is_counted ever (stage write) ≡ is_counted ever write.stage)
    → IsLogged serial writes → IsLogged serial (map (staged stage) writes)
unfolding staged
logged-staged serial stage [] e l = l
logged-staged serial stage (x ∷ writes) e l =
    logged-one serial x x.node x.written x.stage (stage x) writes (map (staged stage) writes) (e x) (logged-staged serial stage writes e) l

staged-logged : (serial : ℕ) (stage : Write → Stage) (writes : List Write) → ((write : Write) → is_counted ever (stage write) ≡ is_counted ever write.stage)
    → IsLogged serial (map (staged stage) writes) → IsLogged serial writes
unfolding staged
staged-logged serial stage [] e l = l
staged-logged serial stage (x ∷ writes) e l =
    logged-one serial x x.node x.written (stage x) x.stage (map (staged stage) writes) writes (sym (e x)) (staged-logged serial stage writes e) l

-- a collection leaves tables, queues, outputs and what is lost as they were
pub collection-keeps : (sys : System) (state : Machine) (low : List Front) → KeepsAllButLow sys state (collected_state sys state low)
unfolding staged
collection-keeps sys state low =
    let stage : Write → Stage = λ write. after_collection (is_forgotten sys low state.history state.writes write) write.stage in
    let same : (write : Write) → is_counted ever (stage write) ≡ is_counted ever write.stage =
    λ write. counts-collected (is_forgotten sys low state.history state.writes write) write.stage in
    record {
      tables = λ p table t.
          let next = collected_state sys state low in
          same_table-stands sys state next p table refl (same-front sys state next p (λ is. checkpoints-staged p stage state.writes) (λ isnt. refl)) refl t;
      queues = λ e. refl;
      outputs = record { bound = λ o. refl; recs = λ o x. refl };
      lost = λ p t. (
        λ a. (
          a.0,
          record {
            event = a.1.event;
            there = a.1.there;
            is = a.1.is;
            not_logged = λ l. a.1.not_logged (logged-staged a.1.event.serial stage state.writes same l);
          },
        ),
        λ a. (
          a.0,
          record {
            event = a.1.event;
            there = a.1.there;
            is = a.1.is;
            not_logged = λ l. a.1.not_logged (staged-logged a.1.event.serial stage state.writes same l);
          },
        ),
      );
    }

-- What is left of what an engine keeps where nodes fail.
use Rattle.std.proofs.Common.{◌≡◌, ◌≢◌, ◌⊎◌, ◌↔◌, inl, inr, ℕ, zero, suc, ◌+◌, ◌<◌, ◌^◌, Bool, true, false, not, cond, ◌&&◌, ◌||◌, ◌==◌, if◌then◌else◌, List, [], ◌∷◌, ◌++◌, length, take, get_or, set, slice_get, slice_index_or, map, filter, Option, None, IfSome, Ok, IsTrue, refl, sym, ◌∙◌, ap, subst, arith}
use Rattle.std.specs.List.{AllByRecursion, Contains, range_with_len}
use Rattle.std.proofs.lemmas.Bool.{cases_eq, cases_Bool, cond_both, eq-eqb, eqb-true, false_from_ne_true, both_ways, or_cases, or_left, or_right}
use Rattle.std.proofs.lemmas.List.{take_more, get_or-set_same, get_or-set_other, get_or_default, length-set, same_lists}
use Rattle.std.proofs.lemmas.List.Folds.{list_any-append}
use Rattle.std.proofs.lemmas.List.FromFn.{get_or-map-range_with_len, length-map-range_with_len}
use Rattle.std.proofs.Math.Bool.{or-false, or-true}
use Rattle.fw_lemmas.proofs.Bools.{both-lead}
use Rattle.fw_lemmas.proofs.Each.{each-weaker, each-kept}
use Rattle.fw_border.specs.Sources.{source_at, next_batch}
use Rattle.fw_border.specs.Outputs.{OutputState, output_at, with_output, cleared, new_output}
use Rattle.fw_edge.specs.Messages.{MessagesState}
use Rattle.fw_flow.specs.Kind.{Kind}
use Rattle.fw_flow.specs.declared.kind.Kind.TheVariants.{OutputNumber}
use Rattle.fw_flow.specs.declared.kind.Policy.{Policy}
use Rattle.fw_flow.specs.declared.kind.Policy.TheVariants as policy
use Rattle.fw_flow.specs.declared.step.Step.TheVariants.{Fail}
use Rattle.fw_flow.specs.Dataflow.{System, Dataflow, kind_of, policy_of, sender, receiver, in_edges, out_edges, bounds_of, is_one_of}
use Rattle.fw_flow.specs.declared.event.Message.{Message}
use Rattle.fw_flow.proofs.EdgeLaws.{in_edges-at, in_edges-from}
use Rattle.fw_flow.proofs.OutEdgeLaws.{out_edges-at, out_edges-from}
use Rattle.fw_frontier.specs.Front.{inside, IsCanonical}
use Rattle.fw_keep.specs.declared.entry.Entry.{Entry}
use Rattle.fw_keep.specs.Catalogue.{KeepState}
use Rattle.fw_keep.specs.Entry.{is_in_flight_of}
use Rattle.fw_keep.specs.Stored.{Records, IsStored}
use Rattle.fw_model.specs.Machine.{Machine, Write, is_failed, front_of, ack_count_of}
use Rattle.fw_model.specs.Steps.{silent, did, LeadsTo, with_failed, without_lost, is_in_flight}
use Rattle.fw_model.specs.Auto.{IsIdle}
use Rattle.fw_node.specs.declared.node.Node.{Node}
use Rattle.fw_node.specs.NodeOf.{IsNodeOf}
use Rattle.fw_policy.specs.View.{IsLostAt}
use Rattle.fw_rollback.specs.Edges.{IsOnEdge, on_edge}
use Rattle.fw_rollback.specs.Tables.{table_at}
use Rattle.fw_policy.specs.Offering.{stamps_in_flight}
use Rattle.fw_stands.specs.Entries.{is_lost_of, AreBasesOf}
use Rattle.fw_stands.specs.Failures.{failed_state}
use Rattle.fw_stands.specs.Parts.{IsTableIn, IsOutputOf, IsSourceOf, kept_recs}
use Rattle.fw_stands.specs.Written.{AreEntriesOf, AreStored, uncollected}
use Rattle.fw_stands.proofs.BaseSteps.{bases_after_failure}
use Rattle.fw_stands.proofs.EntrySteps.{entries_after_failure, records_after_failure, loses_one_by_one}
use Rattle.fw_stands.proofs.EntryViews.{loses_what_is_in_flight}
use Rattle.fw_stands.proofs.FailureLaws.{live_node-fails, all_failed-idle, failures-add, failed_tables-go, other_tables-stay, queues_of_failed-go, logs_of_failed-go, outputs_of_failed-go, failure-keeps}
use Rattle.fw_stands.proofs.FlightLaws.{live_nodes-decide}
use Rattle.fw_stands.proofs.LossLaws.{losses_stay}
use Rattle.fw_stands.proofs.AtReached.{reached-next}
use Rattle.fw_time.specs.Stamp.{Stamp}
use Rattle.fw_running.proofs.KnownTraces.{knows-next}
use Rattle.fw_running.specs.declared.running.Running.{Running}
use Rattle.fw_fail.specs.Failing.{AreGone, IsGoneFrom, lost_after, Fails, FailsIf}
use Rattle.fw_running.specs.Kept.{queue_at, log_at, table_of, source_of, output_of, lost_at, is_down}
use Rattle.fw_running.specs.Ready.{HasSomething, CanAcknowledge}
use Rattle.fw_running.specs.Shaped.{IsWrittenOf, IsShaped}
use Rattle.fw_running.specs.Stands.{Stands}
use Rattle.fw_running.specs.Steps.{outcome_of, Follows, TakesStep}
use Rattle.fw_running.specs.declared.stepped.Effect.TheVariants.{Quiet}
use Rattle.fw_running.specs.declared.stepped.Stepped.{Stepped}
use Rattle.fw_running.specs.declared.stepped.Stepped.TheVariants.{Did, Idle}
use Rattle.fw_running.specs.Drawn.{supply}

-- ---- edges one after the other

pub one_of-more : (n : ℕ) (ns : List ℕ) (m : ℕ) → is_one_of n (ns ++ m ∷ []) ≡ (is_one_of n ns || (m == n))
one_of-more n ns m = list_any-append (λ k. k == n) ns (m ∷ []) ∙ ap (λ b. is_one_of n ns || b) (or-false (m == n))

pub gone_none : (old : List MessagesState) → AreGone [] old old
gone_none old = record { one_each = refl; messages = λ e. refl }

pub gone_more : (edges : List ℕ) (i x : ℕ) (old mid new : List MessagesState) → i < length edges → x ≡ get_or edges i x → AreGone (take i edges) old mid
    → length new ≡ length mid → (on_edge new x).messages ≡ [] → ((e : ℕ) → e ≢ x → on_edge new e ≡ on_edge mid e) → AreGone (take (i + 1) edges) old new
gone_more edges i x old mid new l is a each here others =
    let so_far = take i edges in
    let more : take (i + 1) edges ≡ so_far ++ x ∷ [] = take_more edges i x l ∙ ap (λ y. so_far ++ y ∷ []) (sym is) in
    let with_it : (e : ℕ) → is_one_of e (so_far ++ x ∷ []) ≡ (is_one_of e so_far || (x == e)) = λ e. one_of-more e so_far x in
    subst (λ es. AreGone es old new) (sym more) (record {
      one_each = each ∙ a.one_each;
      messages = λ e. elim (cases_eq e x) [
        | inl k ↦ ap (λ q. (on_edge new q).messages) k ∙ here
            ∙ sym (ap (λ b. cond b [] (on_edge old e).messages) (with_it e ∙ or_right (is_one_of e so_far) (x == e) (eq-eqb x e (sym k))))
        | inr n ↦ ap (λ (q : MessagesState). q.messages) (others e n) ∙ a.messages e
            ∙ sym (ap (λ b. cond b [] (on_edge old e).messages)
            (with_it e ∙ ap (λ b. is_one_of e so_far || b) (false_from_ne_true (x == e) (λ j. n (sym (eqb-true x e j)))) ∙ or-false (is_one_of e so_far)))
      ];
    })

pub none-past : (all : List MessagesState) (e : ℕ) → None ≡ slice_get all e → (on_edge all e).messages ≡ []
none-past [] e i = refl
none-past (x ∷ xs) zero i = absurd (cc)
none-past (x ∷ xs) (suc e) i = none-past xs e i

-- ---- what is left of a part

gone-empty : (b : Bool) (ms : List Message) → ms ≡ [] → (if b then [] else ms) ≡ []
gone-empty true ms e = refl
gone-empty false ms e = e

live-before : (old : List Bool) (p q : ℕ) → p < length old → get_or (set old p true) q false ≡ false → get_or old q false ≡ false
live-before old p q l e = elim (cases_eq q p) [
  | inl k ↦ (let down : get_or (set old p true) q false ≡ true = ap (λ r. get_or (set old p true) r false) k ∙ get_or-set_same old p true false l in absurd (both_ways (get_or (set old p true) q false) e down))
  | inr n ↦ sym (get_or-set_other old p q true false n) ∙ e
]

lost-each : (asks : Policy) (p : ℕ) (entries : List Entry) (lost : List (List Stamp)) → length (lost_after asks p entries lost) ≡ length lost
lost-each policy.Full p entries lost = length-set lost p (stamps_in_flight p entries)
lost-each other p entries lost = refl

something-before : (epochs : ℕ) (output : OutputState) (kind : Kind) (x : ℕ) → HasSomething epochs (cleared output) kind x → HasSomething epochs output kind x
something-before epochs output OutputNumber x h = absurd (h refl)
something-before epochs output kind x h = elim h [ inl l ↦ inl l | inr n ↦ absurd (n refl) ]

-- ---- the shape

-- the engine with the parts, the failed nodes and the lost stamps of another
abbrev pub after_fail : Running → Running → Running
after_fail old new = record old { parts = new.parts; failed = new.failed; lost = new.lost }

one-output : (outs : List OutputState) (p q : ℕ) → p < length outs
    → (output_at (with_output cleared outs p) q ≡ output_at outs q) ⊎ ((q ≡ p) × (output_at (with_output cleared outs p) q ≡ cleared (output_at outs q)))
one-output outs p q l = elim (cases_eq q p) [
  | inl k ↦ inr (k, ap (λ r. output_at (with_output cleared outs p) r) k ∙ get_or-set_same outs p (cleared (output_at outs p)) new_output l ∙ ap (λ r. cleared (output_at outs r)) (sym k))
  | inr n ↦ inl (get_or-set_other outs p q (cleared (output_at outs p)) new_output n)
]

may-before : (old new : Running) (p q : ℕ) → p < length old.parts.outputs.outputs → new.parts.outputs.outputs ≡ with_output cleared old.parts.outputs.outputs p
    → is_down old q ≡ false → CanAcknowledge (after_fail old new) q → CanAcknowledge old q
may-before old new p q there is live c =
    let outs = old.parts.outputs.outputs in
    let out = output_of old q in
    let e : output_of (after_fail old new) q ≡ output_at (with_output cleared outs p) q = ap (λ os. output_at os q) is in
    elim (one-output outs p q there) [
      | inl k ↦ record {
        there = c.there;
        live = live;
        output = c.output;
        number = subst (λ (o : OutputState). o.bound < 2 ^ 32) (e ∙ k) c.number;
        settled = subst (λ (o : OutputState). inside (front_of old.progress.settled q) (o.bound ∷ []) ≡ true) (e ∙ k) c.settled;
        some = subst (λ (o : OutputState). HasSomething old.epochs o (kind_of old.flow q) o.bound) (e ∙ k) c.some;
      }
      | inr k ↦ record {
        there = c.there;
        live = live;
        output = c.output;
        number = subst (λ (o : OutputState). o.bound < 2 ^ 32) (e ∙ k.1) c.number;
        settled = subst (λ (o : OutputState). inside (front_of old.progress.settled q) (o.bound ∷ []) ≡ true) (e ∙ k.1) c.settled;
        some = something-before old.epochs out (kind_of old.flow q) out.bound
            (subst (λ (o : OutputState). HasSomething old.epochs o (kind_of old.flow q) o.bound) (e ∙ k.1) c.some);
      }
    ]

after-shaped : (old new : Running) (p : ℕ) → p < length old.flow.nodes → Fails p old new → IsShaped old → IsShaped (after_fail old new)
after-shaped old new p l g s =
    let flow = old.flow in
    let n : ℕ = length flow.nodes in
    let down : p < length old.failed.items = (let e = s.one_each.failed in omega (arith, l, e)) in
    let out_there : p < length old.parts.outputs.outputs = (let e = s.one_each.outputs in omega (arith, l, e)) in
    let in_tables : p < length old.parts.tables = (let e = s.one_each.parts.tables in omega (arith, l, e)) in
    let none : Option Node = None in
    let was_live : (q : ℕ) → is_down (after_fail old new) q ≡ false → is_down old q ≡ false =
    λ q e. live-before old.failed.items p q down (ap (λ bs. get_or bs q false) (sym g.failed) ∙ e) in
    record {
      well_formed = s.well_formed;
      one_each = record {
        parts = record {
          tables = ap (λ (ts : List (Option Node)). length ts) g.parts.tables ∙ length-set old.parts.tables p none ∙ s.one_each.parts.tables;
          queues = g.parts.queues.one_each ∙ s.one_each.parts.queues;
          logs = g.parts.logs.one_each ∙ s.one_each.parts.logs;
        };
        sources = ap (λ xs. length xs) g.parts.sources ∙ s.one_each.sources;
        outputs = ap (λ xs. length xs) g.parts.outputs ∙ length-set old.parts.outputs.outputs p (cleared (output_at old.parts.outputs.outputs p)) ∙ s.one_each.outputs;
        low = ap (λ xs. length xs) g.parts.low ∙ s.one_each.low;
        failed = ap (λ xs. length xs) g.failed ∙ length-set old.failed.items p true ∙ s.one_each.failed;
        lost = ap (λ xs. length xs) g.lost ∙ lost-each (policy_of flow p) p old.parts.keep.entries old.lost.items ∙ s.one_each.lost;
      };
      progress = s.progress;
      traces = s.traces;
      low = λ q. subst (λ fs. IsCanonical (bounds_of flow q) (front_of fs q)) (sym g.parts.low) (s.low q);
      tables = λ q m. subst (λ (ts : List (Option Node)). IfSome (table_at ts q) (IsNodeOf flow q)) (sym g.parts.tables) (elim (cases_eq q p) [
        | inl k ↦ subst (λ r. IfSome (table_at (set old.parts.tables p none) r) (IsNodeOf flow r)) (sym k)
            (subst (λ (t : Option Node). IfSome t (IsNodeOf flow p)) (sym (get_or-set_same old.parts.tables p none none in_tables)) tt)
        | inr d ↦ subst (λ (t : Option Node). IfSome t (IsNodeOf flow q)) (sym (get_or-set_other old.parts.tables p q none none d)) (s.tables q m)
      ]);
      queues = λ e. subst (λ ms. AllByRecursion (IsOnEdge flow e) ms) (sym (g.parts.queues.messages e))
          (cond_both (is_one_of e (in_edges flow p)) [] (queue_at old e) (λ ms. AllByRecursion (IsOnEdge flow e) ms) (λ i. tt) (λ i. s.queues e));
      logs = λ e. subst (λ ms. AllByRecursion (IsOnEdge flow e) ms) (sym (g.parts.logs.messages e))
          (cond_both (is_one_of e (out_edges flow p)) [] (log_at old e) (λ ms. AllByRecursion (IsOnEdge flow e) ms) (λ i. tt) (λ i. s.logs e));
      entries = subst (λ (keep : KeepState). AllByRecursion (λ (entry : Entry). IsWrittenOf flow entry.node entry.written) keep.entries) (sym g.parts.keep)
          (each-kept (λ (entry : Entry). IsWrittenOf flow entry.node entry.written) (λ e. not (is_in_flight_of p e)) old.parts.keep.entries s.entries);
      live = s.live;
      traced = s.traced;
      ready = record {
        edges = λ e c. s.ready.edges e (record {
          there = c.there;
          live = was_live (receiver flow e) c.live;
          some = λ i. c.some (g.parts.queues.messages e ∙ gone-empty (is_one_of e (in_edges flow p)) (queue_at old e) i);
        });
        owing = λ q c. s.ready.owing q (record { there = c.there; live = was_live q c.live; some = c.some });
        growing = λ q c. s.ready.growing q (record { there = c.there; more = c.more });
        outputs = λ q c. s.ready.outputs q (may-before old new p q out_there g.parts.outputs (was_live q c.live) c);
        inputs = λ q c. s.ready.inputs q (record {
          there = c.there;
          live = was_live q c.live;
          input = c.input;
          some = subst (λ xs. next_batch (source_at xs q) ≢ None) g.parts.sources c.some;
        });
      };
    }

pub fails-shaped : (old new : Running) (p : ℕ) → p < length old.flow.nodes → Fails p old new → IsShaped old → IsShaped new
fails-shaped old new p l g s = subst IsShaped (sym g.rest) (after-shaped old new p l g s)

-- ---- the edges of a node

each-self : (ns : List ℕ) → AllByRecursion (λ n. is_one_of n ns ≡ true) ns
each-self [] = tt
each-self (n ∷ ns) = (
  or_left (n == n) (is_one_of n ns) (eq-eqb n n refl),
  each-weaker (λ m. is_one_of m ns ≡ true) (λ m. is_one_of m (n ∷ ns) ≡ true) ns (λ m e. or_right (n == m) (is_one_of m ns) e) (each-self ns),
)

each-one : (P : ℕ → Type 0) (ns : List ℕ) (n : ℕ) → AllByRecursion P ns → is_one_of n ns ≡ true → P n
each-one P [] n a k = absurd (cc)
each-one P (m ∷ ns) n a k = elim (or_cases (m == n) (is_one_of n ns) k) [
  | inl j ↦ subst P (eqb-true m n j) a.0
  | inr j ↦ each-one P ns n a.1 j
]

-- whether the node is this one
alone : (p q : ℕ) → is_one_of q (p ∷ []) ≡ (p == q)
alone p q = or-false (p == q)

alone-same : (p q : ℕ) → q ≡ p → is_one_of q (p ∷ []) ≡ true
alone-same p q e = alone p q ∙ eq-eqb p q (sym e)

alone-other : (p q : ℕ) → q ≢ p → is_one_of q (p ∷ []) ≡ false
alone-other p q n = alone p q ∙ false_from_ne_true (p == q) (λ j. n (sym (eqb-true p q j)))

into-one : (flow : Dataflow) (p e : ℕ) → e < length flow.edges → is_one_of e (in_edges flow p) ≡ is_one_of (receiver flow e) (p ∷ [])
into-one flow p e l = elim (cases_eq (receiver flow e) p) [
  | inl k ↦ in_edges-at (λ x. is_one_of x (in_edges flow p) ≡ true) flow p (each-self (in_edges flow p)) e l k ∙ sym (alone-same p (receiver flow e) k)
  | inr n ↦ false_from_ne_true (is_one_of e (in_edges flow p)) (λ j. n (each-one (λ x. receiver flow x ≡ p) (in_edges flow p) e (in_edges-from (λ x. receiver flow x ≡ p) flow p (λ x m r. r)) j))
      ∙ sym (alone-other p (receiver flow e) n)
]

from-one : (flow : Dataflow) (p e : ℕ) → e < length flow.edges → is_one_of e (out_edges flow p) ≡ is_one_of (sender flow e) (p ∷ [])
from-one flow p e l = elim (cases_eq (sender flow e) p) [
  | inl k ↦ out_edges-at (λ x. is_one_of x (out_edges flow p) ≡ true) flow p (each-self (out_edges flow p)) e l k ∙ sym (alone-same p (sender flow e) k)
  | inr n ↦ false_from_ne_true (is_one_of e (out_edges flow p)) (λ j. n (each-one (λ x. sender flow x ≡ p) (out_edges flow p) e (out_edges-from (λ x. sender flow x ≡ p) flow p (λ x m r. r)) j))
      ∙ sym (alone-other p (sender flow e) n)
]

-- ---- for which states it stands

failed-is : (sys : System) (state : Machine) (p : ℕ) (old new : List Bool) → old ≡ state.failed → length old ≡ length sys.flow.nodes → p < length sys.flow.nodes
    → new ≡ set old p true → new ≡ (failed_state sys state (p ∷ [])).failed
failed-is sys state p old new was each there is = is ∙ same_lists (set old p true) next (length-set old p true ∙ each ∙ sym (length-map-range_with_len (λ q. is_failed state q || is_one_of q (p ∷ [])) 0 (length sys.flow.nodes))) at
  where
    next : List Bool
    next = with_failed sys state (p ∷ [])

    at : (k : ℕ) (d : Bool) → k < length (set old p true) → get_or (set old p true) k d ≡ get_or next k d
    at k d l =
        let m : k < length sys.flow.nodes = (let e = length-set old p true in omega (arith, l, e, each)) in
        let after : get_or next k d ≡ (is_failed state k || is_one_of k (p ∷ [])) =
        get_or-map-range_with_len (λ q. is_failed state q || is_one_of q (p ∷ [])) 0 (length sys.flow.nodes) k k d m (omega arith) in
        elim (cases_eq k p) [
          | inl e ↦ ap (λ r. get_or (set old p true) r d) e ∙ get_or-set_same old p true d (omega (arith, there, each))
              ∙ sym (after ∙ ap (λ b. is_failed state k || b) (alone-same p k e) ∙ or_right (is_failed state k) true refl)
          | inr n ↦ get_or-set_other old p k true d n ∙ get_or_default old k d false (omega (arith, m, each)) ∙ ap (λ bs. get_or bs k false) was
              ∙ sym (after ∙ ap (λ b. is_failed state k || b) (alone-other p k n) ∙ or-false (is_failed state k))
        ]

lost-other : (asks : Policy) (p q : ℕ) (entries : List Entry) (lost : List (List Stamp)) → q ≢ p → get_or (lost_after asks p entries lost) q [] ≡ get_or lost q []
lost-other policy.Full p q entries lost n = get_or-set_other lost p q (stamps_in_flight p entries) [] n
lost-other other p q entries lost n = refl

flip : {A B : Type 0} → A ↔ B → B ↔ A
flip h = (h.1, h.0)

after-stands : (sys : System) (state : Machine) (old new : Running) (records : Option Records) (p : ℕ) → p < length old.flow.nodes → is_down old p ≡ false
    → Fails p old new → IsShaped old → Stands sys old records state → Stands sys (after_fail old new) records (failed_state sys state (p ∷ []))
after-stands sys state old new records p there live g shaped s =
    let ps = p ∷ [] in
    let next = failed_state sys state ps in
    let flow = sys.flow in
    let l : p < length flow.nodes = subst (λ (f : Dataflow). p < length f.nodes) s.apart.flow there in
    let up : is_failed state p ≡ false = ap (λ bs. slice_index_or bs p false) (sym s.apart.failed) ∙ live in
    let one : is_one_of p ps ≡ true = alone-same p p refl in
    let leads : LeadsTo sys state (Fail ps) next silent = live_node-fails sys state ps p l one up in
    let parts : IsGoneFrom flow p old.parts new.parts = subst (λ f. IsGoneFrom f p old.parts new.parts) s.apart.flow g.parts in
    let lost : new.lost.items ≡ lost_after (policy_of flow p) p old.parts.keep.entries old.lost.items =
    subst (λ f. new.lost.items ≡ lost_after (policy_of f p) p old.parts.keep.entries old.lost.items) s.apart.flow g.lost in
    let failed : new.failed.items ≡ next.failed =
    failed-is sys state p old.failed.items new.failed.items s.apart.failed (shaped.one_each.failed ∙ ap (λ (f : Dataflow). length f.nodes) s.apart.flow) l g.failed in
    let k = failure-keeps sys state ps in
    let none : Option Node = None in
    let entries : new.parts.keep.entries ≡ filter (λ e. not (is_in_flight_of p e)) old.parts.keep.entries = ap (λ (keep : KeepState). keep.entries) parts.keep in
    let left : filter (λ e. not (is_in_flight_of p e)) old.parts.keep.entries ≡ filter (λ e. not (is_lost_of ps e)) old.parts.keep.entries = loses_one_by_one ps old.parts.keep.entries in
    record {
      apart = record {
        flow = s.apart.flow;
        well_formed = s.apart.well_formed;
        reached = reached-next sys state next (Fail ps) (did silent) s.apart.reached leads;
        settled = s.apart.settled;
        failed = failed;
        low = parts.low ∙ s.apart.low;
        epochs = s.apart.epochs;
        tables = λ q m. subst (λ (ts : List (Option Node)). IsTableIn sys next q (table_at ts q)) (sym parts.tables) (elim (cases_eq q p) [
          | inl e ↦ subst (λ r. IsTableIn sys next r (table_at (set old.parts.tables p none) r)) (sym e)
              (subst (IsTableIn sys next p) (sym (get_or-set_same old.parts.tables p none none (omega (arith, there, shaped.one_each.parts.tables)))) (failed_tables-go sys state ps p l one))
          | inr n ↦ subst (IsTableIn sys next q) (sym (get_or-set_other old.parts.tables p q none none n))
              (other_tables-stay sys state ps q m (alone-other p q n) (table_of old q) (s.apart.tables q m))
        ]);
        queues = λ e m. parts.queues.messages e ∙ ap (λ b. if b then [] else queue_at old e) (into-one flow p e m)
            ∙ ap (λ ms. if is_one_of (receiver flow e) ps then [] else ms) (s.apart.queues e m) ∙ sym (queues_of_failed-go sys s.apart.well_formed state ps e m);
        logs = λ e m. parts.logs.messages e ∙ ap (λ b. if b then [] else log_at old e) (from-one flow p e m)
            ∙ ap (λ ms. if is_one_of (sender flow e) ps then [] else ms) (s.apart.logs e m) ∙ sym (logs_of_failed-go sys s.apart.well_formed state ps e m);
        outputs = λ o m is. subst (λ os. IsOutputOf sys next o (output_at os o)) (sym parts.outputs)
            (output-stands sys state p o old.parts.outputs.outputs (omega (arith, there, shaped.one_each.outputs)) m (s.apart.outputs o m is));
        sources = λ i m. subst (λ xs. IsSourceOf sys next i (source_at xs i)) (sym parts.sources) (k.sources i (source_of old i) (s.apart.sources i m));
        progress = s.apart.progress;
        entries = subst (λ es. AreEntriesOf sys next es (uncollected next)) (sym (entries ∙ left))
            (entries_after_failure sys s.apart.well_formed state s.apart.reached ps next silent leads old.parts.keep.entries s.apart.entries);
        bases = subst (λ es. AreBasesOf es es (uncollected next)) (sym (entries ∙ left))
            (bases_after_failure sys s.apart.well_formed state s.apart.reached ps next silent leads old.parts.keep.entries s.apart.entries s.apart.bases);
        stored = subst (λ es. AreStored sys next records es (uncollected next)) (sym (entries ∙ left))
            (records_after_failure sys s.apart.well_formed state s.apart.reached ps next silent leads old.parts.keep.entries s.apart.entries records s.apart.stored);
      };
      traces = knows-next sys state (Fail ps) next silent old.traces old.traces s.apart.well_formed s.apart.reached refl leads s.traces (λ q m. k.traces s.traces.floor q old.traces);
      lost = λ q full t. elim (cases_eq q p) [
        | inl e ↦
            let f : policy_of flow p ≡ policy.Full = ap (λ r. policy_of flow r) (sym e) ∙ full in
            let at : lost_at (after_fail old new) p ≡ stamps_in_flight p old.parts.keep.entries =
            ap (λ ls. get_or ls p []) (lost ∙ ap (λ asks. lost_after asks p old.parts.keep.entries old.lost.items) f)
            ∙ get_or-set_same old.lost.items p (stamps_in_flight p old.parts.keep.entries) [] (omega (arith, there, shaped.one_each.lost)) in
            subst (λ r. Contains (lost_at (after_fail old new) r) t ↔ IsLostAt sys next r t) (sym e)
            (subst (λ ts. Contains ts t ↔ IsLostAt sys next p t) (sym at)
            (flip (loses_what_is_in_flight sys s.apart.well_formed state s.apart.reached ps next silent leads old.parts.keep.entries s.apart.entries p f up one t)))
        | inr n ↦
            let at : lost_at (after_fail old new) q ≡ lost_at old q = ap (λ ls. get_or ls q []) lost ∙ lost-other (policy_of flow p) p q old.parts.keep.entries old.lost.items n in
            let same : is_failed next q ≡ is_failed state q = ap (λ bs. get_or bs q false) (sym failed ∙ g.failed) ∙ get_or-set_other old.failed.items p q true false n
            ∙ ap (λ bs. get_or bs q false) s.apart.failed in
            subst (λ ts. Contains ts t ↔ IsLostAt sys next q t) (sym at) (both-lead (s.lost q full t) (stays-lost sys state next q t same
            (λ d. losses_stay sys s.apart.well_formed state s.apart.reached (Fail ps) next silent leads q d (same ∙ d) t)))
      ];
    }
  where
    output-stands : (sys : System) (state : Machine) (p o : ℕ) (outs : List OutputState) → p < length outs → o < length sys.flow.nodes → IsOutputOf sys state o (output_at outs o)
        → IsOutputOf sys (failed_state sys state (p ∷ [])) o (output_at (with_output cleared outs p) o)
    output-stands sys state p o outs l m b =
        let next = failed_state sys state (p ∷ []) in
        let go : (x : ℕ) → kept_recs sys next o x ≡ (if is_one_of o (p ∷ []) then [] else kept_recs sys state o x) = λ x. outputs_of_failed-go sys state (p ∷ []) o x m in
        elim (cases_eq o p) [
          | inl e ↦ subst (λ r. IsOutputOf sys next r (output_at (with_output cleared outs p) r)) (sym e)
              (subst (IsOutputOf sys next p) (sym (get_or-set_same outs p (cleared (output_at outs p)) new_output l)) (record {
                bound = subst (λ r. (output_at outs r).bound ≡ ack_count_of state r) e b.bound;
                recs = λ x. sym (subst (λ r. kept_recs sys next r x ≡ []) e (go x ∙ ap (λ c. if c then [] else kept_recs sys state o x) (alone-same p o e)));
              }))
          | inr n ↦ subst (IsOutputOf sys next o) (sym (get_or-set_other outs p o (cleared (output_at outs p)) new_output n)) (record {
            bound = b.bound;
            recs = λ x. b.recs x ∙ sym (go x ∙ ap (λ c. if c then [] else kept_recs sys state o x) (alone-other p o n));
          })
        ]

    stays-lost : (sys : System) (state next : Machine) (q : ℕ) (t : Stamp) → is_failed next q ≡ is_failed state q
        → (is_failed state q ≡ true → IsLostAt sys next q t ↔ IsLostAt sys state q t) → IsLostAt sys state q t ↔ IsLostAt sys next q t
    stays-lost sys state next q t same h = (λ a. (h a.0).1 a, λ a. (h (sym same ∙ a.0)).0 a)

pub fails-stands : (sys : System) (state : Machine) (old new : Running) (records : Option Records) (p : ℕ) → p < length old.flow.nodes → is_down old p ≡ false
    → Fails p old new → IsShaped old → Stands sys old records state → Stands sys new records (failed_state sys state (p ∷ []))
fails-stands sys state old new records p there live g shaped s =
    subst (λ (r : Running). Stands sys r records (failed_state sys state (p ∷ []))) (sym g.rest) (after-stands sys state old new records p there live g shaped s)

-- ---- one node after the other

-- each of the nodes that is declared is failed
abbrev pub AreDown : Running → List ℕ → Type 0
AreDown running ps = (q : ℕ) → q < length running.flow.nodes → is_one_of q ps ≡ true → is_down running q ≡ true

-- One of the nodes is declared and not failed.
pub record HasLive (running : Running) (ps : List ℕ) : Type 0 where
  pub node : ℕ
  pub there : node < length running.flow.nodes
  pub among : is_one_of node ps ≡ true
  pub live : is_down running node ≡ false

-- for each state for which the engine stood it stands for the one in which these nodes are failed too
abbrev pub StandsFailed : List ℕ → Running → Running → Type 0
StandsFailed ps old now = (sys : System) (records : Option Records) (state : Machine) → Stands sys old records state → Stands sys now records (failed_state sys state ps)

-- These nodes failed, where one of them was declared and not failed; and else nothing changed.
pub record HaveFailed (ps : List ℕ) (any : Bool) (old now : Running) : Type 0 where
  pub flow : now.flow ≡ old.flow
  pub shaped : IsShaped now
  pub stored : (records : Option Records) → IsStored old.parts.keep records → IsStored now.parts.keep records
  pub drawn : supply now.parts.keep ≡ supply old.parts.keep
  pub none : any ≡ false → (now ≡ old) × AreDown old ps
  pub some : any ≡ true → HasLive old ps × StandsFailed ps old now

pub failed_none : (old : Running) → IsShaped old → HaveFailed [] false old old
failed_none old s = record {
  flow = refl;
  shaped = s;
  stored = λ records h. h;
  drawn = refl;
  none = λ e. (refl, λ q l k. absurd (both_ways (is_one_of q []) refl k));
  some = λ e. absurd (both_ways false refl e);
}

more-live : (old : Running) (ps : List ℕ) (p : ℕ) → HasLive old ps → HasLive old (ps ++ p ∷ [])
more-live old ps p h = record {
  node = h.node;
  there = h.there;
  among = one_of-more h.node ps p ∙ or_left (is_one_of h.node ps) (p == h.node) h.among;
  live = h.live;
}

-- a node that is down once some nodes failed was so, or is one of these
down-or : (sys : System) (state : Machine) (old now : Running) (records : Option Records) (ps : List ℕ) (q : ℕ) → q < length sys.flow.nodes
    → Stands sys now records (failed_state sys state ps) → is_down now q ≡ (is_failed state q || is_one_of q ps)
down-or sys state old now records ps q l s = ap (λ bs. get_or bs q false) s.apart.failed ∙ failures-add sys state ps q l

-- a node that is not to fail leaves all as it is
pub down_more : (ps : List ℕ) (any : Bool) (old now : Running) (p : ℕ) → HaveFailed ps any old now → (p < length now.flow.nodes → is_down now p ≡ true)
    → HaveFailed (ps ++ p ∷ []) any old now
down_more ps any old now p h down = record {
  flow = h.flow;
  shaped = h.shaped;
  stored = h.stored;
  drawn = h.drawn;
  none = λ e. let x = h.none e in (
    x.0,
    λ q l k. elim (or_cases (is_one_of q ps) (p == q) (sym (one_of-more q ps p) ∙ k)) [
      | inl j ↦ x.1 q l j
      | inr j ↦ subst (λ r. is_down old r ≡ true) (eqb-true p q j)
          (subst (λ (r : Running). is_down r p ≡ true) x.0
          (down (subst (λ (f : Dataflow). p < length f.nodes) (sym h.flow) (subst (λ r. r < length old.flow.nodes) (sym (eqb-true p q j)) l))))
    ],
  );
  some = λ e. let x = h.some e in (
    more-live old ps p x.0,
    λ sys records state s.
        let t = x.1 sys records state s in
        let same : failed_state sys state (ps ++ p ∷ []) ≡ failed_state sys state ps =
        live_nodes-decide sys state s.apart.reached ps (ps ++ p ∷ []) (λ q l up. one_of-more q ps p ∙ elim (cases_Bool (p == q)) [
          | inl j ↦
              let k : q ≡ p = sym (eqb-true p q j) in
              let there : p < length now.flow.nodes = subst (λ (f : Dataflow). p < length f.nodes) (sym t.apart.flow) (subst (λ r. r < length sys.flow.nodes) k l) in
              let is : (is_failed state q || is_one_of q ps) ≡ true = sym (down-or sys state old now records ps q l t) ∙ subst (λ r. is_down now r ≡ true) (sym k) (down there) in
              ap (λ b. is_one_of q ps || b) j ∙ among (is_failed state q) (is_one_of q ps) up is
          | inr j ↦ ap (λ b. is_one_of q ps || b) j ∙ or-false (is_one_of q ps)
        ]) in
        subst (Stands sys now records) (sym same) t,
  );
}
  where
    among : (a b : Bool) → a ≡ false → (a || b) ≡ true → (b || true) ≡ b
    among true b e k = absurd (both_ways true e refl)
    among false true e k = refl
    among false false e k = absurd (both_ways false refl k)

-- ---- one node more fails

same-failed : (sys : System) (state : Machine) (ps : List ℕ) (p : ℕ)
    → with_failed sys (failed_state sys state ps) (p ∷ []) ≡ with_failed sys state (ps ++ p ∷ [])
same-failed sys state ps p = same_lists one both (length-map-range_with_len f 0 n ∙ sym (length-map-range_with_len g 0 n)) at
  where
    n : ℕ
    n = length sys.flow.nodes

    f : ℕ → Bool
    f q = is_failed (failed_state sys state ps) q || is_one_of q (p ∷ [])

    g : ℕ → Bool
    g q = is_failed state q || is_one_of q (ps ++ p ∷ [])

    one : List Bool
    one = map f (range_with_len 0 n)

    both : List Bool
    both = map g (range_with_len 0 n)

    or-or : (a b c : Bool) → ((a || b) || c) ≡ (a || (b || c))
    or-or true b c = refl
    or-or false b c = refl

    at : (k : ℕ) (d : Bool) → k < length one → get_or one k d ≡ get_or both k d
    at k d l =
        let m : k < n = (let e = length-map-range_with_len f 0 n in omega (arith, l, e)) in
        get_or-map-range_with_len f 0 n k k d m (omega arith)
        ∙ ap (λ b. b || is_one_of k (p ∷ [])) (failures-add sys state ps k m)
        ∙ or-or (is_failed state k) (is_one_of k ps) (is_one_of k (p ∷ []))
        ∙ ap (λ b. is_failed state k || (is_one_of k ps || b)) (alone p k)
        ∙ ap (λ b. is_failed state k || b) (sym (one_of-more k ps p))
        ∙ sym (get_or-map-range_with_len g 0 n k k d m (omega arith))

same-lost : (ps : List ℕ) (p : ℕ) (writes : List Write) → without_lost (p ∷ []) (without_lost ps writes) ≡ without_lost (ps ++ p ∷ []) writes
same-lost ps p [] = refl
same-lost ps p (w ∷ ws) =
    by (is_one_of w.node ps) (is_one_of w.node (p ∷ [])) (is_in_flight w.stage) refl (same-lost ps p ws)
    ∙ ap (λ b. cond (not (b && is_in_flight w.stage)) (w ∷ last) last) (ap (λ b. is_one_of w.node ps || b) (alone p w.node) ∙ sym (one_of-more w.node ps p))
  where
    first : List Write
    first = without_lost ps ws

    last : List Write
    last = without_lost (ps ++ p ∷ []) ws

    test : Bool
    test = not (is_one_of w.node (p ∷ []) && is_in_flight w.stage)

    by : (a b c : Bool) → test ≡ not (b && c) → without_lost (p ∷ []) first ≡ last
        → without_lost (p ∷ []) (cond (not (a && c)) (w ∷ first) first) ≡ cond (not ((a || b) && c)) (w ∷ last) last
    by true true true e ih = ih
    by true false true e ih = ih
    by true true false e ih = ap (λ t. cond t (w ∷ without_lost (p ∷ []) first) (without_lost (p ∷ []) first)) e ∙ ap (λ xs. w ∷ xs) ih
    by true false false e ih = ap (λ t. cond t (w ∷ without_lost (p ∷ []) first) (without_lost (p ∷ []) first)) e ∙ ap (λ xs. w ∷ xs) ih
    by false b c e ih = ap (λ t. cond t (w ∷ without_lost (p ∷ []) first) (without_lost (p ∷ []) first)) e ∙ ap (λ xs. cond (not (b && c)) (w ∷ xs) xs) ih

-- nodes that fail one after the other fail together
then-one : (sys : System) (state : Machine) (ps : List ℕ) (p : ℕ) → failed_state sys (failed_state sys state ps) (p ∷ []) ≡ failed_state sys state (ps ++ p ∷ [])
then-one sys state ps p =
    ap (λ fs. record state { failed = fs; writes = without_lost (p ∷ []) (without_lost ps state.writes) }) (same-failed sys state ps p)
    ∙ ap (λ ws. record state { failed = with_failed sys state (ps ++ p ∷ []); writes = ws }) (same-lost ps p state.writes)

-- the first that is not failed fails alone
first-one : (sys : System) (state : Machine) (old : Running) (records : Option Records) (ps : List ℕ) (p : ℕ) → AreDown old ps → Stands sys old records state
    → failed_state sys state (ps ++ p ∷ []) ≡ failed_state sys state (p ∷ [])
first-one sys state old records ps p down s = live_nodes-decide sys state s.apart.reached (p ∷ []) (ps ++ p ∷ []) (λ q l up.
    let there : q < length old.flow.nodes = subst (λ (f : Dataflow). q < length f.nodes) (sym s.apart.flow) l in
    let none : is_one_of q ps ≡ false = false_from_ne_true (is_one_of q ps) (λ j.
    both_ways (is_failed state q) up (ap (λ bs. get_or bs q false) (sym s.apart.failed) ∙ down q there j)) in
    one_of-more q ps p ∙ ap (λ b. b || (p == q)) none ∙ sym (alone p q))

pub live_more : (ps : List ℕ) (any : Bool) (old now next : Running) (p : ℕ) → HaveFailed ps any old now → p < length now.flow.nodes → is_down now p ≡ false → Fails p now next
    → HaveFailed (ps ++ p ∷ []) true old next
live_more ps any old now next p h there live g = record {
  flow = ap (λ (r : Running). r.flow) g.rest ∙ h.flow;
  shaped = fails-shaped now next p there g h.shaped;
  stored = λ records k. g.parts.stored records (h.stored records k);
  drawn = ap supply g.parts.keep ∙ h.drawn;
  none = λ e. absurd (both_ways true e refl);
  some = λ e. by any refl;
}
  where
    by : (b : Bool) → any ≡ b → HasLive old (ps ++ p ∷ []) × StandsFailed (ps ++ p ∷ []) old next
    by false e =
        let x = h.none e in (
          record {
            node = p;
            there = subst (λ (r : Running). p < length r.flow.nodes) x.0 there;
            among = one_of-more p ps p ∙ or_right (is_one_of p ps) (p == p) (eq-eqb p p refl);
            live = subst (λ (r : Running). is_down r p ≡ false) x.0 live;
          },
          λ sys records state s. subst (Stands sys next records) (sym (first-one sys state old records ps p x.1 s))
              (fails-stands sys state now next records p there live g h.shaped (subst (λ (r : Running). Stands sys r records state) (sym x.0) s)),
        )
    by true e =
        let x = h.some e in (
          more-live old ps p x.0,
          λ sys records state s. subst (Stands sys next records) (then-one sys state ps p)
              (fails-stands sys (failed_state sys state ps) now next records p there live g h.shaped (x.1 sys records state s)),
        )

-- ---- the step

-- where none of the nodes is declared and not failed, the step is idle
pub idle-fails : (sys : System) (state : Machine) (running : Running) (records : Option Records) (ps : List ℕ) → AreDown running ps → Stands sys running records state
    → IsIdle sys state (Fail ps)
idle-fails sys state running records ps down s = all_failed-idle sys state ps (λ q l k.
    ap (λ bs. get_or bs q false) (sym s.apart.failed) ∙ down q (subst (λ (f : Dataflow). q < length f.nodes) (sym s.apart.flow) l) k)

-- where one of them is, they fail
pub some-fails : (sys : System) (state : Machine) (running : Running) (records : Option Records) (ps : List ℕ) → HasLive running ps → Stands sys running records state
    → LeadsTo sys state (Fail ps) (failed_state sys state ps) silent
some-fails sys state running records ps h s =
    live_node-fails sys state ps h.node (subst (λ (f : Dataflow). h.node < length f.nodes) s.apart.flow h.there) h.among (ap (λ bs. get_or bs h.node false) (sym s.apart.failed) ∙ h.live)

pub if_more : (ps : List ℕ) (any failed : Bool) (old now next : Running) (p : ℕ) → HaveFailed ps any old now → FailsIf p failed now next
    → HaveFailed (ps ++ p ∷ []) (any || failed) old next
if_more ps any true old now next p h f = subst (λ b. HaveFailed (ps ++ p ∷ []) b old next) (sym (or-true any)) (live_more ps any old now next p h f.0 f.1 f.2)
if_more ps any false old now next p h f =
    subst (λ b. HaveFailed (ps ++ p ∷ []) b old next) (sym (or-false any)) (subst (HaveFailed (ps ++ p ∷ []) any old) (sym f.1) (down_more ps any old now p h f.0))

pub next_more : (nodes : List ℕ) (i p : ℕ) (any failed : Bool) (old now next : Running) → i < length nodes → p ≡ get_or nodes i p → HaveFailed (take i nodes) any old now
    → FailsIf p failed now next → HaveFailed (take (i + 1) nodes) (any || failed) old next
next_more nodes i p any failed old now next l is h f =
    let more : take (i + 1) nodes ≡ take i nodes ++ p ∷ [] = take_more nodes i p l ∙ ap (λ y. take i nodes ++ y ∷ []) (sym is) in
    subst (λ ps. HaveFailed ps (any || failed) old next) (sym more) (if_more (take i nodes) any failed old now next p h f)

pub fail-takes : (ps : List ℕ) (any : Bool) (old now : Running) (stepped : Stepped) → HaveFailed ps any old now → stepped ≡ (if any then Did Quiet else Idle)
    → (records : Option Records) → TakesStep old records (Fail ps) (Ok stepped) now records
fail-takes ps true old now stepped h is records sys state s trusts =
    let x = h.some refl in
    subst (λ (r : Stepped). Follows sys state (Fail ps) (outcome_of r) now records) (sym is) (record {
      next = failed_state sys state ps;
      steps = some-fails sys state old records ps x.0 s;
      stands = x.1 sys records state s;
    })
fail-takes ps false old now stepped h is records sys state s trusts =
    let x = h.none refl in
    subst (λ (r : Stepped). Follows sys state (Fail ps) (outcome_of r) now records) (sym is) (record {
      next = state;
      steps = (idle-fails sys state old records ps x.1 s, refl);
      stands = subst (λ (r : Running). Stands sys r records state) (sym x.0) s;
    })

-- where the test fails, the node is down if it is declared
pub down-if : (b : Bool) (p n : ℕ) (d : Bool) → IsTrue b ↔ (p < n) × (d ≡ false) → b ≡ false → p < n → d ≡ true
down-if b p n true h e l = refl
down-if b p n false h e l = absurd (both_ways b e (h.1 (l, refl)))

-- What the parts are after the swap.
use Rattle.std.proofs.Common.{◌≡◌, ◌≢◌, ℕ, ◌+◌, ◌<◌, ◌≤◌, true, List, [], ◌∷◌, length, length-set, Option, Some, None, refl, sym, ap, subst, ◌∙◌, inl, inr, arith}
use Rattle.std.proofs.lemmas.Bool.{cases_lt, cases_eq}
use Rattle.std.specs.List.{AllByRecursion}
use Rattle.fw_time.specs.Stamp.{Stamp}
use Rattle.fw_frontier.specs.Front.{Front, inside}
use Rattle.fw_flow.specs.declared.choice.Choice.{Choice}
use Rattle.fw_flow.specs.declared.choice.Cut.{Cut}
use Rattle.fw_flow.specs.declared.choice.Cut.TheVariants.{Present, At}
use Rattle.fw_flow.specs.declared.event.Message.{Message}
use Rattle.fw_flow.specs.Dataflow.{Dataflow, sender, receiver}
use Rattle.fw_flow.specs.Projection.{all_inside}
use Rattle.fw_flow.specs.Restoring.{way_of}
use Rattle.fw_model.specs.Choice.{cut_of}
use Rattle.fw_model.specs.Steps.{front_of_cut}
use Rattle.fw_record.specs.declared.record.Record.{Record}
use Rattle.std.proofs.lemmas.List.{get_or-set_same, get_or-set_other, get_or_past}
use Rattle.fw_lemmas.proofs.Filters.{filter-all}
use Rattle.fw_border.specs.Outputs.{OutputState, OutputsState, new_output, output_at, with_output}
use Rattle.fw_border.specs.Sources.{SourceState, unused_source, source_at, with_source, rolled_source}
use Rattle.fw_edge.specs.Messages.{MessagesState}
use Rattle.fw_node.specs.declared.node.Node.{Node}
use Rattle.fw_rollback.specs.declared.built.Built.{Built}
use Rattle.fw_rollback.specs.declared.parts.Parts.{Parts}
use Rattle.fw_rollback.specs.Asked.{front_at, given_of}
use Rattle.fw_rollback.specs.Built.{by_cut, table_after, log_put, queue_put, AreBuilt}
use Rattle.fw_rollback.specs.Edges.{on_edge}
use Rattle.fw_rollback.specs.Restored.{output_after, queue_from, queue_kept, queue_after, log_left_outside, IsBuilt, IsCutTo}
use Rattle.fw_rollback.specs.Tables.{table_at}
use Rattle.fw_rollback.proofs.BuildLaws.{built-stays}
use Rattle.fw_rollback.proofs.CutLaws.{cut_is, cut_stays}

-- ---- nodes

-- what node p has after the swap
pub cut_to : (flow : Dataflow) (choice : Choice) (old new : Parts) (built : Built) (given : List (List Record)) → AreBuilt flow choice old given built
    → ((q : ℕ) → q < length flow.nodes → table_at new.tables q ≡ table_after choice q (table_at old.tables q) (table_at built.tables q))
    → ((e : ℕ) → e < length flow.edges → on_edge new.logs e ≡ log_put flow choice e (on_edge old.logs e) (on_edge built.logs e))
    → (p : ℕ) → p < length flow.nodes → IsCutTo flow p old (given_of given p) new (cut_of choice p)
cut_to flow choice old new built given b tables logs p l = by (cut_of choice p) refl
  where
    at : (e : ℕ) → e < length flow.edges → sender flow e ≡ p → (cut : Cut) → cut_of choice p ≡ cut → on_edge new.logs e ≡ by_cut cut (on_edge old.logs e) (on_edge built.logs e)
    at e k s cut c = logs e k ∙ ap (λ x. by_cut x (on_edge old.logs e) (on_edge built.logs e)) (ap (cut_of choice) s ∙ c)

    by : (cut : Cut) → cut_of choice p ≡ cut → IsCutTo flow p old (given_of given p) new cut
    by Present c = (tables p l ∙ ap (λ x. by_cut x (table_at old.tables p) (table_at built.tables p)) c, λ e k s. at e k s Present c)
    by (At f) c =
        let there : table_at new.tables p ≡ table_at built.tables p = tables p l ∙ ap (λ x. by_cut x (table_at old.tables p) (table_at built.tables p)) c in
        let P : Option Node → Type 0 = λ o. IsBuilt flow old.low p f (given_of given p) (way_of flow p) o new.logs in
        subst P (sym there)
        (built-stays flow old.low p f (given_of given p) (way_of flow p) (table_at built.tables p) built.logs new.logs
        (λ e k s. at e k s (At f) c) (b.nodes p l f c))

-- ---- queues

-- what is pending on edge e after the swap
pub queue_is : (flow : Dataflow) (choice : Choice) (old new : Parts) (built : Built) (given : List (List Record)) → AreBuilt flow choice old given built
    → ((e : ℕ) → e < length flow.edges → on_edge new.logs e ≡ log_put flow choice e (on_edge old.logs e) (on_edge built.logs e))
    → ((e : ℕ) → e < length flow.edges → on_edge new.queues e ≡ queue_put flow choice e (on_edge old.queues e) (on_edge built.queues e))
    → (e : ℕ) → e < length flow.edges
    → on_edge new.queues e ≡ queue_after flow choice e (on_edge old.queues e) (on_edge new.logs e) (cut_of choice (receiver flow e))
queue_is flow choice old new built given b logs queues e l = by (cut_of choice (receiver flow e)) refl
  where
    at : (cut : Cut) → cut_of choice (receiver flow e) ≡ cut → on_edge new.queues e ≡ by_cut cut (queue_kept flow choice e (on_edge old.queues e)) (on_edge built.queues e)
    at cut c = queues e l ∙ ap (λ x. by_cut x (queue_kept flow choice e (on_edge old.queues e)) (on_edge built.queues e)) c

    by : (cut : Cut) → cut_of choice (receiver flow e) ≡ cut → on_edge new.queues e ≡ queue_after flow choice e (on_edge old.queues e) (on_edge new.logs e) cut
    by Present c = at Present c
    by (At g) c = at (At g) c ∙ b.queues e l g c ∙ ap (log_left_outside g) (sym (logs e l))

-- all that is pending comes from inside a frontier that has no outside stamp
pub from-all : (queue : MessagesState) → queue ≡ queue_from [] queue
from-all queue =
    ap (λ (ms : List Message). let q : MessagesState = record queue { messages = ms } in q)
    (sym (filter-all (λ (m : Message). all_inside (inside []) m.causes) queue.messages (each queue.messages)))
  where
    all : (cs : List Stamp) → all_inside (inside []) cs ≡ true
    all [] = refl
    all (c ∷ cs) = all cs

    each : (ms : List Message) → AllByRecursion (λ (m : Message). all_inside (inside []) m.causes ≡ true) ms
    each [] = tt
    each (m ∷ ms) = (all m.causes, each ms)

-- a queue of which all is kept, where its sender stays as it is
pub kept-all : (flow : Dataflow) (choice : Choice) (e : ℕ) (queue : MessagesState) → None ≡ front_at (cut_of choice (sender flow e)) → queue ≡ queue_kept flow choice e queue
kept-all flow choice e queue n =
    from-all queue ∙ ap (λ (cut : Cut). queue_from (front_of_cut cut) queue) (sym (cut_stays (cut_of choice (sender flow e)) n))

-- what is kept of a queue, where its sender is cut to the frontier
pub kept-from : (flow : Dataflow) (choice : Choice) (e : ℕ) (f : Front) (queue : MessagesState) → Some f ≡ front_at (cut_of choice (sender flow e))
    → queue_from f queue ≡ queue_kept flow choice e queue
kept-from flow choice e f queue s = ap (λ (cut : Cut). queue_from (front_of_cut cut) queue) (sym (cut_is (cut_of choice (sender flow e)) f s))

-- ---- inputs and outputs

-- an input that is changed, where one without batches is not
pub source-set : (change : SourceState → SourceState) (sources : List SourceState) (s : ℕ) → change (unused_source []) ≡ unused_source []
    → source_at (with_source change sources s) s ≡ change (source_at sources s)
source-set change sources s none = elim (cases_lt s (length sources)) [
  | inl l ↦ get_or-set_same sources s (change (source_at sources s)) (unused_source []) l
  | inr l ↦
      let past : source_at sources s ≡ unused_source [] = get_or_past sources s (unused_source []) l in
      get_or_past (with_source change sources s) s (unused_source []) (omega (arith, length-set sources s (change (source_at sources s))))
      ∙ sym (ap change past ∙ none)
]

pub output-set : (change : OutputState → OutputState) (outputs : List OutputState) (o : ℕ) → change new_output ≡ new_output
    → output_at (with_output change outputs o) o ≡ change (output_at outputs o)
output-set change outputs o none = elim (cases_lt o (length outputs)) [
  | inl l ↦ get_or-set_same outputs o (change (output_at outputs o)) new_output l
  | inr l ↦
      let past : output_at outputs o ≡ new_output = get_or_past outputs o new_output l in
      get_or_past (with_output change outputs o) o new_output (omega (arith, length-set outputs o (change (output_at outputs o))))
      ∙ sym (ap change past ∙ none)
]

-- nothing is rolled of an input without batches, and nothing cleared of a new output
pub rolled-unused : (cut : Cut) → rolled_source cut (unused_source []) ≡ unused_source []
rolled-unused Present = refl
rolled-unused (At f) = refl

pub after-new : (cut : Cut) → output_after cut new_output ≡ new_output
after-new Present = refl
after-new (At f) = refl

-- what is before the next place, and not at this one, is before this one
before : (n p : ℕ) → p < n + 1 → n ≢ p → p < n
before n p k s = elim (cases_lt p n) [
  | inl m ↦ m
  | inr m ↦ absurd (s (omega arith))
]

-- Of the inputs those before place n are rolled.
pub record AreRolledBefore (choice : Choice) (n : ℕ) (first now : List SourceState) : Type 0 where
  pub done : (s : ℕ) → s < n → source_at now s ≡ rolled_source (cut_of choice s) (source_at first s)
  pub rest : (s : ℕ) → n ≤ s → source_at now s ≡ source_at first s
  pub each : length now ≡ length first

pub sources-more : (choice : Choice) (n : ℕ) (first now next : List SourceState) → AreRolledBefore choice n first now
    → next ≡ with_source (rolled_source (cut_of choice n)) now n → AreRolledBefore choice (n + 1) first next
sources-more choice n first now next h e = record {
  done = λ s l. elim (cases_eq n s) [
    | inl same ↦
        let P : ℕ → Type 0 = λ q. source_at next q ≡ rolled_source (cut_of choice q) (source_at first q) in
        subst P same
        (ap (λ (xs : List SourceState). source_at xs n) e ∙ source-set (rolled_source (cut_of choice n)) now n (rolled-unused (cut_of choice n))
        ∙ ap (rolled_source (cut_of choice n)) (h.rest n (omega arith)))
    | inr other ↦ stay s other ∙ h.done s (before n s l other)
  ];
  rest = λ s l. stay s (λ z. absurd (omega (arith, z))) ∙ h.rest s (omega arith);
  each = ap length e ∙ length-set now n (rolled_source (cut_of choice n) (source_at now n)) ∙ h.each;
}
  where
    stay : (s : ℕ) → n ≢ s → source_at next s ≡ source_at now s
    stay s other = ap (λ (xs : List SourceState). source_at xs s) e ∙ get_or-set_other now n s (rolled_source (cut_of choice n) (source_at now n)) (unused_source []) (λ z. other (sym z))

-- Of the outputs those before place n are cut.
pub record AreClearedBefore (choice : Choice) (n : ℕ) (first now : OutputsState) : Type 0 where
  pub done : (o : ℕ) → o < n → output_at now.outputs o ≡ output_after (cut_of choice o) (output_at first.outputs o)
  pub rest : (o : ℕ) → n ≤ o → output_at now.outputs o ≡ output_at first.outputs o
  pub refused : now.refused ≡ first.refused
  pub each : length now.outputs ≡ length first.outputs

pub outputs-more : (choice : Choice) (n : ℕ) (first now next : OutputsState) → AreClearedBefore choice n first now
    → next ≡ record now { outputs = with_output (output_after (cut_of choice n)) now.outputs n } → AreClearedBefore choice (n + 1) first next
outputs-more choice n first now next h e = record {
  done = λ s l. elim (cases_eq n s) [
    | inl same ↦
        let P : ℕ → Type 0 = λ q. output_at next.outputs q ≡ output_after (cut_of choice q) (output_at first.outputs q) in
        subst P same
        (ap (λ (xs : OutputsState). output_at xs.outputs n) e ∙ output-set (output_after (cut_of choice n)) now.outputs n (after-new (cut_of choice n))
        ∙ ap (output_after (cut_of choice n)) (h.rest n (omega arith)))
    | inr other ↦ stay s other ∙ h.done s (before n s l other)
  ];
  rest = λ s l. stay s (λ z. absurd (omega (arith, z))) ∙ h.rest s (omega arith);
  refused = ap (λ (xs : OutputsState). xs.refused) e ∙ h.refused;
  each = ap (λ (xs : OutputsState). length xs.outputs) e ∙ length-set now.outputs n (output_after (cut_of choice n) (output_at now.outputs n)) ∙ h.each;
}
  where
    stay : (s : ℕ) → n ≢ s → output_at next.outputs s ≡ output_at now.outputs s
    stay s other =
        ap (λ (xs : OutputsState). output_at xs.outputs s) e
        ∙ get_or-set_other now.outputs n s (output_after (cut_of choice n) (output_at now.outputs n)) new_output (λ z. other (sym z))

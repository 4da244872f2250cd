-- A well-formed dataflow and batches of its sources are a well-formed system.
use Rattle.std.proofs.Common.{◌≡◌, ℕ, ◌^◌, ◌≤◌, ◌==◌, ◌||◌, Bool, true, false, cond, List, [], ◌∷◌, ◌++◌, map, length, refl, sym, ◌∙◌, ap, subst, arith, inl, inr, get_or}
use Rattle.std.proofs.lemmas.Bool.{cases_lt, eqb-true, false≢true}
use Rattle.std.proofs.lemmas.List.{get_or_past}
use Rattle.std.proofs.lemmas.List.FromFn.{get_or-map-range_with_len, length-map-range_with_len}
use Rattle.std.specs.List.{AllByRecursion, flat_map, range_with_len}
use Rattle.fw_bag.specs.declared.rec.Rec.{Rec}
use Rattle.fw_lines.specs.Batches.{batches_at, IsBatch, AreBatchesOf}
use Rattle.fw_lines.specs.Sources.{is_source}
use Rattle.fw_flow.specs.Dataflow.{Dataflow, kind_of, node_at, is_input_kind, node_ids, batches_of, batches_of_nodes, system_of}
use Rattle.fw_flow.specs.Sources.{source_named_at, sources_of}
use Rattle.fw_flow.specs.WellFormed.{IsWellFormed, IsWellFormedSystem}

-- what is true of no batches and of the batches of a node is true of those at its place
at_place : (Q : List (List Rec) → Type 0) (f : ℕ → List (List Rec)) (n p : ℕ) → Q [] → Q (f p) → Q (get_or (map f (range_with_len 0 n)) p [])
at_place Q f n p none some =
    elim (cases_lt p n) [
      | inl lt ↦ subst Q (sym (get_or-map-range_with_len f 0 n p p [] lt (omega arith))) some
      | inr ge ↦ subst Q (sym (get_or_past (map f (range_with_len 0 n)) p [] (omega (arith, ge, length-map-range_with_len f 0 n)))) none
    ]

-- a node of another kind is no source
other_than : (flow : Dataflow) (p place : ℕ) (rest : List (List ℕ × ℕ)) (b : Bool) → is_input_kind (kind_of flow place) ≡ b → is_input_kind (kind_of flow p) ≡ false
    → is_source rest p ≡ false → is_source (cond b (((node_at flow place).name, place) ∷ []) [] ++ rest) p ≡ false
other_than flow p place rest false e k h = h
other_than flow p place rest true e k h = by (place == p) refl
  where
    by : (b : Bool) → (place == p) ≡ b → (b || is_source rest p) ≡ false
    by false same = h
    by true same = absurd (false≢true (sym k ∙ ap (λ q. is_input_kind (kind_of flow q)) (sym (eqb-true place p same)) ∙ e))

no_source : (flow : Dataflow) (p : ℕ) (nodes : List ℕ) → is_input_kind (kind_of flow p) ≡ false → is_source (flat_map (source_named_at flow) nodes) p ≡ false
no_source flow p [] k = refl
no_source flow p (q ∷ nodes) k = other_than flow p q (flat_map (source_named_at flow) nodes) (is_input_kind (kind_of flow q)) refl k (no_source flow p nodes k)

-- the system of batches that are given for each node
pub well_formed-given : (flow : Dataflow) (given : ℕ → List (List Rec)) → IsWellFormed flow → AreBatchesOf (sources_of flow) given → IsWellFormedSystem (record { flow = flow; batches = map given (node_ids flow) })
unfolding batches_of
well_formed-given flow given w a = record {
  flow = w;
  one_each = length-map-range_with_len given 0 (length flow.nodes);
  of_inputs = λ p k. at_place (λ b. b ≡ []) given (length flow.nodes) p refl (a.of_sources p (no_source flow p (node_ids flow) k));
  few = λ p. at_place (λ b. length b ≤ 2 ^ 20) given (length flow.nodes) p (omega arith) (a.few p);
  batches = λ p. at_place (AllByRecursion IsBatch) given (length flow.nodes) p tt (a.bags p);
}

pub well_formed-system_of : (flow : Dataflow) (batches : List (ℕ × List (List Rec))) → IsWellFormed flow → AreBatchesOf (sources_of flow) (batches_at batches) → IsWellFormedSystem (system_of flow batches)
unfolding batches_of_nodes
well_formed-system_of flow batches = well_formed-given flow (batches_at batches)

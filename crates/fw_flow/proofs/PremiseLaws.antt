-- What is true of a flow and its batches, from what a test of each place says.
use Rattle.std.proofs.Common.{◌≡◌, ℕ, ◌^◌, ◌<◌, ◌≤◌, Bool, true, false, ◌==◌, ◌&&◌, ◌||◌, nat_le, List, [], ◌∷◌, length, map, refl, sym, ◌∙◌, ap, subst, arith, get_or}
use Rattle.std.proofs.lemmas.Bool.Decides.{nat_tests}
use Rattle.std.proofs.lemmas.List.{get_or_past}
use Rattle.std.proofs.lemmas.List.FromFn.{get_or-map-range_with_len, length-map-range_with_len}
use Rattle.std.specs.List.{AllByRecursion}
use Rattle.fw_bag.specs.declared.rec.Rec.{Rec}
use Rattle.fw_lines.specs.Batches.{batches_at, IsBatch, AreBatches}
use Rattle.fw_flow.specs.Kind.{Kind}
use Rattle.fw_flow.specs.Check.{HoldsBelow}
use Rattle.fw_flow.specs.Dataflow.{Dataflow, kind_of, is_input_kind, node_ids, batches_of, batches_of_nodes, system_of}
use Rattle.fw_flow.specs.Premises.{may_have}
use Rattle.fw_flow.specs.WellFormed.{IsWellFormed, IsWellFormedSystem}
use Rattle.fw_flow.proofs.EdgeLaws.{by_place}

-- a node of this kind may have these batches
abbrev pub MayHave : Dataflow → List (ℕ × List (List Rec)) → ℕ → Type 0
MayHave flow batches p = may_have (kind_of flow p) (length (batches_at batches p)) ≡ true

none_of : (batches : List (List Rec)) → length batches ≡ 0 → batches ≡ []
none_of [] e = refl
none_of (b ∷ bs) e = absurd (omega arith)

-- the batches of a node that is there, or none
at_place : (Q : List (List Rec) → Type 0) (flow : Dataflow) (batches : List (ℕ × List (List Rec))) (p : ℕ) → Q [] → (p < length flow.nodes → Q (batches_at batches p)) → Q (batches_of (system_of flow batches) p)
unfolding batches_of batches_of_nodes
at_place Q flow batches p none some =
    by_place (Q (get_or (map (batches_at batches) (node_ids flow)) p [])) p (length flow.nodes)
    (λ lt. subst Q (sym (get_or-map-range_with_len (batches_at batches) 0 (length flow.nodes) p p [] lt (omega arith))) (some lt))
    (λ ge. subst Q (sym (get_or_past (map (batches_at batches) (node_ids flow)) p [] (omega (arith, ge, length-map-range_with_len (batches_at batches) 0 (length flow.nodes))))) none)

there : (flow : Dataflow) (batches : List (ℕ × List (List Rec))) (p : ℕ) → p < length flow.nodes → batches_of (system_of flow batches) p ≡ batches_at batches p
unfolding batches_of batches_of_nodes
there flow batches p lt = get_or-map-range_with_len (batches_at batches) 0 (length flow.nodes) p p [] lt (omega arith)

-- a node of another kind has none
other_has_none : (kind : Kind) (count : ℕ) → may_have kind count ≡ true → is_input_kind kind ≡ false → count ≡ 0
other_has_none kind count h k = by (is_input_kind kind) (count == 0) refl h k
  where
    by : (input none : Bool) → (count == 0) ≡ none → (none || (input && nat_le count (2 ^ 20))) ≡ true → input ≡ false → count ≡ 0
    by input true e t i = grind (arith, nat_tests)
    by true false e t i = absurd (cc)
    by false false e t i = absurd (cc)

few : (kind : Kind) (count : ℕ) → may_have kind count ≡ true → count ≤ 2 ^ 20
few kind count h = by (is_input_kind kind) (count == 0) (nat_le count (2 ^ 20)) refl refl h
  where
    by : (input none small : Bool) → (count == 0) ≡ none → nat_le count (2 ^ 20) ≡ small → (none || (input && small)) ≡ true → count ≤ 2 ^ 20
    by input true small e f t = grind (arith, nat_tests)
    by input false true e f t = grind (arith, nat_tests)
    by true false false e f t = absurd (cc)
    by false false false e f t = absurd (cc)

-- where each node may have its batches, they are a well-formed system
pub well_formed-below : (flow : Dataflow) (batches : List (ℕ × List (List Rec))) (n : ℕ) → length flow.nodes ≤ n → IsWellFormed flow → AreBatches batches → HoldsBelow (MayHave flow batches) n
    → IsWellFormedSystem (system_of flow batches)
unfolding batches_of_nodes
well_formed-below flow batches n all w bags h = record {
  flow = w;
  one_each = length-map-range_with_len (batches_at batches) 0 (length flow.nodes);
  of_inputs = λ p k. at_place (λ b. b ≡ []) flow batches p refl (λ lt. none_of (batches_at batches p) (other_has_none (kind_of flow p) (length (batches_at batches p)) (h p (omega arith)) k));
  few = λ p. at_place (λ b. length b ≤ 2 ^ 20) flow batches p (omega arith) (λ lt. few (kind_of flow p) (length (batches_at batches p)) (h p (omega arith)));
  batches = λ p. at_place (AllByRecursion IsBatch) flow batches p tt (λ lt. bags p);
}

-- in a well-formed system each node that is there may have its batches
pub may_have-there : (flow : Dataflow) (batches : List (ℕ × List (List Rec))) (p : ℕ) → p < length flow.nodes → IsWellFormedSystem (system_of flow batches) → MayHave flow batches p
may_have-there flow batches p lt w = by (is_input_kind (kind_of flow p)) refl
  where
    count : ℕ
    count = length (batches_at batches p)

    same : batches_of (system_of flow batches) p ≡ batches_at batches p
    same = there flow batches p lt

    by : (input : Bool) → is_input_kind (kind_of flow p) ≡ input → (length (batches_at batches p) == 0 || (input && nat_le (length (batches_at batches p)) (2 ^ 20))) ≡ true
    by true k = few_enough (length (batches_at batches p)) (subst (λ b. length b ≤ 2 ^ 20) same (w.few p))
      where
        few_enough : (m : ℕ) → m ≤ 2 ^ 20 → (m == 0 || nat_le m (2 ^ 20)) ≡ true
        few_enough m h = grind (arith, nat_tests)
    by false k = ap (λ b. length b == 0 || false) (sym same ∙ w.of_inputs p k)

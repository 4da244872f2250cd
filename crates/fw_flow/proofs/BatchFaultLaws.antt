-- What is true of a flow and its batches where one more is added.
use Rattle.std.proofs.Common.{◌≡◌, ℕ, ◌+◌, ◌^◌, ◌<◌, ◌≤◌, Bool, true, false, not, ◌==◌, ◌&&◌, ◌||◌, cond, nat_le, List, [], ◌∷◌, ◌++◌, length, length-append, Some, None, refl, ◌∙◌, ap, subst, arith, eqb-true}
use Rattle.std.proofs.lemmas.Bool.Decides.{nat_tests}
use Rattle.fw_bag.specs.declared.rec.Rec.{Rec}
use Rattle.fw_lines.proofs.BatchLaws.{AreBatches-kept}
use Rattle.fw_lines.specs.Batches.{batches_at, AreBatches, AddsBatch, KeepsBatches}
use Rattle.fw_flow.specs.declared.batches.BatchFault.TheVariants.{NoNode, NoInput, TooMany}
use Rattle.fw_flow.specs.BatchFaults.{batch_fault}
use Rattle.fw_flow.specs.Dataflow.{Dataflow, kind_of, is_input_kind, system_of}
use Rattle.fw_flow.specs.Premises.{may_have}
use Rattle.fw_flow.specs.WellFormed.{IsWellFormed, IsWellFormedSystem}
use Rattle.fw_flow.proofs.PremiseLaws.{MayHave, well_formed-below, may_have-there}

-- where each node may have its new batches if it may have its old ones, the system stays well formed
stays_if : (flow : Dataflow) (old new : List (ℕ × List (List Rec))) → AreBatches new → ((p : ℕ) → MayHave flow old p → MayHave flow new p)
    → IsWellFormedSystem (system_of flow old) → IsWellFormedSystem (system_of flow new)
stays_if flow old new bags more h = well_formed-below flow new (length flow.nodes) (omega arith) h.flow bags (λ p lt. more p (may_have-there flow old p lt h))

-- it stays so where each node keeps its batches
pub stays-kept : (flow : Dataflow) (old new : List (ℕ × List (List Rec))) → AreBatches old → KeepsBatches old new → IsWellFormedSystem (system_of flow old) → IsWellFormedSystem (system_of flow new)
stays-kept flow old new bags kept = stays_if flow old new (AreBatches-kept old new bags kept) (λ p may. ap (λ b. may_have (kind_of flow p) (length b)) (kept p) ∙ may)

-- and where an input that has fewer than 2^20 batches has one more
pub stays-added : (flow : Dataflow) (old new : List (ℕ × List (List Rec))) (node : ℕ) (batch : List Rec) → AreBatches new → AddsBatch old new node batch
    → is_input_kind (kind_of flow node) ≡ true → length (batches_at old node) < 2 ^ 20 → IsWellFormedSystem (system_of flow old) → IsWellFormedSystem (system_of flow new)
stays-added flow old new node batch bags adds input few =
    stays_if flow old new bags (λ p may. ap (λ b. may_have (kind_of flow p) (length b)) (adds p) ∙ by p (node == p) refl may)
  where
    one_more : (n : ℕ) (is_input : Bool) → is_input ≡ true → n < 2 ^ 20 → (n + 1 == 0 || (is_input && nat_le (n + 1) (2 ^ 20))) ≡ true
    one_more n true i lt = grind (arith, nat_tests)
    one_more n false i lt = absurd (cc)

    by : (p : ℕ) (t : Bool) → (node == p) ≡ t → MayHave flow old p → may_have (kind_of flow p) (length (cond t (batches_at old p ++ batch ∷ []) (batches_at old p))) ≡ true
    by p true e may =
        let same : node ≡ p = eqb-true node p e in
        ap (may_have (kind_of flow p)) (length-append (batches_at old p) (batch ∷ []))
        ∙ one_more (length (batches_at old p)) (is_input_kind (kind_of flow p)) (subst (λ q. is_input_kind (kind_of flow q) ≡ true) same input) (subst (λ q. length (batches_at old q) < 2 ^ 20) same few)
    by p false e may = may

-- a well-formed dataflow without batches is a well-formed system
pub without_batches : (flow : Dataflow) → IsWellFormed flow → IsWellFormedSystem (system_of flow [])
without_batches flow w = well_formed-below flow [] (length flow.nodes) (omega arith) w (λ node. tt) (λ p lt. refl)

-- ---- what is wrong with one more batch

-- where nothing is wrong, the node is an input that has fewer than 2^20 batches
pub may_be_added : (flow : Dataflow) (batches : List (ℕ × List (List Rec))) (node : ℕ) → batch_fault flow batches node ≡ None
    → (is_input_kind (kind_of flow node) ≡ true) × (length (batches_at batches node) < 2 ^ 20)
may_be_added flow batches node h = by (nat_le (length flow.nodes) node) (is_input_kind (kind_of flow node)) (nat_le (2 ^ 20) (length (batches_at batches node))) refl refl refl h
  where
    by : (past input many : Bool) → nat_le (length flow.nodes) node ≡ past → is_input_kind (kind_of flow node) ≡ input → nat_le (2 ^ 20) (length (batches_at batches node)) ≡ many
        → cond past (Some (NoNode node)) (cond (not input) (Some (NoInput node)) (cond many (Some (TooMany node)) None)) ≡ None
        → (is_input_kind (kind_of flow node) ≡ true) × (length (batches_at batches node) < 2 ^ 20)
    by true input many a b c e = absurd (cc)
    by false false many a b c e = absurd (cc)
    by false true true a b c e = absurd (cc)
    by false true false a b c e = (b, grind (arith, nat_tests))

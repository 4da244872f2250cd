-- Batches of nodes in a row, and as batches by node.
use Rattle.std.proofs.Common.{◌≡◌, ℕ, zero, suc, ◌+◌, ◌<◌, Bool, ◌==◌, cond, List, [], ◌∷◌, length, map, get_or, Some, unwrap_or, refl, ap, ◌∙◌, arith}
use Rattle.std.specs.List.{enumerate_from, range_with_len}
use Rattle.std.specs.Map.{lookup}
use Rattle.std.proofs.lemmas.Bool.{eq-eqb, ne_eqb}
use Rattle.fw_bag.specs.declared.rec.Rec.{Rec}
use Rattle.fw_flow.specs.Dataflow.{Dataflow, batches_of_nodes}
use Rattle.fw_lines.specs.Batches.{batches_at}
use Rattle.fw_root.specs.OfFlow.{Given}
use Rattle.fw_lasting.specs.Given.{batches_by_node}

at-from : (a p : ℕ) (bs : List (List (List Rec))) → unwrap_or (lookup (λ k. (a + p) == k) (enumerate_from a bs)) [] ≡ get_or bs p []
at-from a p [] = refl
at-from a zero (b ∷ bs) =
    let here : a + zero ≡ a = omega arith in
    ap (λ (t : Bool). unwrap_or (cond t (Some b) (lookup (λ k. (a + zero) == k) (enumerate_from (a + 1) bs))) []) (eq-eqb (a + zero) a here)
at-from a (suc p) (b ∷ bs) =
    let next : a + suc p ≡ a + 1 + p = omega arith in
    ap (λ (t : Bool). unwrap_or (cond t (Some b) (lookup (λ k. (a + suc p) == k) (enumerate_from (a + 1) bs))) [])
    (ne_eqb (a + suc p) a (λ e. omega (arith, e)))
    ∙ ap (λ n. unwrap_or (lookup (λ k. n == k) (enumerate_from (a + 1) bs)) []) next ∙ at-from (a + 1) p bs

-- those of a node are its own
pub given-at : (batches : List (List (List Rec))) (p : ℕ) → batches_at (batches_by_node batches) p ≡ get_or batches p []
given-at batches p =
    let place : p ≡ 0 + p = omega arith in
    ap (λ n. unwrap_or (lookup (λ k. n == k) (enumerate_from 0 batches)) []) place ∙ at-from 0 p batches

-- in a row again, where there is a list for each node
places-again : (n a : ℕ) (f : ℕ → List (List Rec)) (bs : List (List (List Rec))) → length bs ≡ n → ((p : ℕ) → p < n → f (a + p) ≡ get_or bs p [])
    → map f (range_with_len a n) ≡ bs
places-again zero a f [] l e = refl
places-again zero a f (b ∷ bs) l e = absurd (omega (arith, l))
places-again (suc n) a f [] l e = absurd (omega (arith, l))
places-again (suc n) a f (b ∷ bs) l e =
    let first : a ≡ a + 0 = omega arith in
    let here : f a ≡ b = ap f first ∙ e 0 (omega arith) in
    let few : length bs ≡ n = omega (arith, l) in
    let rest = places-again n (a + 1) f bs few (λ p m.
    let place : a + 1 + p ≡ a + suc p = omega arith in
    ap f place ∙ e (suc p) (omega (arith, m))) in
    ap (λ x. x ∷ map f (range_with_len (a + 1) n)) here ∙ ap (λ xs. b ∷ xs) rest

-- where batches by node are those in a row, they make it
pub row-again : (flow : Dataflow) (given : Given) (batches : List (List (List Rec))) → length batches ≡ length flow.nodes
    → ((p : ℕ) → p < length flow.nodes → batches_at given p ≡ get_or batches p []) → batches_of_nodes flow given ≡ batches
unfolding batches_of_nodes
row-again flow given batches many each =
    places-again (length flow.nodes) 0 (batches_at given) batches many
    (λ p l. let place : 0 + p ≡ p = omega arith in ap (batches_at given) place ∙ each p l)

pub given-nodes : (flow : Dataflow) (batches : List (List (List Rec))) → length batches ≡ length flow.nodes
    → batches_of_nodes flow (batches_by_node batches) ≡ batches
given-nodes flow batches many = row-again flow (batches_by_node batches) batches many (λ p l. given-at batches p)

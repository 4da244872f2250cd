-- The places of the edges that are picked from a list by one of their ends.
use Rattle.std.proofs.Common.{◌≡◌, ℕ, zero, suc, ◌+◌, ◌<◌, Bool, true, false, ◌==◌, cond, List, [], ◌∷◌, length, get_or, refl, sym, subst, arith}
use Rattle.std.specs.List.{AllByRecursion}
use Rattle.std.proofs.lemmas.Bool.{eqb-true, eq-eqb}
use Rattle.fw_flow.specs.declared.node.Edge.{Edge}

-- what holds of each place that is picked holds of the place of each edge with that end
pub picked-at : (places : ℕ → List Edge → List ℕ) (end : Edge → ℕ) (p : ℕ)
    → ((n : ℕ) (e : Edge) (es : List Edge) → places n (e ∷ es) ≡ cond (end e == p) (n ∷ places (n + 1) es) (places (n + 1) es))
    → (P : ℕ → Type 0) (n : ℕ) (es : List Edge) (d : Edge) → AllByRecursion P (places n es) → (i : ℕ) → i < length es → end (get_or es i d) ≡ p → P (n + i)
picked-at places end p step P n [] d a i l r = absurd (omega arith)
picked-at places end p step P n (e ∷ es) d a zero l r =
    let b : AllByRecursion P (n ∷ places (n + 1) es) =
    subst (λ x. AllByRecursion P (cond x (n ∷ places (n + 1) es) (places (n + 1) es))) (eq-eqb (end e) p r) (subst (AllByRecursion P) (step n e es) a) in
    subst P (omega arith) b.0
picked-at places end p step P n (e ∷ es) d a (suc i) l r =
    subst P (omega arith) (picked-at places end p step P (n + 1) es d (rest (end e == p) (subst (AllByRecursion P) (step n e es) a)) i (omega arith) r)
  where
    rest : (b : Bool) → AllByRecursion P (cond b (n ∷ places (n + 1) es) (places (n + 1) es)) → AllByRecursion P (places (n + 1) es)
    rest true k = k.1
    rest false k = k

-- and what holds of the place of each edge with that end holds of each place that is picked
pub picked-from : (places : ℕ → List Edge → List ℕ) (end : Edge → ℕ) (p : ℕ) → ((n : ℕ) → places n [] ≡ [])
    → ((n : ℕ) (e : Edge) (es : List Edge) → places n (e ∷ es) ≡ cond (end e == p) (n ∷ places (n + 1) es) (places (n + 1) es))
    → (P : ℕ → Type 0) (n : ℕ) (es : List Edge) (d : Edge) → ((i : ℕ) → i < length es → end (get_or es i d) ≡ p → P (n + i)) → AllByRecursion P (places n es)
picked-from places end p empty step P n [] d h = subst (AllByRecursion P) (sym (empty n)) tt
picked-from places end p empty step P n (e ∷ es) d h =
    let rest : AllByRecursion P (places (n + 1) es) = picked-from places end p empty step P (n + 1) es d (λ i l r. subst P (omega arith) (h (suc i) (omega arith) r)) in
    subst (AllByRecursion P) (sym (step n e es)) (both (end e == p) refl rest)
  where
    both : (b : Bool) → end e == p ≡ b → AllByRecursion P (places (n + 1) es) → AllByRecursion P (cond b (n ∷ places (n + 1) es) (places (n + 1) es))
    both true k a = (subst P (omega arith) (h 0 (omega arith) (eqb-true (end e) p k)), a)
    both false k a = a

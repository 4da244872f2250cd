-- Edges listed by their ends.
use Rattle.std.proofs.Common.{◌≡◌, inl, inr, ℕ, zero, suc, ◌+◌, ◌<◌, ◌==◌, cond, List, [], ◌∷◌, ◌++◌, length, map, take, set, get_or, refl, sym, ap, ◌∙◌, subst, arith}
use Rattle.std.proofs.lemmas.Bool.{cases_eq, eq-eqb, ne_eqb}
use Rattle.std.proofs.lemmas.List.{take_more, length-take-le}
use Rattle.std.specs.declared.alloc.Global.{Global}
use Rattle.std.specs.declared.vec.Vec.{Vec}
use Rattle.fw_flow.specs.declared.node.Edge.{Edge}
use Rattle.fw_flow.specs.declared.walks.Link.{Link}
use Rattle.fw_flow.specs.Dataflow.{edges_into, edges_from}
use Rattle.fw_flow.specs.Flow.{edges_at}
use Rattle.fw_flow.specs.Parts.{places_from}
use Rattle.fw_flow.specs.Walks.{link_of}

-- one more list without an edge
pub edges_at-push_empty : (lists : List (Vec ℕ Global)) (v : Vec ℕ Global) → v.items ≡ [] → ((p : ℕ) → edges_at lists p ≡ []) → (p : ℕ) → edges_at (lists ++ v ∷ []) p ≡ []
edges_at-push_empty [] v e h zero = e
edges_at-push_empty [] v e h (suc p) = refl
edges_at-push_empty (x ∷ lists) v e h zero = h zero
edges_at-push_empty (x ∷ lists) v e h (suc p) = edges_at-push_empty lists v e (λ q. h (suc q)) p

-- a list that takes the place of another
pub edges_at-set_same : (lists : List (Vec ℕ Global)) (i : ℕ) (v : Vec ℕ Global) → i < length lists → edges_at (set lists i v) i ≡ v.items
edges_at-set_same [] i v lt = absurd (omega arith)
edges_at-set_same (x ∷ lists) zero v lt = refl
edges_at-set_same (x ∷ lists) (suc i) v lt = edges_at-set_same lists i v (omega arith)

pub edges_at-set_other : (lists : List (Vec ℕ Global)) (i p : ℕ) (v : Vec ℕ Global) → (p ≡ i → ⊥) → edges_at (set lists i v) p ≡ edges_at lists p
edges_at-set_other [] i p v other = refl
edges_at-set_other (x ∷ lists) zero zero v other = absurd (other refl)
edges_at-set_other (x ∷ lists) zero (suc p) v other = refl
edges_at-set_other (x ∷ lists) (suc i) zero v other = refl
edges_at-set_other (x ∷ lists) (suc i) (suc p) v other = edges_at-set_other lists i p v (λ e. other (ap suc e))

-- one more end that is the node, and one that is not
places_from-push_same : (n : ℕ) (ends : List ℕ) (p : ℕ) → places_from n (ends ++ p ∷ []) p ≡ places_from n ends p ++ (n + length ends) ∷ []
places_from-push_same n [] p = ap (λ b. cond b (n ∷ []) []) (eq-eqb p p refl) ∙ ap (λ k. k ∷ []) (omega arith)
places_from-push_same n (end ∷ ends) p =
    let rest = places_from-push_same (n + 1) ends p in
    let count : n + 1 + length ends ≡ n + length (end ∷ ends) = omega arith in
    let more = rest ∙ ap (λ (k : ℕ). places_from (n + 1) ends p ++ k ∷ []) count in
    elim (cases_eq end p) [
      | inl same ↦ rw (eq-eqb end p same) (ap (λ (l : List ℕ). n ∷ l) more)
      | inr other ↦ rw (ne_eqb end p other) more
    ]

places_from-push_other : (n : ℕ) (ends : List ℕ) (end p : ℕ) → (end ≡ p → ⊥) → places_from n (ends ++ end ∷ []) p ≡ places_from n ends p
places_from-push_other n [] end p other = ap (λ b. cond b (n ∷ []) []) (ne_eqb end p other)
places_from-push_other n (x ∷ ends) end p other =
    let rest = places_from-push_other (n + 1) ends end p other in
    elim (cases_eq x p) [
      | inl same ↦ rw (eq-eqb x p same) (ap (λ (l : List ℕ). n ∷ l) rest)
      | inr differs ↦ rw (ne_eqb x p differs) rest
    ]

-- one more edge, listed at its end
pub edges_at-more : (lists : List (Vec ℕ Global)) (ends : List ℕ) (i : ℕ) (v : Vec ℕ Global) → i < length ends → get_or ends i 0 < length lists
    → v.items ≡ edges_at lists (get_or ends i 0) ++ i ∷ [] → ((p : ℕ) → edges_at lists p ≡ places_from 0 (take i ends) p)
    → (p : ℕ) → edges_at (set lists (get_or ends i 0) v) p ≡ places_from 0 (take (i + 1) ends) p
edges_at-more lists ends i v lt inside is so_far p =
    let end = get_or ends i 0 in
    let more = take_more ends i 0 lt in
    let count = length-take-le i ends (omega arith) in
    elim (cases_eq p end) [
      | inl same ↦
          subst (λ q. edges_at (set lists end v) q ≡ places_from 0 (take (i + 1) ends) q) (sym same)
          (edges_at-set_same lists end v inside ∙ is ∙ ap (λ (l : List ℕ). l ++ i ∷ []) (so_far end)
          ∙ ap (λ (k : ℕ). places_from 0 (take i ends) end ++ k ∷ []) (sym (omega (arith, count)))
          ∙ sym (places_from-push_same 0 (take i ends) end) ∙ ap (λ (l : List ℕ). places_from 0 l end) (sym more))
      | inr other ↦
          edges_at-set_other lists end p v other ∙ so_far p
          ∙ sym (places_from-push_other 0 (take i ends) end p (λ e. other (sym e)))
          ∙ ap (λ (l : List ℕ). places_from 0 l p) (sym more)
    ]

-- the edges to a node and from it, by the ends of links
pub places_from-receivers : (n : ℕ) (edges : List Edge) (p : ℕ) → places_from n (map (λ (l : Link). l.receiver) (map link_of edges)) p ≡ edges_into n edges p
places_from-receivers n [] p = refl
places_from-receivers n (e ∷ edges) p =
    ap (λ (l : List ℕ). cond (e.receiver == p) (n ∷ l) l) (places_from-receivers (n + 1) edges p)

pub places_from-senders : (n : ℕ) (edges : List Edge) (p : ℕ) → places_from n (map (λ (l : Link). l.sender) (map link_of edges)) p ≡ edges_from n edges p
places_from-senders n [] p = refl
places_from-senders n (e ∷ edges) p =
    ap (λ (l : List ℕ). cond (e.sender == p) (n ∷ l) l) (places_from-senders (n + 1) edges p)

-- Edges with their fronts, one for each edge of a node, in order.
use Rattle.std.proofs.Common.{◌≡◌, ◌⊎◌, inl, inr, ℕ, suc, ◌+◌, ◌<◌, ◌≤◌, ◌^◌, ◌==◌, Bool, true, List, [], ◌∷◌, ◌++◌, length, get_or, take, refl, sym, ◌∙◌, ap, subst, arith}
use Rattle.std.specs.Prelude.{nat_lt}
use Rattle.std.specs.List.{AllByRecursion, AllZip}
use Rattle.std.specs.Option.{option_map_or}
use Rattle.std.proofs.lemmas.Bool.{and_from, both_ways, cond_both, eqb-true, eq-eqb, lt-ltb}
use Rattle.std.proofs.lemmas.List.{take_more}
use Rattle.fw_lemmas.proofs.Each.{each-weaker, each-both, each-at}
use Rattle.fw_lemmas.proofs.Lists.{last_of}
use Rattle.fw_lemmas.proofs.SideBySide.{zip-append}
use Rattle.fw_frontier.specs.Frontier.{Frontier}
use Rattle.fw_frontier.specs.Front.{Front, frontier_of, IsCanonical, IsFrontOf}
use Rattle.fw_flow.specs.declared.choice.OfEdge.{OfEdge}
use Rattle.fw_flow.specs.declared.node.Edge.{Edge}
use Rattle.fw_flow.specs.Dataflow.{Dataflow, receiver, in_edges, out_edges, edges_into, edges_from, bounds_of}
use Rattle.fw_flow.specs.WellFormed.{IsWellFormed}
use Rattle.fw_flow.proofs.OutEdgeLaws.{out_edges-from}
use Rattle.fw_model.specs.Offers.{AreFrontsOfEdges, front_of_edge}
use Rattle.fw_bytes.specs.Sound.{IsFront, each_may_follow}
use Rattle.fw_record.specs.Sound.{AreOfEdges, may_follow_edges}
use Rattle.fw_record.specs.Sound as sound
use Rattle.fw_bytes.specs.Spelling.{IsCountable}
use Rattle.fw_record.specs.Spelling.{HasCountableEdges}
use Rattle.fw_bytes.proofs.FrontLaws.{sound_of_canonical}
use Rattle.fw_stands.specs.Written.{edges_of}
use Rattle.fw_stands.proofs.SpellingLaws.{stamps_have_spellings}
use Rattle.fw_settle.specs.Checkpoints.{IsOfEdge}

-- ---- a loop over edges

-- the next edge of a loop over them
pub zip_next : (Is : ℕ → Front → Type 0) (es : List ℕ) (i e : ℕ) (xs next : List OfEdge) (x : OfEdge) → i < length es → e ≡ get_or es i e
    → AllZip (IsOfEdge Is) (take i es) xs → x.edge ≡ e → Is e x.front → next ≡ xs ++ x ∷ [] → AllZip (IsOfEdge Is) (take (i + 1) es) next
zip_next Is es i e xs next x l is a k f n =
    subst (λ (ys : List OfEdge). AllZip (IsOfEdge Is) (take (i + 1) es) ys) (sym n)
    (subst (λ (ds : List ℕ). AllZip (IsOfEdge Is) ds (xs ++ x ∷ [])) (sym (take_more es i e l ∙ ap (λ d. take i es ++ d ∷ []) (sym is)))
    (zip-append (IsOfEdge Is) (take i es) xs (e ∷ []) (x ∷ []) a (record { edge = k; front = f }, tt)))

-- an out-edge of a node is there
pub out_edge : (flow : Dataflow) (p : ℕ) (edges : List ℕ) (i e : ℕ) → edges ≡ out_edges flow p → i < length edges → e ≡ get_or edges i e → e < length flow.edges
out_edge flow p edges i e es l is =
    let P : ℕ → Type 0 = λ d. d < length flow.edges in
    let found : P (get_or edges i e) = each-at P edges i e l (subst (AllByRecursion P) (sym es) (out_edges-from P flow p (λ d k s. k))) in
    subst P (sym is) found

-- ---- what is listed for each edge

-- the edges that are listed
pub zip-edges : (Is : ℕ → Front → Type 0) (es : List ℕ) (xs : List OfEdge) → AllZip (IsOfEdge Is) es xs → edges_of xs ≡ es
zip-edges Is [] [] a = refl
zip-edges Is [] (x ∷ xs) a = absurd a
zip-edges Is (e ∷ es) [] a = absurd a
zip-edges Is (e ∷ es) (x ∷ xs) a = ap (λ d. d ∷ edges_of xs) a.0.edge ∙ ap (λ ds. e ∷ ds) (zip-edges Is es xs a.1)

-- what is listed is a front of what counts there
abbrev pub IsFrontOfEdge : Dataflow → (ℕ → Frontier) → OfEdge → Type 0
IsFrontOfEdge flow counts x = IsFrontOf (bounds_of flow (receiver flow x.edge)) x.front (counts x.edge)

pub zip-fronts : (Is : ℕ → Front → Type 0) (flow : Dataflow) (counts : ℕ → Frontier) (es : List ℕ) (xs : List OfEdge)
    → AllByRecursion (λ e. (front : Front) → Is e front → IsFrontOf (bounds_of flow (receiver flow e)) front (counts e)) es
    → AllZip (IsOfEdge Is) es xs → AllByRecursion (IsFrontOfEdge flow counts) xs
zip-fronts Is flow counts [] [] k a = tt
zip-fronts Is flow counts [] (x ∷ xs) k a = absurd a
zip-fronts Is flow counts (e ∷ es) [] k a = absurd a
zip-fronts Is flow counts (e ∷ es) (x ∷ xs) k a = (
  subst (λ d. IsFrontOf (bounds_of flow (receiver flow d)) x.front (counts d)) (sym a.0.edge) (k.0 x.front a.0.front),
  zip-fronts Is flow counts es xs k.1 a.1,
)

pub fronts-of_edges : (flow : Dataflow) (counts : ℕ → Frontier) (xs : List OfEdge) → AllByRecursion (IsFrontOfEdge flow counts) xs → AreFrontsOfEdges flow xs
fronts-of_edges flow counts xs a =
    each-weaker (IsFrontOfEdge flow counts) (λ (x : OfEdge). IsCanonical (bounds_of flow (receiver flow x.edge)) x.front) xs (λ x f. f.canonical) a

-- the edge is one of these
abbrev pub IsAmong : ℕ → List ℕ → Type 0
IsAmong d [] = ⊥
IsAmong d (e ∷ es) = (e ≡ d) ⊎ IsAmong d es

pub each-among : (es : List ℕ) → AllByRecursion (λ d. IsAmong d es) es
each-among [] = tt
each-among (e ∷ es) = (inl refl, each-weaker (λ d. IsAmong d es) (λ d. IsAmong d (e ∷ es)) es (λ d i. inr i) (each-among es))

-- what is listed for an edge is what counts there
pub front-at : (flow : Dataflow) (counts : ℕ → Frontier) (d : ℕ) (xs : List OfEdge) → AllByRecursion (IsFrontOfEdge flow counts) xs → IsAmong d (edges_of xs)
    → front_of_edge (bounds_of flow (receiver flow d)) d xs ≡ counts d
front-at flow counts d [] a i = absurd i
front-at flow counts d (x ∷ xs) a i =
    let b = bounds_of flow (receiver flow d) in
    cond_both (x.edge == d) (frontier_of b x.front) (front_of_edge b d xs) (λ (f : Frontier). f ≡ counts d)
    (λ k.
    let IsIts : ℕ → Type 0 = λ n. frontier_of (bounds_of flow (receiver flow n)) x.front ≡ counts n in
    let its : IsIts x.edge = λ j t. a.0.same t j in
    subst IsIts (eqb-true x.edge d k) its)
    (λ k.
    front-at flow counts d xs a.1 (elim i [
      | inl s ↦ absurd (both_ways (x.edge == d) k (eq-eqb x.edge d s))
      | inr l ↦ l
    ]))

-- ---- edges in order have a spelling

-- each is at least the first number, and greater than those before it
abbrev Ascend : ℕ → List ℕ → Type 0
Ascend n [] = Unit {0}
Ascend n (e ∷ es) = (n ≤ e) × Ascend (suc e) es

into-ascend : (k n : ℕ) (es : List Edge) (p : ℕ) → n ≤ k → Ascend n (edges_into k es p)
into-ascend k n [] p l = tt
into-ascend k n (e ∷ es) p l =
    cond_both (e.receiver == p) (k ∷ edges_into (k + 1) es p) (edges_into (k + 1) es p) (Ascend n)
    (λ i. (l, into-ascend (k + 1) (suc k) es p (omega arith))) (λ i. into-ascend (k + 1) n es p (omega arith))

from-ascend : (k n : ℕ) (es : List Edge) (p : ℕ) → n ≤ k → Ascend n (edges_from k es p)
from-ascend k n [] p l = tt
from-ascend k n (e ∷ es) p l =
    cond_both (e.sender == p) (k ∷ edges_from (k + 1) es p) (edges_from (k + 1) es p) (Ascend n)
    (λ i. (l, from-ascend (k + 1) (suc k) es p (omega arith))) (λ i. from-ascend (k + 1) n es p (omega arith))

in_edges-ascend : (flow : Dataflow) (p : ℕ) → Ascend 0 (in_edges flow p)
unfolding in_edges
in_edges-ascend flow p = into-ascend 0 0 flow.edges p (omega arith)

out_edges-ascend : (flow : Dataflow) (p : ℕ) → Ascend 0 (out_edges flow p)
unfolding out_edges
out_edges-ascend flow p = from-ascend 0 0 flow.edges p (omega arith)

abbrev rule : List OfEdge → OfEdge → Bool
rule before e = may_follow_edges before e.edge

follow-last : (before : List OfEdge) (y : OfEdge) (xs : List OfEdge) → Ascend (suc y.edge) (edges_of xs) → each_may_follow rule (before ++ y ∷ []) xs ≡ true
follow-last before y [] a = refl
follow-last before y (x ∷ xs) a =
    let next = ap (λ o. option_map_or (λ (last : OfEdge). nat_lt last.edge x.edge) o true) (last_of before y) ∙ lt-ltb y.edge x.edge a.0 in
    and_from (rule (before ++ y ∷ []) x) (each_may_follow rule ((before ++ y ∷ []) ++ x ∷ []) xs) next (follow-last (before ++ y ∷ []) x xs a.1)

edges-follow : (n : ℕ) (xs : List OfEdge) → Ascend n (edges_of xs) → each_may_follow rule [] xs ≡ true
edges-follow n [] a = refl
edges-follow n (x ∷ xs) a = and_from true (each_may_follow rule (x ∷ []) xs) refl (follow-last [] x xs a.1)

-- a canonical front of a node that has a count of four bytes has a spelling
pub front-sound : (flow : Dataflow) → IsWellFormed flow → (p : ℕ) (f : Front) → length f < 2 ^ 32 → IsCanonical (bounds_of flow p) f → IsFront f
front-sound flow w p f few c = sound_of_canonical (bounds_of flow p) f (stamps_have_spellings flow w p).0 few c

edges-sound : (flow : Dataflow) → IsWellFormed flow → (es : List ℕ) (xs : List OfEdge) → AllByRecursion (λ e. e < length flow.edges) es → Ascend 0 es
    → edges_of xs ≡ es → AreFrontsOfEdges flow xs → HasCountableEdges xs → AreOfEdges xs
edges-sound flow w es xs there a is c few =
    let limit = w.limits.edges in
    let T : OfEdge → Type 0 = λ x. x.edge < length flow.edges in
    let C : OfEdge → Type 0 = λ x. IsCanonical (bounds_of flow (receiver flow x.edge)) x.front in
    let F : OfEdge → Type 0 = λ x. IsCountable x.front in
    record {
      few = few.edges;
      parts = each-weaker (λ x. T x × (C x × F x)) sound.IsEdgeFront xs
          (λ x k. let there = k.0 in record { edge = omega (arith, limit, there); front = front-sound flow w (receiver flow x.edge) x.front k.1.1 k.1.0 })
          (each-both T (λ x. C x × F x) xs (of_edges xs (subst (AllByRecursion (λ e. e < length flow.edges)) (sym is) there)) (each-both C F xs c few.fronts));
      follow = edges-follow 0 xs (subst (Ascend 0) (sym is) a);
    }
  where
    of_edges : (ys : List OfEdge) → AllByRecursion (λ e. e < length flow.edges) (edges_of ys) → AllByRecursion (λ (x : OfEdge). x.edge < length flow.edges) ys
    of_edges [] k = tt
    of_edges (y ∷ ys) k = (k.0, of_edges ys k.1)

pub in_edges-sound : (flow : Dataflow) → IsWellFormed flow → (p : ℕ) (xs : List OfEdge) → edges_of xs ≡ in_edges flow p → AreFrontsOfEdges flow xs → HasCountableEdges xs
    → AllByRecursion (λ e. e < length flow.edges) (in_edges flow p) → AreOfEdges xs
in_edges-sound flow w p xs is c few there = edges-sound flow w (in_edges flow p) xs there (in_edges-ascend flow p) is c few

pub out_edges-sound : (flow : Dataflow) → IsWellFormed flow → (p : ℕ) (xs : List OfEdge) → edges_of xs ≡ out_edges flow p → AreFrontsOfEdges flow xs → HasCountableEdges xs
    → AllByRecursion (λ e. e < length flow.edges) (out_edges flow p) → AreOfEdges xs
out_edges-sound flow w p xs is c few there = edges-sound flow w (out_edges flow p) xs there (out_edges-ascend flow p) is c few

-- The lists of a node's in-edges, changed one after the other.
use Rattle.std.proofs.Common.{◌≡◌, ℕ, zero, suc, ◌+◌, ◌<◌, Bool, true, false, not, ◌&&◌, ◌||◌, ◌==◌, cond, List, [], ◌∷◌, ◌++◌, length, get_or, take, refl, sym, ap, subst, ◌∙◌, inl, inr, arith}
use Rattle.std.specs.Prelude.{filter}
use Rattle.std.specs.List.{AllByRecursion, list_any}
use Rattle.std.proofs.lemmas.Bool.{cases_eq, cases_Bool, eq-eqb, eqb-true, false_from_ne_true, both_ways, or_cases, or_left, or_right, or_parts, not-true}
use Rattle.std.proofs.lemmas.List.{take_more}
use Rattle.fw_lemmas.proofs.Each.{each-one, each-at, each-filter, each-kept}
use Rattle.fw_time.specs.Stamp.{Stamp, lesser, in_domain}
use Rattle.fw_frontier.specs.Frontier.{Frontier}
use Rattle.fw_frontier.specs.Front.{Front, inside, frontier_of}
use Rattle.fw_flow.specs.declared.node.Edge.{Edge}
use Rattle.fw_flow.specs.Dataflow.{Dataflow, receiver, edges_into, in_edges}
use Rattle.fw_model.specs.Thinned.{IsThinned}
use Rattle.fw_model.proofs.DependenceLaws.{in_edges-each}
use Rattle.fw_progress.specs.Counts.{is_in}
use Rattle.fw_progress.specs.Progress.{ChangesAt}
use Rattle.fw_progress.specs.Traces.{has_greater_inside, thinned, IsThinnedBy, StandsInside, ChangesInto}

abbrev Lists : Type 0
Lists = List (List Stamp)

abbrev Change : Type 1
Change = List Stamp → List Stamp → Type 0

-- ---- two changes are one

any-left : (test keep : Stamp → Bool) (ss : List Stamp) → list_any test ss ≡ false → list_any test (filter keep ss) ≡ false
any-left test keep [] e = refl
any-left test keep (s ∷ ss) e = let parts = or_parts (test s) (list_any test ss) e in by (keep s) parts.0 (any-left test keep ss parts.1)
  where
    by : (b : Bool) → test s ≡ false → list_any test (filter keep ss) ≡ false → list_any test (cond b (s ∷ filter keep ss) (filter keep ss)) ≡ false
    by true k ih = ap (λ c. c || list_any test (filter keep ss)) k ∙ ih
    by false k ih = ih

all-kept : (keep : Stamp → Bool) (ss : List Stamp) → AllByRecursion (λ s. keep s ≡ true) ss → filter keep ss ≡ ss
all-kept keep [] a = refl
all-kept keep (s ∷ ss) a = ap (λ b. cond b (s ∷ filter keep ss) (filter keep ss)) a.0 ∙ ap (λ ts. s ∷ ts) (all-kept keep ss a.1)

-- what is thinned once is thinned
thinned-again : (f : Front) (ss : List Stamp) → thinned f (thinned f ss) ≡ thinned f ss
thinned-again f ss =
    let left = thinned f ss in
    all-kept (λ s. not (has_greater_inside f left s)) left
    (each-filter (λ s. not (has_greater_inside f left s) ≡ true) (λ s. not (has_greater_inside f ss s)) ss
    (each-one (λ s. not (has_greater_inside f ss s) ≡ true → not (has_greater_inside f left s) ≡ true) ss
    (λ s k. ap not (any-left (λ t. inside f t && lesser s t) (λ t. not (has_greater_inside f ss t)) ss (not-true (has_greater_inside f ss s) k)))))

pub thinned-twice : (f : Front) (a b c : List Stamp) → IsThinnedBy f a b → IsThinnedBy f b c → IsThinnedBy f a c
thinned-twice f a b c x y = y ∙ ap (thinned f) x ∙ thinned-again f a

filter-twice : (g : Frontier) (ss : List Stamp) → filter g (filter g ss) ≡ filter g ss
filter-twice g [] = refl
filter-twice g (s ∷ ss) = by (g s) refl (filter-twice g ss)
  where
    by : (b : Bool) → g s ≡ b → filter g (filter g ss) ≡ filter g ss → filter g (cond b (s ∷ filter g ss) (filter g ss)) ≡ cond b (s ∷ filter g ss) (filter g ss)
    by true e ih = ap (λ c. cond c (s ∷ filter g (filter g ss)) (filter g (filter g ss))) e ∙ ap (λ ts. s ∷ ts) ih
    by false e ih = ih

pub cut-twice : (f : Front) (a b c : List Stamp) → StandsInside f a b → StandsInside f b c → StandsInside f a c
cut-twice f a b c x y bounds base all d w h =
    let g = frontier_of bounds f in
    subst (λ ss. IsThinned base ss c) (filter-twice g all)
    (y bounds base (filter g all) (each-kept (λ s. in_domain bounds s ≡ true) g all d) w (x bounds base all d w h))

-- ---- in-edges

pub in_edge : (flow : Dataflow) (p : ℕ) (edges : List ℕ) (i e : ℕ) → edges ≡ in_edges flow p → i < length edges → e ≡ get_or edges i e → e < length flow.edges
in_edge flow p edges i e es l is =
    let P : ℕ → Type 0 = λ d. (d < length flow.edges) × (receiver flow d ≡ p) in
    let found : P (get_or edges i e) = each-at P edges i e l (subst (AllByRecursion P) (sym es) (in_edges-each flow p)) in
    subst (λ d. d < length flow.edges) (sym is) found.0

has-each : (P : ℕ → Type 0) (edges : List ℕ) (d : ℕ) → AllByRecursion P edges → is_in edges d ≡ true → P d
has-each P [] d a k = absurd (cc)
has-each P (e ∷ edges) d a k = elim (or_cases (e == d) (is_in edges d) k) [
  | inl j ↦ subst P (eqb-true e d j) a.0
  | inr j ↦ has-each P edges d a.1 j
]

into-has : (n i d : ℕ) (es : List Edge) (p : ℕ) (z : Edge) → d ≡ n + i → i < length es → (get_or es i z).receiver ≡ p → is_in (edges_into n es p) d ≡ true
into-has n i d [] p z k l r = absurd (omega arith)
into-has n zero d (x ∷ es) p z k l r =
    ap (λ b. is_in (cond b (n ∷ edges_into (n + 1) es p) (edges_into (n + 1) es p)) d) (eq-eqb x.receiver p r) ∙ or_left (n == d) (is_in (edges_into (n + 1) es p) d) (eq-eqb n d (omega arith))
into-has n (suc i) d (x ∷ es) p z k l r = by (x.receiver == p) (into-has (n + 1) i d es p z (omega arith) (omega arith) r)
  where
    by : (b : Bool) → is_in (edges_into (n + 1) es p) d ≡ true → is_in (cond b (n ∷ edges_into (n + 1) es p) (edges_into (n + 1) es p)) d ≡ true
    by true j = or_right (n == d) (is_in (edges_into (n + 1) es p) d) j
    by false j = j

has-in_edge : (flow : Dataflow) (p d : ℕ) → d < length flow.edges → receiver flow d ≡ p → is_in (in_edges flow p) d ≡ true
unfolding in_edges receiver
has-in_edge flow p d l r = into-has 0 d d flow.edges p (record { name = []; sender = length flow.nodes; receiver = length flow.nodes }) (omega arith) l r

-- ---- one after the other

-- the lists of these edges are changed so, and the others are as they were
pub record IsChanging (R : Change) (edges : List ℕ) (old new : Lists) : Type 0 where
  pub one_each : length new ≡ length old
  pub here : (d : ℕ) → is_in edges d ≡ true → R (get_or old d []) (get_or new d [])
  pub others : (d : ℕ) → is_in edges d ≡ false → get_or new d [] ≡ get_or old d []

pub changing_none : (R : Change) (old : Lists) → IsChanging R [] old old
changing_none R old = record { one_each = refl; here = λ d k. absurd (cc); others = λ d k. refl }

pub in-push : (xs : List ℕ) (x d : ℕ) → is_in (xs ++ x ∷ []) d ≡ (is_in xs d || (x == d))
in-push [] x d = by (x == d)
  where
    by : (b : Bool) → (b || false) ≡ b
    by true = refl
    by false = refl
in-push (y ∷ ys) x d = by (y == d) (in-push ys x d)
  where
    by : (b : Bool) → is_in (ys ++ x ∷ []) d ≡ (is_in ys d || (x == d)) → (b || is_in (ys ++ x ∷ []) d) ≡ ((b || is_in ys d) || (x == d))
    by true e = refl
    by false e = e

pub changing_more : (R : Change) → ((a b c : List Stamp) → R a b → R b c → R a c) → (edges : List ℕ) (i x : ℕ) (old mid new : Lists)
    → i < length edges → x ≡ get_or edges i x → IsChanging R (take i edges) old mid → ChangesAt x [] R mid new → IsChanging R (take (i + 1) edges) old new
changing_more R twice edges i x old mid new l is a c =
    let more : take (i + 1) edges ≡ so_far ++ x ∷ [] = take_more edges i x l ∙ ap (λ y. so_far ++ y ∷ []) (sym is) in
    subst (λ es. IsChanging R es old new) (sym more) (record { one_each = c.one_each ∙ a.one_each; here = here; others = others })
  where
    so_far : List ℕ
    so_far = take i edges

    at_x : R (get_or old x []) (get_or new x [])
    at_x = elim (cases_Bool (is_in so_far x)) [
      | inl k ↦ twice (get_or old x []) (get_or mid x []) (get_or new x []) (a.here x k) c.here
      | inr k ↦ subst (λ ss. R ss (get_or new x [])) (a.others x k) c.here
    ]

    here : (d : ℕ) → is_in (so_far ++ x ∷ []) d ≡ true → R (get_or old d []) (get_or new d [])
    here d k = elim (cases_eq d x) [
      | inl e ↦ subst (λ n. R (get_or old n []) (get_or new n [])) (sym e) at_x
      | inr n ↦ elim (or_cases (is_in so_far d) (x == d) (sym (in-push so_far x d) ∙ k)) [
        | inl j ↦ subst (R (get_or old d [])) (sym (c.others d n)) (a.here d j)
        | inr j ↦ absurd (n (sym (eqb-true x d j)))
      ]
    ]

    others : (d : ℕ) → is_in (so_far ++ x ∷ []) d ≡ false → get_or new d [] ≡ get_or old d []
    others d k =
        let none : (is_in so_far d || (x == d)) ≡ false = sym (in-push so_far x d) ∙ k in
        c.others d (λ e. both_ways (is_in so_far d || (x == d)) none (or_right (is_in so_far d) (x == d) (eq-eqb x d (sym e))))
        ∙ a.others d (false_from_ne_true (is_in so_far d) (λ j. both_ways (is_in so_far d || (x == d)) none (or_left (is_in so_far d) (x == d) j)))

pub all_changed : (flow : Dataflow) (p : ℕ) (R : Change) (edges : List ℕ) (old new : Lists) → edges ≡ in_edges flow p → IsChanging R edges old new → ChangesInto flow p R old new
all_changed flow p R edges old new is a = record {
  one_each = a.one_each;
  here = λ d l r. a.here d (ap (λ es. is_in es d) is ∙ has-in_edge flow p d l r);
  others = λ d n. a.others d (false_from_ne_true (is_in edges d)
      (λ k. n (has-each (λ e. (e < length flow.edges) × (receiver flow e ≡ p)) edges d (subst (AllByRecursion (λ e. (e < length flow.edges) × (receiver flow e ≡ p))) (sym is) (in_edges-each flow p)) k).1));
}

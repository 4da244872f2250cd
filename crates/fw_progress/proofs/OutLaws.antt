-- The lists of a node's out-edges, changed one after the other.
use Rattle.std.proofs.Common.{◌≡◌, ℕ, zero, suc, ◌+◌, ◌<◌, ◌≤◌, true, false, ◌||◌, ◌==◌, List, [], ◌∷◌, ◌++◌, length, get_or, take, refl, sym, ap, subst, ◌∙◌, inl, inr, arith}
use Rattle.std.specs.List.{AllByRecursion}
use Rattle.std.proofs.lemmas.Bool.{cases_eq, cases_lt, cond_both, eq-eqb, eqb-true, false_from_ne_true, both_ways, or_cases, or_left, or_right}
use Rattle.std.proofs.lemmas.List.{get_or_past, take_more}
use Rattle.fw_lemmas.proofs.Each.{each-weaker, each-at}
use Rattle.fw_time.specs.Stamp.{Stamp}
use Rattle.fw_flow.specs.declared.node.Edge.{Edge}
use Rattle.fw_flow.specs.Dataflow.{Dataflow, sender, edges_from, out_edges, is_one_of}
use Rattle.fw_flow.proofs.OutEdgeLaws.{out_edges-at, out_edges-from}
use Rattle.fw_progress.specs.Progress.{ChangesAt}
use Rattle.fw_progress.specs.Traces.{ChangesOut, ChangesEachOut}
use Rattle.fw_progress.proofs.IntoLaws.{in-push}

abbrev Lists : Type 0
Lists = List (List Stamp)

abbrev Change : Type 1
Change = List Stamp → List Stamp → Type 0

-- ---- out-edges

-- the places from n on are no lesser
none-lesser : (n : ℕ) (es : List Edge) (p : ℕ) → AllByRecursion (λ e. n ≤ e) (edges_from n es p)
none-lesser n [] p = tt
none-lesser n (x ∷ es) p =
    let rest = each-weaker (λ e. n + 1 ≤ e) (λ e. n ≤ e) (edges_from (n + 1) es p) (λ e l. omega arith) (none-lesser (n + 1) es p) in
    cond_both (x.sender == p) (n ∷ edges_from (n + 1) es p) (edges_from (n + 1) es p) (AllByRecursion (λ e. n ≤ e)) (λ k. (omega arith, rest)) (λ k. rest)

-- none of the edges before a place is the edge there
abbrev AreApart : List ℕ → Type 0
AreApart es = (i d : ℕ) → i < length es → d ≡ get_or es i d → is_one_of d (take i es) ≡ false

apart-more : (n : ℕ) (es : List ℕ) → AllByRecursion (λ e. n + 1 ≤ e) es → AreApart es → AreApart (n ∷ es)
apart-more n es a h zero d l is = refl
apart-more n es a h (suc i) d l is =
    let more : n + 1 ≤ d = subst (λ e. n + 1 ≤ e) (sym is) (each-at (λ e. n + 1 ≤ e) es i d (omega arith) a) in
    ap (λ b. b || is_one_of d (take i es)) (false_from_ne_true (n == d) (λ k. let same = eqb-true n d k in omega arith)) ∙ h i d (omega arith) is

from-apart : (n : ℕ) (es : List Edge) (p : ℕ) → AreApart (edges_from n es p)
from-apart n [] p = λ i d l is. absurd (omega arith)
from-apart n (x ∷ es) p =
    let rest = from-apart (n + 1) es p in
    cond_both (x.sender == p) (n ∷ edges_from (n + 1) es p) (edges_from (n + 1) es p) AreApart
    (λ k. apart-more n (edges_from (n + 1) es p) (none-lesser (n + 1) es p) rest) (λ k. rest)

-- the out-edge at a place is none of those before it
pub out_edge-new : (flow : Dataflow) (p i d : ℕ) → i < length (out_edges flow p) → d ≡ get_or (out_edges flow p) i d → is_one_of d (take i (out_edges flow p)) ≡ false
unfolding out_edges
out_edge-new flow p = from-apart 0 flow.edges p

each-among : (es : List ℕ) → AllByRecursion (λ e. is_one_of e es ≡ true) es
each-among [] = tt
each-among (x ∷ es) = (
  or_left (x == x) (is_one_of x es) (eq-eqb x x refl),
  each-weaker (λ e. is_one_of e es ≡ true) (λ e. ((x == e) || is_one_of e es) ≡ true) es (λ e k. or_right (x == e) (is_one_of e es) k) (each-among es),
)

among-holds : (P : ℕ → Type 0) (es : List ℕ) (e : ℕ) → is_one_of e es ≡ true → AllByRecursion P es → P e
among-holds P [] e k a = absurd (cc)
among-holds P (x ∷ es) e k a = elim (or_cases (x == e) (is_one_of e es) k) [
  | inl i ↦ subst P (eqb-true x e i) a.0
  | inr i ↦ among-holds P es e i a.1
]

-- an edge that a node sends on is one of its out-edges, and back
pub out-among : (flow : Dataflow) (p e : ℕ) → e < length flow.edges → sender flow e ≡ p → is_one_of e (out_edges flow p) ≡ true
out-among flow p e l s = out_edges-at (λ d. is_one_of d (out_edges flow p) ≡ true) flow p (each-among (out_edges flow p)) e l s

pub among-out : (flow : Dataflow) (p e : ℕ) → is_one_of e (out_edges flow p) ≡ true → sender flow e ≡ p
among-out flow p e k = among-holds (λ d. sender flow d ≡ p) (out_edges flow p) e k (out_edges-from (λ d. sender flow d ≡ p) flow p (λ d l s. s))

-- what a node sends on is an edge of the flow
pub sender-there : (flow : Dataflow) (p e : ℕ) → p < length flow.nodes → sender flow e ≡ p → e < length flow.edges
unfolding sender
sender-there flow p e l s = elim (cases_lt e (length flow.edges)) [
  | inl i ↦ i
  | inr past ↦
      let none : Edge = record { name = []; sender = length flow.nodes; receiver = length flow.nodes } in
      let z : length flow.nodes ≡ p = sym (ap (λ (d : Edge). d.sender) (get_or_past flow.edges e none past)) ∙ s in
      absurd (omega (arith, l, z))
]

-- ---- one after the other

-- the list of each of these edges is changed in its way, and the others are as they were
pub record AreChanging (R : ℕ → Change) (edges : List ℕ) (old new : Lists) : Type 0 where
  pub one_each : length new ≡ length old
  pub here : (d : ℕ) → is_one_of d edges ≡ true → R d (get_or old d []) (get_or new d [])
  pub others : (d : ℕ) → is_one_of d edges ≡ false → get_or new d [] ≡ get_or old d []

pub changing-none : (R : ℕ → Change) (old : Lists) → AreChanging R [] old old
changing-none R old = record { one_each = refl; here = λ d k. absurd (cc); others = λ d k. refl }

-- the list of the next out-edge is changed too
pub changing-more : (flow : Dataflow) (p : ℕ) (R : ℕ → Change) (edges : List ℕ) (i x : ℕ) (old mid new : Lists) → edges ≡ out_edges flow p
    → i < length edges → x ≡ get_or edges i x → AreChanging R (take i edges) old mid → ChangesAt x [] (R x) mid new → AreChanging R (take (i + 1) edges) old new
changing-more flow p R edges i x old mid new es l is a c =
    let more : take (i + 1) edges ≡ so_far ++ x ∷ [] = take_more edges i x l ∙ ap (λ y. so_far ++ y ∷ []) (sym is) in
    subst (λ ds. AreChanging R ds old new) (sym more) (record { one_each = c.one_each ∙ a.one_each; here = here; others = others })
  where
    so_far : List ℕ
    so_far = take i edges

    fresh : is_one_of x so_far ≡ false
    fresh =
        subst (λ ds. is_one_of x (take i ds) ≡ false) (sym es)
        (out_edge-new flow p i x (subst (λ ds. i < length ds) es l) (subst (λ ds. x ≡ get_or ds i x) es is))

    here : (d : ℕ) → is_one_of d (so_far ++ x ∷ []) ≡ true → R d (get_or old d []) (get_or new d [])
    here d k = elim (cases_eq d x) [
      | inl e ↦ subst (λ n. R n (get_or old n []) (get_or new n [])) (sym e) (subst (λ ss. R x ss (get_or new x [])) (a.others x fresh) c.here)
      | inr n ↦ elim (or_cases (is_one_of d so_far) (x == d) (sym (in-push so_far x d) ∙ k)) [
        | inl j ↦ subst (R d (get_or old d [])) (sym (c.others d n)) (a.here d j)
        | inr j ↦ absurd (n (sym (eqb-true x d j)))
      ]
    ]

    others : (d : ℕ) → is_one_of d (so_far ++ x ∷ []) ≡ false → get_or new d [] ≡ get_or old d []
    others d k =
        let none : (is_one_of d so_far || (x == d)) ≡ false = sym (in-push so_far x d) ∙ k in
        c.others d (λ e. both_ways (is_one_of d so_far || (x == d)) none (or_right (is_one_of d so_far) (x == d) (eq-eqb x d (sym e))))
        ∙ a.others d (false_from_ne_true (is_one_of d so_far) (λ j. both_ways (is_one_of d so_far || (x == d)) none (or_left (is_one_of d so_far) (x == d) j)))

-- so the lists of all out-edges are changed, each in its way
pub all-changed_out : (flow : Dataflow) (p : ℕ) (R : ℕ → Change) (edges : List ℕ) (old new : Lists) → edges ≡ out_edges flow p → AreChanging R edges old new → ChangesEachOut flow p R old new
all-changed_out flow p R edges old new is a = record {
  one_each = a.one_each;
  here = λ e l s. a.here e (ap (λ ds. is_one_of e ds) is ∙ out-among flow p e l s);
  others = λ e n. a.others e (false_from_ne_true (is_one_of e edges) (λ k. n (among-out flow p e (sym (ap (λ ds. is_one_of e ds) is) ∙ k))));
}

-- so they are changed, where all are changed in one way
pub changed-out : (flow : Dataflow) (p : ℕ) (R : Change) (edges : List ℕ) (old new : Lists) → edges ≡ out_edges flow p → AreChanging (λ e. R) edges old new → ChangesOut flow p R old new
changed-out flow p R edges old new is a = all-changed_out flow p (λ e. R) edges old new is a

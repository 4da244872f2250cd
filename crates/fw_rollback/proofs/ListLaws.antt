-- Lists that grow at their end, and edges that ascend.
use Rattle.std.proofs.Common.{◌≡◌, ◌≢◌, ℕ, zero, suc, ◌+◌, ◌≤◌, ◌<◌, Bool, true, false, ◌==◌, cond, List, [], ◌∷◌, ◌++◌, length, take, get_or, refl, sym, ap, subst, ◌∙◌, inl, inr, arith}
use Rattle.std.specs.List.{AllByRecursion, AllZip}
use Rattle.std.proofs.lemmas.Bool.{ne_eqb, or_from, cases_Bool, or_parts}
use Rattle.fw_lemmas.proofs.Each.{each-weaker, each-at}
use Rattle.fw_flow.specs.declared.node.Edge.{Edge}
use Rattle.fw_flow.specs.Dataflow.{Dataflow, edges_from, out_edges, sender}
use Rattle.fw_flow.proofs.OutEdgeLaws.{out_edges-at, out_edges-from}
use Rattle.fw_keep.specs.Catalogue.{AreAscending, is_id_among}
use Rattle.fw_keep.proofs.IdLaws.{each-among, among-self}

-- ---- the last one

pub record SameEnd {A : Type 0} (xs ys : List A) (x y : A) : Type 0 where
  pub before : xs ≡ ys
  pub last : x ≡ y

-- two lists that are equal have the same last one, and the same before it
pub same_end : {A : Type 0} (xs ys : List A) (x y : A) → xs ++ x ∷ [] ≡ ys ++ y ∷ [] → SameEnd xs ys x y
same_end [] [] x y e = record { before = refl; last = cc }
same_end [] (b ∷ []) x y e = absurd cc
same_end [] (b ∷ c ∷ ys) x y e = absurd cc
same_end (a ∷ []) [] x y e = absurd cc
same_end (a ∷ c ∷ xs) [] x y e = absurd cc
same_end {A = A} (a ∷ xs) (b ∷ ys) x y e =
    let first : a ≡ b = cc in
    let rest : xs ++ x ∷ [] ≡ ys ++ y ∷ [] = cc in
    let h = same_end xs ys x y rest in
    record { before = ap (λ (z : A). z ∷ xs) first ∙ ap (λ (zs : List A). b ∷ zs) h.before; last = h.last }

-- no list that has a last one is empty
pub not_empty : {A : Type 0} (xs : List A) (x : A) → [] ≢ (xs ++ x ∷ [])
not_empty [] x e = cc
not_empty (a ∷ xs) x e = cc

pub zip-push : {A B : Type 0} (R : A → B → Type 0) (xs : List A) (ys : List B) (x : A) (y : B) → AllZip R xs ys → R x y → AllZip R (xs ++ x ∷ []) (ys ++ y ∷ [])
zip-push R [] [] x y h r = (r, tt)
zip-push R [] (b ∷ ys) x y h r = absurd h
zip-push R (a ∷ xs) [] x y h r = absurd h
zip-push R (a ∷ xs) (b ∷ ys) x y h r = (h.0, zip-push R xs ys x y h.1 r)

-- what each pair gives of the second holds of each second
pub zip-each : {A B : Type 0} (R : A → B → Type 0) (P : A → Type 0) (Q : B → Type 0) → ((a : A) (b : B) → P a → R a b → Q b)
    → (xs : List A) (ys : List B) → AllByRecursion P xs → AllZip R xs ys → AllByRecursion Q ys
zip-each R P Q f [] [] p h = tt
zip-each R P Q f [] (b ∷ ys) p h = absurd h
zip-each R P Q f (a ∷ xs) [] p h = absurd h
zip-each R P Q f (a ∷ xs) (b ∷ ys) p h = (f a b p.0 h.0, zip-each R P Q f xs ys p.1 h.1)

-- ---- out-edges ascend

rise-from : (n : ℕ) (es : List Edge) (p : ℕ) → AllByRecursion (λ d. n ≤ d) (edges_from n es p)
rise-from n [] p = tt
rise-from n (e ∷ es) p =
    by (e.sender == p) (each-weaker (λ d. n + 1 ≤ d) (λ d. n ≤ d) (edges_from (n + 1) es p) (λ d l. omega arith) (rise-from (n + 1) es p))
  where
    by : (b : Bool) → AllByRecursion (λ d. n ≤ d) (edges_from (n + 1) es p)
        → AllByRecursion (λ d. n ≤ d) (cond b (n ∷ edges_from (n + 1) es p) (edges_from (n + 1) es p))
    by true later = (omega arith, later)
    by false later = later

rise : (n : ℕ) (es : List Edge) (p : ℕ) → AreAscending (edges_from n es p)
rise n [] p = tt
rise n (e ∷ es) p = by (e.sender == p) (rise (n + 1) es p)
  where
    by : (b : Bool) → AreAscending (edges_from (n + 1) es p) → AreAscending (cond b (n ∷ edges_from (n + 1) es p) (edges_from (n + 1) es p))
    by true h = (each-weaker (λ d. n + 1 ≤ d) (λ d. n < d) (edges_from (n + 1) es p) (λ d l. omega arith) (rise-from (n + 1) es p), h)
    by false h = h

pub out_edges-ascend : (flow : Dataflow) (p : ℕ) → AreAscending (out_edges flow p)
unfolding out_edges
out_edges-ascend flow p = rise 0 flow.edges p

-- of ascending numbers none is among those before it
pub not_among_earlier : (ds : List ℕ) (i d : ℕ) → i < length ds → AreAscending ds → is_id_among (get_or ds i d) (take i ds) ≡ false
not_among_earlier [] i d l a = absurd (omega arith)
not_among_earlier (x ∷ ds) zero d l a = refl
not_among_earlier (x ∷ ds) (suc i) d l a =
    let later : x < get_or ds i d = each-at (λ y. x < y) ds i d (omega arith) a.0 in
    or_from (x == get_or ds i d) (is_id_among (get_or ds i d) (take i ds)) (ne_eqb x (get_or ds i d) (λ e. absurd (omega (arith, e))))
    (not_among_earlier ds i d (omega arith) a.1)

-- an edge is among the out-edges of its sender
pub among_out_edges : (flow : Dataflow) (p e : ℕ) → e < length flow.edges → sender flow e ≡ p → is_id_among e (out_edges flow p) ≡ true
among_out_edges flow p e l s = out_edges-at (λ d. is_id_among d (out_edges flow p) ≡ true) flow p (among-self (out_edges flow p)) e l s

-- an edge from another node is not
pub not_among_out_edges : (flow : Dataflow) (p e : ℕ) → sender flow e ≢ p → is_id_among e (out_edges flow p) ≡ false
not_among_out_edges flow p e n = elim (cases_Bool (is_id_among e (out_edges flow p))) [
  | inl t ↦ absurd (n (each-among (λ d. sender flow d ≡ p) (out_edges flow p) e (out_edges-from (λ d. sender flow d ≡ p) flow p (λ d l s. s)) t))
  | inr f ↦ f
]

-- the out-edges of a node are edges
pub out_edges-there : (flow : Dataflow) (p : ℕ) → AllByRecursion (λ d. d < length flow.edges) (out_edges flow p)
out_edges-there flow p = out_edges-from (λ d. d < length flow.edges) flow p (λ d l s. l)

-- an out-edge is an edge
pub out_edge-there : (flow : Dataflow) (p : ℕ) (ds : List ℕ) (i d : ℕ) → ds ≡ out_edges flow p → i < length ds → d ≡ get_or ds i d → d < length flow.edges
out_edge-there flow p ds i d e l at =
    let P : List ℕ → Type 0 = λ xs. AllByRecursion (λ x. x < length flow.edges) xs in
    subst (λ x. x < length flow.edges) (sym at) (each-at (λ x. x < length flow.edges) ds i d l (subst P (sym e) (out_edges-there flow p)))

-- what is not among numbers is not among the first of them
pub not_among_first : (ds : List ℕ) (n e : ℕ) → is_id_among e ds ≡ false → is_id_among e (take n ds) ≡ false
not_among_first [] zero e h = refl
not_among_first [] (suc n) e h = refl
not_among_first (d ∷ ds) zero e h = refl
not_among_first (d ∷ ds) (suc n) e h =
    let parts = or_parts (d == e) (is_id_among e ds) h in
    or_from (d == e) (is_id_among e (take n ds)) parts.0 (not_among_first ds n e parts.1)

-- Which nodes of a graph reach which, as a test; it holds exactly where a path of some edges leads there.
use Rattle.std.proofs.Common.{◌≡◌, ℕ, zero, suc, ◌<◌, ◌≤◌, ◌⊎◌, inl, inr, Bool, true, false, ◌&&◌, ◌||◌, ◌==◌, List, [], ◌∷◌, ◌++◌, length, refl, sym, ap, ◌∙◌, subst, arith, length-append}
use Rattle.std.proofs.lemmas.Bool.{or_cases, or_left, or_right, and_parts, and_from, eqb-true, eq-eqb, cases_eq}
use Rattle.fw_flow.specs.Walks.{Graph, IsPath, Path}

-- whether a free edge among the first m leads from p to q
abbrev pub leads : Graph → ℕ → ℕ → ℕ → Bool
leads g zero p q = false
leads g (suc m) p q = (g.is_free m && ((g.source m == p) && (g.target m == q))) || leads g m p q

-- whether a path of some edges leads from p to q, between them only through nodes below k
abbrev pub reach : Graph → ℕ → ℕ → ℕ → Bool
reach g zero p q = leads g g.size p q
reach g (suc k) p q = reach g k p q || (reach g k p k && reach g k k q)

-- ---- a path for each true test

IsPath-append : (g : Graph) (p : ℕ) (es : List ℕ) (q : ℕ) (fs : List ℕ) (r : ℕ) → IsPath g p es q → IsPath g q fs r → IsPath g p (es ++ fs) r
IsPath-append g p [] q fs r h k = subst (λ x. IsPath g x fs r) (sym h) k
IsPath-append g p (e ∷ es) q fs r h k = (h.0, h.1, h.2, IsPath-append g (g.target e) es q fs r h.3 k)

pub Path-append : (g : Graph) (p q r : ℕ) → Path g p q → Path g q r → Path g p r
Path-append g p q r a b = record {
  edges = a.edges ++ b.edges;
  some = omega (arith, length-append a.edges b.edges, a.some);
  path = IsPath-append g p a.edges q b.edges r a.path b.path;
}

-- a free edge is a path
pub Path-of_edge : (g : Graph) (e : ℕ) → e < g.size → g.is_free e ≡ true → Path g (g.source e) (g.target e)
Path-of_edge g e lt free = record { edges = e ∷ []; some = omega arith; path = (lt, free, refl, refl) }

Path-from_leads : (g : Graph) (m p q : ℕ) → m ≤ g.size → leads g m p q ≡ true → Path g p q
Path-from_leads g zero p q le h = absurd (cc)
Path-from_leads g (suc m) p q le h =
    elim (or_cases (g.is_free m && ((g.source m == p) && (g.target m == q))) (leads g m p q) h) [
      | inl a ↦
          let parts = and_parts (g.is_free m) ((g.source m == p) && (g.target m == q)) a in
          let ends = and_parts (g.source m == p) (g.target m == q) parts.1 in
          record {
            edges = m ∷ [];
            some = omega arith;
            path = (omega arith, parts.0, eqb-true (g.source m) p ends.0, eqb-true (g.target m) q ends.1);
          }
      | inr b ↦ Path-from_leads g m p q (omega arith) b
    ]

pub Path-from_reach : (g : Graph) (k p q : ℕ) → reach g k p q ≡ true → Path g p q
Path-from_reach g zero p q h = Path-from_leads g g.size p q (omega arith) h
Path-from_reach g (suc k) p q h =
    elim (or_cases (reach g k p q) (reach g k p k && reach g k k q) h) [
      | inl a ↦ Path-from_reach g k p q a
      | inr b ↦
          let parts = and_parts (reach g k p k) (reach g k k q) b in
          Path-append g p k q (Path-from_reach g k p k parts.0) (Path-from_reach g k k q parts.1)
    ]

-- ---- a true test for each path

leads-from_edge : (g : Graph) (m e : ℕ) → e < m → g.is_free e ≡ true → leads g m (g.source e) (g.target e) ≡ true
leads-from_edge g zero e lt free = absurd (omega arith)
leads-from_edge g (suc m) e lt free =
    elim (cases_eq e m) [
      | inl same ↦
          let ends = and_from (g.source m == g.source e) (g.target m == g.target e)
          (eq-eqb (g.source m) (g.source e) (ap g.source (sym same))) (eq-eqb (g.target m) (g.target e) (ap g.target (sym same))) in
          or_left (g.is_free m && ((g.source m == g.source e) && (g.target m == g.target e))) (leads g m (g.source e) (g.target e))
          (and_from (g.is_free m) ((g.source m == g.source e) && (g.target m == g.target e)) (ap g.is_free (sym same) ∙ free) ends)
      | inr other ↦
          or_right (g.is_free m && ((g.source m == g.source e) && (g.target m == g.target e))) (leads g m (g.source e) (g.target e))
          (leads-from_edge g m e (omega arith) free)
    ]

reach-from_leads : (g : Graph) (k p q : ℕ) → leads g g.size p q ≡ true → reach g k p q ≡ true
reach-from_leads g zero p q h = h
reach-from_leads g (suc k) p q h = or_left (reach g k p q) (reach g k p k && reach g k k q) (reach-from_leads g k p q h)

-- each free edge is seen
pub reach-from_edge : (g : Graph) (k e : ℕ) → e < g.size → g.is_free e ≡ true → reach g k (g.source e) (g.target e) ≡ true
reach-from_edge g k e lt free = reach-from_leads g k (g.source e) (g.target e) (leads-from_edge g g.size e lt free)

-- to k or from k, the node k between is no help
reach-to_next : (g : Graph) (k p : ℕ) → reach g (suc k) p k ≡ true → reach g k p k ≡ true
reach-to_next g k p h =
    elim (or_cases (reach g k p k) (reach g k p k && reach g k k k) h) [
      | inl a ↦ a
      | inr b ↦ (and_parts (reach g k p k) (reach g k k k) b).0
    ]

reach-from_next : (g : Graph) (k q : ℕ) → reach g (suc k) k q ≡ true → reach g k k q ≡ true
reach-from_next g k q h =
    elim (or_cases (reach g k k q) (reach g k k k && reach g k k q) h) [
      | inl a ↦ a
      | inr b ↦ (and_parts (reach g k k k) (reach g k k q) b).1
    ]

reach-through_next : (g : Graph) (k p q : ℕ) → reach g k p k ≡ true → reach g k k q ≡ true → reach g (suc k) p q ≡ true
reach-through_next g k p q a b =
    or_right (reach g k p q) (reach g k p k && reach g k k q) (and_from (reach g k p k) (reach g k k q) a b)

-- whether a path's test is true by an earlier node, or by way of k
abbrev Split : Graph → ℕ → ℕ → ℕ → Type 0
Split g k p q = (reach g k p q ≡ true) ⊎ ((reach g k p k ≡ true) × (reach g k k q ≡ true))

split_at : (g : Graph) (k p q : ℕ) → reach g (suc k) p q ≡ true → Split g k p q
split_at g k p q h =
    elim (or_cases (reach g k p q) (reach g k p k && reach g k k q) h) [
      | inl a ↦ inl a
      | inr b ↦ inr (and_parts (reach g k p k) (reach g k k q) b)
    ]

reach-join_split : (g : Graph) (k m p q : ℕ) → Split g k p m → Split g k m q
    → ((a b : ℕ) → reach g k a m ≡ true → reach g k m b ≡ true → reach g k a b ≡ true) → reach g (suc k) p q ≡ true
reach-join_split g k m p q (inl a) (inl b) join = or_left (reach g k p q) (reach g k p k && reach g k k q) (join p q a b)
reach-join_split g k m p q (inl a) (inr b) join = reach-through_next g k p q (join p k a b.0) b.1
reach-join_split g k m p q (inr a) (inl b) join = reach-through_next g k p q a.0 (join k q a.1 b)
reach-join_split g k m p q (inr a) (inr b) join = reach-through_next g k p q a.0 b.1

-- what is reached by way of a node below k is reached
pub reach-join : (g : Graph) (k m p q : ℕ) → m < k → reach g k p m ≡ true → reach g k m q ≡ true → reach g k p q ≡ true
reach-join g zero m p q lt a b = absurd (omega arith)
reach-join g (suc k) m p q lt a b =
    elim (cases_eq m k) [
      | inl same ↦
          reach-through_next g k p q
          (reach-to_next g k p (subst (λ x. reach g (suc k) p x ≡ true) same a))
          (reach-from_next g k q (subst (λ x. reach g (suc k) x q ≡ true) same b))
      | inr other ↦
          reach-join_split g k m p q (split_at g k p m a) (split_at g k m q b) (λ x y. reach-join g k m x y (omega arith))
    ]

-- all edges lead to nodes among the first n
abbrev pub LeadsWithin : Graph → ℕ → Type 0
LeadsWithin g n = (e : ℕ) → e < g.size → g.target e < n

-- each path of some edges is seen
pub reach-from_path : (g : Graph) (n p e : ℕ) (es : List ℕ) (q : ℕ) → LeadsWithin g n → IsPath g p (e ∷ es) q → reach g n p q ≡ true
reach-from_path g n p e [] q inside h =
    subst (λ x. reach g n x q ≡ true) h.2 (subst (λ x. reach g n (g.source e) x ≡ true) h.3 (reach-from_edge g n e h.0 h.1))
reach-from_path g n p e (f ∷ fs) q inside h =
    reach-join g n (g.target e) p q (inside e h.0)
    (subst (λ x. reach g n x (g.target e) ≡ true) h.2 (reach-from_edge g n e h.0 h.1))
    (reach-from_path g n (g.target e) f fs q inside h.3)

reach-from_list : (g : Graph) (n p : ℕ) (es : List ℕ) (q : ℕ) → LeadsWithin g n → 0 < length es → IsPath g p es q → reach g n p q ≡ true
reach-from_list g n p [] q inside some h = absurd (omega arith)
reach-from_list g n p (e ∷ es) q inside some h = reach-from_path g n p e es q inside h

pub reach-from_Path : (g : Graph) (n p q : ℕ) → LeadsWithin g n → Path g p q → reach g n p q ≡ true
reach-from_Path g n p q inside h = reach-from_list g n p h.edges q inside h.some h.path

-- a test holds at some number below n, or fails at each
pub find_below : (test : ℕ → Bool) (n : ℕ) → ((p : ℕ) × (p < n) × (test p ≡ true)) ⊎ ((p : ℕ) → p < n → test p ≡ false)
find_below test zero = inr (λ p lt. absurd (omega arith))
find_below test (suc n) =
    elim (find_below test n) [
      | inl found ↦ inl (found.0, omega (arith, found.1), found.2)
      | inr none ↦ find_at (test n) refl none
    ]
  where
    find_at : (b : Bool) → test n ≡ b → ((p : ℕ) → p < n → test p ≡ false) → ((p : ℕ) × (p < suc n) × (test p ≡ true)) ⊎ ((p : ℕ) → p < suc n → test p ≡ false)
    find_at true e none = inl (n, omega arith, e)
    find_at false e none =
        inr (λ p lt. elim (cases_eq p n) [ inl same ↦ ap test same ∙ e | inr other ↦ none p (omega arith) ])

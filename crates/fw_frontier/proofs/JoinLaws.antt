-- What is inside one of two frontiers, by the near least upper bounds, where stamps have at most three coordinates.
use Rattle.std.proofs.Common.{◌≡◌, ℕ, ◌+◌, ◌≤◌, ◌<◌, Bool, true, false, not, ◌&&◌, ◌||◌, nat_le, nat_lt, cond, List, [], ◌∷◌, length, min, drop, get_or, refl, sym, ap, ◌∙◌, zero, suc, ◌⊎◌, inl, inr, arith}
use Rattle.std.proofs.Math.Bool.{and_assoc, and-true, and-or_distrib_left}
use Rattle.std.proofs.lemmas.Bool.{cases_lt, not-true, and_from, and_parts, and_left, and_right}
use Rattle.std.proofs.lemmas.Bool.Decides.{nat_tests}
use Rattle.std.specs.List.{AllByRecursion}
use Rattle.fw_lemmas.proofs.Each.{each-at}
use Rattle.fw_time.specs.Stamp.{leq, lub, in_domain, up_to}
use Rattle.fw_time.proofs.StampLaws.{leq-length, leq-lub, lub-least}
use Rattle.fw_frontier.specs.Frontier.{join}
use Rattle.fw_frontier.specs.Front.{inside, frontier_of, IsCanonical, IsFrontOf}
use Rattle.fw_frontier.specs.Outside.{front_without, front_without_all, rise_count, front_without_near, front_without_all_near}
use Rattle.fw_frontier.proofs.InsideLaws.{inside-excluding, inside-excluding_all}
use Rattle.fw_frontier.proofs.CanonicalLaws.{canonical-excluding, canonical-excluding_all, in_domain-canonical, lengths}
use Rattle.fw_frontier.proofs.GenericLaws.{no, found}

-- of two stamps of at most three coordinates one is greater at no more than one place
rises-sum : (s p : List ℕ) → length s ≡ length p → rise_count s p + rise_count p s ≤ length s
rises-sum [] [] e = omega arith
rises-sum [] (y ∷ p) e = absurd (omega arith)
rises-sum (x ∷ s) [] e = absurd (omega arith)
rises-sum (x ∷ s) (y ∷ p) e = omega (arith, step x y, rises-sum s p (omega arith))
  where
    step : (x y : ℕ) → cond (nat_lt x y) 1 0 + cond (nat_lt y x) 1 0 ≤ 1
    step x y = grind (arith, nat_tests)

-- past the end of one of the two there is nothing more
pub rises-past : (n : ℕ) (s p : List ℕ) → min (length s) (length p) ≤ n → rise_count (drop n s) (drop n p) ≡ 0
rises-past zero [] p h = refl
rises-past zero (x ∷ s) [] h = refl
rises-past zero (x ∷ s) (y ∷ p) h = absurd (omega arith)
rises-past (suc n) [] p h = refl
rises-past (suc n) (x ∷ s) [] h = nothing (drop n s)
  where
    nothing : (u : List ℕ) → rise_count u [] ≡ 0
    nothing [] = refl
    nothing (z ∷ u) = refl
rises-past (suc n) (x ∷ s) (y ∷ p) h = rises-past n s p (omega arith)

one-near : (s p : List ℕ) → length s ≡ length p → length s ≤ 3 → (rise_count s p ≤ 1) ⊎ (rise_count p s ≤ 1)
one-near s p e few =
    let sum = rises-sum s p e in
    elim (cases_lt (rise_count s p) 2) [
      | inl lt ↦ inl (omega arith)
      | inr ge ↦ inr (omega arith)
    ]

-- ---- the lists stay canonical

canonical-excluding_near : (g : List ℕ) (s : List ℕ) (ps os : List (List ℕ)) → in_domain (up_to g) s ≡ true → AllByRecursion (λ p. in_domain (up_to g) p ≡ true) ps → IsCanonical (up_to g) os → IsCanonical (up_to g) (front_without_near s ps os)
canonical-excluding_near g s [] os h k l = l
canonical-excluding_near g s (p ∷ ps) os h k l =
    canonical-excluding_near g s ps (cond (nat_le (rise_count s p) 1) (front_without (lub s p) os) os) h k.1 (by (nat_le (rise_count s p) 1))
  where
    by : (c : Bool) → IsCanonical (up_to g) (cond c (front_without (lub s p) os) os)
    by true = canonical-excluding (up_to g) (lub s p) os (lub-least s p g h k.0) l
    by false = l

canonical-excluding_all_near : (g : List ℕ) (ss ps os : List (List ℕ)) → AllByRecursion (λ s. in_domain (up_to g) s ≡ true) ss → AllByRecursion (λ p. in_domain (up_to g) p ≡ true) ps → IsCanonical (up_to g) os → IsCanonical (up_to g) (front_without_all_near ss ps os)
canonical-excluding_all_near g [] ps os h k l = l
canonical-excluding_all_near g (s ∷ ss) ps os h k l =
    canonical-excluding_all_near g ss ps (front_without_all (front_without_near s ps []) os) h.1 k
    (canonical-excluding_all (up_to g) (front_without_near s ps []) os (in_domain-canonical (up_to g) (front_without_near s ps []) (canonical-excluding_near g s ps [] h.0 k tt)) l)

-- ---- what they have inside

-- whether a stamp is at least no near least upper bound of s and the list
free : List ℕ → List (List ℕ) → List ℕ → Bool
free s [] t = true
free s (p ∷ ps) t = not (nat_le (rise_count s p) 1 && (leq s t && leq p t)) && free s ps t

-- and none of the first list and the second
all_free : List (List ℕ) → List (List ℕ) → List ℕ → Bool
all_free [] ps t = true
all_free (s ∷ ss) ps t = free s ps t && all_free ss ps t

inside-excluding_near : (s : List ℕ) (ps os : List (List ℕ)) (t : List ℕ) → AllByRecursion (λ p. length s ≡ length p) ps → inside (front_without_near s ps os) t ≡ (inside os t && free s ps t)
unfolding free
inside-excluding_near s [] os t h = sym (and-true (inside os t))
inside-excluding_near s (p ∷ ps) os t h =
    inside-excluding_near s ps (cond (nat_le (rise_count s p) 1) (front_without (lub s p) os) os) t h.1
    ∙ ap (λ b. b && free s ps t) (by (nat_le (rise_count s p) 1))
    ∙ and_assoc (inside os t) (not (nat_le (rise_count s p) 1 && (leq s t && leq p t))) (free s ps t)
  where
    by : (c : Bool) → inside (cond c (front_without (lub s p) os) os) t ≡ (inside os t && not (c && (leq s t && leq p t)))
    by true = inside-excluding (lub s p) os t ∙ ap (λ b. inside os t && not b) (leq-lub s p t h.0)
    by false = sym (and-true (inside os t))

inside-excluding_all_near : (ss ps os : List (List ℕ)) (t : List ℕ) → AllByRecursion (λ s. AllByRecursion (λ p. length s ≡ length p) ps) ss → inside (front_without_all_near ss ps os) t ≡ (inside os t && all_free ss ps t)
unfolding all_free
inside-excluding_all_near [] ps os t h = sym (and-true (inside os t))
inside-excluding_all_near (s ∷ ss) ps os t h =
    inside-excluding_all_near ss ps (front_without_all (front_without_near s ps []) os) t h.1
    ∙ ap (λ b. b && all_free ss ps t) (inside-excluding_all (front_without_near s ps []) os t ∙ ap (λ b. inside os t && b) (inside-excluding_near s ps [] t h.0))
    ∙ and_assoc (inside os t) (free s ps t) (all_free ss ps t)

-- what is inside one of the two is free
free-apart : (s : List ℕ) (ps : List (List ℕ)) (t : List ℕ) → leq s t ≡ false → free s ps t ≡ true
unfolding free
free-apart s [] t h = refl
free-apart s (p ∷ ps) t h = and_from _ _ (by (nat_le (rise_count s p) 1) (leq s t) (leq p t) h) (free-apart s ps t h)
  where
    by : (n a b : Bool) → a ≡ false → not (n && (a && b)) ≡ true
    by true true b e = no (sym e)
    by true false b e = refl
    by false a b e = refl

free-inside : (s : List ℕ) (ps : List (List ℕ)) (t : List ℕ) → inside ps t ≡ true → free s ps t ≡ true
unfolding free
free-inside s [] t h = refl
free-inside s (p ∷ ps) t h = and_from _ _ (by (nat_le (rise_count s p) 1) (leq s t) (leq p t) (and_parts _ _ h).0) (free-inside s ps t (and_parts _ _ h).1)
  where
    by : (n a b : Bool) → not b ≡ true → not (n && (a && b)) ≡ true
    by n a true e = no e
    by true true false e = refl
    by true false false e = refl
    by false a false e = refl

all_free-first : (ss ps : List (List ℕ)) (t : List ℕ) → inside ss t ≡ true → all_free ss ps t ≡ true
unfolding all_free
all_free-first [] ps t h = refl
all_free-first (s ∷ ss) ps t h = and_from _ _ (free-apart s ps t (not-true (leq s t) (and_parts _ _ h).0)) (all_free-first ss ps t (and_parts _ _ h).1)

all_free-second : (ss ps : List (List ℕ)) (t : List ℕ) → inside ps t ≡ true → all_free ss ps t ≡ true
unfolding all_free
all_free-second [] ps t h = refl
all_free-second (s ∷ ss) ps t h = and_from _ _ (free-inside s ps t h) (all_free-second ss ps t h)

-- what is at least a stamp of each list is not free
not_free : (s : List ℕ) (ps : List (List ℕ)) (t : List ℕ) (j : ℕ) → j < length ps → rise_count s (get_or ps j []) ≤ 1 → leq s t ≡ true → leq (get_or ps j []) t ≡ true → free s ps t ≡ false
unfolding free
not_free s [] t j l n h k = absurd (omega arith)
not_free s (p ∷ ps) t zero l n h k = by (nat_le (rise_count s p) 1) (leq s t) (leq p t) (near (rise_count s p) n) h k
  where
    near : (m : ℕ) → m ≤ 1 → nat_le m 1 ≡ true
    near m n = grind (arith, nat_tests)

    by : (n a b : Bool) → n ≡ true → a ≡ true → b ≡ true → (not (n && (a && b)) && free s ps t) ≡ false
    by true true true d e f = refl
    by true true false d e f = no f
    by true false b d e f = no e
    by false a b d e f = no d
not_free s (p ∷ ps) t (suc j) l n h k = and_right (not (nat_le (rise_count s p) 1 && (leq s t && leq p t))) (free s ps t) (not_free s ps t j (omega arith) n h k)

not_all_free : (ss ps : List (List ℕ)) (t : List ℕ) (i : ℕ) → i < length ss → free (get_or ss i []) ps t ≡ false → all_free ss ps t ≡ false
unfolding all_free
not_all_free [] ps t i l h = absurd (omega arith)
not_all_free (s ∷ ss) ps t zero l h = ap (λ b. b && all_free ss ps t) h
not_all_free (s ∷ ss) ps t (suc i) l h = and_right (free s ps t) (all_free ss ps t) (not_all_free ss ps t i (omega arith) h)

covered : (g : List ℕ) (ss ps : List (List ℕ)) (t : List ℕ) → length g ≤ 3 → AllByRecursion (λ s. in_domain (up_to g) s ≡ true) ss → AllByRecursion (λ p. in_domain (up_to g) p ≡ true) ps
    → inside ss t ≡ false → inside ps t ≡ false → (all_free ss ps t && all_free ps ss t) ≡ false
covered g ss ps t few h k l m =
    let x = found ss t l in
    let y = found ps t m in
    let s = get_or ss x.0 [] in
    let p = get_or ps y.0 [] in
    let ls = leq-length s g (each-at (λ s. in_domain (up_to g) s ≡ true) ss x.0 [] x.1.0 h) in
    let lp = leq-length p g (each-at (λ p. in_domain (up_to g) p ≡ true) ps y.0 [] y.1.0 k) in
    elim (one-near s p (ls ∙ sym lp) (omega (arith, ls))) [
      | inl n ↦ and_left (all_free ss ps t) (all_free ps ss t) (not_all_free ss ps t x.0 x.1.0 (not_free s ps t y.0 y.1.0 n x.1.1 y.1.1))
      | inr n ↦ and_right (all_free ss ps t) (all_free ps ss t) (not_all_free ps ss t y.0 y.1.0 (not_free p ss t x.0 x.1.0 n y.1.1 x.1.1))
    ]

-- what is inside one of the two, where stamps have at most three coordinates
pub names-join_near : (g : List ℕ) (ss ps : List (List ℕ)) → length g ≤ 3 → AllByRecursion (λ s. in_domain (up_to g) s ≡ true) ss → AllByRecursion (λ p. in_domain (up_to g) p ≡ true) ps
    → IsFrontOf (up_to g) (front_without_all_near ps ss (front_without_all_near ss ps [])) (join (frontier_of (up_to g) ss) (frontier_of (up_to g) ps))
names-join_near g ss ps few h k = record {
  canonical = canonical-excluding_all_near g ps ss (front_without_all_near ss ps []) k h (canonical-excluding_all_near g ss ps [] h k tt);
  same = λ t. ap (λ c. in_domain (up_to g) t && c) (whole t ∙ test t (inside ss t) refl (inside ps t) refl) ∙ and-or_distrib_left (in_domain (up_to g) t) (inside ss t) (inside ps t);
}
  where
    whole : (t : List ℕ) → inside (front_without_all_near ps ss (front_without_all_near ss ps [])) t ≡ (all_free ss ps t && all_free ps ss t)
    whole t =
        inside-excluding_all_near ps ss (front_without_all_near ss ps []) t (lengths (up_to g) ps ss k h)
        ∙ ap (λ c. c && all_free ps ss t) (inside-excluding_all_near ss ps [] t (lengths (up_to g) ss ps h k))

    test : (t : List ℕ) (x : Bool) → inside ss t ≡ x → (y : Bool) → inside ps t ≡ y → (all_free ss ps t && all_free ps ss t) ≡ (inside ss t || inside ps t)
    test t true e y f = and_from _ _ (all_free-first ss ps t e) (all_free-second ps ss t e) ∙ sym (ap (λ c. c || inside ps t) e)
    test t false e true f = and_from _ _ (all_free-second ss ps t f) (all_free-first ps ss t f) ∙ sym (λ i. e i || f i)
    test t false e false f = covered g ss ps t few h k e f ∙ sym (λ i. e i || f i)

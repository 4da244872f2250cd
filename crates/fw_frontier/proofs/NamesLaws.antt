-- Which list names a frontier, and that there is only one.
use Rattle.std.proofs.Common.{◌≡◌, ℕ, Bool, true, false, not, ◌&&◌, ◌||◌, List, [], ◌∷◌, length, get_or, take, map, ◌+◌, ◌<◌, refl, sym, ap, ◌∙◌, subst, arith, cond, filter, nat_eq, nat_le, nat_lt}
use Rattle.std.proofs.lemmas.Bool.{and_from, and_parts}
use Rattle.std.proofs.lemmas.Bool.Decides.{nat_tests}
use Rattle.std.proofs.Math.Bool.{and-false, and_assoc, and-or_distrib_left, or-false}
use Rattle.std.proofs.lemmas.List.{take_all}
use Rattle.std.specs.List.{AllByRecursion}
use Rattle.std.specs.Ordering.{is_lt}
use Rattle.fw_lemmas.proofs.Bools.{passes-not}
use Rattle.fw_lemmas.proofs.Each.{each-weaker, each-both, each-one, each-at, each-filter}
use Rattle.fw_time.specs.declared.stamp.Bounds.{Bounds}
use Rattle.fw_time.specs.Stamp.{leq, stamp_cmp, origin, is_of_side, counts, in_domain, up_to}
use Rattle.fw_time.proofs.StampLaws.{leq-refl, leq-trans, leq-antisym, leq-length, origin-leq, before-leq, before-trans, before-irrefl}
use Rattle.fw_time.proofs.DomainLaws.{domain-leq, domain-counts, domain-length, domain-between, plain-up_to}
use Rattle.fw_frontier.specs.Frontier.{nothing, meet, join, cover, some_above, without_above, Within, IsFrontier}
use Rattle.fw_frontier.specs.Front.{inside, frontier_of, least_stamps, is_within, IsCanonical, IsLeastBefore, IsFrontOf}
use Rattle.fw_frontier.specs.Outside.{front_without, front_without_all, below_at}
use Rattle.fw_frontier.proofs.InsideLaws.{inside-closed, inside-excluding, inside-excluding_all, inside-excluding_pairs, inside-below_at}
use Rattle.fw_frontier.proofs.CanonicalLaws.{antichain-canonical, canonical-antichain, canonical-excluding, canonical-excluding_all, canonical-excluding_pairs, canonical-below_at, in_domain-canonical, lengths}
use Rattle.fw_frontier.proofs.GenericLaws.{some_above_more, found, no}
use Rattle.fw_frontier.proofs.AntichainLaws.{IsAntichain, antichain-filter}
use Rattle.fw_frontier.proofs.Pairs.{excluding_pairs}

outside-self : (x : List ℕ) (os : List (List ℕ)) → inside (x ∷ os) x ≡ false
outside-self x os = by (leq x x) (leq-refl x)
  where
    by : (c : Bool) → c ≡ true → (not c && inside os x) ≡ false
    by true e = refl
    by false e = no e

-- the stamps of a list are outside
pub all-outside : (ps : List (List ℕ)) → AllByRecursion (λ p. inside ps p ≡ false) ps
all-outside [] = tt
all-outside (x ∷ ps) = (outside-self x ps, more x ps ps (all-outside ps))
  where
    late : (c d : Bool) → d ≡ false → (not c && d) ≡ false
    late true d e = refl
    late false d e = e

    more : (x : List ℕ) (ps qs : List (List ℕ)) → AllByRecursion (λ p. inside ps p ≡ false) qs → AllByRecursion (λ p. inside (x ∷ ps) p ≡ false) qs
    more x ps [] h = tt
    more x ps (q ∷ qs) h = (late (leq x q) (inside ps q) h.0, more x ps qs h.1)

-- what a stamp of the domain is not at least may be left out of a list
pub inside-kept : (p : List ℕ → Bool) (os : List (List ℕ)) (t : List ℕ) → AllByRecursion (λ o. leq o t ≡ true → p o ≡ true) os → inside (filter p os) t ≡ inside os t
inside-kept p [] t h = refl
inside-kept p (o ∷ os) t h = by (p o) refl (leq o t) refl (inside-kept p os t h.1)
  where
    by : (c : Bool) → p o ≡ c → (d : Bool) → leq o t ≡ d → inside (filter p os) t ≡ inside os t → inside (cond c (o ∷ filter p os) (filter p os)) t ≡ (not d && inside os t)
    by true e d f r = λ i. not (f i) && r i
    by false e true f r = no (sym e ∙ h.0 f)
    by false e false f r = r

canonical-filter : (b : Bounds) (os : List (List ℕ)) → IsAntichain os → IsCanonical b (filter (in_domain b) os)
canonical-filter b os h =
    canonical-antichain b (filter (in_domain b) os) (each-filter (λ o. in_domain b o ≡ true) (in_domain b) os (each-one (λ o. in_domain b o ≡ true → in_domain b o ≡ true) os (λ o e. e))) (antichain-filter (in_domain b) os h)

-- the list of the least stamps names the frontier without stamps
pub names-nothing : (b : Bounds) → IsFrontOf b (least_stamps b) nothing
names-nothing b = by b.sides refl
  where
    zeros : IsFrontOf (up_to b.greatest) (origin b.greatest ∷ []) nothing
    zeros = record {
      canonical = (record { in_the_domain = origin-leq b.greatest b.greatest refl; ascending = tt; incomparable = tt }, tt);
      same = λ t. one t (leq t b.greatest) refl;
    }
      where
        none : (c : Bool) → c ≡ true → (not c && true) ≡ false
        none true e = refl
        none false e = sym e

        one : (t : List ℕ) (c : Bool) → leq t b.greatest ≡ c → (c && (not (leq (origin b.greatest) t) && true)) ≡ false
        one t true e = none _ (origin-leq b.greatest t (sym (leq-length t b.greatest e)))
        one t false e = refl

    both : List (List ℕ)
    both = (0 ∷ 1 ∷ []) ∷ (1 ∷ 0 ∷ []) ∷ []

    apart : IsAntichain both
    apart = (record { ascending = (refl, tt); incomparable = (refl, tt) }, (record { ascending = tt; incomparable = tt }, tt))

    -- a stamp of a side is at least one of the two
    above : (t : List ℕ) → is_of_side t ≡ true → inside both t ≡ false
    above (x ∷ y ∷ []) h = one x y h
      where
        one : (x y : ℕ) → cond (nat_eq x 0) (nat_lt 0 y) (nat_eq y 0) ≡ true → (not (nat_le 0 x && (nat_le 1 y && true)) && (not (nat_le 1 x && (nat_le 0 y && true)) && true)) ≡ false
        one x y h = grind (arith, nat_tests)
    above [] h = cc
    above (x ∷ []) h = cc
    above (x ∷ y ∷ z ∷ t) h = cc

    under : (o t : List ℕ) → b.sides ≡ true → is_of_side o ≡ true → in_domain b t ≡ true → leq o t ≡ true → in_domain b o ≡ true
    under o t e h d l = and_from (counts b.sides o) (leq o b.greatest) (ap (λ c. counts c o) e ∙ h) (leq-trans o t b.greatest l (domain-leq b t d))

    by : (c : Bool) → b.sides ≡ c → IsFrontOf b (cond c (filter (in_domain b) both) (origin b.greatest ∷ [])) nothing
    by true e = record {
      canonical = canonical-filter b both apart;
      same = λ t. by_test t (in_domain b t) refl;
    }
      where
        by_test : (t : List ℕ) (d : Bool) → in_domain b t ≡ d → (d && inside (filter (in_domain b) both) t) ≡ false
        by_test t true d =
            inside-kept (in_domain b) both t (under (0 ∷ 1 ∷ []) t e refl d, (under (1 ∷ 0 ∷ []) t e refl d, tt))
            ∙ above t (ap (λ c. counts c t) (sym e) ∙ domain-counts b t d)
        by_test t false d = refl
    by false e = subst (λ (a : Bounds). IsFrontOf a (origin b.greatest ∷ []) nothing) (plain-up_to b e) zeros

-- the stamps more that are outside are taken away
pub names-excluding : (b : Bounds) (s : List ℕ) (os : List (List ℕ)) → in_domain b s ≡ true → IsCanonical b os → IsFrontOf b (front_without s os) (without_above s (frontier_of b os))
names-excluding b s os h k = record {
  canonical = canonical-excluding b s os h k;
  same = λ t. ap (λ c. in_domain b t && c) (inside-excluding s os t) ∙ sym (and_assoc (in_domain b t) (inside os t) (not (leq s t)));
}

-- what is inside both
pub names-excluding_all : (b : Bounds) (ss os : List (List ℕ)) → AllByRecursion (λ s. in_domain b s ≡ true) ss → IsCanonical b os → IsFrontOf b (front_without_all ss os) (meet (frontier_of b os) (frontier_of b ss))
names-excluding_all b ss os h k = record {
  canonical = canonical-excluding_all b ss os h k;
  same = λ t. ap (λ c. in_domain b t && c) (inside-excluding_all ss os t) ∙ by (in_domain b t) (inside os t) (inside ss t);
}
  where
    by : (a b c : Bool) → (a && (b && c)) ≡ ((a && b) && (a && c))
    by true b c = refl
    by false b c = refl

pub names-meet : (b : Bounds) (os ps : List (List ℕ)) → IsCanonical b os → IsCanonical b ps → IsFrontOf b (front_without_all ps os) (meet (frontier_of b os) (frontier_of b ps))
names-meet b os ps h k = names-excluding_all b ps os (in_domain-canonical b ps k) h

-- the frontier that has these stamps outside
pub names-until : (b : Bounds) (ss : List (List ℕ)) → AllByRecursion (λ s. in_domain b s ≡ true) ss → IsFrontOf b (front_without_all ss []) (frontier_of b ss)
names-until b ss h = let n = names-excluding_all b ss [] h tt in record {
  canonical = n.canonical;
  same = λ t. n.same t ∙ by (in_domain b t) (inside ss t);
}
  where
    by : (a c : Bool) → ((a && true) && (a && c)) ≡ (a && c)
    by true c = refl
    by false c = refl

-- what is inside one of the two
pub names-join : (g : List ℕ) (os ps : List (List ℕ)) → AllByRecursion (λ s. in_domain (up_to g) s ≡ true) os → AllByRecursion (λ p. in_domain (up_to g) p ≡ true) ps → IsFrontOf (up_to g) (excluding_pairs os ps []) (join (frontier_of (up_to g) os) (frontier_of (up_to g) ps))
names-join g os ps h k = record {
  canonical = canonical-excluding_pairs g os ps [] h k tt;
  same = λ t. ap (λ c. in_domain (up_to g) t && c) (inside-excluding_pairs os ps [] t (lengths (up_to g) os ps h k)) ∙ and-or_distrib_left (in_domain (up_to g) t) (inside os t) (inside ps t);
}

-- where a domain has sides, the bounds that are of no side are left out
pub names-join_sides : (b : Bounds) (os ss ps : List (List ℕ)) → AllByRecursion (λ s. in_domain b s ≡ true) ss → AllByRecursion (λ p. in_domain b p ≡ true) ps
    → IsFrontOf (up_to b.greatest) os (join (frontier_of (up_to b.greatest) ss) (frontier_of (up_to b.greatest) ps))
    → IsFrontOf b (filter (in_domain b) os) (join (frontier_of b ss) (frontier_of b ps))
names-join_sides b os ss ps h k named = record {
  canonical = canonical-filter b os (antichain-canonical (up_to b.greatest) os named.canonical);
  same = λ t. by t (in_domain b t) refl;
}
  where
    -- an outside stamp is at least one of the first list, so it is the domain's where it is at most a stamp of it
    outer : (o : List ℕ) → leq o b.greatest ≡ true → inside os o ≡ false → inside ss o ≡ false
    outer o l e = none (leq o b.greatest) (inside os o) (inside ss o) (inside ps o) l e (named.same o)
      where
        none : (a c x y : Bool) → a ≡ true → c ≡ false → (a && c) ≡ ((a && x) || (a && y)) → x ≡ false
        none true c true y l e f = no (sym e ∙ f)
        none true c false y l e f = refl
        none false c x y l e f = no l

    kept : (o t : List ℕ) → leq o b.greatest ≡ true → inside os o ≡ false → in_domain b t ≡ true → leq o t ≡ true → in_domain b o ≡ true
    kept o t l e d m =
        let f = found ss o (outer o l e) in
        domain-between b (get_or ss f.0 []) o t (each-at (λ s. in_domain b s ≡ true) ss f.0 [] f.1.0 h) d f.1.1 m

    each : (t : List ℕ) → in_domain b t ≡ true → AllByRecursion (λ o. leq o t ≡ true → in_domain b o ≡ true) os
    each t d = each-weaker (λ o. (leq o b.greatest ≡ true) × (inside os o ≡ false)) (λ o. leq o t ≡ true → in_domain b o ≡ true) os (λ o e. kept o t e.0 e.1 d)
        (each-both (λ o. leq o b.greatest ≡ true) (λ o. inside os o ≡ false) os (in_domain-canonical (up_to b.greatest) os named.canonical) (all-outside os))

    by : (t : List ℕ) (a : Bool) → in_domain b t ≡ a → (a && inside (filter (in_domain b) os) t) ≡ ((a && inside ss t) || (a && inside ps t))
    by t true d = inside-kept (in_domain b) os t (each t d) ∙ whole (leq t b.greatest) (inside os t) (inside ss t) (inside ps t) (domain-leq b t d) (named.same t)
      where
        whole : (a x y z : Bool) → a ≡ true → (a && x) ≡ ((a && y) || (a && z)) → x ≡ (y || z)
        whole true x y z e f = f
        whole false x y z e f = no e
    by t false d = refl

-- what is at most one stamp
pub names-below : (b : Bounds) (s : List ℕ) → in_domain b s ≡ true → IsFrontOf b (below_at s b.greatest (length s)) (cover b (s ∷ []))
names-below b s h = record {
  canonical = canonical-below_at b s (length s) h;
  same = λ t. by t (in_domain b t) refl;
}
  where
    by : (t : List ℕ) (c : Bool) → in_domain b t ≡ c → (c && inside (below_at s b.greatest (length s)) t) ≡ (c && (leq t s || false))
    by t true e = inside-below_at s b.greatest t (length s) (omega arith) (domain-leq b s h) (domain-leq b t e) ∙ whole ∙ sym (or-false (leq t s))
      where
        long : length t ≡ length s
        long = domain-length b t e ∙ sym (domain-length b s h)

        whole : leq (take (length s) t) (take (length s) s) ≡ leq t s
        whole = ap (λ u. leq u (take (length s) s)) (take_all (length s) t (omega (arith, long))) ∙ ap (λ u. leq t u) (take_all (length s) s (omega arith))
    by t false e = refl

-- one stamp more is covered
pub names-cover_more : (b : Bounds) (both os under : List (List ℕ)) (s : List ℕ) (i : ℕ) (ss : List (List ℕ)) → i < length ss → s ≡ get_or ss i s
    → IsFrontOf b os (cover b (take i ss)) → IsFrontOf b under (cover b (s ∷ [])) → IsFrontOf b both (join (frontier_of b os) (frontier_of b under)) → IsFrontOf b both (cover b (take (i + 1) ss))
names-cover_more b both os under s i ss l e n m h = record {
  canonical = h.canonical;
  same = λ t. h.same t ∙ (λ j. n.same t j || m.same t j) ∙ by (in_domain b t) (some_above (take i ss) t) (leq t s)
      ∙ ap (λ c. in_domain b t && c) (more t);
}
  where
    by : (a b c : Bool) → ((a && b) || (a && (c || false))) ≡ (a && (b || c))
    by true true true = refl
    by true true false = refl
    by true false true = refl
    by true false false = refl
    by false b c = refl

    at : (t : List ℕ) → (some_above (map (λ u. u) (take i ss)) t || leq t s) ≡ some_above (map (λ u. u) (take (i + 1) ss)) t
    at t = ap (λ u. some_above (map (λ u. u) (take i ss)) t || leq t u) e ∙ some_above_more (λ u. u) ss i s t l

    plain : (us : List (List ℕ)) → map (λ u. u) us ≡ us
    plain [] = refl
    plain (u ∷ us) = ap (λ w. u ∷ w) (plain us)

    more : (t : List ℕ) → (some_above (take i ss) t || leq t s) ≡ some_above (take (i + 1) ss) t
    more t = ap (λ us. some_above us t || leq t s) (sym (plain (take i ss))) ∙ at t ∙ ap (λ us. some_above us t) (plain (take (i + 1) ss))

-- no stamp is at most one of none
pub names-cover_none : (b : Bounds) (os : List (List ℕ)) → os ≡ least_stamps b → IsFrontOf b os (cover b [])
names-cover_none b os e = record {
  canonical = subst (IsCanonical b) (sym e) (names-nothing b).canonical;
  same = λ t. ap (λ u. frontier_of b u t) e ∙ (names-nothing b).same t ∙ sym (and-false (in_domain b t));
}

-- the stamps before a canonical list are at most none of it
pub inside-first : (x : List ℕ) (os : List (List ℕ)) (t : List ℕ) → AllByRecursion (λ q. is_lt (stamp_cmp x q) ≡ true) os → inside os t ≡ false → is_lt (stamp_cmp x t) ≡ true
inside-first x [] t h k = cc
inside-first x (q ∷ os) t h k = by (leq q t) refl (λ e. before-leq x q t h.0 e) (λ e. inside-first x os t h.1 e) k
  where
    by : (c : Bool) → leq q t ≡ c → (leq q t ≡ true → is_lt (stamp_cmp x t) ≡ true) → (inside os t ≡ false → is_lt (stamp_cmp x t) ≡ true) → (not c && inside os t) ≡ false → is_lt (stamp_cmp x t) ≡ true
    by true e f g k = f e
    by false e f g k = g k

-- two first stamps of canonical lists that are each outside the other list are one
first-same : (b : Bounds) (x y : List ℕ) (xs ys : List (List ℕ)) → IsLeastBefore b x xs → IsLeastBefore b y ys → inside (x ∷ xs) y ≡ false → inside (y ∷ ys) x ≡ false → x ≡ y
first-same b x y xs ys h k u v = by (leq x y) refl (leq y x) refl u v
  where
    lost : is_lt (stamp_cmp x y) ≡ true → is_lt (stamp_cmp y x) ≡ true → x ≡ y
    lost e f = no (sym (before-irrefl x) ∙ before-trans x y x e f)

    by : (c : Bool) → leq x y ≡ c → (d : Bool) → leq y x ≡ d → (not c && inside xs y) ≡ false → (not d && inside ys x) ≡ false → x ≡ y
    by true e true f u v = leq-antisym x y e f
    by true e false f u v =
        let l = inside-first y ys x k.ascending v in
        no (sym (before-irrefl y) ∙ before-leq y x y l e)
    by false e true f u v =
        let l = inside-first x xs y h.ascending u in
        no (sym (before-irrefl x) ∙ before-leq x y x l f)
    by false e false f u v = lost (inside-first x xs y h.ascending u) (inside-first y ys x k.ascending v)

-- the two lists have the same stamps inside, of those of the domain that a third list has inside
Alike : Bounds → (zs xs ys : List (List ℕ)) → Type 0
Alike b zs xs ys = (t : List ℕ) → in_domain b t ≡ true → inside zs t ≡ true → inside xs t ≡ inside ys t

alike-tail : (b : Bounds) (zs : List (List ℕ)) (x y : List ℕ) (xs ys : List (List ℕ)) → x ≡ y → Alike b zs (x ∷ xs) (y ∷ ys) → Alike b (x ∷ zs) xs ys
unfolding Alike
alike-tail b zs x y xs ys e h t d k =
    part (leq x t) (leq y t) (inside xs t) (inside ys t) (and_parts _ _ k).0 (ap (λ u. leq u t) e) (h t d (and_parts _ _ k).1)
  where
    part : (m n p q : Bool) → not m ≡ true → m ≡ n → (not m && p) ≡ (not n && q) → p ≡ q
    part true n p q k e h = no k
    part false true p q k e h = no e
    part false false p q k e h = h

-- of canonical lists with the same stamps inside there is one
same-from : (b : Bounds) (zs xs ys : List (List ℕ)) → IsCanonical b xs → IsCanonical b ys → AllByRecursion (λ q. inside zs q ≡ true) xs → AllByRecursion (λ q. inside zs q ≡ true) ys → Alike b zs xs ys → xs ≡ ys
unfolding Alike
same-from b zs [] [] h k l m a = refl
same-from b zs [] (y ∷ ys) h k l m a = no (sym (a y k.0.in_the_domain m.0 ∙ outside-self y ys))
same-from b zs (x ∷ xs) [] h k l m a = no (sym (outside-self x xs) ∙ a x h.0.in_the_domain l.0)
same-from b zs (x ∷ xs) (y ∷ ys) h k l m a =
    let e : x ≡ y = first-same b x y xs ys h.0 k.0 (a y k.0.in_the_domain m.0 ∙ outside-self y ys) (sym (a x h.0.in_the_domain l.0) ∙ outside-self x xs) in
    let f : xs ≡ ys = same-from b (x ∷ zs) xs ys h.1 k.1 (apart x zs xs h.0.incomparable l.1) (let P : List ℕ → Type 0 = λ u. AllByRecursion (λ q. inside (u ∷ zs) q ≡ true) ys in subst P (sym e) (apart y zs ys k.0.incomparable m.1)) (alike-tail b zs x y xs ys e a) in
    ap (λ u. u ∷ xs) e ∙ ap (λ us. y ∷ us) f
  where
    apart : (x : List ℕ) (zs xs : List (List ℕ)) → AllByRecursion (λ q. (leq x q || leq q x) ≡ false) xs → AllByRecursion (λ q. inside zs q ≡ true) xs → AllByRecursion (λ q. inside (x ∷ zs) q ≡ true) xs
    apart x zs [] h l = tt
    apart x zs (q ∷ xs) h l = (by (leq x q) (leq q x) h.0 l.0, apart x zs xs h.1 l.1)
      where
        by : (c d : Bool) → (c || d) ≡ false → inside zs q ≡ true → (not c && inside zs q) ≡ true
        by true d e f = no (sym e)
        by false d e f = f

-- only one list names a frontier
pub names-same : (b : Bounds) (xs ys : List (List ℕ)) (f : List ℕ → Bool) → IsFrontOf b xs f → IsFrontOf b ys f → xs ≡ ys
unfolding Alike
names-same b xs ys f h k = same-from b [] xs ys h.canonical k.canonical (any xs) (any ys) alike
  where
    any : (xs : List (List ℕ)) → AllByRecursion (λ q. inside [] q ≡ true) xs
    any [] = tt
    any (x ∷ xs) = (refl, any xs)

    alike : Alike b [] xs ys
    alike t d i = part (in_domain b t) d (h.same t ∙ sym (k.same t))
      where
        part : (c : Bool) → c ≡ true → (c && inside xs t) ≡ (c && inside ys t) → inside xs t ≡ inside ys t
        part true e g = g
        part false e g = no e

-- none of the second list's stamps is inside the first exactly where the first lies within the second
pub is_within-inside : (os ps : List (List ℕ)) → is_within os ps ≡ true → Within (inside os) (inside ps)
is_within-inside os [] h t k = refl
is_within-inside os (p ∷ ps) h t k =
    and_from (not (leq p t)) (inside ps t) (by (leq p t) (λ e. inside-closed os p t e k) (and_parts _ _ h).0) (is_within-inside os ps (and_parts _ _ h).1 t k)
  where
    by : (c : Bool) → (c ≡ true → inside os p ≡ true) → not (inside os p) ≡ true → not c ≡ true
    by true f e = let g = f refl in no (sym (ap not g) ∙ e)
    by false f e = refl

is_within-all : (os ps : List (List ℕ)) → AllByRecursion (λ p. inside os p ≡ false) ps → is_within os ps ≡ true
is_within-all os [] h = refl
is_within-all os (p ∷ ps) h = and_from (not (inside os p)) (is_within os ps) (ap not h.0) (is_within-all os ps h.1)

-- and where it does, none of them is
pub inside-is_within : (os ps : List (List ℕ)) → Within (inside os) (inside ps) → is_within os ps ≡ true
inside-is_within os ps h = is_within-all os ps (each-weaker (λ p. inside ps p ≡ false) (λ p. inside os p ≡ false) ps (λ p e. passes-not (inside os p) (inside ps p) (h p) e) (all-outside ps))

-- the same of the stamps of a domain
pub is_within-holds : (b : Bounds) (os ps : List (List ℕ)) → is_within os ps ≡ true → Within (frontier_of b os) (frontier_of b ps)
is_within-holds b os ps h t k = and_from (in_domain b t) (inside ps t) (and_parts _ _ k).0 (is_within-inside os ps h t (and_parts _ _ k).1)

pub within-is : (b : Bounds) (os ps : List (List ℕ)) → IsCanonical b ps → Within (frontier_of b os) (frontier_of b ps) → is_within os ps ≡ true
within-is b os ps k h =
    is_within-all os ps (join-all ps (all-outside ps) (in_domain-canonical b ps k))
  where
    step : (p : List ℕ) → inside ps p ≡ false → in_domain b p ≡ true → inside os p ≡ false
    step p e d = passes-not (inside os p) (inside ps p) (λ f. (and_parts (in_domain b p) (inside ps p) (h p (and_from (in_domain b p) (inside os p) d f))).1) e

    join-all : (qs : List (List ℕ)) → AllByRecursion (λ p. inside ps p ≡ false) qs → AllByRecursion (λ p. in_domain b p ≡ true) qs → AllByRecursion (λ p. inside os p ≡ false) qs
    join-all [] e d = tt
    join-all (q ∷ qs) e d = (step q e.0 d.0, join-all qs e.1 d.1)

-- the stamps outside one canonical list name a frontier, and it is closed
pub names-self : (b : Bounds) (os : List (List ℕ)) → IsCanonical b os → IsFrontOf b os (frontier_of b os)
names-self b os h = record { canonical = h; same = λ t. refl }

pub frontier-closed : (b : Bounds) (os : List (List ℕ)) → IsFrontier b (frontier_of b os)
frontier-closed b os = record {
  inside_domain = λ t h. (and_parts _ _ h).0;
  closed = λ s t d l h. and_from (in_domain b s) (inside os s) d (inside-closed os s t l (and_parts _ _ h).1);
}

-- the largest frontier inside another that is without a stamp
pub without_above-largest : (b : Bounds) (s : List ℕ) (f g : List ℕ → Bool) → IsFrontier b g → Within g f → in_domain b s ≡ true → g s ≡ false → Within g (without_above s f)
without_above-largest b s f g h k d e t l = and_from (f t) (not (leq s t)) (k t l) (by (leq s t) refl)
  where
    by : (c : Bool) → leq s t ≡ c → not c ≡ true
    by true m = no (sym e ∙ h.closed s t d m l)
    by false m = refl

-- The greatest stamps inside a frontier: what they cover, that no two are comparable, and that the rest is none of the domain's.
use Rattle.std.proofs.Common.{◌≡◌, ℕ, zero, suc, ◌-◌, ◌<◌, ◌≤◌, Bool, true, false, not, ◌&&◌, ◌||◌, nat_le, nat_lt, nat_eq, cond, List, [], ◌∷◌, ◌++◌, length, get_or, set, filter, refl, sym, ap, ◌∙◌, arith}
use Rattle.std.proofs.lemmas.Bool.{and_from}
use Rattle.std.proofs.lemmas.Bool.Decides.{nat_tests}
use Rattle.std.proofs.Math.Bool.{and-false, or-true, or-false, and_assoc}
use Rattle.std.specs.List.{AllByRecursion}
use Rattle.fw_lemmas.proofs.Each.{each-weaker, each-both, each-append, each-kept, each-passed, each-filter, each-one}
use Rattle.fw_time.specs.declared.stamp.Bounds.{Bounds}
use Rattle.fw_time.specs.Stamp.{Stamp, leq, lesser, in_domain, is_of_side, counts}
use Rattle.fw_time.proofs.StampLaws.{leq-refl, leq-trans, leq-length}
use Rattle.fw_time.proofs.DomainLaws.{domain-leq, domain-counts, domain-between}
use Rattle.fw_frontier.specs.Frontier.{some_above, cover}
use Rattle.fw_frontier.specs.Front.{Front, inside, frontier_of}
use Rattle.fw_frontier.specs.Tops.{AreIncomparable, with_top, with_lowered, with_left, with_all_left, tops_left, domain_tops}
use Rattle.fw_frontier.proofs.GenericLaws.{no}
use Rattle.fw_frontier.proofs.InsideLaws.{leq-at}

pub same_length : (s t : Stamp) → leq s t ≡ true → length s ≡ length t
same_length s t h = leq-length s t h

-- ---- a stamp among the greatest ones

above-weaker : (tops : List Stamp) (s t : Stamp) → leq s t ≡ true → some_above tops t ≡ true → some_above tops s ≡ true
above-weaker [] s t h k = k
above-weaker (u ∷ us) s t h k = by (leq t u) refl k (above-weaker us s t h)
  where
    by : (c : Bool) → leq t u ≡ c → (c || some_above us t) ≡ true → (some_above us t ≡ true → some_above us s ≡ true) → (leq s u || some_above us s) ≡ true
    by true e k more = ap (λ b. b || some_above us s) (leq-trans s t u h e)
    by false e k more = ap (λ b. leq s u || b) (more k) ∙ or-true (leq s u)

above-append : (xs ys : List Stamp) (s : Stamp) → some_above (xs ++ ys) s ≡ (some_above xs s || some_above ys s)
above-append [] ys s = refl
above-append (x ∷ xs) ys s = ap (λ b. leq s x || b) (above-append xs ys s) ∙ assoc (leq s x) (some_above xs s) (some_above ys s)
  where
    assoc : (a b c : Bool) → (a || (b || c)) ≡ ((a || b) || c)
    assoc true b c = refl
    assoc false b c = refl

-- what is at most it is at most it, so that those may go
above-kept : (t s : Stamp) (us : List Stamp) → (some_above (filter (λ u. not (leq u t)) us) s || leq s t) ≡ (some_above us s || leq s t)
above-kept t s [] = refl
above-kept t s (u ∷ us) = by (leq u t) refl (above-kept t s us)
  where
    stays : (a f g x : Bool) → (f || x) ≡ (g || x) → ((a || f) || x) ≡ ((a || g) || x)
    stays true f g x h = refl
    stays false f g x h = h

    goes : (a f g x : Bool) → (a ≡ true → x ≡ true) → (f || x) ≡ (g || x) → (f || x) ≡ ((a || g) || x)
    goes true f g x up h = ap (λ b. f || b) (up refl) ∙ or-true f
    goes false f g x up h = h

    by : (c : Bool) → leq u t ≡ c → (some_above (filter (λ u. not (leq u t)) us) s || leq s t) ≡ (some_above us s || leq s t)
        → (some_above (cond (not c) (u ∷ filter (λ u. not (leq u t)) us) (filter (λ u. not (leq u t)) us)) s || leq s t) ≡ ((leq s u || some_above us s) || leq s t)
    by true e h = goes (leq s u) (some_above (filter (λ u. not (leq u t)) us) s) (some_above us s) (leq s t) (λ k. leq-trans s u t k e) h
    by false e h = stays (leq s u) (some_above (filter (λ u. not (leq u t)) us) s) (some_above us s) (leq s t) h

above-top : (t : Stamp) (tops : List Stamp) (s : Stamp) → some_above (with_top t tops) s ≡ (some_above tops s || leq s t)
unfolding with_top
above-top t tops s = by (some_above tops t) refl
  where
    more : (a x : Bool) → (x ≡ true → a ≡ true) → a ≡ (a || x)
    more true x h = refl
    more false true h = h refl
    more false false h = refl

    by : (c : Bool) → some_above tops t ≡ c → some_above (cond c tops (filter (λ u. not (leq u t)) tops ++ t ∷ [])) s ≡ (some_above tops s || leq s t)
    by true e = more (some_above tops s) (leq s t) (λ h. above-weaker tops s t h e)
    by false e =
        above-append (filter (λ u. not (leq u t)) tops) (t ∷ []) s
        ∙ ap (λ b. some_above (filter (λ u. not (leq u t)) tops) s || b) (or-false (leq s t))
        ∙ above-kept t s tops

each-top : (P : Stamp → Type 0) (t : Stamp) (tops : List Stamp) → P t → AllByRecursion P tops → AllByRecursion P (with_top t tops)
unfolding with_top
each-top P t tops h k = by (some_above tops t)
  where
    by : (c : Bool) → AllByRecursion P (cond c tops (filter (λ u. not (leq u t)) tops ++ t ∷ []))
    by true = k
    by false = each-append P (filter (λ u. not (leq u t)) tops) (t ∷ []) (each-kept P (λ u. not (leq u t)) tops k) (h, tt)

none-above : (tops : List Stamp) (t : Stamp) → some_above tops t ≡ false → AllByRecursion (λ s. leq t s ≡ false) tops
none-above [] t h = tt
none-above (s ∷ ss) t h = by (leq t s) refl h (none-above ss t)
  where
    by : (c : Bool) → leq t s ≡ c → (c || some_above ss t) ≡ false → (some_above ss t ≡ false → AllByRecursion (λ s. leq t s ≡ false) ss)
        → (leq t s ≡ false) × AllByRecursion (λ s. leq t s ≡ false) ss
    by true e h rest = no (sym h)
    by false e h rest = (e, rest h)

apart-filter : (p : Stamp → Bool) (ss : List Stamp) → AreIncomparable ss → AreIncomparable (filter p ss)
apart-filter p [] h = tt
apart-filter p (s ∷ ss) h = by (p s) (apart-filter p ss h.1)
  where
    by : (c : Bool) → AreIncomparable (filter p ss) → AreIncomparable (cond c (s ∷ filter p ss) (filter p ss))
    by true rest = (each-kept (λ t. (leq s t || leq t s) ≡ false) p ss h.0, rest)
    by false rest = rest

apart-append : (ss : List Stamp) (t : Stamp) → AreIncomparable ss → AllByRecursion (λ s. (leq s t || leq t s) ≡ false) ss → AreIncomparable (ss ++ t ∷ [])
apart-append [] t h k = (tt, tt)
apart-append (s ∷ ss) t h k = (each-append (λ u. (leq s u || leq u s) ≡ false) ss (t ∷ []) h.0 (k.0, tt), apart-append ss t h.1 k.1)

apart-top : (t : Stamp) (tops : List Stamp) → AreIncomparable tops → AreIncomparable (with_top t tops)
unfolding with_top
apart-top t tops h = by (some_above tops t) refl
  where
    neither : (a b : Bool) → not a ≡ true → b ≡ false → (a || b) ≡ false
    neither true b e f = no e
    neither false b e f = f

    by : (c : Bool) → some_above tops t ≡ c → AreIncomparable (cond c tops (filter (λ u. not (leq u t)) tops ++ t ∷ []))
    by true e = h
    by false e =
        apart-append (filter (λ u. not (leq u t)) tops) t (apart-filter (λ u. not (leq u t)) tops h)
        (each-passed (λ s. leq t s ≡ false) (λ s. (leq s t || leq t s) ≡ false) (λ u. not (leq u t)) tops (λ s k l. neither (leq s t) (leq t s) k l) (none-above tops t e))

-- ---- what an outside stamp leaves of one that it is at most

-- a lesser coordinate at a place
leq-set : (s t : Stamp) (i x : ℕ) → i < length t → x ≤ get_or t i 0 → leq s (set t i x) ≡ (leq s t && nat_le (get_or s i 0) x)
leq-set s [] i x h k = absurd (omega arith)
leq-set [] (y ∷ t) zero x h k = refl
leq-set [] (y ∷ t) (suc i) x h k = refl
leq-set (a ∷ s) (y ∷ t) zero x h k = by (leq s t) (lesser a x y k)
  where
    lesser : (a x y : ℕ) → x ≤ y → nat_le a x ≡ (nat_le a y && nat_le a x)
    lesser a x y k = grind (arith, nat_tests)

    all : (c : Bool) → c ≡ (c && true)
    all true = refl
    all false = refl

    by : (b : Bool) → nat_le a x ≡ (nat_le a y && nat_le a x) → (nat_le a x && b) ≡ ((nat_le a y && b) && nat_le a x)
    by true e = sym (all (nat_le a x)) ∙ e ∙ ap (λ c. c && nat_le a x) (all (nat_le a y))
    by false e = and-false (nat_le a x) ∙ sym (ap (λ c. c && nat_le a x) (and-false (nat_le a y)))
leq-set (a ∷ s) (y ∷ t) (suc i) x h k = ap (λ b. nat_le a y && b) (leq-set s t i x (omega arith) k) ∙ sym (and_assoc (nat_le a y) (leq s t) (nat_le (get_or s i 0) x))

set-leq : (t : Stamp) (i x : ℕ) → x ≤ get_or t i 0 → leq (set t i x) t ≡ true
set-leq [] i x k = refl
set-leq (y ∷ t) zero x k = and_from (nat_le x y) (leq t t) (le x y k) (leq-refl t)
  where
    le : (x y : ℕ) → x ≤ y → nat_le x y ≡ true
    le x y k = grind (arith, nat_tests)
set-leq (y ∷ t) (suc i) x k = and_from (nat_le y y) (leq (set t i x) t) (le y) (set-leq t i x k)
  where
    le : (y : ℕ) → nat_le y y ≡ true
    le y = grind (arith, nat_tests)

-- whether a stamp has a lesser coordinate than another one at one of the first places
abbrev falls : Stamp → Stamp → ℕ → Bool
falls s o zero = false
falls s o (suc i) = falls s o i || nat_lt (get_or s i 0) (get_or o i 0)

falls-more : (a x : ℕ) (s o : Stamp) (i : ℕ) → falls (a ∷ s) (x ∷ o) (suc i) ≡ (nat_lt a x || falls s o i)
falls-more a x s o zero = sym (or-false (nat_lt a x))
falls-more a x s o (suc i) =
    ap (λ b. b || nat_lt (get_or s i 0) (get_or o i 0)) (falls-more a x s o i) ∙ assoc (nat_lt a x) (falls s o i) (nat_lt (get_or s i 0) (get_or o i 0))
  where
    assoc : (a b c : Bool) → ((a || b) || c) ≡ (a || (b || c))
    assoc true b c = refl
    assoc false b c = refl

falls-all : (s o : Stamp) → length s ≡ length o → falls s o (length o) ≡ not (leq o s)
falls-all [] [] h = refl
falls-all [] (x ∷ o) h = absurd (omega (arith, h))
falls-all (a ∷ s) [] h = absurd (omega (arith, h))
falls-all (a ∷ s) (x ∷ o) h =
    falls-more a x s o (length o) ∙ ap (λ b. nat_lt a x || b) (falls-all s o (omega (arith, h))) ∙ turned a x (leq o s)
  where
    less : (a x : ℕ) → nat_lt a x ≡ not (nat_le x a)
    less a x = grind (arith, nat_tests)

    both : (b c : Bool) → (not b || not c) ≡ not (b && c)
    both true c = refl
    both false c = refl

    turned : (a x : ℕ) (c : Bool) → (nat_lt a x || not c) ≡ not (nat_le x a && c)
    turned a x c = ap (λ b. b || not c) (less a x) ∙ both (nat_le x a) c

above-lowered_at : (o t : Stamp) → leq o t ≡ true → (i : ℕ) → i ≤ length o → (tops : List Stamp) (s : Stamp)
    → some_above (with_lowered o t i tops) s ≡ (some_above tops s || (leq s t && falls s o i))
above-lowered_at o t h zero k tops s = sym (ap (λ b. some_above tops s || b) (and-false (leq s t)) ∙ or-false (some_above tops s))
above-lowered_at o t h (suc i) k tops s = by (nat_lt 0 (get_or o i 0)) refl (above-lowered_at o t h i (omega arith) tops s)
  where
    x : ℕ
    x = get_or o i 0

    less : (x y : ℕ) → x ≤ y → x - 1 ≤ y
    less x y k = omega (arith, k)

    before : (a x : ℕ) → nat_lt 0 x ≡ true → nat_le a (x - 1) ≡ nat_lt a x
    before a x e = grind (arith, nat_tests)

    none : (a x : ℕ) → nat_lt 0 x ≡ false → nat_lt a x ≡ false
    none a x e = grind (arith, nat_tests)

    joined : (p l f g : Bool) → ((p || (l && f)) || (l && g)) ≡ (p || (l && (f || g)))
    joined true l f g = refl
    joined false true f g = refl
    joined false false f g = refl

    by : (c : Bool) → nat_lt 0 x ≡ c → some_above (with_lowered o t i tops) s ≡ (some_above tops s || (leq s t && falls s o i))
        → some_above (cond c (with_top (set t i (x - 1)) (with_lowered o t i tops)) (with_lowered o t i tops)) s ≡ (some_above tops s || (leq s t && (falls s o i || nat_lt (get_or s i 0) x)))
    by true e r =
        above-top (set t i (x - 1)) (with_lowered o t i tops) s
        ∙ (λ j. r j || leq-set s t i (x - 1) (omega (arith, k, leq-length o t h)) (less x (get_or t i 0) (leq-at o t i h)) j)
        ∙ ap (λ b. (some_above tops s || (leq s t && falls s o i)) || (leq s t && b)) (before (get_or s i 0) x e)
        ∙ joined (some_above tops s) (leq s t) (falls s o i) (nat_lt (get_or s i 0) x)
    by false e r =
        r ∙ ap (λ b. some_above tops s || (leq s t && b)) (sym (or-false (falls s o i)) ∙ ap (λ b. falls s o i || b) (sym (none (get_or s i 0) x e)))

above-left : (o t : Stamp) (tops : List Stamp) (s : Stamp) → some_above (with_left o t tops) s ≡ (some_above tops s || (leq s t && not (leq o s)))
above-left o t tops s = by (leq o t) refl
  where
    all : (l f g : Bool) → (l ≡ true → f ≡ g) → (l && f) ≡ (l && g)
    all true f g h = h refl
    all false f g h = refl

    free : (l g : Bool) → (l ≡ true → g ≡ false) → l ≡ (l && not g)
    free true g h = ap not (sym (h refl))
    free false g h = refl

    outside : leq o t ≡ false → leq s t ≡ true → (c : Bool) → leq o s ≡ c → c ≡ false
    outside e k true f = no (sym e ∙ leq-trans o s t f k)
    outside e k false f = refl

    by : (c : Bool) → leq o t ≡ c → some_above (cond c (with_lowered o t (length o) tops) (with_top t tops)) s ≡ (some_above tops s || (leq s t && not (leq o s)))
    by true e =
        above-lowered_at o t e (length o) (omega arith) tops s
        ∙ ap (λ b. some_above tops s || b) (all (leq s t) (falls s o (length o)) (not (leq o s)) (λ k. falls-all s o (leq-length s t k ∙ sym (leq-length o t e))))
    by false e =
        above-top t tops s ∙ ap (λ b. some_above tops s || b) (free (leq s t) (leq o s) (λ k. outside e k (leq o s) refl))

above-all_left : (o : Stamp) (ts tops : List Stamp) (s : Stamp) → some_above (with_all_left o ts tops) s ≡ (some_above tops s || (some_above ts s && not (leq o s)))
above-all_left o [] tops s = sym (or-false (some_above tops s))
above-all_left o (t ∷ ts) tops s =
    above-all_left o ts (with_left o t tops) s
    ∙ ap (λ b. b || (some_above ts s && not (leq o s))) (above-left o t tops s)
    ∙ joined (some_above tops s) (leq s t) (some_above ts s) (not (leq o s))
  where
    joined : (p l m n : Bool) → ((p || (l && n)) || (m && n)) ≡ (p || ((l || m) && n))
    joined true l m n = refl
    joined false true m true = refl
    joined false true true false = refl
    joined false true false false = refl
    joined false false m n = refl

above-tops_left : (os : Front) (tops : List Stamp) (s : Stamp) → some_above (tops_left os tops) s ≡ (some_above tops s && inside os s)
above-tops_left [] tops s = all (some_above tops s)
  where
    all : (c : Bool) → c ≡ (c && true)
    all true = refl
    all false = refl
above-tops_left (o ∷ os) tops s =
    above-tops_left os (with_all_left o tops []) s
    ∙ ap (λ b. b && inside os s) (above-all_left o tops [] s)
    ∙ and_assoc (some_above tops s) (not (leq o s)) (inside os s)

-- ---- the same of what holds of each

-- what holds of a stamp holds of those that are at most it
abbrev HoldsBelow : (Stamp → Type 0) → Type 0
HoldsBelow P = (s t : Stamp) → leq s t ≡ true → P t → P s

each-lowered : (P : Stamp → Type 0) → HoldsBelow P → (o t : Stamp) → leq o t ≡ true → P t → (i : ℕ) (tops : List Stamp) → AllByRecursion P tops → AllByRecursion P (with_lowered o t i tops)
each-lowered P down o t h p zero tops k = k
each-lowered P down o t h p (suc i) tops k = by (nat_lt 0 (get_or o i 0)) (each-lowered P down o t h p i tops k)
  where
    less : (x y : ℕ) → x ≤ y → x - 1 ≤ y
    less x y k = omega (arith, k)

    by : (c : Bool) → AllByRecursion P (with_lowered o t i tops) → AllByRecursion P (cond c (with_top (set t i (get_or o i 0 - 1)) (with_lowered o t i tops)) (with_lowered o t i tops))
    by true rest =
        each-top P (set t i (get_or o i 0 - 1)) (with_lowered o t i tops)
        (down (set t i (get_or o i 0 - 1)) t (set-leq t i (get_or o i 0 - 1) (less (get_or o i 0) (get_or t i 0) (leq-at o t i h))) p) rest
    by false rest = rest

each-left : (P : Stamp → Type 0) → HoldsBelow P → (o t : Stamp) → P t → (tops : List Stamp) → AllByRecursion P tops → AllByRecursion P (with_left o t tops)
each-left P down o t p tops k = by (leq o t) refl
  where
    by : (c : Bool) → leq o t ≡ c → AllByRecursion P (cond c (with_lowered o t (length o) tops) (with_top t tops))
    by true e = each-lowered P down o t e p (length o) tops k
    by false e = each-top P t tops p k

each-all_left : (P : Stamp → Type 0) → HoldsBelow P → (o : Stamp) (ts tops : List Stamp) → AllByRecursion P ts → AllByRecursion P tops → AllByRecursion P (with_all_left o ts tops)
each-all_left P down o [] tops h k = k
each-all_left P down o (t ∷ ts) tops h k = each-all_left P down o ts (with_left o t tops) h.1 (each-left P down o t h.0 tops k)

each-tops_left : (P : Stamp → Type 0) → HoldsBelow P → (os : Front) (tops : List Stamp) → AllByRecursion P tops → AllByRecursion P (tops_left os tops)
each-tops_left P down [] tops h = h
each-tops_left P down (o ∷ os) tops h = each-tops_left P down os (with_all_left o tops []) (each-all_left P down o tops [] h tt)

-- ---- no two are comparable

apart-lowered : (o t : Stamp) (i : ℕ) (tops : List Stamp) → AreIncomparable tops → AreIncomparable (with_lowered o t i tops)
apart-lowered o t zero tops h = h
apart-lowered o t (suc i) tops h = by (nat_lt 0 (get_or o i 0)) (apart-lowered o t i tops h)
  where
    by : (c : Bool) → AreIncomparable (with_lowered o t i tops) → AreIncomparable (cond c (with_top (set t i (get_or o i 0 - 1)) (with_lowered o t i tops)) (with_lowered o t i tops))
    by true rest = apart-top (set t i (get_or o i 0 - 1)) (with_lowered o t i tops) rest
    by false rest = rest

apart-left : (o t : Stamp) (tops : List Stamp) → AreIncomparable tops → AreIncomparable (with_left o t tops)
apart-left o t tops h = by (leq o t)
  where
    by : (c : Bool) → AreIncomparable (cond c (with_lowered o t (length o) tops) (with_top t tops))
    by true = apart-lowered o t (length o) tops h
    by false = apart-top t tops h

apart-all_left : (o : Stamp) (ts tops : List Stamp) → AreIncomparable tops → AreIncomparable (with_all_left o ts tops)
apart-all_left o [] tops h = h
apart-all_left o (t ∷ ts) tops h = apart-all_left o ts (with_left o t tops) (apart-left o t tops h)

apart-tops_left : (os : Front) (tops : List Stamp) → AreIncomparable tops → AreIncomparable (tops_left os tops)
apart-tops_left [] tops h = h
apart-tops_left (o ∷ os) tops h = apart-tops_left os (with_all_left o tops []) (apart-all_left o tops [] tt)

-- ---- the greatest stamps of a domain

-- it is one of the domain's where one of these is at most it
abbrev IsHeld : Bounds → Stamp → Type 0
IsHeld b t = (s : Stamp) → in_domain b s ≡ true → leq s t ≡ true → in_domain b t ≡ true

held-below : (b : Bounds) → HoldsBelow (IsHeld b)
held-below b u t l h s d k = domain-between b s u t d (h s d (leq-trans s u t k l)) k l

-- the stamps at the ends of the two sides
abbrev ends : Stamp → List Stamp
ends g = with_top (get_or g 0 0 ∷ 0 ∷ []) (with_top (0 ∷ get_or g 1 0 ∷ []) [])

side-apart : (g : Stamp) → AreIncomparable (ends g)
side-apart g = apart-top (get_or g 0 0 ∷ 0 ∷ []) (with_top (0 ∷ get_or g 1 0 ∷ []) []) (apart-top (0 ∷ get_or g 1 0 ∷ []) [] tt)

domain-apart : (b : Bounds) → AreIncomparable (domain_tops b)
domain-apart b = by b.sides
  where
    by : (c : Bool) → AreIncomparable (cond c (cond (nat_eq (length b.greatest) 2) (ends b.greatest) []) (b.greatest ∷ []))
    by true = two (nat_eq (length b.greatest) 2)
      where
        two : (c : Bool) → AreIncomparable (cond c (ends b.greatest) [])
        two true = side-apart b.greatest
        two false = tt
    by false = (tt, tt)

first-held : (x y : ℕ) → IsHeld (record { greatest = x ∷ y ∷ []; sides = true }) (x ∷ 0 ∷ [])
first-held x y [] d l = cc
first-held x y (a ∷ []) d l = cc
first-held x y (a ∷ c ∷ e ∷ s) d l = cc
first-held x y (a ∷ c ∷ []) d l = by a c x y d l
  where
    by : (a c x y : ℕ) → (cond (nat_eq a 0) (nat_lt 0 c) (nat_eq c 0) && (nat_le a x && (nat_le c y && true))) ≡ true → (nat_le a x && (nat_le c 0 && true)) ≡ true
        → (cond (nat_eq x 0) (nat_lt 0 0) (nat_eq 0 0) && (nat_le x x && (nat_le 0 y && true))) ≡ true
    by a c x y d l = grind (arith, nat_tests)

second-held : (x y : ℕ) → IsHeld (record { greatest = x ∷ y ∷ []; sides = true }) (0 ∷ y ∷ [])
second-held x y [] d l = cc
second-held x y (a ∷ []) d l = cc
second-held x y (a ∷ c ∷ e ∷ s) d l = cc
second-held x y (a ∷ c ∷ []) d l = by a c x y d l
  where
    by : (a c x y : ℕ) → (cond (nat_eq a 0) (nat_lt 0 c) (nat_eq c 0) && (nat_le a x && (nat_le c y && true))) ≡ true → (nat_le a 0 && (nat_le c y && true)) ≡ true
        → (cond (nat_eq 0 0) (nat_lt 0 y) (nat_eq y 0) && (nat_le 0 x && (nat_le y y && true))) ≡ true
    by a c x y d l = grind (arith, nat_tests)

sides-held : (g : Stamp) → AllByRecursion (IsHeld (record { greatest = g; sides = true })) (cond (nat_eq (length g) 2) (ends g) [])
sides-held [] = tt
sides-held (x ∷ []) = tt
sides-held (x ∷ y ∷ []) =
    each-top (IsHeld (record { greatest = x ∷ y ∷ []; sides = true })) (x ∷ 0 ∷ []) (with_top (0 ∷ y ∷ []) []) (first-held x y)
    (each-top (IsHeld (record { greatest = x ∷ y ∷ []; sides = true })) (0 ∷ y ∷ []) [] (second-held x y) tt)
sides-held (x ∷ y ∷ z ∷ g) = by (nat_eq (length (x ∷ y ∷ z ∷ g)) 2) (more (length g))
  where
    more : (n : ℕ) → nat_eq (suc (suc (suc n))) 2 ≡ false
    more n = grind (arith, nat_tests)

    by : (c : Bool) → c ≡ false → AllByRecursion (IsHeld (record { greatest = x ∷ y ∷ z ∷ g; sides = true })) (cond c (ends (x ∷ y ∷ z ∷ g)) [])
    by true e = no (sym e)
    by false e = tt

domain-held : (b : Bounds) → AllByRecursion (IsHeld b) (domain_tops b)
domain-held b = by b.sides refl
  where
    by : (c : Bool) → b.sides ≡ c → AllByRecursion (IsHeld b) (cond c (cond (nat_eq (length b.greatest) 2) (ends b.greatest) []) (b.greatest ∷ []))
    by true e = rw e (sides-held b.greatest)
    by false e = (λ s d l. and_from (counts b.sides b.greatest) (leq b.greatest b.greatest) (ap (λ c. counts c b.greatest) e) (leq-refl b.greatest), tt)

sides-above : (g s : Stamp) → is_of_side s ≡ true → leq s g ≡ true → some_above (cond (nat_eq (length g) 2) (ends g) []) s ≡ true
sides-above g [] d l = cc
sides-above g (a ∷ []) d l = cc
sides-above g (a ∷ c ∷ e ∷ s) d l = cc
sides-above [] (a ∷ c ∷ []) d l = cc
sides-above (x ∷ []) (a ∷ c ∷ []) d l = absurd (omega (arith, leq-length (a ∷ c ∷ []) (x ∷ []) l))
sides-above (x ∷ y ∷ z ∷ g) (a ∷ c ∷ []) d l = absurd (omega (arith, leq-length (a ∷ c ∷ []) (x ∷ y ∷ z ∷ g) l))
sides-above (x ∷ y ∷ []) (a ∷ c ∷ []) d l =
    above-top (x ∷ 0 ∷ []) (with_top (0 ∷ y ∷ []) []) (a ∷ c ∷ [])
    ∙ ap (λ b. b || leq (a ∷ c ∷ []) (x ∷ 0 ∷ [])) (above-top (0 ∷ y ∷ []) [] (a ∷ c ∷ []))
    ∙ by a c x y d l
  where
    by : (a c x y : ℕ) → cond (nat_eq a 0) (nat_lt 0 c) (nat_eq c 0) ≡ true → (nat_le a x && (nat_le c y && true)) ≡ true
        → ((nat_le a 0 && (nat_le c y && true)) || (nat_le a x && (nat_le c 0 && true))) ≡ true
    by a c x y d l = grind (arith, nat_tests)

domain-above : (b : Bounds) (s : Stamp) → in_domain b s ≡ true → some_above (domain_tops b) s ≡ true
domain-above b s d = by b.sides (domain-counts b s d)
  where
    by : (c : Bool) → counts c s ≡ true → some_above (cond c (cond (nat_eq (length b.greatest) 2) (ends b.greatest) []) (b.greatest ∷ [])) s ≡ true
    by true e = sides-above b.greatest s e (domain-leq b s d)
    by false e = ap (λ c. c || false) (domain-leq b s d)

-- ---- those of the domain

above-held : (b : Bounds) (ts : List Stamp) (s : Stamp) → in_domain b s ≡ true → AllByRecursion (IsHeld b) ts → some_above (filter (in_domain b) ts) s ≡ some_above ts s
above-held b [] s d h = refl
above-held b (t ∷ ts) s d h = by (in_domain b t) refl (above-held b ts s d h.1)
  where
    by : (c : Bool) → in_domain b t ≡ c → some_above (filter (in_domain b) ts) s ≡ some_above ts s → some_above (cond c (t ∷ filter (in_domain b) ts) (filter (in_domain b) ts)) s ≡ (leq s t || some_above ts s)
    by true e rest = ap (λ c. leq s t || c) rest
    by false e rest = rest ∙ sym (ap (λ c. c || some_above ts s) (not_below (leq s t) refl))
      where
        not_below : (c : Bool) → leq s t ≡ c → c ≡ false
        not_below true f = no (sym e ∙ h.0 s d f)
        not_below false f = refl

-- the greatest stamps inside
abbrev pub tops_inside : Bounds → Front → List Stamp
tops_inside b os = filter (in_domain b) (tops_left os (domain_tops b))

pub tops-cover : (b : Bounds) (os : Front) (s : Stamp) → cover b (tops_inside b os) s ≡ frontier_of b os s
tops-cover b os s = by (in_domain b s) refl
  where
    by : (c : Bool) → in_domain b s ≡ c → (c && some_above (tops_inside b os) s) ≡ (c && inside os s)
    by true d =
        above-held b (tops_left os (domain_tops b)) s d (each-tops_left (IsHeld b) (held-below b) os (domain_tops b) (domain-held b))
        ∙ above-tops_left os (domain_tops b) s
        ∙ ap (λ c. c && inside os s) (domain-above b s d)
    by false d = refl

pub tops-domain : (b : Bounds) (os : Front) → AllByRecursion (λ s. in_domain b s ≡ true) (tops_inside b os)
tops-domain b os = each-filter (λ s. in_domain b s ≡ true) (in_domain b) (tops_left os (domain_tops b)) (each-one (λ s. in_domain b s ≡ true → in_domain b s ≡ true) (tops_left os (domain_tops b)) (λ s e. e))

pub tops-apart : (b : Bounds) (os : Front) → AreIncomparable (tops_inside b os)
tops-apart b os = apart-filter (in_domain b) (tops_left os (domain_tops b)) (apart-tops_left os (domain_tops b) (domain-apart b))

-- none is lesser than one of them
lesser-not : (s t : Stamp) → leq s t ≡ false → lesser s t ≡ false
lesser-not s t e = ap (λ b. b && not (leq t s)) e

lesser-self : (s : Stamp) → lesser s s ≡ false
lesser-self s = by (leq s s)
  where
    by : (b : Bool) → (b && not b) ≡ false
    by true = refl
    by false = refl

left-not : (a b : Bool) → (a || b) ≡ false → a ≡ false
left-not true b e = e
left-not false b e = refl

right-not : (a b : Bool) → (a || b) ≡ false → b ≡ false
right-not true b e = no (sym e)
right-not false b e = e

apart-greatest : (ss : List Stamp) → AreIncomparable ss → AllByRecursion (λ s. AllByRecursion (λ t. lesser s t ≡ false) ss) ss
apart-greatest [] h = tt
apart-greatest (s ∷ ss) h = (
  (lesser-self s, each-weaker (λ t. (leq s t || leq t s) ≡ false) (λ t. lesser s t ≡ false) ss (λ t e. lesser-not s t (left-not (leq s t) (leq t s) e)) h.0),
  each-both (λ t. lesser t s ≡ false) (λ t. AllByRecursion (λ u. lesser t u ≡ false) ss) ss
      (each-weaker (λ t. (leq s t || leq t s) ≡ false) (λ t. lesser t s ≡ false) ss (λ t e. lesser-not t s (right-not (leq s t) (leq t s) e)) h.0)
      (apart-greatest ss h.1),
)

pub tops-greatest : (b : Bounds) (os : Front) → AllByRecursion (λ s. AllByRecursion (λ t. lesser s t ≡ false) (tops_inside b os)) (tops_inside b os)
tops-greatest b os = apart-greatest (tops_inside b os) (tops-apart b os)

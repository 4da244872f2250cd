-- What holds at each of some places; and frontiers, by tests that compute: which lists of outside stamps are canonical, and what lies
-- within what.
use Rattle.std.specs.List.{AllByRecursion, list_all}
use Rattle.std.specs.Ordering.{is_lt}
use Rattle.std.proofs.Common.{Bool, List, [], arith, false, inl, inr, not, refl, subst, suc, sym, true, zero, ℕ, ⊎_elim, ◌&&◌, ◌<◌, ◌||◌, ◌∙◌, ◌∷◌, ◌≡◌, ◌≤◌}
use Rattle.std.proofs.lemmas.Bool.{and_from, and_parts, cases_lt, false_from_ne_true, false≢true, not-true, not_from_false, or_cases, or_parts}
use Rattle.fw_time.specs.Stamp.{Stamp, in_domain, leq, same, stamp_cmp}
use Rattle.fw_time.specs.declared.stamp.Bounds.{Bounds}
use Rattle.fw_time.proofs.StampLaws.{same-is}
use Rattle.fw_frontier.specs.Front.{Front, IsCanonical, all_in_domain, frontier_of, inside, is_within}
use Rattle.fw_frontier.specs.Frontier.{Frontier, IsFrontier, Within, cover, join, meet, some_above}
use Rattle.fw_frontier.proofs.NamesLaws.{is_within-holds}
use Rattle.fw_flow.specs.declared.event.Message.{Message}
use Rattle.fw_model.specs.History.{some_at}
use Rattle.std.proofs.lemmas.Bool.Decides.{nat_tests}
use Rattle.fw_lemmas.proofs.Each.{each-of_all}
use Rattle.fw_examples.specs.Flows.{out}

-- at each of three, or of two
pub by_three : (P : ℕ → Type 0) → P 0 → P 1 → P 2 → (p : ℕ) → p < 3 → P p
by_three P a b c zero l = a
by_three P a b c (suc zero) l = b
by_three P a b c (suc (suc zero)) l = c
by_three P a b c (suc (suc (suc p))) l = absurd (omega arith)

pub by_two : (P : ℕ → Type 0) → P 0 → P 1 → (d : ℕ) → d < 2 → P d
by_two P a b zero l = a
by_two P a b (suc zero) l = b
by_two P a b (suc (suc d)) l = absurd (omega arith)

-- at each of one
pub by_one : (P : ℕ → Type 0) → P 0 → (d : ℕ) → d < 1 → P d
by_one P a zero l = a
by_one P a (suc d) l = absurd (omega arith)

-- at each of six, or of five
pub by_six : (P : ℕ → Type 0) → P 0 → P 1 → P 2 → P 3 → P 4 → P 5 → (p : ℕ) → p < 6 → P p
by_six P a b c d e f zero l = a
by_six P a b c d e f (suc zero) l = b
by_six P a b c d e f (suc (suc zero)) l = c
by_six P a b c d e f (suc (suc (suc zero))) l = d
by_six P a b c d e f (suc (suc (suc (suc zero)))) l = e
by_six P a b c d e f (suc (suc (suc (suc (suc zero))))) l = f
by_six P a b c d e f (suc (suc (suc (suc (suc (suc p)))))) l = absurd (omega arith)

pub by_five : (P : ℕ → Type 0) → P 0 → P 1 → P 2 → P 3 → P 4 → (p : ℕ) → p < 5 → P p
by_five P a b c d e zero l = a
by_five P a b c d e (suc zero) l = b
by_five P a b c d e (suc (suc zero)) l = c
by_five P a b c d e (suc (suc (suc zero))) l = d
by_five P a b c d e (suc (suc (suc (suc zero)))) l = e
by_five P a b c d e (suc (suc (suc (suc (suc p))))) l = absurd (omega arith)

-- at each of four
pub by_four : (P : ℕ → Type 0) → P 0 → P 1 → P 2 → P 3 → (p : ℕ) → p < 4 → P p
by_four P a b c d zero l = a
by_four P a b c d (suc zero) l = b
by_four P a b c d (suc (suc zero)) l = c
by_four P a b c d (suc (suc (suc zero))) l = d
by_four P a b c d (suc (suc (suc (suc p)))) l = absurd (omega arith)

-- at each of seven, and at those past them
pub all_seven : (P : ℕ → Type 0) → P 0 → P 1 → P 2 → P 3 → P 4 → P 5 → P 6 → ((p : ℕ) → P (suc (suc (suc (suc (suc (suc (suc p)))))))) → (p : ℕ) → P p
all_seven P a b c d e f g past zero = a
all_seven P a b c d e f g past (suc zero) = b
all_seven P a b c d e f g past (suc (suc zero)) = c
all_seven P a b c d e f g past (suc (suc (suc zero))) = d
all_seven P a b c d e f g past (suc (suc (suc (suc zero)))) = e
all_seven P a b c d e f g past (suc (suc (suc (suc (suc zero))))) = f
all_seven P a b c d e f g past (suc (suc (suc (suc (suc (suc zero)))))) = g
all_seven P a b c d e f g past (suc (suc (suc (suc (suc (suc (suc p))))))) = past p

-- at each of seven
pub by_seven : (P : ℕ → Type 0) → P 0 → P 1 → P 2 → P 3 → P 4 → P 5 → P 6 → (p : ℕ) → p < 7 → P p
by_seven P a b c d e f g =
    all_seven (λ p. p < 7 → P p) (λ l. a) (λ l. b) (λ l. c) (λ l. d) (λ l. e) (λ l. f) (λ l. g) (λ p l. absurd (omega arith))

-- at each of eleven or of twelve, and at those past them
pub all_eleven : (P : ℕ → Type 0) → P 0 → P 1 → P 2 → P 3 → P 4 → P 5 → P 6 → P 7 → P 8 → P 9 → P 10 → ((p : ℕ) → P (suc (suc (suc (suc (suc (suc (suc (suc (suc (suc (suc p)))))))))))) → (p : ℕ) → P p
all_eleven P a b c d e f g h i j k past zero = a
all_eleven P a b c d e f g h i j k past (suc zero) = b
all_eleven P a b c d e f g h i j k past (suc (suc zero)) = c
all_eleven P a b c d e f g h i j k past (suc (suc (suc zero))) = d
all_eleven P a b c d e f g h i j k past (suc (suc (suc (suc zero)))) = e
all_eleven P a b c d e f g h i j k past (suc (suc (suc (suc (suc zero))))) = f
all_eleven P a b c d e f g h i j k past (suc (suc (suc (suc (suc (suc zero)))))) = g
all_eleven P a b c d e f g h i j k past (suc (suc (suc (suc (suc (suc (suc zero))))))) = h
all_eleven P a b c d e f g h i j k past (suc (suc (suc (suc (suc (suc (suc (suc zero)))))))) = i
all_eleven P a b c d e f g h i j k past (suc (suc (suc (suc (suc (suc (suc (suc (suc zero))))))))) = j
all_eleven P a b c d e f g h i j k past (suc (suc (suc (suc (suc (suc (suc (suc (suc (suc zero)))))))))) = k
all_eleven P a b c d e f g h i j k past (suc (suc (suc (suc (suc (suc (suc (suc (suc (suc (suc p))))))))))) = past p

pub by_eleven : (P : ℕ → Type 0) → P 0 → P 1 → P 2 → P 3 → P 4 → P 5 → P 6 → P 7 → P 8 → P 9 → P 10 → (p : ℕ) → p < 11 → P p
by_eleven P a b c d e f g h i j k =
    all_eleven (λ p. p < 11 → P p) (λ lt. a) (λ lt. b) (λ lt. c) (λ lt. d) (λ lt. e) (λ lt. f) (λ lt. g) (λ lt. h) (λ lt. i) (λ lt. j) (λ lt. k) (λ p lt. absurd (omega arith))

pub all_twelve : (P : ℕ → Type 0) → P 0 → P 1 → P 2 → P 3 → P 4 → P 5 → P 6 → P 7 → P 8 → P 9 → P 10 → P 11 → ((p : ℕ) → P (suc (suc (suc (suc (suc (suc (suc (suc (suc (suc (suc (suc p))))))))))))) → (p : ℕ) → P p
all_twelve P a b c d e f g h i j k l past zero = a
all_twelve P a b c d e f g h i j k l past (suc zero) = b
all_twelve P a b c d e f g h i j k l past (suc (suc zero)) = c
all_twelve P a b c d e f g h i j k l past (suc (suc (suc zero))) = d
all_twelve P a b c d e f g h i j k l past (suc (suc (suc (suc zero)))) = e
all_twelve P a b c d e f g h i j k l past (suc (suc (suc (suc (suc zero))))) = f
all_twelve P a b c d e f g h i j k l past (suc (suc (suc (suc (suc (suc zero)))))) = g
all_twelve P a b c d e f g h i j k l past (suc (suc (suc (suc (suc (suc (suc zero))))))) = h
all_twelve P a b c d e f g h i j k l past (suc (suc (suc (suc (suc (suc (suc (suc zero)))))))) = i
all_twelve P a b c d e f g h i j k l past (suc (suc (suc (suc (suc (suc (suc (suc (suc zero))))))))) = j
all_twelve P a b c d e f g h i j k l past (suc (suc (suc (suc (suc (suc (suc (suc (suc (suc zero)))))))))) = k
all_twelve P a b c d e f g h i j k l past (suc (suc (suc (suc (suc (suc (suc (suc (suc (suc (suc zero))))))))))) = l
all_twelve P a b c d e f g h i j k l past (suc (suc (suc (suc (suc (suc (suc (suc (suc (suc (suc (suc p)))))))))))) = past p

pub by_twelve : (P : ℕ → Type 0) → P 0 → P 1 → P 2 → P 3 → P 4 → P 5 → P 6 → P 7 → P 8 → P 9 → P 10 → P 11 → (p : ℕ) → p < 12 → P p
by_twelve P a b c d e f g h i j k l =
    all_twelve (λ p. p < 12 → P p) (λ lt. a) (λ lt. b) (λ lt. c) (λ lt. d) (λ lt. e) (λ lt. f) (λ lt. g) (λ lt. h) (λ lt. i) (λ lt. j) (λ lt. k) (λ lt. l) (λ p lt. absurd (omega arith))

-- whether each number below n passes the test
abbrev pub each_below : (ℕ → Bool) → ℕ → Bool
each_below test zero = true
each_below test (suc n) = test n && each_below test n

pub each_below-at : (test : ℕ → Bool) (n : ℕ) → each_below test n ≡ true → (i : ℕ) → i < n → test i ≡ true
each_below-at test zero h i l = absurd (omega arith)
each_below-at test (suc n) h i l =
    let a = and_parts (test n) (each_below test n) h in
    elim (cases_lt i n) [
      | inl m ↦ each_below-at test n a.1 i m
      | inr m ↦ let e : n ≡ i = omega arith in subst (λ j. test j ≡ true) e a.0
    ]

-- ---- lists of outside stamps, by tests that compute: which are canonical, and which frontier lies within which

-- whether the stamps are a domain's, ascend, and no two of them are comparable
abbrev pub is_canonical : Bounds → Front → Bool
is_canonical b [] = true
is_canonical b (o ∷ os) =
    in_domain b o && (list_all (λ q. is_lt (stamp_cmp o q)) os && (list_all (λ q. not (leq o q || leq q o)) os && is_canonical b os))

pub canonical_by : (b : Bounds) (os : Front) → is_canonical b os ≡ true → IsCanonical b os
canonical_by b [] h = tt
canonical_by b (o ∷ os) h =
    let a = and_parts _ _ h in
    let c = and_parts _ _ a.1 in
    let d = and_parts _ _ c.1 in (
      record { in_the_domain = a.0; ascending = each-of_all _ os c.0; incomparable = none_of os d.0 },
      canonical_by b os d.1,
    )
  where
    none_of : (qs : Front) → list_all (λ q. not (leq o q || leq q o)) qs ≡ true → AllByRecursion (λ q. (leq o q || leq q o) ≡ false) qs
    none_of [] k = tt
    none_of (q ∷ qs) k = let a = and_parts _ _ k in (not-true _ a.0, none_of qs a.1)

-- a frontier that has none of these outside stamps lies within theirs
pub within_outside : (b : Bounds) (f : Frontier) (os : Front) → IsFrontier b f → all_in_domain b os ≡ true → AllByRecursion (λ o. f o ≡ true → ⊥) os
    → Within f (frontier_of b os)
within_outside b f os is_frontier d out t h = and_from _ _ (is_frontier.inside_domain t h) (go os d out)
  where
    go : (qs : Front) → all_in_domain b qs ≡ true → AllByRecursion (λ o. f o ≡ true → ⊥) qs → inside qs t ≡ true
    go [] d out = refl
    go (q ∷ qs) d out =
        let a = and_parts _ _ d in
        and_from _ _ (not_from_false _ (false_from_ne_true _ (λ l. out.0 (is_frontier.closed q t a.0 l h)))) (go qs a.1 out.1)

-- what some stamps cover lies within a frontier that has each of them
pub cover_within_by : (b : Bounds) (f : Frontier) (ss : List Stamp) → IsFrontier b f → list_all f ss ≡ true → Within (cover b ss) f
cover_within_by b f ss is_frontier h t i = let a = and_parts _ _ i in go ss h a.1
  where
    go : (qs : List Stamp) → list_all f qs ≡ true → some_above qs t ≡ true → f t ≡ true
    go [] h k = absurd (false≢true k)
    go (q ∷ qs) h k =
        let a = and_parts _ _ h in
        ⊎_elim (λ l. is_frontier.closed t q (and_parts _ _ i).0 l a.0) (go qs a.1) (or_cases _ _ k)

-- where no message is at a stamp that passes the test, none is at one that does
pub none_at : (test : Stamp → Bool) (ms : List Message) (t : Stamp) → some_at test ms ≡ false → test t ≡ true → some_at (same t) ms ≡ false
none_at test [] t h k = refl
none_at test (m ∷ ms) t h k =
    let a = or_parts _ _ h in
    let other : same t m.at ≡ false = false_from_ne_true _ (λ e. false≢true (sym a.0 ∙ subst (λ u. test u ≡ true) (same-is t m.at e) k)) in
    rw other (none_at test ms t a.1 k)

-- a frontier of the stamps below two others is their meet, where it is one of them
pub meet_by : (b : Bounds) (xs ys : Front) → is_within xs ys ≡ true → (t : Stamp) → frontier_of b xs t ≡ meet (frontier_of b xs) (frontier_of b ys) t
meet_by b xs ys h t = go (frontier_of b xs t) (frontier_of b ys t) (is_within-holds b xs ys h t)
  where
    go : (x y : Bool) → (x ≡ true → y ≡ true) → x ≡ (x && y)
    go false y w = refl
    go true y w = sym (w refl)

-- and the other way round
pub meet_other : (b : Bounds) (xs ys : Front) → is_within ys xs ≡ true → (t : Stamp) → frontier_of b ys t ≡ meet (frontier_of b xs) (frontier_of b ys) t
meet_other b xs ys h t = go (frontier_of b xs t) (frontier_of b ys t) (is_within-holds b ys xs h t)
  where
    go : (x y : Bool) → (y ≡ true → x ≡ true) → y ≡ (x && y)
    go true y w = refl
    go false false w = refl
    go false true w = sym (w refl)

-- what joins what lies within it is the same
pub join_by : (f g : Frontier) → Within f g → (t : Stamp) → g t ≡ join f g t
join_by f g w t = go (f t) (g t) (w t)
  where
    go : (x y : Bool) → (x ≡ true → y ≡ true) → y ≡ (x || y)
    go false y w = refl
    go true y w = w refl

pub join_other : (f g : Frontier) → Within g f → (t : Stamp) → f t ≡ join f g t
join_other f g w t = go (f t) (g t) (w t)
  where
    go : (x y : Bool) → (y ≡ true → x ≡ true) → x ≡ (x || y)
    go true y w = refl
    go false false w = refl
    go false true w = w refl

-- ---- frontiers of one coordinate and of two, by their stamps

-- a frontier with nothing pending inside has no stamp from a pending one on
pub not_above : (bounds : Bounds) (f : Frontier) → IsFrontier bounds f → (o : Stamp) → in_domain bounds o ≡ true
    → (f o ≡ true → ⊥) → (t : Stamp) → f t ≡ true → not (leq o t) ≡ true
not_above bounds f isf o d out t h = not_from_false _ (false_from_ne_true _ (λ g. out (isf.closed o t d g h)))

-- a test behind a domain of two coordinates holds where another does, if so at its stamps
pub within_two : (m n : ℕ) (f g : Stamp → Bool)
    → ((x y : ℕ) → x ≤ m → y ≤ n → f (x ∷ y ∷ []) ≡ true → g (x ∷ y ∷ []) ≡ true)
    → Within (λ t. in_domain (record { greatest = m ∷ n ∷ []; sides = false }) t && f t) (λ t. in_domain (record { greatest = m ∷ n ∷ []; sides = false }) t && g t)
within_two m n f g h [] k = cc
within_two m n f g h (x ∷ []) k = grind (arith, nat_tests)
within_two m n f g h (x ∷ y ∷ []) k = grind (arith, nat_tests, h x y)
within_two m n f g h (x ∷ y ∷ z ∷ t) k = grind (arith, nat_tests)

-- the same for one coordinate
pub within_one : (m : ℕ) (f g : Stamp → Bool)
    → ((x : ℕ) → x ≤ m → f (x ∷ []) ≡ true → g (x ∷ []) ≡ true)
    → Within (λ t. in_domain (record { greatest = m ∷ []; sides = false }) t && f t) (λ t. in_domain (record { greatest = m ∷ []; sides = false }) t && g t)
within_one m f g h [] k = cc
within_one m f g h (x ∷ []) k = grind (arith, nat_tests, h x)
within_one m f g h (x ∷ y ∷ t) k = grind (arith, nat_tests)

-- and for three
pub within_three : (m n k : ℕ) (f g : Stamp → Bool)
    → ((x y z : ℕ) → x ≤ m → y ≤ n → z ≤ k → f (x ∷ y ∷ z ∷ []) ≡ true → g (x ∷ y ∷ z ∷ []) ≡ true)
    → Within (λ t. in_domain (record { greatest = m ∷ n ∷ k ∷ []; sides = false }) t && f t) (λ t. in_domain (record { greatest = m ∷ n ∷ k ∷ []; sides = false }) t && g t)
within_three m n k f g h [] l = cc
within_three m n k f g h (x ∷ []) l = grind (arith, nat_tests)
within_three m n k f g h (x ∷ y ∷ []) l = grind (arith, nat_tests)
within_three m n k f g h (x ∷ y ∷ z ∷ []) l = grind (arith, nat_tests, h x y z)
within_three m n k f g h (x ∷ y ∷ z ∷ w ∷ t) l = grind (arith, nat_tests)

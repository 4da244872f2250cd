-- The steps of a loop's frontiers, whatever the frontiers outside of the loop.
use Rattle.std.proofs.Common.{◌≡◌, ℕ, ◌+◌, ◌<◌, ◌≤◌, Bool, true, false, not, ◌&&◌, ◌||◌, nat_le, nat_lt, max, min, List, [], ◌∷◌, ◌++◌, length, get_or, map, refl, sym, ap, ◌∙◌, subst, zero, suc, inl, inr, arith, add-one}
use Rattle.std.proofs.Math.Bool.{and_assoc, or-true}
use Rattle.std.proofs.lemmas.Bool.Decides.{nat_tests}
use Rattle.std.proofs.lemmas.Bool.{cases_lt, lt-ltb, leb-true, le-ltb, le-leb, and_from, and_parts, and_right}
use Rattle.std.proofs.lemmas.List.{get_or_past}
use Rattle.std.specs.List.{AllByRecursion}
use Rattle.fw_lemmas.proofs.Each.{each-weaker}
use Rattle.fw_time.specs.Stamp.{leq, nest, outer, counter, in_domain}
use Rattle.fw_time.specs.NestLaws.{nest-outer}
use Rattle.fw_time.specs.declared.stamp.Bounds.{Bounds}
use Rattle.fw_time.proofs.StampLaws.{leq-nest, leq-length}
use Rattle.fw_time.proofs.DomainLaws.{domain-leq, domain-length, plain-in_domain}
use Rattle.fw_time.proofs.TimeLaws.{leq-nest_bound}
use Rattle.fw_frontier.specs.Front.{inside, IsFrontOf}
use Rattle.fw_frontier.proofs.CanonicalLaws.{in_domain-canonical}
use Rattle.fw_frontier.specs.Stairs.{IsDescending}
use Rattle.fw_frontier.proofs.GenericLaws.{no}

-- ---- two frontiers of a loop, step by step

-- the steps past the last one too
pub pairwise : {F T : Type 0} (test : F → T → Bool) (f : Bool → Bool → Bool) (xs ys zs : List F) (x y z : F)
    → length zs ≡ max (length xs) (length ys)
    → ((c : ℕ) (d : F) → c < length zs → (t : T) → test (get_or zs c d) t ≡ f (test (get_or xs c x) t) (test (get_or ys c y) t))
    → ((t : T) → test z t ≡ f (test x t) (test y t))
    → (c : ℕ) (t : T) → test (get_or zs c z) t ≡ f (test (get_or xs c x) t) (test (get_or ys c y) t)
pairwise test f xs ys zs x y z long each last c t = elim (cases_lt c (length zs)) [
  | inl h ↦ each c z h t
  | inr h ↦
      ap (λ s. test s t) (get_or_past zs c z h)
      ∙ last t
      ∙ (let p = sym (get_or_past xs c x (omega arith)) in let q = sym (get_or_past ys c y (omega arith)) in λ i. f (test (p i) t) (test (q i) t))
]

-- steps that are made of descending ones by a growing test descend
pub descending-pairwise : {F T : Type 0} (test : F → T → Bool) (f : Bool → Bool → Bool) (xs ys zs : List F) (x y z : F)
    → ((a b m n : Bool) → (a ≡ true → m ≡ true) → (b ≡ true → n ≡ true) → f a b ≡ true → f m n ≡ true)
    → IsDescending test xs x → IsDescending test ys y
    → ((c : ℕ) (t : T) → test (get_or zs c z) t ≡ f (test (get_or xs c x) t) (test (get_or ys c y) t))
    → IsDescending test zs z
descending-pairwise test f xs ys zs x y z grows mine other each c d t h k =
    each c t ∙ grows _ _ _ _ (mine c d t h) (other c d t h) (sym (each d t) ∙ k)

pub and-grows : (a b m n : Bool) → (a ≡ true → m ≡ true) → (b ≡ true → n ≡ true) → (a && b) ≡ true → (m && n) ≡ true
and-grows a b m n f g h = and_from m n (f (and_parts a b h).0) (g (and_parts a b h).1)

pub or-grows : (a b m n : Bool) → (a ≡ true → m ≡ true) → (b ≡ true → n ≡ true) → (a || b) ≡ true → (m || n) ≡ true
or-grows true b m n f g h = ap (λ c. c || n) (f refl)
or-grows false b m n f g h = right m (g h)
  where
    right : {n : Bool} (m : Bool) → n ≡ true → (m || n) ≡ true
    right true e = refl
    right false e = e

-- ---- a loop's frontier without a time and the greater ones

pub cut-whole : {F T : Type 0} (test : F → T → Bool) (q : T → Bool) (from : ℕ) (xs zs : List F) (x z : F)
    → length zs ≡ max (length xs) from
    → ((c : ℕ) (d : F) → c < length zs → (s : T) → test (get_or zs c d) s ≡ (test (get_or xs c x) s && not (nat_le from c && q s)))
    → ((s : T) → test z s ≡ (test x s && not (q s)))
    → (c : ℕ) (s : T) → test (get_or zs c z) s ≡ (test (get_or xs c x) s && not (nat_le from c && q s))
cut-whole test q from xs zs x z long each last c s = elim (cases_lt c (length zs)) [
  | inl h ↦ each c z h s
  | inr h ↦
      ap (λ f. test f s) (get_or_past zs c z h)
      ∙ last s
      ∙ (let p = sym (get_or_past xs c x (omega arith)) in let b = sym (le-leb from c (omega arith)) in λ i. test (p i) s && not (b i && q s))
]

pub descending-cut : {F T : Type 0} (test : F → T → Bool) (q : T → Bool) (from : ℕ) (xs zs : List F) (x z : F)
    → IsDescending test xs x
    → ((c : ℕ) (s : T) → test (get_or zs c z) s ≡ (test (get_or xs c x) s && not (nat_le from c && q s)))
    → IsDescending test zs z
descending-cut test q from xs zs x z down each c d s h k =
    let e = sym (each d s) ∙ k in
    each c s ∙ and_from (test (get_or xs c x) s) (not (nat_le from c && q s)) (down c d s h (and_parts _ _ e).0) (kept (nat_le from c) (nat_le from d) (q s) (λ f. later from c d h f) (and_parts (test (get_or xs d x) s) (not (nat_le from d && q s)) e).1)
  where
    later : (from c d : ℕ) → c ≤ d → nat_le from c ≡ true → nat_le from d ≡ true
    later from c d h e = grind (arith, nat_tests)

    kept : (a b q : Bool) → (a ≡ true → b ≡ true) → not (b && q) ≡ true → not (a && q) ≡ true
    kept true b q f h = let e = f refl in subst (λ (v : Bool). not (v && q) ≡ true) e h
    kept false b q f h = refl

-- ---- what is at most a time of a loop

pub below-whole : {F T : Type 0} (test : F → T → Bool) (n : ℕ) (u : F) (zs : List F) (z : F)
    → length zs ≡ n
    → ((c : ℕ) (d : F) → c < length zs → (t : T) → test (get_or zs c d) t ≡ test u t)
    → ((t : T) → test z t ≡ false)
    → (c : ℕ) (t : T) → test (get_or zs c z) t ≡ (test u t && nat_lt c n)
below-whole test n u zs z long each last c t = elim (cases_lt c (length zs)) [
  | inl h ↦ each c z h t ∙ whole (test u t) (nat_lt c n) (lt-ltb c n (omega arith))
  | inr h ↦ ap (λ f. test f t) (get_or_past zs c z h) ∙ last t ∙ sym (and_right (test u t) (nat_lt c n) (le-ltb c n (omega arith)))
]
  where
    whole : (a b : Bool) → b ≡ true → a ≡ (a && b)
    whole true b e = sym e
    whole false b e = refl

pub descending-below : {F T : Type 0} (test : F → T → Bool) (n : ℕ) (u : F) (zs : List F) (z : F)
    → ((c : ℕ) (t : T) → test (get_or zs c z) t ≡ (test u t && nat_lt c n))
    → IsDescending test zs z
descending-below test n u zs z each c d t h k =
    let e = sym (each d t) ∙ k in
    each c t ∙ and_from (test u t) (nat_lt c n) (and_parts _ _ e).0 (later c d n h (and_parts (test u t) (nat_lt d n) e).1)
  where
    later : (c d n : ℕ) → c ≤ d → nat_lt d n ≡ true → nat_lt c n ≡ true
    later c d n h e = grind (arith, nat_tests)

-- the counters up to one that is below the greatest
pub counter-below : (c k g : ℕ) → k < g → nat_lt c (k + 1) ≡ nat_le (min c g) k
counter-below c k g h = grind (arith, nat_tests)

-- each counter of the domain, where it is the greatest
pub counter-all : (b : Bool) (c k g : ℕ) → g ≤ k → b ≡ (b && nat_le (min c g) k)
counter-all b c k g h = by b (nat_le (min c g) k) (fits c k g h)
  where
    fits : (c k g : ℕ) → g ≤ k → nat_le (min c g) k ≡ true
    fits c k g h = grind (arith, nat_tests)

    by : (a b : Bool) → b ≡ true → a ≡ (a && b)
    by true b e = sym e
    by false b e = refl

-- ---- the outside stamps of a loop's frontier

-- what the stamps of the first counters leave inside
pub upto : (ℕ → Bool) → ℕ → ℕ → Bool
upto test zero d = true
upto test (suc c) d = upto test c d && (not (nat_le c d) || test c)

-- no stamp yet
pub upto-none : (test : ℕ → Bool) (d : ℕ) → upto test 0 d ≡ true
unfolding upto
upto-none test d = refl

-- one more counter
pub upto-more : (test : ℕ → Bool) (c d : ℕ) → upto test (c + 1) d ≡ (upto test c d && (not (nat_le c d) || test c))
unfolding upto
upto-more test c d = rw add-one refl

upto-min : (test : ℕ → Bool) (n d : ℕ) → ((a b : ℕ) → a ≤ b → test b ≡ true → test a ≡ true) → upto test (suc n) d ≡ test (min d n)
unfolding upto
upto-min test zero d down = first (nat_le 0 d) (le-leb 0 d (omega arith)) ∙ ap test lowest
  where
    first : (a : Bool) → a ≡ true → (true && (not a || test 0)) ≡ test 0
    first true e = refl
    first false e = no e

    lowest : 0 ≡ min d 0
    lowest = omega arith
upto-min test (suc n) d down =
    ap (λ b. b && (not (nat_le (suc n) d) || test (suc n))) (upto-min test n d down)
    ∙ elim (cases_lt n d) [
      | inl h ↦ here (nat_le (suc n) d) (le-leb (suc n) d (omega arith)) (test (min d n)) (test (suc n)) (λ e. down (min d n) (suc n) (omega arith) e) ∙ ap test (lower n d h)
      | inr h ↦ past (nat_le (suc n) d) (over n d h) (test (min d n)) (test (suc n)) ∙ ap test (upper n d h)
    ]
  where
    lower : (n d : ℕ) → n < d → suc n ≡ min d (suc n)
    lower n d h = omega arith

    upper : (n d : ℕ) → d ≤ n → min d n ≡ min d (suc n)
    upper n d h = omega arith

    over : (n d : ℕ) → d ≤ n → nat_le (suc n) d ≡ false
    over n d h = grind (arith, nat_tests)

    here : (a : Bool) → a ≡ true → (b c : Bool) → (c ≡ true → b ≡ true) → (b && (not a || c)) ≡ c
    here true e b true f = ap (λ v. v && true) (f refl)
    here true e true false f = refl
    here true e false false f = refl
    here false e b c f = no e

    past : (a : Bool) → a ≡ false → (b c : Bool) → (b && (not a || c)) ≡ b
    past true e b c = no (sym e)
    past false e true c = refl
    past false e false c = refl

-- the first counters are enough where the later steps are as the last one
pub upto-all : (test : ℕ → Bool) (len g d : ℕ) → ((a b : ℕ) → a ≤ b → test b ≡ true → test a ≡ true) → ((c : ℕ) → len ≤ c → test c ≡ test len) → d ≤ g → upto test (min len g + 1) d ≡ test d
upto-all test len g d down flat h = rw add-one (upto-min test (min len g) d down ∙ elim (cases_lt (min len g) d) [
  | inl k ↦ ap test (at_len len g d h k) ∙ sym (flat d (omega arith))
  | inr k ↦ ap test (at_d len g d k)
])
  where
    at_len : (len g d : ℕ) → d ≤ g → min len g < d → min d (min len g) ≡ len
    at_len len g d h k = omega arith

    at_d : (len g d : ℕ) → d ≤ min len g → min d (min len g) ≡ d
    at_d len g d k = omega arith

pub inside-append : (xs ys : List (List ℕ)) (t : List ℕ) → inside (xs ++ ys) t ≡ (inside xs t && inside ys t)
inside-append [] ys t = refl
inside-append (x ∷ xs) ys t = ap (λ b. not (leq x t) && b) (inside-append xs ys t) ∙ sym (and_assoc (not (leq x t)) (inside xs t) (inside ys t))

inside-nested : (os : List (List ℕ)) (s : List ℕ) (c d : ℕ) → AllByRecursion (λ o. length o ≡ length s) os → inside (map (λ o. nest o c) os) (nest s d) ≡ (not (nat_le c d) || inside os s)
inside-nested [] s c d h = sym (or-true (not (nat_le c d)))
inside-nested (o ∷ os) s c d h =
    (let p = leq-nest o s c d h.0 in let q = inside-nested os s c d h.1 in λ i. not (p i) && q i) ∙ by (leq o s) (nat_le c d) (inside os s)
  where
    by : (a b c : Bool) → (not (a && b) && (not b || c)) ≡ (not b || (not a && c))
    by true true c = refl
    by true false c = refl
    by false true c = refl
    by false false c = refl

-- the stamps of one more counter
pub inside-more_nested : (xs os : List (List ℕ)) (s : List ℕ) (c d : ℕ) → AllByRecursion (λ o. length o ≡ length s) os → inside (xs ++ map (λ o. nest o c) os) (nest s d) ≡ (inside xs (nest s d) && (not (nat_le c d) || inside os s))
inside-more_nested xs os s c d h = inside-append xs (map (λ o. nest o c) os) (nest s d) ∙ ap (λ b. inside xs (nest s d) && b) (inside-nested os s c d h)

-- and all of them lie in the domain
pub all-more_nested : (b : Bounds) (xs os : List (List ℕ)) (c : ℕ) → 0 < length b.greatest → c ≤ counter b.greatest → AllByRecursion (λ x. leq x b.greatest ≡ true) xs → AllByRecursion (λ o. leq o (outer b.greatest) ≡ true) os → AllByRecursion (λ x. leq x b.greatest ≡ true) (xs ++ map (λ o. nest o c) os)
all-more_nested b [] [] c h k l m = tt
all-more_nested b [] (o ∷ os) c h k l m =
    (leq-nest_bound o b.greatest c h ∙ and_from (leq o (outer b.greatest)) (nat_le c (counter b.greatest)) m.0 (le-leb c (counter b.greatest) k), all-more_nested b [] os c h k tt m.1)
all-more_nested b (x ∷ xs) os c h k l m = (l.0, all-more_nested b xs os c h k l.1 m)

-- stamps of the outer domain have its length
pub all-long : (b : Bounds) (s : List ℕ) (os : List (List ℕ)) → AllByRecursion (λ o. in_domain b o ≡ true) os → leq s b.greatest ≡ true → AllByRecursion (λ o. length o ≡ length s) os
all-long b s [] h k = tt
all-long b s (o ∷ os) h k = (domain-length b o h.0 ∙ sym (leq-length s b.greatest k), all-long b s os h.1 k)

-- ---- whether one loop's frontier lies within another

pub within-whole : {F T : Type 0} (test : F → T → Bool) (n : ℕ) (xs ys : List F) (x y : F) → length xs ≤ n → length ys ≤ n
    → ((c : ℕ) (t : T) → c < n → test (get_or xs c x) t ≡ true → test (get_or ys c y) t ≡ true)
    → ((t : T) → test x t ≡ true → test y t ≡ true)
    → (c : ℕ) (t : T) → test (get_or xs c x) t ≡ true → test (get_or ys c y) t ≡ true
within-whole test n xs ys x y h k each last c t e = elim (cases_lt c n) [
  | inl l ↦ each c t l e
  | inr l ↦ ap (λ s. test s t) (get_or_past ys c y (omega arith)) ∙ last t (ap (λ s. test s t) (sym (get_or_past xs c x (omega arith))) ∙ e)
]

pub within-last : {F T : Type 0} (test : F → T → Bool) (n : ℕ) (xs ys : List F) (x y : F) → length xs ≤ n → length ys ≤ n
    → ((c : ℕ) (t : T) → test (get_or xs c x) t ≡ true → test (get_or ys c y) t ≡ true)
    → (t : T) → test x t ≡ true → test y t ≡ true
within-last test n xs ys x y h k each t e =
    ap (λ s. test s t) (sym (get_or_past ys n y k)) ∙ each n t (ap (λ s. test s t) (get_or_past xs n x h) ∙ e)

pub and-swap : (a b : Bool) → (a && b) ≡ (b && a)
and-swap true true = refl
and-swap true false = refl
and-swap false true = refl
and-swap false false = refl

-- a list without elements gives its default
pub none-at : {F : Type 0} (xs : List F) (c : ℕ) (d : F) → xs ≡ [] → get_or xs c d ≡ d
none-at xs c d e = get_or_past xs c d (omega (arith, ap length e))

-- ---- the loop over the counters

-- one more counter
pub nested-more : (b o : Bounds) (xs os : List (List ℕ)) (test : List ℕ → ℕ → Bool) (c : ℕ)
    → o.sides ≡ false → o.greatest ≡ outer b.greatest → 0 < length b.greatest → c ≤ counter b.greatest
    → IsFrontOf o os (λ t. in_domain o t && test t c)
    → AllByRecursion (λ x. leq x b.greatest ≡ true) xs × ((s : List ℕ) (d : ℕ) → leq s (outer b.greatest) ≡ true → inside xs (nest s d) ≡ upto (test s) c d)
    → AllByRecursion (λ x. leq x b.greatest ≡ true) (xs ++ map (λ o. nest o c) os) × ((s : List ℕ) (d : ℕ) → leq s (outer b.greatest) ≡ true → inside (xs ++ map (λ o. nest o c) os) (nest s d) ≡ upto (test s) (c + 1) d)
nested-more b o xs os test c plain e some fits named so_far =
    let all = in_domain-canonical o os named.canonical in
    let there : AllByRecursion (λ u. leq u (outer b.greatest) ≡ true) os = each-weaker (λ u. in_domain o u ≡ true) (λ u. leq u (outer b.greatest) ≡ true) os (λ u h. sym (ap (leq u) e) ∙ domain-leq o u h) all in (
      all-more_nested b xs os c some fits so_far.0 there,
      λ s d h.
          let k : leq s o.greatest ≡ true = ap (leq s) e ∙ h in
          inside-more_nested xs os s c d (all-long o s os all k)
          ∙ (let p = so_far.1 s d h in let q = here (in_domain o s) (plain-in_domain o s plain ∙ k) (named.same s) in λ i. p i && (not (nat_le c d) || q i))
          ∙ sym (upto-more (test s) c d),
    )
  where
    here : {m n : Bool} (a : Bool) → a ≡ true → (a && m) ≡ (a && n) → m ≡ n
    here true e h = h
    here false e h = no e

-- all counters
pub nested-whole : (b : Bounds) (xs : List (List ℕ)) (test : List ℕ → ℕ → Bool) (len n : ℕ)
    → 0 < length b.greatest → n ≡ min len (counter b.greatest) + 1
    → ((s : List ℕ) (c d : ℕ) → c ≤ d → test s d ≡ true → test s c ≡ true)
    → ((s : List ℕ) (c : ℕ) → len ≤ c → test s c ≡ test s len)
    → ((s : List ℕ) (d : ℕ) → leq s (outer b.greatest) ≡ true → inside xs (nest s d) ≡ upto (test s) n d)
    → (t : List ℕ) → leq t b.greatest ≡ true → inside xs t ≡ test (outer t) (counter t)
nested-whole b xs test len n some e down flat each t h =
    let long : length t ≡ length b.greatest = leq-length t b.greatest h in
    let whole = nest-outer t (omega arith) in
    let parts = sym (leq-nest_bound (outer t) b.greatest (counter t) some) ∙ ap (λ u. leq u b.greatest) whole ∙ h in
    ap (inside xs) (sym whole)
    ∙ each (outer t) (counter t) (and_parts _ _ parts).0
    ∙ ap (λ m. upto (test (outer t)) m (counter t)) e
    ∙ upto-all (test (outer t)) len (counter b.greatest) (counter t) (down (outer t)) (flat (outer t)) (leb-true (counter t) (counter b.greatest) (and_parts (leq (outer t) (outer b.greatest)) (nat_le (counter t) (counter b.greatest)) parts).1)

-- stamps of the outer domain have room for a counter
pub all-short : (o : Bounds) (os : List (List ℕ)) → length o.greatest < 4 → AllByRecursion (λ u. in_domain o u ≡ true) os → AllByRecursion (λ u. length u < 4) os
all-short o [] h k = tt
all-short o (u ∷ os) h k = (omega (arith, domain-length o u k.0), all-short o os h k.1)

-- ---- a copy of a loop's frontier

pub copied-whole : {F T : Type 0} (test : F → T → Bool) (xs zs : List F) (x z : F) → length zs ≡ length xs
    → ((c : ℕ) (d : F) → c < length zs → (t : T) → test (get_or zs c d) t ≡ test (get_or xs c x) t)
    → ((t : T) → test z t ≡ test x t)
    → (c : ℕ) (t : T) → test (get_or zs c z) t ≡ test (get_or xs c x) t
copied-whole test xs zs x z long each last c t = elim (cases_lt c (length zs)) [
  | inl h ↦ each c z h t
  | inr h ↦ ap (λ s. test s t) (get_or_past zs c z h) ∙ last t ∙ ap (λ s. test s t) (sym (get_or_past xs c x (omega arith)))
]

pub descending-copied : {F T : Type 0} (test : F → T → Bool) (xs zs : List F) (x z : F) → IsDescending test xs x
    → ((c : ℕ) (t : T) → test (get_or zs c z) t ≡ test (get_or xs c x) t) → IsDescending test zs z
descending-copied test xs zs x z down each c d t h k = each c t ∙ down c d t h (sym (each d t) ∙ k)

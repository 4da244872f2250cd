-- The stamps of a domain one by one, and tests of all of them.
use Rattle.std.proofs.Common.{◌≡◌, ℕ, zero, suc, ◌<◌, ◌≤◌, Bool, true, false, ◌&&◌, nat_le, List, [], ◌∷◌, ◌++◌, map, refl, subst, inl, inr, ◌⊎◌, arith}
use Rattle.std.specs.List.{AllByRecursion, list_all}
use Rattle.std.proofs.lemmas.Bool.{and_parts, and_from, leb-true, le-leb, cases_Bool, cases_lt}
use Rattle.fw_lemmas.proofs.Each.{each-append, each-prefix, each-suffix, each-map, each_of-map, each-of_all, all-of_each}
use Rattle.fw_time.specs.Stamp.{Stamp, leq}

-- an element passes a test, or none does
pub find_in : {A : Type 0} (P : A → Type 0) (test : A → Bool) (xs : List A) → AllByRecursion P xs
    → ((x : A) × P x × (test x ≡ true)) ⊎ AllByRecursion (λ x. test x ≡ false) xs
find_in P test [] a = inr tt
find_in P test (x ∷ xs) a = elim (cases_Bool (test x)) [
  | inl e ↦ inl (x, a.0, e)
  | inr e ↦ elim (find_in P test xs a.1) [ inl w ↦ inl w | inr n ↦ inr (e, n) ]
]

-- ---- the numbers below a number

-- whether each number below n passes the test
pub each_below : (ℕ → Bool) → ℕ → Bool
each_below test zero = true
each_below test (suc n) = test n && each_below test n

pub each_below-at : (test : ℕ → Bool) (n : ℕ) → each_below test n ≡ true → (i : ℕ) → i < n → test i ≡ true
unfolding each_below
each_below-at test zero k i l = absurd (omega arith)
each_below-at test (suc n) k i l =
    let a = and_parts (test n) (each_below test n) k in
    elim (cases_lt i n) [
      | inl m ↦ each_below-at test n a.1 i m
      | inr m ↦ let e : n ≡ i = omega arith in subst (λ j. test j ≡ true) e a.0
    ]

pub each_below-from : (test : ℕ → Bool) (n : ℕ) → ((i : ℕ) → i < n → test i ≡ true) → each_below test n ≡ true
unfolding each_below
each_below-from test zero h = refl
each_below-from test (suc n) h = and_from (test n) (each_below test n) (h n (omega arith)) (each_below-from test n (λ i l. h i (omega arith)))

-- ---- stamps

-- each of the lists after each first coordinate up to c
with_first : ℕ → List Stamp → List Stamp
with_first zero ts = map (λ t. 0 ∷ t) ts
with_first (suc c) ts = map (λ t. suc c ∷ t) ts ++ with_first c ts

-- the stamps that are at most this one
pub stamps : Stamp → List Stamp
stamps [] = [] ∷ []
stamps (x ∷ g) = with_first x (stamps g)

each_first-at : (P : Stamp → Type 0) (c y : ℕ) (ts : List Stamp) → y ≤ c → AllByRecursion P (with_first c ts) → AllByRecursion (λ t. P (y ∷ t)) ts
unfolding with_first
each_first-at P zero y ts l a = let e : 0 ≡ y = omega arith in subst (λ x. AllByRecursion (λ t. P (x ∷ t)) ts) e (each_of-map P (λ t. 0 ∷ t) ts a)
each_first-at P (suc c) y ts l a =
    let first = map (λ t. suc c ∷ t) ts in
    elim (cases_lt y (suc c)) [
      | inl m ↦ each_first-at P c y ts (omega arith) (each-suffix P first (with_first c ts) a)
      | inr m ↦
          let e : suc c ≡ y = omega arith in
          subst (λ x. AllByRecursion (λ t. P (x ∷ t)) ts) e (each_of-map P (λ t. suc c ∷ t) ts (each-prefix P first (with_first c ts) a))
    ]

each_first-from : (P : Stamp → Type 0) (c : ℕ) (ts : List Stamp) → ((y : ℕ) → y ≤ c → AllByRecursion (λ t. P (y ∷ t)) ts) → AllByRecursion P (with_first c ts)
unfolding with_first
each_first-from P zero ts h = each-map P (λ t. 0 ∷ t) ts (h 0 (omega arith))
each_first-from P (suc c) ts h =
    each-append P (map (λ t. suc c ∷ t) ts) (with_first c ts) (each-map P (λ t. suc c ∷ t) ts (h (suc c) (omega arith)))
    (each_first-from P c ts (λ y l. h y (omega arith)))

-- what holds of each listed stamp holds of each stamp that is at most the greatest
pub each_stamp-at : (P : Stamp → Type 0) (g t : Stamp) → AllByRecursion P (stamps g) → leq t g ≡ true → P t
unfolding stamps
each_stamp-at P [] [] a l = a.0
each_stamp-at P [] (y ∷ t) a l = absurd (cc)
each_stamp-at P (x ∷ g) [] a l = absurd (cc)
each_stamp-at P (x ∷ g) (y ∷ t) a l =
    let b = and_parts (nat_le y x) (leq t g) l in
    each_stamp-at (λ s. P (y ∷ s)) g t (each_first-at P x y (stamps g) (leb-true y x b.0) a) b.1

pub each_stamp-from : (P : Stamp → Type 0) (g : Stamp) → ((t : Stamp) → leq t g ≡ true → P t) → AllByRecursion P (stamps g)
unfolding stamps
each_stamp-from P [] h = (h [] refl, tt)
each_stamp-from P (x ∷ g) h =
    each_first-from P x (stamps g) (λ y l. each_stamp-from (λ s. P (y ∷ s)) g (λ t k. h (y ∷ t) (and_from (nat_le y x) (leq t g) (le-leb y x l) k)))

-- whether each stamp that is at most this one passes the test
pub each_up_to : (Stamp → Bool) → Stamp → Bool
each_up_to test g = list_all test (stamps g)

pub each_up_to-at : (test : Stamp → Bool) (g t : Stamp) → each_up_to test g ≡ true → leq t g ≡ true → test t ≡ true
unfolding each_up_to
each_up_to-at test g t k l = each_stamp-at (λ s. test s ≡ true) g t (each-of_all test (stamps g) k) l

pub each_up_to-from : (test : Stamp → Bool) (g : Stamp) → ((t : Stamp) → leq t g ≡ true → test t ≡ true) → each_up_to test g ≡ true
unfolding each_up_to
each_up_to-from test g h = all-of_each test (stamps g) (each_stamp-from (λ s. test s ≡ true) g h)

-- some stamp that is at most this one passes the test, or none does
pub find_stamp : (test : Stamp → Bool) (g : Stamp) → ((t : Stamp) × (leq t g ≡ true) × (test t ≡ true)) ⊎ ((t : Stamp) → leq t g ≡ true → test t ≡ false)
find_stamp test g = elim (find_in (λ t. leq t g ≡ true) test (stamps g) (each_stamp-from (λ t. leq t g ≡ true) g (λ t l. l))) [
  | inl w ↦ inl w
  | inr n ↦ inr (λ t l. each_stamp-at (λ s. test s ≡ false) g t n l)
]

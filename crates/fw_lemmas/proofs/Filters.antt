-- Lists of which some elements are kept, and tests over lists.
use Rattle.std.proofs.Common.{◌≡◌, Bool, true, List, ◌∷◌, filter, false, [], refl, ap, ◌∙◌, ℕ, suc, ◌<◌, length, get_or, arith, zero, drop, cond, sym, inl, inr, ◌||◌, ◌++◌}
use Rattle.std.specs.List.{AllByRecursion, list_any, flat_map}
use Rattle.std.proofs.lemmas.Bool.{cond-true, cond-false, cases_Bool, cond_both, or_left, or_right}
use Rattle.fw_lemmas.proofs.Bools.{passes-not}

pub filter-in : {X : Type 0} (k : X → Bool) (x : X) (xs : List X) → k x ≡ true → filter k (x ∷ xs) ≡ x ∷ filter k xs
filter-in k x xs e = cond-true (k x) (x ∷ filter k xs) (filter k xs) e

pub filter-out : {X : Type 0} (k : X → Bool) (x : X) (xs : List X) → k x ≡ false → filter k (x ∷ xs) ≡ filter k xs
filter-out k x xs e = cond-false (k x) (x ∷ filter k xs) (filter k xs) e

pub filter-all : {X : Type 0} (k : X → Bool) (xs : List X) → AllByRecursion (λ x. k x ≡ true) xs → filter k xs ≡ xs
filter-all k [] a = refl
filter-all k (x ∷ xs) a = filter-in k x xs a.0 ∙ ap (λ zs. x ∷ zs) (filter-all k xs a.1)

pub filter-none : {X : Type 0} (k : X → Bool) (xs : List X) → AllByRecursion (λ x. k x ≡ false) xs → filter k xs ≡ []
filter-none k [] a = refl
filter-none k (x ∷ xs) a = filter-out k x xs a.0 ∙ filter-none k xs a.1

-- where no element passes, by its place, nothing is kept
pub filter-none_at : {X : Type 0} (k : X → Bool) (xs : List X) → ((i : ℕ) (d : X) → i < length xs → k (get_or xs i d) ≡ false) → filter k xs ≡ []
filter-none_at k [] h = refl
filter-none_at k (x ∷ xs) h = filter-out k x xs (h 0 x (omega arith)) ∙ filter-none_at k xs (λ i d l. h (suc i) d (omega arith))

-- where the first elements do not pass, those behind them have all that passes
pub filter-dropped : {X : Type 0} (k : X → Bool) (xs : List X) (n : ℕ) → ((i : ℕ) (d : X) → i < n → i < length xs → k (get_or xs i d) ≡ false)
    → filter k xs ≡ filter k (drop n xs)
filter-dropped k [] zero h = refl
filter-dropped k [] (suc n) h = refl
filter-dropped k (x ∷ xs) zero h = refl
filter-dropped k (x ∷ xs) (suc n) h =
    filter-out k x xs (h 0 x (omega arith) (omega arith)) ∙ filter-dropped k xs n (λ i d l m. h (suc i) d (omega arith) (omega arith))

-- of what one test keeps, a narrower test keeps as much as of all
pub filter-inner : {X : Type 0} (j k : X → Bool) (xs : List X) → AllByRecursion (λ x. j x ≡ true → k x ≡ true) xs → filter j (filter k xs) ≡ filter j xs
filter-inner j k [] a = refl
filter-inner j k (x ∷ xs) a = elim (cases_Bool (k x)) [
  | inl e ↦ ap (filter j) (filter-in k x xs e) ∙ by (j x) (filter-inner j k xs a.1)
  | inr e ↦ ap (filter j) (filter-out k x xs e) ∙ filter-inner j k xs a.1
      ∙ sym (filter-out j x xs (passes-not (j x) (k x) a.0 e))
]
  where
    by : (b : Bool) → filter j (filter k xs) ≡ filter j xs
        → cond b (x ∷ filter j (filter k xs)) (filter j (filter k xs)) ≡ cond b (x ∷ filter j xs) (filter j xs)
    by true e = ap (λ zs. x ∷ zs) e
    by false e = e

-- two tests in turn, where within the one the other agrees with a third
pub filter-swap : {X : Type 0} (j k l : X → Bool) (xs : List X) → AllByRecursion (λ x. j x ≡ true → k x ≡ l x) xs → filter j (filter k xs) ≡ filter l (filter j xs)
filter-swap j k l [] a = refl
filter-swap j k l (x ∷ xs) a =
    let rest = filter-swap j k l xs a.1 in
    elim (cases_Bool (j x)) [
      | inl e ↦ elim (cases_Bool (k x)) [
        | inl i ↦ ap (filter j) (filter-in k x xs i) ∙ filter-in j x (filter k xs) e ∙ ap (λ zs. x ∷ zs) rest
            ∙ sym (ap (filter l) (filter-in j x xs e) ∙ filter-in l x (filter j xs) (sym (a.0 e) ∙ i))
        | inr i ↦ ap (filter j) (filter-out k x xs i) ∙ rest
            ∙ sym (ap (filter l) (filter-in j x xs e) ∙ filter-out l x (filter j xs) (sym (a.0 e) ∙ i))
      ]
      | inr e ↦
          cond_both (k x) (x ∷ filter k xs) (filter k xs) (λ zs. filter j zs ≡ filter j (filter k xs)) (λ i. filter-out j x (filter k xs) e) (λ i. refl)
          ∙ rest ∙ sym (ap (filter l) (filter-out j x xs e))
    ]

-- two tests that agree on each element keep the same
pub filter-same_on : {X : Type 0} (f g : X → Bool) (xs : List X) → AllByRecursion (λ x. f x ≡ g x) xs → filter f xs ≡ filter g xs
filter-same_on f g [] same = refl
filter-same_on f g (x ∷ xs) same =
    ap (λ b. cond b (x ∷ filter f xs) (filter f xs)) same.0 ∙ ap (λ ys. cond (g x) (x ∷ ys) ys) (filter-same_on f g xs same.1)

-- a test that passes everything keeps everything
pub filter-true : {A : Type 0} (xs : List A) → filter (λ x. true) xs ≡ xs
filter-true [] = refl
filter-true (x ∷ xs) = ap (λ ys. x ∷ ys) (filter-true xs)

-- what passes a test is among what a wider one keeps
pub any-filter : {X : Type 0} (test k : X → Bool) (xs : List X) → AllByRecursion (λ x. test x ≡ true → k x ≡ true) xs → list_any test (filter k xs) ≡ list_any test xs
any-filter test k [] a = refl
any-filter test k (x ∷ xs) a = elim (cases_Bool (k x)) [
  | inl e ↦ ap (list_any test) (filter-in k x xs e) ∙ ap (λ b. test x || b) (any-filter test k xs a.1)
  | inr e ↦ ap (list_any test) (filter-out k x xs e) ∙ any-filter test k xs a.1 ∙ sym (ap (λ b. b || list_any test xs) (passes-not (test x) (k x) a.0 e))
]

-- what makes nothing may be left out
pub flat_map-filter : {X Y : Type 0} (g : X → List Y) (k : X → Bool) (xs : List X) → AllByRecursion (λ x. k x ≡ false → g x ≡ []) xs → flat_map g (filter k xs) ≡ flat_map g xs
flat_map-filter g k [] a = refl
flat_map-filter g k (x ∷ xs) a = elim (cases_Bool (k x)) [
  | inl e ↦ ap (flat_map g) (filter-in k x xs e) ∙ ap (λ zs. g x ++ zs) (flat_map-filter g k xs a.1)
  | inr e ↦ ap (flat_map g) (filter-out k x xs e) ∙ flat_map-filter g k xs a.1 ∙ sym (ap (λ zs. zs ++ flat_map g xs) (a.0 e))
]

-- one element that passes
pub any-at : {X : Type 0} (test : X → Bool) (xs : List X) (y : X) (ys : List X) → test y ≡ true → list_any test (xs ++ y ∷ ys) ≡ true
any-at test [] y ys k = or_left (test y) (list_any test ys) k
any-at test (x ∷ xs) y ys k = or_right (test x) (list_any test (xs ++ y ∷ ys)) (any-at test xs y ys k)

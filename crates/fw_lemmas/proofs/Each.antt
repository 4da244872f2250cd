-- What holds of each element of a list.
use Rattle.std.proofs.Common.{List, [], ◌∷◌, ℕ, zero, suc, ◌<◌, length, get_or, arith, ◌++◌, map, ◌≡◌, Bool, true, filter, false, cond, refl, ◌+◌, take, sym, ap, subst, ◌∙◌}
use Rattle.std.specs.List.{AllByRecursion, list_all, Contains}
use Rattle.std.proofs.lemmas.Bool.{cond_both, both_ways, and_parts, and_from}
use Rattle.std.proofs.lemmas.List.{take_more}

pub each-weaker : {A : Type 0} (P Q : A → Type 0) (xs : List A) → ((x : A) → P x → Q x) → AllByRecursion P xs → AllByRecursion Q xs
each-weaker P Q [] w a = tt
each-weaker P Q (x ∷ xs) w a = (w x a.0, each-weaker P Q xs w a.1)

pub each-both : {A : Type 0} (P Q : A → Type 0) (xs : List A) → AllByRecursion P xs → AllByRecursion Q xs → AllByRecursion (λ x. P x × Q x) xs
each-both P Q [] a b = tt
each-both P Q (x ∷ xs) a b = ((a.0, b.0), each-both P Q xs a.1 b.1)

-- what holds of everything holds of each
pub each-one : {A : Type 0} (P : A → Type 0) (xs : List A) → ((x : A) → P x) → AllByRecursion P xs
each-one P [] h = tt
each-one P (x ∷ xs) h = (h x, each-one P xs h)

-- of the element at a place
pub each-at : {A : Type 0} (P : A → Type 0) (xs : List A) (i : ℕ) (d : A) → i < length xs → AllByRecursion P xs → P (get_or xs i d)
each-at P [] i d l a = absurd (omega arith)
each-at P (x ∷ xs) zero d l a = a.0
each-at P (x ∷ xs) (suc i) d l a = each-at P xs i d (omega arith) a.1

-- of two lists one after the other
pub each-append : {A : Type 0} (P : A → Type 0) (xs ys : List A) → AllByRecursion P xs → AllByRecursion P ys → AllByRecursion P (xs ++ ys)
each-append P [] ys a b = b
each-append P (x ∷ xs) ys a b = (a.0, each-append P xs ys a.1 b)

-- of the first of them
pub each-prefix : {A : Type 0} (P : A → Type 0) (xs ys : List A) → AllByRecursion P (xs ++ ys) → AllByRecursion P xs
each-prefix P [] ys a = tt
each-prefix P (x ∷ xs) ys a = (a.0, each-prefix P xs ys a.1)

-- of the second of them
pub each-suffix : {A : Type 0} (P : A → Type 0) (xs ys : List A) → AllByRecursion P (xs ++ ys) → AllByRecursion P ys
each-suffix P [] ys a = a
each-suffix P (x ∷ xs) ys a = each-suffix P xs ys a.1

-- of what is mapped, from each before it
pub each-map : {A B : Type 0} (P : B → Type 0) (f : A → B) (xs : List A) → AllByRecursion (λ x. P (f x)) xs → AllByRecursion P (map f xs)
each-map P f [] a = tt
each-map P f (x ∷ xs) a = (a.0, each-map P f xs a.1)

-- and the way back
pub each_of-map : {A B : Type 0} (P : B → Type 0) (f : A → B) (xs : List A) → AllByRecursion P (map f xs) → AllByRecursion (λ x. P (f x)) xs
each_of-map P f [] a = tt
each_of-map P f (x ∷ xs) a = (a.0, each_of-map P f xs a.1)

-- of what a test keeps, from what holds where it passes
pub each-filter : {A : Type 0} (P : A → Type 0) (test : A → Bool) (xs : List A) → AllByRecursion (λ x. test x ≡ true → P x) xs → AllByRecursion P (filter test xs)
each-filter P test [] a = tt
each-filter P test (x ∷ xs) a =
    let rest = each-filter P test xs a.1 in
    cond_both (test x) (x ∷ filter test xs) (filter test xs) (AllByRecursion P) (λ e. (a.0 e, rest)) (λ e. rest)

-- and the way back
pub each_of-filter : {A : Type 0} (P : A → Type 0) (test : A → Bool) (xs : List A) → AllByRecursion P (filter test xs) → AllByRecursion (λ x. test x ≡ true → P x) xs
each_of-filter P test [] a = tt
each_of-filter P test (x ∷ xs) a = by (test x) refl a (λ b. each_of-filter P test xs b)
  where
    by : (c : Bool) → test x ≡ c → AllByRecursion P (cond c (x ∷ filter test xs) (filter test xs))
        → (AllByRecursion P (filter test xs) → AllByRecursion (λ y. test y ≡ true → P y) xs) → AllByRecursion (λ y. test y ≡ true → P y) (x ∷ xs)
    by true e a rest = (λ k. a.0, rest a.1)
    by false e a rest = (λ k. absurd (both_ways (test x) e k), rest a)

-- of what a test keeps of those of which it holds
pub each-kept : {A : Type 0} (P : A → Type 0) (test : A → Bool) (xs : List A) → AllByRecursion P xs → AllByRecursion P (filter test xs)
each-kept P test xs a = each-filter P test xs (each-weaker P (λ x. test x ≡ true → P x) xs (λ x p e. p) a)

-- a test of all passes for each
pub each-of_all : {A : Type 0} (test : A → Bool) (xs : List A) → list_all test xs ≡ true → AllByRecursion (λ x. test x ≡ true) xs
each-of_all test [] k = tt
each-of_all test (x ∷ xs) k = let a = and_parts (test x) (list_all test xs) k in (a.0, each-of_all test xs a.1)

-- and the way back
pub all-of_each : {A : Type 0} (test : A → Bool) (xs : List A) → AllByRecursion (λ x. test x ≡ true) xs → list_all test xs ≡ true
all-of_each test [] a = refl
all-of_each test (x ∷ xs) a = and_from (test x) (list_all test xs) a.0 (all-of_each test xs a.1)

-- of what is mapped, where the map takes the one property to the other
pub each-mapped : {A B : Type 0} (P : A → Type 0) (Q : B → Type 0) (g : A → B) → ((x : A) → P x → Q (g x)) → (xs : List A) → AllByRecursion P xs → AllByRecursion Q (map g xs)
each-mapped P Q g w [] a = tt
each-mapped P Q g w (x ∷ xs) a = (w x a.0, each-mapped P Q g w xs a.1)

-- of what a test keeps, another property from the first and the test
pub each-passed : {A : Type 0} (P Q : A → Type 0) (test : A → Bool) (xs : List A) → ((x : A) → test x ≡ true → P x → Q x) → AllByRecursion P xs → AllByRecursion Q (filter test xs)
each-passed P Q test [] k a = tt
each-passed P Q test (x ∷ xs) k a =
    let rest = each-passed P Q test xs k a.1 in
    cond_both (test x) (x ∷ filter test xs) (filter test xs) (AllByRecursion Q) (λ e. (k x e a.0, rest)) (λ e. rest)

-- with one element replaced
pub each-replaced : {A : Type 0} (P : A → Type 0) (xs : List A) (y z : A) (ys : List A) → (P y → P z) → AllByRecursion P (xs ++ y ∷ ys) → AllByRecursion P (xs ++ z ∷ ys)
each-replaced P [] y z ys k a = (k a.0, a.1)
each-replaced P (x ∷ xs) y z ys k a = (a.0, each-replaced P xs y z ys k a.1)

-- one more of which it holds
pub each-taken : {A : Type 0} (P : A → Type 0) (xs : List A) (i : ℕ) (x : A) → i < length xs → x ≡ get_or xs i x → AllByRecursion P (take i xs) → P x → AllByRecursion P (take (i + 1) xs)
each-taken P xs i x l is a p = subst (AllByRecursion P) (sym (take_more xs i x l ∙ ap (λ y. take i xs ++ y ∷ []) (sym is))) (each-append P (take i xs) (x ∷ []) a (p, tt))

-- each element is in its list
pub each-there : {A : Type 0} (xs : List A) → AllByRecursion (Contains xs) xs
each-there [] = tt
each-there (x ∷ xs) = ((0, omega arith, refl), each-weaker (Contains xs) (Contains (x ∷ xs)) xs (λ y c. let l = c.1 in (suc c.0, omega arith, c.2)) (each-there xs))

-- each of the first with each of the second
pub each-each : {X Y : Type 0} (R : X → Y → Type 0) (xs : List X) (ys : List Y) → AllByRecursion (λ y. AllByRecursion (λ x. R x y) xs) ys → AllByRecursion (λ x. AllByRecursion (R x) ys) xs
each-each {X} {Y} R [] ys a = tt
each-each {X} {Y} R (x ∷ xs) ys a =
    let Both : Y → Type 0 = λ y. R x y × AllByRecursion (λ z. R z y) xs in
    (each-weaker Both (R x) ys (λ y b. b.0) a, each-each R xs ys (each-weaker Both (λ y. AllByRecursion (λ z. R z y) xs) ys (λ y b. b.1) a))

-- what holds at each place of a list holds of each element
pub each-of_places : {A : Type 0} (P : A → Type 0) (d : A) (xs : List A) → ((p : ℕ) → p < length xs → P (get_or xs p d)) → AllByRecursion P xs
each-of_places P d [] h = tt
each-of_places P d (x ∷ xs) h = (h 0 (omega arith), each-of_places P d xs (λ p l. h (suc p) (omega arith)))

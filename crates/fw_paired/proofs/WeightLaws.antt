-- What lists weigh that are mapped, filtered or joined.
use Rattle.std.proofs.Common.{◌≡◌, ℕ, ◌+◌, Bool, true, false, cond, List, [], ◌∷◌, map, refl, sym, ap, ◌∙◌, arith}
use Rattle.std.specs.Prelude.{filter}
use Rattle.std.specs.List.{AllByRecursion, sum_by, flat_map}
use Rattle.std.proofs.lemmas.List.Sums.{sum_by-cons, sum_by-append}
use Rattle.fw_paired.specs.Bags.{AreReordered}

pub weight-map : {X Y : Type 0} (w : Y → ℕ) (f : X → Y) (xs : List X) → sum_by w (map f xs) ≡ sum_by (λ x. w (f x)) xs
weight-map w f [] = refl
weight-map w f (x ∷ xs) = sum_by-cons w (f x) (map f xs) ∙ ap (λ n. w (f x) + n) (weight-map w f xs) ∙ sym (sum_by-cons (λ x. w (f x)) x xs)

pub weight-filter : {X : Type 0} (w : X → ℕ) (test : X → Bool) (xs : List X) → sum_by w (filter test xs) ≡ sum_by (λ x. cond (test x) (w x) 0) xs
weight-filter w test [] = refl
weight-filter w test (x ∷ xs) = cases (test x) (weight-filter w test xs) ∙ sym (sum_by-cons (λ x. cond (test x) (w x) 0) x xs)
  where
    cases : (b : Bool) → sum_by w (filter test xs) ≡ sum_by (λ x. cond (test x) (w x) 0) xs
        → sum_by w (cond b (x ∷ filter test xs) (filter test xs)) ≡ cond b (w x) 0 + sum_by (λ x. cond (test x) (w x) 0) xs
    cases true ih = sum_by-cons w x (filter test xs) ∙ ap (λ n. w x + n) ih
    cases false ih = omega (arith, ih)

pub weight-flat_map : {X Y : Type 0} (w : Y → ℕ) (f : X → List Y) (xs : List X) → sum_by w (flat_map f xs) ≡ sum_by (λ x. sum_by w (f x)) xs
weight-flat_map w f [] = refl
weight-flat_map w f (x ∷ xs) =
    sum_by-append w (f x) (flat_map f xs) ∙ ap (λ n. sum_by w (f x) + n) (weight-flat_map w f xs) ∙ sym (sum_by-cons (λ x. sum_by w (f x)) x xs)

-- what weighs the same weighs the same in all
pub weight-same : {X : Type 0} (v w : X → ℕ) (xs : List X) → AllByRecursion (λ x. v x ≡ w x) xs → sum_by v xs ≡ sum_by w xs
weight-same v w [] h = refl
weight-same v w (x ∷ xs) h =
    sum_by-cons v x xs ∙ ap (λ n. n + sum_by v xs) h.0 ∙ ap (λ n. w x + n) (weight-same v w xs h.1) ∙ sym (sum_by-cons w x xs)

-- two weights together
pub weight-both : {X : Type 0} (v w : X → ℕ) (xs : List X) → sum_by (λ x. v x + w x) xs ≡ sum_by v xs + sum_by w xs
weight-both v w [] = refl
weight-both v w (x ∷ xs) =
    let a = sum_by-cons (λ x. v x + w x) x xs in
    let b = sum_by-cons v x xs in
    let c = sum_by-cons w x xs in
    let ih = weight-both v w xs in
    omega arith

-- ---- what holds of each

-- what fails a test weighs 1
abbrev fails : {X : Type 0} → (X → Bool) → X → ℕ
fails test x = cond (test x) 0 1

none-fails : {X : Type 0} (test : X → Bool) (xs : List X) → AllByRecursion (λ x. test x ≡ true) xs → sum_by (fails test) xs ≡ 0
none-fails test [] h = refl
none-fails test (x ∷ xs) h =
    let split = sum_by-cons (fails test) x xs in
    let here : fails test x ≡ 0 = ap (λ b. cond b 0 1) h.0 in
    let ih = none-fails test xs h.1 in
    omega arith

each-passes : {X : Type 0} (test : X → Bool) (xs : List X) → sum_by (fails test) xs ≡ 0 → AllByRecursion (λ x. test x ≡ true) xs
each-passes test [] h = tt
each-passes test (x ∷ xs) h =
    let split = sum_by-cons (fails test) x xs in
    let here : fails test x ≡ 0 = omega arith in
    let later : sum_by (fails test) xs ≡ 0 = omega arith in
    (passes (test x) here, each-passes test xs later)
  where
    passes : (b : Bool) → ◌≡◌ {A = ℕ} (cond b 0 1) 0 → b ≡ true
    passes true e = refl
    passes false e = absurd (omega arith)

-- what holds of each of a list holds of each of its elements in another order
pub each-reordered : {X : Type 0} (test : X → Bool) (xs ys : List X) → AreReordered xs ys → AllByRecursion (λ x. test x ≡ true) xs → AllByRecursion (λ x. test x ≡ true) ys
each-reordered test xs ys r h = each-passes test ys (sym (r (fails test)) ∙ none-fails test xs h)

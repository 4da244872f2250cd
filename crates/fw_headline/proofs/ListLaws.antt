-- Lists of which something is decided of each element: the first element that fails, the greatest that passes, how many pass.
use Rattle.std.proofs.Common.{◌≡◌, ℕ, zero, suc, ◌+◌, ◌<◌, ◌≤◌, List, [], ◌∷◌, ◌++◌, length, get_or, refl, sym, ap, subst, inl, inr, ◌⊎◌, arith}
use Rattle.std.specs.List.{AllByRecursion}
use Rattle.fw_model.proofs.Decisions.{Decided}
use Rattle.fw_model.proofs.ListedLaws.{IsIn}

-- each passes, or there is a first one that fails
pub first-failing : {A : Type 0} (P : A → Type 0) → ((x : A) → Decided (P x)) → (xs : List A)
    → AllByRecursion P xs ⊎ ((it : A) × (earlier : List A) × (later : List A) × (xs ≡ earlier ++ it ∷ later) × AllByRecursion P earlier × (P it → ⊥))
first-failing P d [] = inl tt
first-failing P d (x ∷ xs) = elim (d x) [
  | inr n ↦ inr (x, [], xs, refl, tt, n)
  | inl k ↦ elim (first-failing P d xs) [
    | inl all ↦ inl (k, all)
    | inr w ↦ inr (w.0, x ∷ w.1, w.2, ap (λ ys. x ∷ ys) w.3, (k, w.4), w.5)
  ]
]

-- where each two that pass lie below one that passes, so do all of a list and one more
pub greatest-in : {A : Type 0} (P : A → Type 0) (R : A → A → Type 0) → ((x : A) → Decided (P x)) → ((x : A) → R x x)
    → ((x y z : A) → R x y → R y z → R x z) → ((x y : A) → P x → P y → (z : A) × P z × R x z × R y z) → (xs : List A) (one : A) → P one
    → (top : A) × P top × R one top × AllByRecursion (λ x. P x → R x top) xs
greatest-in P R d itself along both [] one k = (one, k, itself one, tt)
greatest-in P R d itself along both (x ∷ xs) one k = elim (d x) [
  | inr n ↦
      let g = greatest-in P R d itself along both xs one k in
      (g.0, g.1, g.2, (λ j. absurd (n j), g.3))
  | inl j ↦
      let u = both one x k j in
      let g = greatest-in P R d itself along both xs u.0 u.1 in
      (g.0, g.1, along one u.0 g.0 u.2 g.2, (λ i. along x u.0 g.0 u.3 g.2, g.3))
]

-- a list with what there is for each place
at_each : {A : Type 0} (P : ℕ → A → Type 0) (d : A) (n : ℕ) (x : A) (xs : List A) → P zero x → ((p : ℕ) → p < n → P (suc p) (get_or xs p d))
    → (p : ℕ) → p < suc n → P p (get_or (x ∷ xs) p d)
at_each P d n x xs k h zero l = k
at_each P d n x xs k h (suc p) l = h p (omega arith)

pub list_of-places : {A : Type 0} (P : ℕ → A → Type 0) (d : A) (n : ℕ) → ((p : ℕ) → p < n → (x : A) × P p x)
    → (xs : List A) × (length xs ≡ n) × ((p : ℕ) → p < n → P p (get_or xs p d))
list_of-places P d zero h = ([], refl, λ p l. absurd (omega arith))
list_of-places P d (suc n) h =
    let first = h zero (omega arith) in
    let rest = list_of-places (λ p x. P (suc p) x) d n (λ p l. h (suc p) (omega arith)) in
    let long = rest.1 in
    (first.0 ∷ rest.0, omega arith, at_each P d n first.0 rest.0 first.1 rest.2)

-- ---- how many pass

weigh : {A : Type 0} → Decided A → ℕ
weigh (inl a) = 1
weigh (inr n) = 0

weigh-most : {A B : Type 0} (d : Decided A) (e : Decided B) → (A → B) → weigh d ≤ weigh e
unfolding weigh
weigh-most (inl a) (inl b) f = omega arith
weigh-most (inl a) (inr n) f = absurd (n (f a))
weigh-most (inr m) (inl b) f = omega arith
weigh-most (inr m) (inr n) f = omega arith

weigh-less : {A B : Type 0} (d : Decided A) (e : Decided B) → (A → ⊥) → B → weigh d < weigh e
unfolding weigh
weigh-less (inl a) e n b = absurd (n a)
weigh-less (inr m) (inl c) n b = omega arith
weigh-less (inr m) (inr k) n b = absurd (k b)

pub count : {A : Type 0} (P : A → Type 0) → ((x : A) → Decided (P x)) → List A → ℕ
count P d [] = 0
count P d (x ∷ xs) = weigh (d x) + count P d xs

count-most : {A : Type 0} (P Q : A → Type 0) (d : (x : A) → Decided (P x)) (e : (x : A) → Decided (Q x)) (xs : List A) → ((x : A) → P x → Q x)
    → count P d xs ≤ count Q e xs
unfolding count
count-most P Q d e [] f = omega arith
count-most P Q d e (x ∷ xs) f =
    let here = weigh-most (d x) (e x) (f x) in
    let rest = count-most P Q d e xs f in
    omega arith

-- fewer pass the one test than the other, if some element of the list passes the other alone
pub count-less : {A : Type 0} (P Q : A → Type 0) (d : (x : A) → Decided (P x)) (e : (x : A) → Decided (Q x)) (xs : List A) → ((x : A) → P x → Q x)
    → (y : A) → IsIn y xs → (P y → ⊥) → Q y → count P d xs < count Q e xs
unfolding IsIn count
count-less P Q d e [] f y i n k = absurd i
count-less P Q d e (x ∷ xs) f y (inl s) n k =
    let here = weigh-less (d x) (e x) (λ j. n (subst P (sym s) j)) (subst Q s k) in
    let rest = count-most P Q d e xs f in
    omega arith
count-less P Q d e (x ∷ xs) f y (inr i) n k =
    let here = weigh-most (d x) (e x) (f x) in
    let rest = count-less P Q d e xs f y i n k in
    omega arith

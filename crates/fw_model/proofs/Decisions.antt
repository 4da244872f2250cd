-- Decided statements.
use Rattle.std.proofs.Common.{◌≡◌, ℕ, zero, suc, ◌<◌, Bool, true, false, List, [], ◌∷◌, refl, subst, inl, inr, ◌⊎◌, arith}
use Rattle.std.specs.List.{AllByRecursion}
use Rattle.std.proofs.lemmas.Bool.{cases_lt}

-- a statement is decided where it is proved or refuted
abbrev pub Decided : Type 0 → Type 0
Decided A = A ⊎ (A → ⊥)

pub decided-test : (b : Bool) (c : Bool) → Decided (b ≡ c)
decided-test true true = inl refl
decided-test true false = inr (λ e. cc)
decided-test false true = inr (λ e. cc)
decided-test false false = inl refl

pub decided-or : {A B : Type 0} → Decided A → Decided B → Decided (A ⊎ B)
decided-or (inl a) q = inl (inl a)
decided-or (inr n) (inl b) = inl (inr b)
decided-or (inr n) (inr m) = inr (λ s. elim s [ inl a ↦ n a | inr b ↦ m b ])

pub decided-below : (m n : ℕ) → Decided (m < n)
decided-below m n = elim (cases_lt m n) [ inl l ↦ inl l | inr l ↦ inr (λ k. omega arith) ]

pub decided-as : {A B : Type 0} → (A → B) → (B → A) → Decided A → Decided B
decided-as f g (inl a) = inl (f a)
decided-as f g (inr n) = inr (λ b. n (g b))

pub decided-and : {A B : Type 0} → Decided A → Decided B → Decided (A × B)
decided-and (inl a) (inl b) = inl (a, b)
decided-and (inl a) (inr n) = inr (λ p. n p.1)
decided-and (inr n) q = inr (λ p. n p.0)

pub decided-if : {A B : Type 0} → Decided A → Decided B → Decided (A → B)
decided-if p (inl b) = inl (λ a. b)
decided-if (inl a) (inr n) = inr (λ f. n (f a))
decided-if (inr m) (inr n) = inl (λ a. absurd (m a))

pub decided-number : (m n : ℕ) → Decided (m ≡ n)
decided-number m n = elim (cases_lt m n) [
  | inl l ↦ inr (λ e. omega arith)
  | inr l ↦ elim (cases_lt n m) [ inl k ↦ inr (λ e. omega arith) | inr k ↦ inl (omega arith) ]
]

pub decided-places : (n : ℕ) (P : ℕ → Type 0) → ((p : ℕ) → Decided (P p)) → Decided ((p : ℕ) → p < n → P p)
decided-places zero P h = inl (λ p l. absurd (omega arith))
decided-places (suc n) P h = elim (h n) [
  | inr k ↦ inr (λ f. k (f n (omega arith)))
  | inl k ↦ elim (decided-places n P h) [
    | inr r ↦ inr (λ f. r (λ p l. f p (omega arith)))
    | inl r ↦ inl (λ p l. elim (cases_lt p n) [ inl m ↦ r p m | inr m ↦ let e : n ≡ p = omega arith in subst P e k ])
  ]
]

pub decided-each : {A : Type 0} (P : A → Type 0) → ((x : A) → Decided (P x)) → (xs : List A) → Decided (AllByRecursion P xs)
decided-each P h [] = inl tt
decided-each P h (x ∷ xs) = decided-and (h x) (decided-each P h xs)

-- one of the first n numbers has a decided property, or none has
pub find_place : (n : ℕ) (P : ℕ → Type 0) → ((p : ℕ) → Decided (P p)) → ((p : ℕ) × (p < n) × P p) ⊎ ((p : ℕ) → p < n → P p → ⊥)
find_place zero P h = inr (λ p l. absurd (omega arith))
find_place (suc n) P h = elim (h n) [
  | inl k ↦ inl (n, omega arith, k)
  | inr k ↦ elim (find_place n P h) [
    | inl w ↦ let l = w.1 in inl (w.0, omega arith, w.2)
    | inr none ↦ inr (λ p l i. elim (cases_lt p n) [ inl m ↦ none p m i | inr m ↦ let e : p ≡ n = omega arith in k (subst P e i) ])
  ]
]

-- Each counter of a loop, and some counter of it.
use Rattle.std.proofs.Common.{◌≡◌, ℕ, zero, suc, ◌≤◌, true, false, ◌⊎◌, sym, ap, ◌∙◌, inl, inr, refl, arith}
use Rattle.std.proofs.lemmas.Bool.{and_parts, and_from, or_cases, or_left, or_right}
use Rattle.fw_time.specs.Stamp.{Stamp, nest}
use Rattle.fw_frontier.specs.Frontier.{Frontier, Within, nothing, meet}
use Rattle.fw_flow.specs.Projection.{each_counter, some_counter}
use Rattle.fw_model.specs.Unions.{IsUnion}

-- ---- each

pub each_counter-at : (f : Frontier) (x : Stamp) (m c : ℕ) → c ≤ m → each_counter f x m ≡ true → f (nest x c) ≡ true
each_counter-at f x zero c h k = let e : zero ≡ c = omega arith in ap (λ d. f (nest x d)) (sym e) ∙ k
each_counter-at f x (suc m) c h k =
    let a = and_parts (f (nest x (suc m))) (each_counter f x m) k in
    elim (cases_last c m h) [
      | inl e ↦ ap (λ d. f (nest x d)) e ∙ a.0
      | inr l ↦ each_counter-at f x m c l a.1
    ]
  where
    cases_last : (c m : ℕ) → c ≤ suc m → (c ≡ suc m) ⊎ (c ≤ m)
    cases_last c m h = grind arith

pub each_counter-from : (f : Frontier) (x : Stamp) (m : ℕ) → ((c : ℕ) → c ≤ m → f (nest x c) ≡ true) → each_counter f x m ≡ true
each_counter-from f x zero all = all 0 (omega arith)
each_counter-from f x (suc m) all =
    and_from (f (nest x (suc m))) (each_counter f x m) (all (suc m) (omega arith)) (each_counter-from f x m (λ c h. all c (omega arith)))

pub each_counter-monotone : (f g : Frontier) → Within f g → (x : Stamp) (m : ℕ) → each_counter f x m ≡ true → each_counter g x m ≡ true
each_counter-monotone f g w x zero k = w (nest x 0) k
each_counter-monotone f g w x (suc m) k =
    let a = and_parts (f (nest x (suc m))) (each_counter f x m) k in
    and_from (g (nest x (suc m))) (each_counter g x m) (w (nest x (suc m)) a.0) (each_counter-monotone f g w x m a.1)

pub each_counter-meet : (f g : Frontier) (x : Stamp) (m : ℕ) → each_counter f x m ≡ true → each_counter g x m ≡ true → each_counter (meet f g) x m ≡ true
each_counter-meet f g x zero j k = and_from (f (nest x 0)) (g (nest x 0)) j k
each_counter-meet f g x (suc m) j k =
    let a = and_parts (f (nest x (suc m))) (each_counter f x m) j in
    let b = and_parts (g (nest x (suc m))) (each_counter g x m) k in
    and_from (meet f g (nest x (suc m))) (each_counter (meet f g) x m) (and_from (f (nest x (suc m))) (g (nest x (suc m))) a.0 b.0)
    (each_counter-meet f g x m a.1 b.1)

-- ---- some

pub some_counter-at : (f : Frontier) (x : Stamp) (m : ℕ) → some_counter f x m ≡ true → (c : ℕ) × (c ≤ m) × (f (nest x c) ≡ true)
some_counter-at f x zero k = (0, omega arith, k)
some_counter-at f x (suc m) k = elim (or_cases (f (nest x (suc m))) (some_counter f x m) k) [
  | inl a ↦ (suc m, omega arith, a)
  | inr a ↦ let w = some_counter-at f x m a in let l : w.0 ≤ m = w.1 in (w.0, omega arith, w.2)
]

pub some_counter-from : (f : Frontier) (x : Stamp) (m c : ℕ) → c ≤ m → f (nest x c) ≡ true → some_counter f x m ≡ true
some_counter-from f x zero c h k = let e : zero ≡ c = omega arith in ap (λ d. f (nest x d)) e ∙ k
some_counter-from f x (suc m) c h k = elim (cases_last c m h) [
  | inl e ↦ or_left (f (nest x (suc m))) (some_counter f x m) (sym (ap (λ d. f (nest x d)) e) ∙ k)
  | inr l ↦ or_right (f (nest x (suc m))) (some_counter f x m) (some_counter-from f x m c l k)
]
  where
    cases_last : (c m : ℕ) → c ≤ suc m → (c ≡ suc m) ⊎ (c ≤ m)
    cases_last c m h = grind arith

pub some_counter-monotone : (f g : Frontier) → Within f g → (x : Stamp) (m : ℕ) → some_counter f x m ≡ true → some_counter g x m ≡ true
some_counter-monotone f g w x zero k = w (nest x 0) k
some_counter-monotone f g w x (suc m) k = elim (or_cases (f (nest x (suc m))) (some_counter f x m) k) [
  | inl a ↦ or_left (g (nest x (suc m))) (some_counter g x m) (w (nest x (suc m)) a)
  | inr a ↦ or_right (g (nest x (suc m))) (some_counter g x m) (some_counter-monotone f g w x m a)
]

pub some_counter-one : (family : ℕ → Frontier) (f : Frontier) → IsUnion family f → (x : Stamp) (m : ℕ) → some_counter f x m ≡ true → (i : ℕ) × (some_counter (family i) x m ≡ true)
some_counter-one family f w x zero k = w.from_one (nest x 0) k
some_counter-one family f w x (suc m) k = elim (or_cases (f (nest x (suc m))) (some_counter f x m) k) [
  | inl a ↦ let y = w.from_one (nest x (suc m)) a in (y.0, or_left (family y.0 (nest x (suc m))) (some_counter (family y.0) x m) y.1)
  | inr a ↦ let y = some_counter-one family f w x m a in (y.0, or_right (family y.0 (nest x (suc m))) (some_counter (family y.0) x m) y.1)
]

pub some_counter-nothing : (x : Stamp) (m : ℕ) → some_counter nothing x m ≡ false
some_counter-nothing x zero = refl
some_counter-nothing x (suc m) = some_counter-nothing x m

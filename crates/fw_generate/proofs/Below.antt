-- What holds of each number below a bound that computes.
use Rattle.std.proofs.Common.{◌≡◌, ℕ, zero, suc, ◌<◌, Bool, true, ◌&&◌, arith, inl, inr, subst}
use Rattle.std.proofs.lemmas.Bool.{and_parts, cases_lt}

-- each number below the bound has the property, from 0 on
abbrev pub EachBelow : (ℕ → Type 0) → ℕ → Type 0
EachBelow P zero = Unit {0}
EachBelow P (suc n) = EachBelow P n × P n

pub each_below-at : (P : ℕ → Type 0) (n : ℕ) → EachBelow P n → (i : ℕ) → i < n → P i
each_below-at P zero h i l = absurd (omega arith)
each_below-at P (suc n) h i l = elim (cases_lt i n) [
  | inl m ↦ each_below-at P n h.0 i m
  | inr m ↦ let e : n ≡ i = omega arith in subst P e h.1
]

-- whether each number below the bound passes the test
abbrev pub all_below : (ℕ → Bool) → ℕ → Bool
all_below test zero = true
all_below test (suc n) = test n && all_below test n

pub all_below-at : (test : ℕ → Bool) (n : ℕ) → all_below test n ≡ true → (i : ℕ) → i < n → test i ≡ true
all_below-at test n h = each_below-at (λ i. test i ≡ true) n (each n h)
  where
    each : (m : ℕ) → all_below test m ≡ true → EachBelow (λ i. test i ≡ true) m
    each zero k = tt
    each (suc m) k = let parts = and_parts (test m) (all_below test m) k in (each m parts.1, parts.0)

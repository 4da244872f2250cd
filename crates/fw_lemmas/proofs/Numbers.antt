-- Numbers, and induction by them.
use Rattle.std.proofs.Common.{◌≡◌, ℕ, ◌==◌, arith, true, ◌<◌, false, ◌+◌, ◌≤◌, Bool, cond, nat_le, refl, suc, not, ◌||◌, zero}
use Rattle.std.proofs.lemmas.Bool.Decides.{nat_tests}
use Rattle.std.proofs.lemmas.Bool.{eqb-true, false_from_ne_true}

pub eqb-sym : (a b : ℕ) → (a == b) ≡ (b == a)
eqb-sym a b = grind (arith, nat_tests)

pub eqb-self : (k : ℕ) → (k == k) ≡ true
eqb-self k = grind (arith, nat_tests)

pub other_number : (m n : ℕ) → m < n → (m == n) ≡ false
other_number m n l = false_from_ne_true (m == n) (λ e. let same = eqb-true m n e in omega arith)

-- a count with one part more is no less
pub count-grows : (b : Bool) (k n : ℕ) → k ≤ n → k ≤ cond b (n + 1) n
count-grows true k n l = omega arith
count-grows false k n l = l

pub at_most-refl : (n : ℕ) → n ≤ n
at_most-refl n = omega arith

pub zero-le : (x : ℕ) → nat_le 0 x ≡ true
zero-le x = grind arith

-- of two counts the one that counts less, with one more part each
pub count_step : (a b : Bool) (c m n : ℕ) → (a ≡ true → b ≡ true) → m ≤ n → cond a (c + m) m ≤ cond b (c + n) n
count_step true true c m n k l = omega arith
count_step true false c m n k l = let e = k refl in absurd (cc)
count_step false true c m n k l = omega arith
count_step false false c m n k l = l

-- a place that is found is below the length, with one element before it
pub below_step : (b : Bool) (n m : ℕ) (rest : Bool) → (b || rest) ≡ true → (rest ≡ true → n < m) → cond (not b) (1 + n) 0 < suc m
below_step true n m rest h below = omega arith
below_step false n m rest h below = omega (arith, below h)

-- what holds of an element, if it holds of those of lesser measure, holds of those below a number
pub below_measure : {A : Type 0} (m : A → ℕ) (P : A → Type 0) → ((x : A) → ((y : A) → m y < m x → P y) → P x) → (n : ℕ) (x : A) → m x < n → P x
below_measure m P step zero x l = absurd (omega arith)
below_measure m P step (suc n) x l = step x (λ y k. below_measure m P step n y (omega arith))

-- and of each
pub by_measure : {A : Type 0} (m : A → ℕ) (P : A → Type 0) → ((x : A) → ((y : A) → m y < m x → P y) → P x) → (x : A) → P x
by_measure m P step x = below_measure m P step (m x + 1) x (omega arith)

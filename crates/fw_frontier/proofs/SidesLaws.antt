-- A limit for each of two sides.
use Rattle.std.proofs.Common.{◌≡◌, ℕ, ◌+◌, ◌-◌, Bool, true, false, nat_eq, cond, List, [], ◌∷◌, length, Option, Some, None, refl, sym, ap, ◌∙◌, arith}
use Rattle.std.proofs.lemmas.Bool.Decides.{nat_tests}
use Rattle.fw_time.specs.Stamp.{leq, is_of_side}
use Rattle.fw_frontier.specs.Below.{is_below}
use Rattle.fw_frontier.specs.Sides.{is_below_side}

-- each number below the one limit of a side is below the other exactly where that is so of the times
pub sides-within : (a b c d : Option ℕ) → ((n : ℕ) → is_below a n ≡ true → is_below c n ≡ true) → ((n : ℕ) → is_below b n ≡ true → is_below d n ≡ true)
    → (x y : ℕ) → is_below_side a b x y ≡ true → is_below_side c d x y ≡ true
sides-within a b c d f g x y h = by (nat_eq y 0) h
  where
    by : (e : Bool) → cond e (is_below a (x - 1)) (is_below b (y - 1)) ≡ true → cond e (is_below c (x - 1)) (is_below d (y - 1)) ≡ true
    by true h = f (x - 1) h
    by false h = g (y - 1) h

less-one : (n : ℕ) → n + 1 - 1 ≡ n
less-one n = omega arith

pub within-first : (a b c d : Option ℕ) → ((x y : ℕ) → is_below_side a b x y ≡ true → is_below_side c d x y ≡ true) → (n : ℕ) → is_below a n ≡ true → is_below c n ≡ true
within-first a b c d f n h = sym (ap (is_below c) (less-one n)) ∙ f (n + 1) 0 (ap (is_below a) (less-one n) ∙ h)

pub within-second : (a b c d : Option ℕ) → ((x y : ℕ) → is_below_side a b x y ≡ true → is_below_side c d x y ≡ true) → (n : ℕ) → is_below b n ≡ true → is_below d n ≡ true
within-second a b c d f n h =
    let e : nat_eq (n + 1) 0 ≡ false = some n in
    sym (ap (λ z. cond z (is_below c (0 - 1)) (is_below d (n + 1 - 1))) e ∙ ap (is_below d) (less-one n))
    ∙ f 0 (n + 1) (ap (λ z. cond z (is_below a (0 - 1)) (is_below b (n + 1 - 1))) e ∙ ap (is_below b) (less-one n) ∙ h)
  where
    some : (n : ℕ) → nat_eq (n + 1) 0 ≡ false
    some n = grind (arith, nat_tests)

-- with a time of a side each lesser one of a side is inside
pub sides-closed : (a b : Option ℕ) (x y v w : ℕ) → is_of_side (x ∷ y ∷ []) ≡ true → is_of_side (v ∷ w ∷ []) ≡ true → leq (x ∷ y ∷ []) (v ∷ w ∷ []) ≡ true
    → is_below_side a b v w ≡ true → is_below_side a b x y ≡ true
sides-closed None None x y v w h k l m = any (nat_eq y 0)
  where
    any : (e : Bool) → cond e true true ≡ true
    any true = refl
    any false = refl
sides-closed None (Some b) x y v w h k l m = grind (arith, nat_tests)
sides-closed (Some a) None x y v w h k l m = grind (arith, nat_tests)
sides-closed (Some a) (Some b) x y v w h k l m = grind (arith, nat_tests)

-- a stamp of a side has two coordinates
pub side-length : (s : List ℕ) → is_of_side s ≡ true → length s ≡ 2
side-length [] h = cc
side-length (x ∷ []) h = cc
side-length (x ∷ y ∷ []) h = refl
side-length (x ∷ y ∷ z ∷ s) h = cc

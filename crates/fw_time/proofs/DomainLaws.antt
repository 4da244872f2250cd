-- What a stamp of a domain is, whether the domain has sides or not.
use Rattle.std.proofs.Common.{◌≡◌, ℕ, ◌<◌, Bool, true, false, ◌&&◌, nat_le, nat_lt, nat_eq, cond, ◌+◌, [], ◌∷◌, length, refl, sym, ap, zero, suc, arith}
use Rattle.std.proofs.lemmas.Bool.{and_from, and_parts}
use Rattle.std.proofs.lemmas.Bool.Decides.{nat_tests}
use Rattle.fw_time.specs.declared.stamp.Bounds.{Bounds}
use Rattle.fw_time.specs.Stamp.{Stamp, leq, stamp_raised_at, is_of_side, counts, in_domain, up_to}
use Rattle.fw_time.proofs.StampLaws.{leq-length, leq-trans}

pub domain-leq : (b : Bounds) (s : Stamp) → in_domain b s ≡ true → leq s b.greatest ≡ true
domain-leq b s h = (and_parts (counts b.sides s) (leq s b.greatest) h).1

pub domain-counts : (b : Bounds) (s : Stamp) → in_domain b s ≡ true → counts b.sides s ≡ true
domain-counts b s h = (and_parts (counts b.sides s) (leq s b.greatest) h).0

pub domain-length : (b : Bounds) (s : Stamp) → in_domain b s ≡ true → length s ≡ length b.greatest
domain-length b s h = leq-length s b.greatest (domain-leq b s h)

-- a domain without sides has each stamp up to its greatest
pub plain-in_domain : (b : Bounds) (s : Stamp) → b.sides ≡ false → in_domain b s ≡ leq s b.greatest
plain-in_domain b s e = ap (λ c. counts c s && leq s b.greatest) e

-- a stamp with a greater coordinate at a place and zeros elsewhere, is of a side where the other one is
pub side-raised : (s : Stamp) (i : ℕ) → is_of_side s ≡ true → i < length s → is_of_side (stamp_raised_at s i) ≡ true
side-raised [] i h l = h
side-raised (x ∷ []) i h l = cc
side-raised (x ∷ y ∷ []) zero h l = above x
  where
    above : (x : ℕ) → cond (nat_eq (x + 1) 0) (nat_lt 0 0) (nat_eq 0 0) ≡ true
    above x = grind (arith, nat_tests)
side-raised (x ∷ y ∷ []) (suc zero) h l = above y
  where
    above : (y : ℕ) → cond (nat_eq 0 0) (nat_lt 0 (y + 1)) (nat_eq (y + 1) 0) ≡ true
    above y = grind (arith, nat_tests)
side-raised (x ∷ y ∷ []) (suc (suc i)) h l = absurd (omega arith)
side-raised (x ∷ y ∷ z ∷ s) i h l = cc

-- what lies between two stamps of sides is of a side
pub side-between : (s u t : Stamp) → is_of_side s ≡ true → is_of_side t ≡ true → leq s u ≡ true → leq u t ≡ true → is_of_side u ≡ true
side-between (x ∷ y ∷ []) (v ∷ w ∷ []) (p ∷ q ∷ []) h k l m = by x y v w p q h k l m
  where
    by : (x y v w p q : ℕ) → cond (nat_eq x 0) (nat_lt 0 y) (nat_eq y 0) ≡ true → cond (nat_eq p 0) (nat_lt 0 q) (nat_eq q 0) ≡ true
        → (nat_le x v && (nat_le y w && true)) ≡ true → (nat_le v p && (nat_le w q && true)) ≡ true → cond (nat_eq v 0) (nat_lt 0 w) (nat_eq w 0) ≡ true
    by x y v w p q h k l m = grind (arith, nat_tests)
side-between [] u t h k l m = cc
side-between (x ∷ []) u t h k l m = cc
side-between (x ∷ y ∷ z ∷ s) u t h k l m = cc
side-between (x ∷ y ∷ []) [] t h k l m = cc
side-between (x ∷ y ∷ []) (v ∷ []) t h k l m = absurd (omega (arith, leq-length (x ∷ y ∷ []) (v ∷ []) l))
side-between (x ∷ y ∷ []) (v ∷ w ∷ z ∷ u) t h k l m = absurd (omega (arith, leq-length (x ∷ y ∷ []) (v ∷ w ∷ z ∷ u) l))
side-between (x ∷ y ∷ []) (v ∷ w ∷ []) [] h k l m = cc
side-between (x ∷ y ∷ []) (v ∷ w ∷ []) (p ∷ []) h k l m = cc
side-between (x ∷ y ∷ []) (v ∷ w ∷ []) (p ∷ q ∷ z ∷ t) h k l m = cc

pub domain-between : (b : Bounds) (s u t : Stamp) → in_domain b s ≡ true → in_domain b t ≡ true → leq s u ≡ true → leq u t ≡ true → in_domain b u ≡ true
domain-between b s u t h k l m =
    and_from (counts b.sides u) (leq u b.greatest) (by b.sides (domain-counts b s h) (domain-counts b t k)) (leq-trans u t b.greatest m (domain-leq b t k))
  where
    by : (c : Bool) → counts c s ≡ true → counts c t ≡ true → counts c u ≡ true
    by true h k = side-between s u t h k l m
    by false h k = refl

-- a domain without sides is that of all stamps up to its greatest
pub plain-up_to : (b : Bounds) → b.sides ≡ false → up_to b.greatest ≡ b
plain-up_to b e = λ i. record { greatest = b.greatest; sides = sym e i }

-- The order of stamps, and the stamps of a loop.
use Rattle.std.proofs.Common.{◌≡◌, ℕ, ◌≤◌, true, false, nat_le, [], ◌∷◌, Some, refl, sym, ap, ◌∙◌, arith}
use Rattle.std.proofs.lemmas.Bool.{and_parts, and_from, leb-true, le-leb}
use Rattle.fw_time.specs.Stamp.{Stamp, leq, nest, outer, counter}
pub use Rattle.fw_time.proofs.StampLaws.{same-is, same-refl, same-from}

nest-outer : (x : ℕ) (s : Stamp) → x ∷ s ≡ nest (outer (x ∷ s)) (counter (x ∷ s))
nest-outer x [] = refl
nest-outer x (y ∷ s) = ap (λ t. x ∷ t) (nest-outer y s)

pub nest-leq : (s t : Stamp) (c d : ℕ) → leq s t ≡ true → c ≤ d → leq (nest s c) (nest t d) ≡ true
nest-leq [] [] c d p q = and_from (nat_le c d) true (le-leb c d q) refl
nest-leq [] (y ∷ t) c d p q = cc
nest-leq (x ∷ s) [] c d p q = cc
nest-leq (x ∷ s) (y ∷ t) c d p q =
    let a = and_parts (nat_le x y) (leq s t) p in
    and_from (nat_le x y) (leq (nest s c) (nest t d)) a.0 (nest-leq s t c d a.1 q)

pub leq-nest : (s t : Stamp) (c d : ℕ) → leq (nest s c) (nest t d) ≡ true → (leq s t ≡ true) × (c ≤ d)
leq-nest [] [] c d p = (refl, leb-true c d (and_parts (nat_le c d) true p).0)
leq-nest [] (y ∷ []) c d p = let a = and_parts (nat_le c y) false p in absurd (cc)
leq-nest [] (y ∷ z ∷ t) c d p = let a = and_parts (nat_le c y) false p in absurd (cc)
leq-nest (x ∷ []) [] c d p = let a = and_parts (nat_le x d) false p in absurd (cc)
leq-nest (x ∷ z ∷ s) [] c d p = let a = and_parts (nat_le x d) false p in absurd (cc)
leq-nest (x ∷ s) (y ∷ t) c d p =
    let a = and_parts (nat_le x y) (leq (nest s c) (nest t d)) p in
    let b = leq-nest s t c d a.1 in
    (and_from (nat_le x y) (leq s t) a.0 b.0, b.1)

not_below-nest : (t : Stamp) (d : ℕ) → leq [] (nest t d) ≡ true → ⊥
not_below-nest [] d p = cc
not_below-nest (y ∷ t) d p = cc

-- the stamp is one of the loop: a stamp of its outer domain with a counter
pub record IsInLoop (b : Stamp) (m : ℕ) (u : Stamp) : Type 0 where
  pub nested : u ≡ nest (outer u) (counter u)
  pub outside : leq (outer u) b ≡ true
  pub counted : counter u ≤ m

pub in_loop : (u b : Stamp) (m : ℕ) → leq u (nest b m) ≡ true → IsInLoop b m u
in_loop [] b m p = absurd (not_below-nest b m p)
in_loop (x ∷ s) b m p =
    let e = nest-outer x s in
    let q : leq (nest (outer (x ∷ s)) (counter (x ∷ s))) (nest b m) ≡ true = sym (ap (λ t. leq t (nest b m)) e) ∙ p in
    let r = leq-nest (outer (x ∷ s)) b (counter (x ∷ s)) m q in
    record { nested = e; outside = r.0; counted = r.1 }

-- the same stamp on the left, and on the right
pub leq_from : (s t u : Stamp) → s ≡ t → leq s u ≡ true → leq t u ≡ true
leq_from s t u e l = sym (ap (λ x. leq x u) e) ∙ l

pub leq_to : (s t u : Stamp) → t ≡ u → leq s t ≡ true → leq s u ≡ true
leq_to s t u e l = sym (ap (λ x. leq s x) e) ∙ l

pub loop-leq : (b : Stamp) (m : ℕ) (s u : Stamp) → IsInLoop b m s → IsInLoop b m u → leq s u ≡ true → (leq (outer s) (outer u) ≡ true) × (counter s ≤ counter u)
loop-leq b m s u v w l =
    leq-nest (outer s) (outer u) (counter s) (counter u) (leq_to _ u _ w.nested (leq_from s _ u v.nested l))

-- a stamp below one of one coordinate is one of one coordinate
pub in_line : (u : Stamp) (g : ℕ) → leq u (g ∷ []) ≡ true → (k : ℕ) × (u ≡ k ∷ []) × (k ≤ g)
in_line [] g p = absurd (cc)
in_line (x ∷ []) g p = (x, refl, leb-true x g (and_parts (nat_le x g) true p).0)
in_line (x ∷ y ∷ s) g p = let a = and_parts (nat_le x g) false p in absurd (cc)

pub line-leq : (x y : ℕ) → x ≤ y → leq (x ∷ []) (y ∷ []) ≡ true
line-leq x y p = and_from (nat_le x y) true (le-leb x y p) refl

pub leq-line : (x y : ℕ) → leq (x ∷ []) (y ∷ []) ≡ true → x ≤ y
leq-line x y p = leb-true x y (and_parts (nat_le x y) true p).0

-- the counter does not rise downwards
pub counter-leq : (s t : Stamp) → leq s t ≡ true → counter s ≤ counter t
counter-leq [] [] k = omega arith
counter-leq [] (y ∷ t) k = cc
counter-leq (x ∷ s) [] k = cc
counter-leq (x ∷ []) (y ∷ []) k = leb-true x y (and_parts (nat_le x y) true k).0
counter-leq (x ∷ []) (y ∷ z ∷ t) k = let a = and_parts (nat_le x y) false k in absurd (cc)
counter-leq (x ∷ z ∷ s) (y ∷ []) k = let a = and_parts (nat_le x y) false k in absurd (cc)
counter-leq (x ∷ w ∷ s) (y ∷ z ∷ t) k = counter-leq (w ∷ s) (z ∷ t) (and_parts (nat_le x y) (leq (w ∷ s) (z ∷ t)) k).1

pub some_is : (s t : Stamp) → Some s ≡ Some t → s ≡ t
some_is s t e = cc

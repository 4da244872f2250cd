-- The laws of times of one coordinate, and of times with a coordinate more.
use Rattle.std.proofs.Common.{◌≡◌, ℕ, ◌+◌, ◌<◌, Bool, true, false, ◌&&◌, nat_le, List, [], ◌∷◌, length, refl, sym, ap, ◌∙◌, arith, length-append, slice_index}
use Rattle.std.proofs.Math.Bool.{and_assoc, and-true}
use Rattle.std.proofs.lemmas.Bool.Decides.{nat_tests}
use Rattle.std.specs.Ordering.{is_eq, nat_cmp, ordering_then}
use Rattle.std.specs.declared.cmp.Ordering.{Ordering}
use Rattle.std.specs.declared.cmp.Ordering.TheVariants.{Less, Equal, Greater}
use Rattle.fw_time.specs.Stamp.{leq, same, nest, outer, counter}

-- a loop's stamp, taken apart
pub outer-nest : (s : List ℕ) (c : ℕ) → outer (nest s c) ≡ s
outer-nest [] c = refl
outer-nest (x ∷ []) c = refl
outer-nest (x ∷ y ∷ s) c = ap (λ u. x ∷ u) (outer-nest (y ∷ s) c)

pub counter-nest : (s : List ℕ) (c : ℕ) → counter (nest s c) ≡ c
counter-nest [] c = refl
counter-nest (x ∷ []) c = refl
counter-nest (x ∷ y ∷ s) c = counter-nest (y ∷ s) c

-- a loop's stamp has one coordinate more than the outer one
pub length-nest : (s : List ℕ) (c : ℕ) → length (nest s c) ≡ length s + 1
length-nest s c = grind (arith, length-append {A = ℕ})

-- the one coordinate
pub single : (x y : ℕ) → x ∷ [] ≡ y ∷ [] → x ≡ y
single x y e = cc

-- the outer stamp and the counter
pub outer-same : (s t : List ℕ) (c d : ℕ) → nest s c ≡ nest t d → s ≡ t
outer-same s t c d e = sym (outer-nest s c) ∙ ap outer e ∙ outer-nest t d

pub counter-same : (s t : List ℕ) (c d : ℕ) → nest s c ≡ nest t d → c ≡ d
counter-same s t c d e = sym (counter-nest s c) ∙ ap counter e ∙ counter-nest t d

-- there is a coordinate
pub some-nest : (s : List ℕ) (c : ℕ) → 0 < length (nest s c)
some-nest s c = omega (arith, length-nest s c)

-- as many coordinates as the outer time has, and one
pub dimension-nest : (s : List ℕ) (c n : ℕ) → length s ≡ n → length (nest s c) ≡ n + 1
dimension-nest s c n e = omega (arith, length-nest s c)

-- a loop's stamp, put together again
pub nest-outer : (s : List ℕ) → 0 < length s → nest (outer s) (counter s) ≡ s
nest-outer [] h = absurd (omega arith)
nest-outer (x ∷ []) h = refl
nest-outer (x ∷ y ∷ s) h = ap (λ u. x ∷ u) (nest-outer (y ∷ s) (omega arith))

length-outer : (s : List ℕ) → 0 < length s → length (outer s) + 1 ≡ length s
length-outer s h = sym (length-nest (outer s) (counter s)) ∙ ap length (nest-outer s h)

-- the outer stamp has one coordinate less
pub dimension-outer : (s : List ℕ) (n : ℕ) → length s ≡ n + 1 → length (outer s) ≡ n
dimension-outer s n h = omega (arith, length-outer s (omega arith))

-- one coordinate is the first
pub one-dimension : (s : List ℕ) → length s ≡ 1 → slice_index s 0 ∷ [] ≡ s
one-dimension [] h = cc
one-dimension (x ∷ []) h = refl
one-dimension (x ∷ y ∷ s) h = absurd (omega arith)

-- two coordinates are the first and the second
pub two-dimension : (s : List ℕ) → length s ≡ 2 → slice_index s 0 ∷ slice_index s 1 ∷ [] ≡ s
two-dimension [] h = cc
two-dimension (x ∷ []) h = absurd (omega arith)
two-dimension (x ∷ y ∷ []) h = refl
two-dimension (x ∷ y ∷ z ∷ s) h = absurd (omega arith)

-- there is a coordinate where there is one more than some
pub positive-from : (s : List ℕ) (n : ℕ) → length s ≡ n + 1 → 0 < length s
positive-from s n h = omega arith

-- stamps of a loop are ordered by the outer stamp and the counter
pub leq-nest : (s t : List ℕ) (c d : ℕ) → length s ≡ length t → leq (nest s c) (nest t d) ≡ (leq s t && nat_le c d)
leq-nest [] [] c d h = and-true (nat_le c d)
leq-nest [] (y ∷ t) c d h = cc
leq-nest (x ∷ s) [] c d h = cc
leq-nest (x ∷ s) (y ∷ t) c d h = ap (λ b. nat_le x y && b) (leq-nest s t c d (omega arith)) ∙ sym (and_assoc (nat_le x y) (leq s t) (nat_le c d))

-- the total order tells apart times of one coordinate as the coordinates do
pub single-apart : (x y : ℕ) → is_eq (nat_cmp x y) ≡ same (x ∷ []) (y ∷ [])
single-apart x y = grind (arith, nat_tests)

is_eq-then : (o p : Ordering) → is_eq (ordering_then o p) ≡ (is_eq o && is_eq p)
is_eq-then Less p = refl
is_eq-then Equal p = refl
is_eq-then Greater p = refl

is_eq-both : (c d : ℕ) → is_eq (nat_cmp c d) ≡ (nat_le c d && nat_le d c)
is_eq-both c d = grind (arith, nat_tests)

crossed : (a b c d : Bool) → ((a && b) && (c && d)) ≡ ((a && c) && (b && d))
crossed true true true d = refl
crossed true true false d = refl
crossed true false true d = refl
crossed true false false d = refl
crossed false b c d = refl

-- and times of a loop, where it does so with the outer times
pub nest-apart : (o : Ordering) (s t : List ℕ) (c d : ℕ) → length s ≡ length t → is_eq o ≡ same s t
    → is_eq (ordering_then o (nat_cmp c d)) ≡ same (nest s c) (nest t d)
nest-apart o s t c d l h =
    is_eq-then o (nat_cmp c d) ∙ ap (λ b. b && is_eq (nat_cmp c d)) h ∙ ap (λ b. same s t && b) (is_eq-both c d)
    ∙ crossed (leq s t) (leq t s) (nat_le c d) (nat_le d c)
    ∙ sym (ap (λ b. b && leq (nest t d) (nest s c)) (leq-nest s t c d l) ∙ ap (λ b. (leq s t && nat_le c d) && b) (leq-nest t s d c (sym l)))

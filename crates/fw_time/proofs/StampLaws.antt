-- The order of stamps is a partial order, and `lub` gives least upper bounds.
use Rattle.std.proofs.Common.{◌≡◌, ℕ, ◌≤◌, Bool, true, false, ◌&&◌, nat_le, cond, List, [], ◌∷◌, length, refl, sym, ap, ◌∙◌, zero, suc, ◌<◌, nat_lt, ◌+◌, ◌++◌, get_or, arith}
use Rattle.std.proofs.lemmas.Bool.{leb-true, le-leb, false_from_ne_true, and_from, and_parts}
use Rattle.std.proofs.lemmas.Bool.Decides.{nat_tests}
use Rattle.std.specs.Ordering.{is_lt, nat_cmp, ordering_then}
use Rattle.std.specs.Cmp.Lexicographic.{slice_cmp}
use Rattle.std.specs.declared.cmp.Ordering.{Ordering}
use Rattle.std.specs.declared.cmp.Ordering.TheVariants.{Less, Equal, Greater}
use Rattle.std.proofs.lemmas.Cmp.{tied_itself, nat_list_cmp_total}
pub use Rattle.fw_time.specs.NestLaws.{outer-nest, counter-nest, nest-outer, leq-nest}
use Rattle.fw_time.specs.Stamp.{leq, same, lub, glb, stamp_cmp, nest, origin, stamp_raised_at}

-- each stamp is at most itself
pub leq-refl : (s : List ℕ) → leq s s ≡ true
leq-refl [] = refl
leq-refl (x ∷ s) = and_from _ _ (le-leb x x (omega arith)) (leq-refl s)

-- what is at most a lesser stamp is at most the greater one
pub leq-trans : (s t u : List ℕ) → leq s t ≡ true → leq t u ≡ true → leq s u ≡ true
leq-trans [] [] u h k = k
leq-trans [] (y ∷ t) u h k = cc
leq-trans (x ∷ s) [] u h k = cc
leq-trans (x ∷ s) (y ∷ t) [] h k = cc
leq-trans (x ∷ s) (y ∷ t) (z ∷ u) h k =
    let a : x ≤ y = leb-true x y (and_parts _ _ h).0 in
    let b : y ≤ z = leb-true y z (and_parts _ _ k).0 in
    and_from _ _ (le-leb x z (omega arith)) (leq-trans s t u (and_parts _ _ h).1 (and_parts _ _ k).1)

-- stamps each at most the other are one
pub leq-antisym : (s t : List ℕ) → leq s t ≡ true → leq t s ≡ true → s ≡ t
leq-antisym [] [] h k = refl
leq-antisym [] (y ∷ t) h k = cc
leq-antisym (x ∷ s) [] h k = cc
leq-antisym (x ∷ s) (y ∷ t) h k =
    let a : x ≤ y = leb-true x y (and_parts _ _ h).0 in
    let b : y ≤ x = leb-true y x (and_parts _ _ k).0 in
    let e : x ≡ y = omega arith in
    let f : s ≡ t = leq-antisym s t (and_parts _ _ h).1 (and_parts _ _ k).1 in
    ap (λ z. z ∷ s) e ∙ ap (λ u. y ∷ u) f

-- stamps that the test finds the same are one
pub same-is : (s t : List ℕ) → same s t ≡ true → s ≡ t
same-is s t e = let p = and_parts (leq s t) (leq t s) e in leq-antisym s t p.0 p.1

pub same-refl : (s : List ℕ) → same s s ≡ true
same-refl s = and_from (leq s s) (leq s s) (leq-refl s) (leq-refl s)

pub same-from : (s t : List ℕ) → s ≡ t → same s t ≡ true
same-from s t e = sym (ap (same s) e) ∙ same-refl s

-- only stamps of one length are comparable
pub leq-length : (s t : List ℕ) → leq s t ≡ true → length s ≡ length t
leq-length [] [] h = refl
leq-length [] (y ∷ t) h = cc
leq-length (x ∷ s) [] h = cc
leq-length (x ∷ s) (y ∷ t) h = ap suc (leq-length s t (and_parts _ _ h).1)

-- stamps of unequal length are not comparable
pub leq-unequal : (s t : List ℕ) → (length s ≡ length t → ⊥) → leq s t ≡ false
leq-unequal s t h = false_from_ne_true (leq s t) (λ e. h (leq-length s t e))

-- the greater coordinates of two stamps of one length
pub length-lub : (s t : List ℕ) → length s ≡ length t → length (lub s t) ≡ length s
length-lub [] [] h = refl
length-lub [] (y ∷ t) h = cc
length-lub (x ∷ s) [] h = refl
length-lub (x ∷ s) (y ∷ t) h = ap suc (length-lub s t (omega arith))

-- the least upper bound is at least the first stamp
pub lub-left : (s t : List ℕ) → length s ≡ length t → leq s (lub s t) ≡ true
lub-left [] [] h = refl
lub-left [] (y ∷ t) h = cc
lub-left (x ∷ s) [] h = leq-refl (x ∷ s)
lub-left (x ∷ s) (y ∷ t) h =
    let a : nat_le x (cond (nat_le x y) y x) ≡ true = grind (arith, nat_tests) in
    and_from _ _ a (lub-left s t (omega arith))

-- and the second
pub lub-right : (s t : List ℕ) → length s ≡ length t → leq t (lub s t) ≡ true
lub-right [] [] h = refl
lub-right [] (y ∷ t) h = cc
lub-right (x ∷ s) [] h = cc
lub-right (x ∷ s) (y ∷ t) h =
    let a : nat_le y (cond (nat_le x y) y x) ≡ true = grind (arith, nat_tests) in
    and_from _ _ a (lub-right s t (omega arith))

-- and at most each stamp that is at least both
pub lub-least : (s t u : List ℕ) → leq s u ≡ true → leq t u ≡ true → leq (lub s t) u ≡ true
lub-least [] t u h k = k
lub-least (x ∷ s) [] u h k = h
lub-least (x ∷ s) (y ∷ t) [] h k = cc
lub-least (x ∷ s) (y ∷ t) (z ∷ u) h k =
    let a : nat_le x z ≡ true = (and_parts _ _ h).0 in
    let b : nat_le y z ≡ true = (and_parts _ _ k).0 in
    let m : nat_le (cond (nat_le x y) y x) z ≡ true = grind (arith, nat_tests) in
    and_from _ _ m (lub-least s t u (and_parts _ _ h).1 (and_parts _ _ k).1)

-- a stamp is at least both where it is at least the least upper bound
pub leq-lub : (s t u : List ℕ) → length s ≡ length t → leq (lub s t) u ≡ (leq s u && leq t u)
leq-lub s t u h = by (leq (lub s t) u) (leq s u) (leq t u)
    (λ e. leq-trans s (lub s t) u (lub-left s t h) e)
    (λ e. leq-trans t (lub s t) u (lub-right s t h) e)
    (λ e f. lub-least s t u e f)
  where
    by : (b c d : Bool) → (b ≡ true → c ≡ true) → (b ≡ true → d ≡ true) → (c ≡ true → d ≡ true → b ≡ true) → b ≡ (c && d)
    by true c d p q r = let e = p refl in let f = q refl in cc
    by false true true p q r = r refl refl
    by false true false p q r = refl
    by false false d p q r = refl

-- a stamp that comes before another comes before each that the other is at most
pub before-leq : (s t u : List ℕ) → is_lt (stamp_cmp s t) ≡ true → leq t u ≡ true → is_lt (stamp_cmp s u) ≡ true
before-leq [] [] u h k = cc
before-leq [] (y ∷ t) [] h k = cc
before-leq [] (y ∷ t) (z ∷ u) h k = refl
before-leq (x ∷ s) [] u h k = cc
before-leq (x ∷ s) (y ∷ t) [] h k = cc
before-leq (x ∷ s) (y ∷ t) (z ∷ u) h k =
    let b : nat_le y z ≡ true = (and_parts _ _ k).0 in
    step x y z (slice_cmp nat_cmp s t) (slice_cmp nat_cmp s u) b h (λ e. before-leq s t u e (and_parts _ _ k).1)
  where
    step : (x y z : ℕ) (o p : Ordering) → nat_le y z ≡ true → is_lt (ordering_then (nat_cmp x y) o) ≡ true → (is_lt o ≡ true → is_lt p ≡ true) → is_lt (ordering_then (nat_cmp x z) p) ≡ true
    step x y z o p b h r = grind (arith, nat_tests)

-- no stamp comes before itself
pub before-irrefl : (s : List ℕ) → is_lt (stamp_cmp s s) ≡ false
before-irrefl s = ap is_lt (tied_itself nat_list_cmp_total s)

-- of two stamps of which neither comes before the other, each is the other
pub before-total : (s t : List ℕ) → is_lt (stamp_cmp s t) ≡ false → is_lt (stamp_cmp t s) ≡ false → s ≡ t
before-total [] [] h k = refl
before-total [] (y ∷ t) h k = cc
before-total (x ∷ s) [] h k = cc
before-total (x ∷ s) (y ∷ t) h k =
    let a : x ≡ y = step x y (slice_cmp nat_cmp s t) (slice_cmp nat_cmp t s) h k in
    let b : s ≡ t = before-total s t (tail x y (slice_cmp nat_cmp s t) a h) (tail y x (slice_cmp nat_cmp t s) (sym a) k) in
    cc
  where
    step : (x y : ℕ) (o p : Ordering) → is_lt (ordering_then (nat_cmp x y) o) ≡ false → is_lt (ordering_then (nat_cmp y x) p) ≡ false → x ≡ y
    step x y o p h k = grind (arith, nat_tests)

    tail : (x y : ℕ) (o : Ordering) → x ≡ y → is_lt (ordering_then (nat_cmp x y) o) ≡ false → is_lt o ≡ false
    tail x y o e h = grind (arith, nat_tests)

-- what comes before a stamp that comes before another comes before that one
pub before-trans : (s t u : List ℕ) → is_lt (stamp_cmp s t) ≡ true → is_lt (stamp_cmp t u) ≡ true → is_lt (stamp_cmp s u) ≡ true
before-trans s t u h k = ap is_lt (nat_list_cmp_total.trans s t u (less (stamp_cmp s t) h) (less (stamp_cmp t u) k))
  where
    less : (o : Ordering) → is_lt o ≡ true → o ≡ Less
    less Less h = refl
    less Equal h = cc
    less Greater h = cc

-- a stamp comes before each other one that it is at most
pub before-from_leq : (s t : List ℕ) → leq s t ≡ true → leq t s ≡ false → is_lt (stamp_cmp s t) ≡ true
before-from_leq [] [] h k = cc
before-from_leq [] (y ∷ t) h k = cc
before-from_leq (x ∷ s) [] h k = cc
before-from_leq (x ∷ s) (y ∷ t) h k =
    step x y (slice_cmp nat_cmp s t) (leq t s) (and_parts _ _ h).0 k (λ e. before-from_leq s t (and_parts _ _ h).1 e)
  where
    step : (x y : ℕ) (o : Ordering) (b : Bool) → nat_le x y ≡ true → (nat_le y x && b) ≡ false → (b ≡ false → is_lt o ≡ true) → is_lt (ordering_then (nat_cmp x y) o) ≡ true
    step x y o b h k r = grind (arith, nat_tests)

-- the greater coordinates of stamps of a loop
pub lub-nest : (s t : List ℕ) (c d : ℕ) → length s ≡ length t → lub (nest s c) (nest t d) ≡ nest (lub s t) (cond (nat_le c d) d c)
lub-nest [] [] c d h = refl
lub-nest [] (y ∷ t) c d h = cc
lub-nest (x ∷ s) [] c d h = cc
lub-nest (x ∷ s) (y ∷ t) c d h = ap (λ u. cond (nat_le x y) y x ∷ u) (lub-nest s t c d (omega arith))

-- the least stamp of a domain is at most each stamp of it
pub origin-leq : (s t : List ℕ) → length s ≡ length t → leq (origin s) t ≡ true
origin-leq [] [] h = refl
origin-leq [] (y ∷ t) h = cc
origin-leq (x ∷ s) [] h = cc
origin-leq (x ∷ s) (y ∷ t) h = and_from _ _ (le-leb 0 y (omega arith)) (origin-leq s t (omega arith))

-- zeros before two stamps change nothing
pub leq-origin-append : (h s t : List ℕ) → leq (origin h ++ s) (h ++ t) ≡ leq s t
leq-origin-append [] s t = refl
leq-origin-append (x ∷ h) s t = cong (nat_le 0 x) (le-leb 0 x (omega arith)) (leq-origin-append h s t)
  where
    cong : {b c : Bool} (a : Bool) → a ≡ true → b ≡ c → (a && b) ≡ c
    cong a e k = cc

-- as long a list of zeros
pub origin-append : (h s : List ℕ) → origin (h ++ s) ≡ origin h ++ origin s
origin-append [] s = refl
origin-append (x ∷ h) s = ap (λ u. 0 ∷ u) (origin-append h s)

-- the stamps of a domain with a greater coordinate at a place
pub leq-raised : (s t : List ℕ) (i : ℕ) → i < length s → length s ≡ length t → leq (stamp_raised_at s i) t ≡ nat_lt (get_or s i 0) (get_or t i 0)
leq-raised [] t i h k = absurd (omega arith)
leq-raised (x ∷ s) [] i h k = cc
leq-raised (x ∷ s) (y ∷ t) zero h k = step (nat_le (x + 1) y) (leq (origin s) t) (origin-leq s t (omega arith)) ∙ same x y
  where
    step : (b c : Bool) → c ≡ true → (b && c) ≡ b
    step true c e = e
    step false c e = refl

    same : (x y : ℕ) → nat_le (x + 1) y ≡ nat_lt x y
    same x y = grind (arith, nat_tests)
leq-raised (x ∷ s) (y ∷ t) (suc i) h k = step (nat_le 0 y) (le-leb 0 y (omega arith)) ∙ leq-raised s t i (omega arith) (omega arith)
  where
    step : {c : Bool} (b : Bool) → b ≡ true → (b && c) ≡ c
    step b e = cc

-- the greatest lower bound of stamps of one length is at most the second
pub glb-right : (s t : List ℕ) → length s ≡ length t → leq (glb s t) t ≡ true
glb-right [] [] h = refl
glb-right [] (y ∷ t) h = cc
glb-right (x ∷ s) [] h = cc
glb-right (x ∷ s) (y ∷ t) h =
    let a : nat_le (cond (nat_le x y) x y) y ≡ true = grind (arith, nat_tests) in
    and_from _ _ a (glb-right s t (omega arith))

-- a stamp below another one is its own lesser part
pub glb-leq : (s t : List ℕ) → leq s t ≡ true → glb s t ≡ s
glb-leq [] [] h = refl
glb-leq [] (y ∷ t) h = cc
glb-leq (x ∷ s) [] h = cc
glb-leq (x ∷ s) (y ∷ t) h = λ i. first x y (and_parts _ _ h).0 i ∷ glb-leq s t (and_parts _ _ h).1 i
  where
    first : (x y : ℕ) → nat_le x y ≡ true → cond (nat_le x y) x y ≡ x
    first x y e = grind (arith, nat_tests)

-- the greatest lower bound is at most the first stamp too
pub glb-left : (s t : List ℕ) → length s ≡ length t → leq (glb s t) s ≡ true
glb-left [] [] h = refl
glb-left [] (y ∷ t) h = cc
glb-left (x ∷ s) [] h = cc
glb-left (x ∷ s) (y ∷ t) h =
    let a : nat_le (cond (nat_le x y) x y) x ≡ true = grind (arith, nat_tests) in
    and_from _ _ a (glb-left s t (omega arith))

-- it has as many coordinates
pub length-glb : (s t : List ℕ) → length s ≡ length t → length (glb s t) ≡ length s
length-glb [] t h = refl
length-glb (x ∷ s) [] h = sym h
length-glb (x ∷ s) (y ∷ t) h = ap suc (length-glb s t (omega arith))

-- what is at most both is at most the greatest lower bound
pub glb-greatest : (u s t : List ℕ) → leq u s ≡ true → leq u t ≡ true → leq u (glb s t) ≡ true
glb-greatest [] [] t h k = refl
glb-greatest [] (x ∷ s) t h k = cc
glb-greatest (z ∷ u) [] t h k = cc
glb-greatest (z ∷ u) (x ∷ s) [] h k = cc
glb-greatest (z ∷ u) (x ∷ s) (y ∷ t) h k =
    let a : nat_le z x ≡ true = (and_parts _ _ h).0 in
    let b : nat_le z y ≡ true = (and_parts _ _ k).0 in
    let m : nat_le z (cond (nat_le x y) x y) ≡ true = grind (arith, nat_tests) in
    and_from _ _ m (glb-greatest u s t (and_parts _ _ h).1 (and_parts _ _ k).1)

-- a domain's stamp is at most a stamp where it is at most that stamp's part in the domain
pub leq-glb : (u s g : List ℕ) → leq u g ≡ true → length s ≡ length g → leq u s ≡ leq u (glb s g)
leq-glb u s g h e = by (leq u s) (leq u (glb s g)) (λ k. glb-greatest u s g k h) (λ k. leq-trans u (glb s g) s k (glb-left s g e))
  where
    by : (b c : Bool) → (b ≡ true → c ≡ true) → (c ≡ true → b ≡ true) → b ≡ c
    by true c f g = sym (f refl)
    by false true f g = g refl
    by false false f g = refl

-- ---- stamps compared coordinate by coordinate

pub cmp-one_more : (m n : ℕ) → nat_cmp (suc m) (suc n) ≡ nat_cmp m n
cmp-one_more m n = grind (arith, nat_tests)

-- What is inside a list of outside stamps, before and after a change.
use Rattle.std.proofs.Common.{◌≡◌, ℕ, ◌≤◌, ◌<◌, Bool, true, false, not, ◌&&◌, ◌||◌, nat_le, nat_lt, cond, List, [], ◌∷◌, length, get_or, take, drop, ◌++◌, refl, sym, ap, ◌∙◌, zero, suc, filter, arith}
use Rattle.std.proofs.lemmas.Bool.{false≢true, and_from, and_parts}
use Rattle.std.proofs.Math.Bool.{and-false, and_assoc, and-true, or-true}
use Rattle.std.proofs.lemmas.Bool.Decides.{nat_tests}
use Rattle.std.specs.List.{AllByRecursion}
use Rattle.std.specs.Ordering.{is_lt}
use Rattle.fw_time.specs.Stamp.{leq, lub, stamp_cmp, stamp_raised_at}
use Rattle.fw_time.proofs.StampLaws.{leq-trans, leq-lub, leq-length, leq-raised}
use Rattle.fw_frontier.specs.Front.{inside}
use Rattle.fw_frontier.specs.Outside.{place_among, with_stamp, front_without, front_without_all, below_at}
use Rattle.fw_frontier.proofs.Pairs.{excluding_lubs, excluding_pairs}

-- with a stamp each lesser one is inside
pub inside-closed : (os : List (List ℕ)) (s t : List ℕ) → leq s t ≡ true → inside os t ≡ true → inside os s ≡ true
inside-closed [] s t h k = refl
inside-closed (o ∷ os) s t h k =
    and_from _ _ (head (leq o s) (leq o t) (λ e. leq-trans o s t e h) (and_parts _ _ k).0) (inside-closed os s t h (and_parts _ _ k).1)
  where
    head : (b c : Bool) → (b ≡ true → c ≡ true) → not c ≡ true → not b ≡ true
    head true c r h = let e = r refl in cc
    head false c r h = refl

-- no stamp from an outside one upward is inside
pub inside-above : (os : List (List ℕ)) (s t : List ℕ) → inside os s ≡ false → leq s t ≡ true → inside os t ≡ false
inside-above os s t h k = by (inside os t) (λ e. inside-closed os s t k e)
  where
    by : (b : Bool) → (b ≡ true → inside os s ≡ true) → b ≡ false
    by true r = let e = r refl in cc
    by false r = refl

inside-placed : (s : List ℕ) (os : List (List ℕ)) (t : List ℕ) → inside (with_stamp s os) t ≡ (not (leq s t) && inside os t)
inside-placed s [] t = refl
inside-placed s (o ∷ os) t = by (is_lt (stamp_cmp s o)) (inside-placed s os t)
  where
    swap : (a b c : Bool) → (a && (b && c)) ≡ (b && (a && c))
    swap true true c = refl
    swap true false c = refl
    swap false true c = refl
    swap false false c = refl

    by : (b : Bool) → inside (with_stamp s os) t ≡ (not (leq s t) && inside os t) → inside (cond b (s ∷ o ∷ os) (o ∷ with_stamp s os)) t ≡ (not (leq s t) && (not (leq o t) && inside os t))
    by true e = refl
    by false e = ap (λ b. not (leq o t) && b) e ∙ swap (not (leq o t)) (not (leq s t)) (inside os t)

inside-filter : (s : List ℕ) (os : List (List ℕ)) (t : List ℕ) → leq s t ≡ false → inside (filter (λ o. not (leq s o)) os) t ≡ inside os t
inside-filter s [] t h = refl
inside-filter s (o ∷ os) t h = by (leq s o) refl (inside-filter s os t h)
  where
    gone : (b c : Bool) → (c ≡ true → ⊥) → b ≡ (not c && b)
    gone b true r = absurd (r refl)
    gone b false r = refl

    by : (b : Bool) → leq s o ≡ b → inside (filter (λ o. not (leq s o)) os) t ≡ inside os t → inside (cond (not b) (o ∷ filter (λ o. not (leq s o)) os) (filter (λ o. not (leq s o)) os)) t ≡ (not (leq o t) && inside os t)
    by true e r = r ∙ gone (inside os t) (leq o t) (λ f. absurd (false≢true (sym h ∙ leq-trans s o t e f)))
    by false e r = ap (λ b. not (leq o t) && b) r

-- a stamp more is outside, with each greater one
pub inside-excluding : (s : List ℕ) (os : List (List ℕ)) (t : List ℕ) → inside (front_without s os) t ≡ (inside os t && not (leq s t))
unfolding front_without
inside-excluding s os t = by (inside os s) refl (leq s t) refl
  where
    by : (b : Bool) → inside os s ≡ b → (c : Bool) → leq s t ≡ c → inside (cond b (with_stamp s (filter (λ o. not (leq s o)) os)) os) t ≡ (inside os t && not c)
    by true e true f = inside-placed s (filter (λ o. not (leq s o)) os) t ∙ ap (λ b. not b && inside (filter (λ o. not (leq s o)) os) t) f ∙ sym (and-false (inside os t))
    by true e false f = inside-placed s (filter (λ o. not (leq s o)) os) t ∙ ap (λ b. not b && inside (filter (λ o. not (leq s o)) os) t) f ∙ inside-filter s os t f ∙ sym (and-true (inside os t))
    by false e true f = inside-above os s t e f ∙ sym (and-false (inside os t))
    by false e false f = sym (and-true (inside os t))

-- these stamps more are outside, with each greater one
pub inside-excluding_all : (ss os : List (List ℕ)) (t : List ℕ) → inside (front_without_all ss os) t ≡ (inside os t && inside ss t)
inside-excluding_all [] os t = sym (and-true (inside os t))
inside-excluding_all (s ∷ ss) os t =
    inside-excluding_all ss (front_without s os) t ∙ ap (λ b. b && inside ss t) (inside-excluding s os t) ∙ and_assoc (inside os t) (not (leq s t)) (inside ss t)

inside-excluding_lubs : (s : List ℕ) (ps os : List (List ℕ)) (t : List ℕ) → AllByRecursion (λ p. length s ≡ length p) ps → inside (excluding_lubs s ps os) t ≡ (inside os t && (not (leq s t) || inside ps t))
inside-excluding_lubs s [] os t h = by (inside os t) (leq s t)
  where
    by : (b c : Bool) → b ≡ (b && (not c || true))
    by true true = refl
    by true false = refl
    by false c = refl
inside-excluding_lubs s (p ∷ ps) os t h =
    inside-excluding_lubs s ps (front_without (lub s p) os) t h.1
    ∙ ap (λ b. b && (not (leq s t) || inside ps t)) (inside-excluding (lub s p) os t ∙ ap (λ b. inside os t && not b) (leq-lub s p t h.0))
    ∙ by (inside os t) (leq s t) (leq p t) (inside ps t)
  where
    by : (a b c d : Bool) → ((a && not (b && c)) && (not b || d)) ≡ (a && (not b || (not c && d)))
    by true true true d = refl
    by true true false d = refl
    by true false c d = refl
    by false b c d = refl

-- what is at least one of either list is outside too
pub inside-excluding_pairs : (ss ps os : List (List ℕ)) (t : List ℕ) → AllByRecursion (λ s. AllByRecursion (λ p. length s ≡ length p) ps) ss → inside (excluding_pairs ss ps os) t ≡ (inside os t && (inside ss t || inside ps t))
inside-excluding_pairs [] ps os t h = sym (and-true (inside os t))
inside-excluding_pairs (s ∷ ss) ps os t h =
    inside-excluding_pairs ss ps (excluding_lubs s ps os) t h.1
    ∙ ap (λ b. b && (inside ss t || inside ps t)) (inside-excluding_lubs s ps os t h.0)
    ∙ by (inside os t) (not (leq s t)) (inside ss t) (inside ps t)
  where
    by : (a b c d : Bool) → ((a && (b || d)) && (c || d)) ≡ (a && ((b && c) || d))
    by true true c true = refl
    by true true true false = refl
    by true true false false = refl
    by true false c true = or-true c
    by true false c false = refl
    by false b c d = refl

-- one place more compared
leq_take : (t s : List ℕ) (n : ℕ) → n < length t → n < length s → leq (take (suc n) t) (take (suc n) s) ≡ (leq (take n t) (take n s) && nat_le (get_or t n 0) (get_or s n 0))
leq_take [] s n h k = absurd (omega arith)
leq_take (y ∷ t) [] n h k = absurd (omega arith)
leq_take (y ∷ t) (x ∷ s) zero h k = and-true (nat_le y x)
leq_take (y ∷ t) (x ∷ s) (suc n) h k = ap (λ b. nat_le y x && b) (leq_take t s n (omega arith) (omega arith)) ∙ sym (and_assoc (nat_le y x) (leq (take n t) (take n s)) (nat_le (get_or t n 0) (get_or s n 0)))

pub leq-at : (s t : List ℕ) (n : ℕ) → leq s t ≡ true → get_or s n 0 ≤ get_or t n 0
leq-at [] [] n h = omega arith
leq-at [] (y ∷ t) n h = cc
leq-at (x ∷ s) [] n h = cc
leq-at (x ∷ s) (y ∷ t) zero h = let a : nat_le x y ≡ true = (and_parts _ _ h).0 in grind (arith, nat_tests)
leq-at (x ∷ s) (y ∷ t) (suc n) h = leq-at s t n (and_parts _ _ h).1

-- of the stamps of a domain, those are inside that are at most the stamp at the first places
pub inside-below_at : (s g t : List ℕ) (n : ℕ) → n ≤ length s → leq s g ≡ true → leq t g ≡ true → inside (below_at s g n) t ≡ leq (take n t) (take n s)
inside-below_at s g t zero h k l = refl
inside-below_at s g t (suc n) h k l =
    by (nat_lt (get_or s n 0) (get_or g n 0)) refl (inside-below_at s g t n (omega arith) k l)
    ∙ sym (leq_take t s n (omega (arith, leq-length s g k, leq-length t g l)) (omega arith))
  where
    all : (a b : Bool) → b ≡ true → a ≡ (a && b)
    all true b e = sym e
    all false b e = refl

    free : (x y z : ℕ) → nat_lt x z ≡ false → y ≤ z → nat_le y x ≡ true
    free x y z h k = grind (arith, nat_tests)

    turned : (x y : ℕ) → not (nat_lt x y) ≡ nat_le y x
    turned x y = grind (arith, nat_tests)

    by : (b : Bool) → nat_lt (get_or s n 0) (get_or g n 0) ≡ b → inside (below_at s g n) t ≡ leq (take n t) (take n s) → inside (cond b (front_without (stamp_raised_at s n) (below_at s g n)) (below_at s g n)) t ≡ (leq (take n t) (take n s) && nat_le (get_or t n 0) (get_or s n 0))
    by true e r =
        inside-excluding (stamp_raised_at s n) (below_at s g n) t
        ∙ ap (λ b. b && not (leq (stamp_raised_at s n) t)) r
        ∙ ap (λ b. leq (take n t) (take n s) && not b) (leq-raised s t n (omega arith) (omega (arith, leq-length s g k, leq-length t g l)))
        ∙ ap (λ b. leq (take n t) (take n s) && b) (turned (get_or s n 0) (get_or t n 0))
    by false e r =
        r
        ∙ all (leq (take n t) (take n s)) (nat_le (get_or t n 0) (get_or s n 0)) (free (get_or s n 0) (get_or t n 0) (get_or g n 0) e (leq-at t g n l))

-- the place of a stamp in the list
pub insert-place : (s : List ℕ) (os : List (List ℕ)) → take (place_among s os) os ++ s ∷ drop (place_among s os) os ≡ with_stamp s os
insert-place s [] = refl
insert-place s (o ∷ os) = by (is_lt (stamp_cmp s o)) (insert-place s os)
  where
    by : (b : Bool) → take (place_among s os) os ++ s ∷ drop (place_among s os) os ≡ with_stamp s os → take (cond b 0 (suc (place_among s os))) (o ∷ os) ++ s ∷ drop (cond b 0 (suc (place_among s os))) (o ∷ os) ≡ cond b (s ∷ o ∷ os) (o ∷ with_stamp s os)
    by true e = refl
    by false e = ap (λ u. o ∷ u) e

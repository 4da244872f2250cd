-- How the loops over stamps and times go on by one, whatever the type of the times.
use Rattle.std.proofs.Common.{◌≡◌, ℕ, ◌+◌, ◌<◌, Bool, true, false, not, ◌&&◌, ◌||◌, List, [], ◌∷◌, length, get_or, take, map, refl, sym, ap, ◌∙◌, zero, suc, arith, add-one}
use Rattle.std.proofs.lemmas.Bool.{false≢true}
use Rattle.std.proofs.Math.Bool.{and-true, and_assoc, or-false}
use Rattle.fw_time.specs.Stamp.{leq}
use Rattle.fw_frontier.specs.Front.{inside}
use Rattle.fw_frontier.specs.Frontier.{some_above}

-- nothing meets both answers of a test
pub no : {A : Type 0} → false ≡ true → A
no e = absurd (false≢true e)

-- one more stamp outside
pub inside_more : (os : List (List ℕ)) (i : ℕ) (d t : List ℕ) → i < length os → (inside (take i os) t && not (leq (get_or os i d) t)) ≡ inside (take (i + 1) os) t
inside_more os i d t h = sym (rw add-one (by os i h))
  where
    by : (os : List (List ℕ)) (i : ℕ) → i < length os → inside (take (suc i) os) t ≡ (inside (take i os) t && not (leq (get_or os i d) t))
    by [] i h = absurd (omega arith)
    by (o ∷ os) zero h = and-true (not (leq o t))
    by (o ∷ os) (suc i) h = ap (λ b. not (leq o t) && b) (by os i (omega arith)) ∙ sym (and_assoc (not (leq o t)) (inside (take i os) t) (not (leq (get_or os i d) t)))

-- one more time covered
pub some_above_more : {A : Type 0} (f : A → List ℕ) (ts : List A) (i : ℕ) (d : A) (u : List ℕ) → i < length ts → (some_above (map f (take i ts)) u || leq u (f (get_or ts i d))) ≡ some_above (map f (take (i + 1) ts)) u
some_above_more {A} f ts i d u h = sym (rw add-one (by ts i h))
  where
    assoc : (a b c : Bool) → (a || (b || c)) ≡ ((a || b) || c)
    assoc true b c = refl
    assoc false b c = refl

    by : (ts : List A) (i : ℕ) → i < length ts → some_above (map f (take (suc i) ts)) u ≡ (some_above (map f (take i ts)) u || leq u (f (get_or ts i d)))
    by [] i h = absurd (omega arith)
    by (o ∷ ts) zero h = or-false (leq u (f o))
    by (o ∷ ts) (suc i) h = ap (λ b. leq u (f o) || b) (by ts i (omega arith)) ∙ assoc (leq u (f o)) (some_above (map f (take i ts)) u) (leq u (f (get_or ts i d)))

-- what is inside after a time more is covered
pub covered_more : {A : Type 0} (f : A → List ℕ) (ts : List A) (i : ℕ) (d : A) (u : List ℕ) (before below after : Bool) → i < length ts
    → after ≡ (before || below) → before ≡ some_above (map f (take i ts)) u → below ≡ leq u (f d) → d ≡ get_or ts i d
    → after ≡ some_above (map f (take (i + 1) ts)) u
covered_more f ts i d u before below after h e b l at =
    e ∙ (λ j. b j || l j) ∙ ap (λ x. some_above (map f (take i ts)) u || leq u (f x)) at ∙ some_above_more f ts i d u h

-- at most a stamp that is not inside there is one of the list
pub found : (os : List (List ℕ)) (t : List ℕ) → inside os t ≡ false → (i : ℕ) × ((i < length os) × (leq (get_or os i []) t ≡ true))
found [] t h = no (sym h)
found (o ∷ os) t h = by (leq o t) refl h (found os t)
  where
    later : (i : ℕ) × ((i < length os) × (leq (get_or os i []) t ≡ true)) → (i : ℕ) × ((i < length (o ∷ os)) × (leq (get_or (o ∷ os) i []) t ≡ true))
    later w = let k : w.0 < length os = w.1.0 in (suc w.0, (omega arith, w.1.1))

    by : (c : Bool) → leq o t ≡ c → (not c && inside os t) ≡ false → (inside os t ≡ false → (i : ℕ) × ((i < length os) × (leq (get_or os i []) t ≡ true)))
        → (i : ℕ) × ((i < length (o ∷ os)) × (leq (get_or (o ∷ os) i []) t ≡ true))
    by true e h r = (zero, (omega arith, e))
    by false e h r = later (r h)

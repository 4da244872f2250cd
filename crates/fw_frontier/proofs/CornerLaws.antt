-- What the corners of a list of points have outside in a plane.
use Rattle.std.proofs.Common.{◌≡◌, ℕ, ◌-◌, ◌≤◌, ◌<◌, Bool, true, false, ◌&&◌, ◌||◌, nat_lt, cond, List, [], ◌∷◌, length, get_or, refl, sym, ap, ◌∙◌, zero, suc, inl, inr, arith}
use Rattle.std.proofs.lemmas.Bool.{cases_lt, le-ltb, and_from, and_parts, and_left, ltb-true, ltb-false}
use Rattle.std.proofs.lemmas.Bool.Decides.{nat_tests}
use Rattle.std.proofs.lemmas.List.Folds.{Any-from_list_any, list_any_at}
use Rattle.std.specs.List.{AllByRecursion, AllWithin, list_any}
use Rattle.std.specs.List.Sorted.{IsNonDecreasingBy}
use Rattle.fw_lemmas.proofs.Bools.{same_tests}
use Rattle.fw_lemmas.proofs.Each.{each-at}
use Rattle.fw_frontier.specs.declared.planes.Point.{Point}
use Rattle.fw_frontier.specs.declared.planes.Corner.{Corner}
use Rattle.fw_frontier.specs.Planes.{is_before, reaches, corners_of}
use Rattle.fw_frontier.proofs.GenericLaws.{no}

pub to_below : (x y : ℕ) → x < y → nat_lt x y ≡ true
to_below x y h = grind (arith, nat_tests)

-- ---- the order of the points and of the corners

-- each later point is at least as far along
Ascends : List Point → Type 0
Ascends [] = Unit {0}
Ascends (v ∷ vs) = AllByRecursion (λ u. v.x ≤ u.x) vs × Ascends vs

all-each : {A : Type 0} (P : A → Type 0) (xs : List A) → ((k : ℕ) (d : A) → k < length xs → P (get_or xs k d)) → AllByRecursion P xs
all-each P [] h = tt
all-each P (x ∷ xs) h = (h 0 x (omega arith), all-each P xs (λ k d l. h (suc k) d (omega arith)))

ascends : (vs : List Point) → IsNonDecreasingBy (λ v. v.x) vs → Ascends vs
unfolding Ascends
ascends [] h = tt
ascends (v ∷ vs) h = (all-each (λ u. v.x ≤ u.x) vs (λ k d l. h 0 (suc k) d (omega arith) (omega arith)), ascends vs (λ i j d l m. h (suc i) (suc j) d (omega arith) (omega arith)))

corners-past : (m : ℕ) (vs : List Point) (z w low : ℕ) → AllByRecursion (λ v. m ≤ v.x) vs → AllByRecursion (λ c. m ≤ c.x) (corners_of vs z w low)
corners-past m [] z w low h = tt
corners-past m (v ∷ vs) z w low h = by (nat_lt v.z z && (nat_lt v.w w && nat_lt v.y low)) (λ k. corners-past m vs z w k h.1)
  where
    by : (b : Bool) → ((k : ℕ) → AllByRecursion (λ c. m ≤ c.x) (corners_of vs z w k)) → AllByRecursion (λ c. m ≤ c.x) (cond b (record { x = v.x; y = v.y } ∷ corners_of vs z w v.y) (corners_of vs z w low))
    by true r = (h.0, r v.y)
    by false r = r low

ascend-cons : (c : Corner) (cs : List Corner) → AllByRecursion (λ d. c.x ≤ d.x) cs → IsNonDecreasingBy (λ c. c.x) cs
    → (i j : ℕ) (d : Corner) → i ≤ j → j < length (c ∷ cs) → (get_or (c ∷ cs) i d).x ≤ (get_or (c ∷ cs) j d).x
ascend-cons c cs h k zero zero d l m = omega arith
ascend-cons c cs h k zero (suc j) d l m = each-at (λ e. c.x ≤ e.x) cs j d (omega arith) h
ascend-cons c cs h k (suc i) zero d l m = absurd (omega arith)
ascend-cons c cs h k (suc i) (suc j) d l m = k i j d (omega arith) (omega arith)

-- the corners of ascending points are each at least as far along as those before
corners-ascend : (vs : List Point) (z w low : ℕ) → Ascends vs → IsNonDecreasingBy (λ c. c.x) (corners_of vs z w low)
unfolding Ascends
corners-ascend [] z w low h = λ i j d l m. absurd (omega arith)
corners-ascend (v ∷ vs) z w low h = by (nat_lt v.z z && (nat_lt v.w w && nat_lt v.y low)) (λ k. corners-ascend vs z w k h.1)
  where
    by : (b : Bool) → ((k : ℕ) → IsNonDecreasingBy (λ c. c.x) (corners_of vs z w k)) → IsNonDecreasingBy (λ c. c.x) (cond b (record { x = v.x; y = v.y } ∷ corners_of vs z w v.y) (corners_of vs z w low))
    by true r = ascend-cons (record { x = v.x; y = v.y }) (corners_of vs z w v.y) (corners-past v.x vs z w v.y h.0) (r v.y)
    by false r = r low

pub corners-sorted : (vs : List Point) (z w low : ℕ) → IsNonDecreasingBy (λ v. v.x) vs → IsNonDecreasingBy (λ c. c.x) (corners_of vs z w low)
corners-sorted vs z w low h = corners-ascend vs z w low (ascends vs h)

-- each corner is lower than those before
Falls : ℕ → List Corner → Type 0
Falls low [] = Unit {0}
Falls low (c ∷ cs) = (c.y < low) × Falls c.y cs

corners-fall : (vs : List Point) (z w low : ℕ) → Falls low (corners_of vs z w low)
unfolding Falls
corners-fall [] z w low = tt
corners-fall (v ∷ vs) z w low = by (nat_lt v.z z) (nat_lt v.w w) (nat_lt v.y low) refl (λ k. corners-fall vs z w k)
  where
    by : (a b c : Bool) → nat_lt v.y low ≡ c → ((k : ℕ) → Falls k (corners_of vs z w k)) → Falls low (cond (a && (b && c)) (record { x = v.x; y = v.y } ∷ corners_of vs z w v.y) (corners_of vs z w low))
    by true true true e r = (ltb-true v.y low e, r v.y)
    by true true false e r = r low
    by true false c e r = r low
    by false b c e r = r low

falls-under : (low : ℕ) (cs : List Corner) (j : ℕ) (d : Corner) → Falls low cs → j < length cs → (get_or cs j d).y < low
unfolding Falls
falls-under low [] j d h l = absurd (omega arith)
falls-under low (c ∷ cs) zero d h l = h.0
falls-under low (c ∷ cs) (suc j) d h l = let r = falls-under c.y cs j d h.1 (omega arith) in omega (arith, h.0, r)

falls-at : (low : ℕ) (cs : List Corner) (i j : ℕ) (d e : Corner) → Falls low cs → i ≤ j → j < length cs → (get_or cs j e).y ≤ (get_or cs i d).y
unfolding Falls
falls-at low [] i j d e h l m = absurd (omega arith)
falls-at low (c ∷ cs) zero zero d e h l m = omega arith
falls-at low (c ∷ cs) zero (suc j) d e h l m = let r = falls-under c.y cs j e h.1 (omega arith) in omega (arith, r)
falls-at low (c ∷ cs) (suc i) zero d e h l m = absurd (omega arith)
falls-at low (c ∷ cs) (suc i) (suc j) d e h l m = falls-at c.y cs i j d e h.1 (omega arith) (omega arith)

-- ---- a look-up

-- whether a corner comes before the ends at both places
corner_before : ℕ → ℕ → Corner → Bool
corner_before x y c = nat_lt c.x x && nat_lt c.y y

-- the last corner before the first end is the lowest one there
look-up : (cs : List Corner) (x y p low : ℕ) (d : Corner) → Falls low cs → p ≤ length cs → AllWithin (λ c. nat_lt c.x x ≡ true) cs 0 p → AllWithin (λ c. nat_lt c.x x ≡ false) cs p (length cs)
    → (nat_lt 0 p && nat_lt (get_or cs (p - 1) d).y y) ≡ list_any (corner_before x y) cs
unfolding corner_before
look-up cs x y p low d falls within before after = same_tests (nat_lt 0 p && nat_lt (get_or cs (p - 1) d).y y) (list_any (corner_before x y) cs) there back
  where
    there : (nat_lt 0 p && nat_lt (get_or cs (p - 1) d).y y) ≡ true → list_any (corner_before x y) cs ≡ true
    there e =
        let at = get_or cs (p - 1) d in
        let some : 0 < p = ltb-true 0 p (and_parts (nat_lt 0 p) (nat_lt at.y y) e).0 in
        list_any_at (corner_before x y) cs (p - 1) d (omega arith) (and_from (nat_lt at.x x) (nat_lt at.y y) (before (p - 1) d (omega arith) (omega arith)) (and_parts (nat_lt 0 p) (nat_lt at.y y) e).1)

    early : (k : ℕ) (c : Corner) → k < length cs → get_or cs k c ≡ c → nat_lt c.x x ≡ true → k < p
    early k c l is e = elim (cases_lt k p) [
      | inl h ↦ h
      | inr h ↦ no (sym (after k c h l) ∙ ap (λ u. nat_lt u.x x) is ∙ e)
    ]

    back : list_any (corner_before x y) cs ≡ true → (nat_lt 0 p && nat_lt (get_or cs (p - 1) d).y y) ≡ true
    back e =
        let w = Any-from_list_any (corner_before x y) cs e in
        let c = w.1 in
        let is : get_or cs w.0 c ≡ c = w.3 in
        let k : w.0 < p = early w.0 c w.2 is (and_parts (nat_lt c.x x) (nat_lt c.y y) w.4).0 in
        let low_enough : c.y < y = ltb-true c.y y (and_parts (nat_lt c.x x) (nat_lt c.y y) w.4).1 in
        let y_is : (get_or cs w.0 c).y ≡ c.y = ap (λ u. u.y) is in
        let lower : (get_or cs (p - 1) d).y ≤ (get_or cs w.0 c).y = falls-at low cs w.0 (p - 1) c d falls (omega arith) (omega arith) in
        and_from (nat_lt 0 p) (nat_lt (get_or cs (p - 1) d).y y) (to_below 0 p (omega arith)) (to_below (get_or cs (p - 1) d).y y (omega arith))

-- ---- the corners reach as far as the points

none-corner : (x y : ℕ) (cs : List Corner) → AllByRecursion (λ c. x ≤ c.x) cs → list_any (corner_before x y) cs ≡ false
unfolding corner_before
none-corner x y [] h = refl
none-corner x y (c ∷ cs) h = λ i. and_left (nat_lt c.x x) (nat_lt c.y y) (le-ltb c.x x h.0) i || none-corner x y cs h.1 i

none-point : (x y z w : ℕ) (vs : List Point) → AllByRecursion (λ v. x ≤ v.x) vs → list_any (is_before x y z w) vs ≡ false
unfolding is_before
none-point x y z w [] h = refl
none-point x y z w (v ∷ vs) h = λ i. and_left (nat_lt v.x x) (nat_lt v.y y && (nat_lt v.z z && nat_lt v.w w)) (le-ltb v.x x h.0) i || none-point x y z w vs h.1 i

all-over : (m x : ℕ) (vs : List Point) → x ≤ m → AllByRecursion (λ v. m ≤ v.x) vs → AllByRecursion (λ v. x ≤ v.x) vs
all-over m x [] l h = tt
all-over m x (v ∷ vs) l h = (omega (arith, h.0), all-over m x vs l h.1)

corners-reach : (vs : List Point) (x y z w low : ℕ) → Ascends vs → y ≤ low → list_any (corner_before x y) (corners_of vs z w low) ≡ list_any (is_before x y z w) vs
unfolding Ascends corner_before is_before
corners-reach [] x y z w low h l = refl
corners-reach (v ∷ vs) x y z w low h l = by (nat_lt v.z z) (nat_lt v.w w) (nat_lt v.y low) refl (λ k m. corners-reach vs x y z w k h.1 m)
  where
    Reach : Type 0
    Reach = (k : ℕ) → y ≤ k → list_any (corner_before x y) (corners_of vs z w k) ≡ list_any (is_before x y z w) vs

    tails : nat_lt v.x x ≡ false → list_any (corner_before x y) (corners_of vs z w v.y) ≡ list_any (is_before x y z w) vs
    tails e =
        let far = all-over v.x x vs (ltb-false v.x x e) h.0 in
        none-corner x y (corners_of vs z w v.y) (corners-past x vs z w v.y far) ∙ sym (none-point x y z w vs far)

    taken : (a b : Bool) → nat_lt v.x x ≡ a → nat_lt v.y y ≡ b → Reach → ((a && b) || list_any (corner_before x y) (corners_of vs z w v.y)) ≡ ((a && (b && (true && true))) || list_any (is_before x y z w) vs)
    taken true true e f r = refl
    taken true false e f r = r v.y (ltb-false v.y y f)
    taken false b e f r = tails e

    missed : (a b : Bool) → nat_lt v.y low ≡ false → nat_lt v.y y ≡ b → (a && (b && (true && true))) ≡ false
    missed a true e f = no (sym e ∙ to_below_low f)
      where
        to_below_low : nat_lt v.y y ≡ true → nat_lt v.y low ≡ true
        to_below_low f = let m : v.y < y = ltb-true v.y y f in to_below v.y low (omega arith)
    missed true false e f = refl
    missed false false e f = refl

    never : (a b c d : Bool) → (c && d) ≡ false → (a && (b && (c && d))) ≡ false
    never true true c d e = e
    never true false c d e = refl
    never false b c d e = refl

    rest : Reach → (b : Bool) → b ≡ false → list_any (corner_before x y) (corners_of vs z w low) ≡ (b || list_any (is_before x y z w) vs)
    rest r b e = r low l ∙ sym (ap (λ b. b || list_any (is_before x y z w) vs) e)

    by : (a b c : Bool) → nat_lt v.y low ≡ c → Reach
        → list_any (corner_before x y) (cond (a && (b && c)) (record { x = v.x; y = v.y } ∷ corners_of vs z w v.y) (corners_of vs z w low))
        ≡ ((nat_lt v.x x && (nat_lt v.y y && (a && b))) || list_any (is_before x y z w) vs)
    by true true true e r = taken (nat_lt v.x x) (nat_lt v.y y) refl refl r
    by true true false e r = rest r _ (missed (nat_lt v.x x) (nat_lt v.y y) e refl)
    by true false c e r = rest r _ (never (nat_lt v.x x) (nat_lt v.y y) true false refl)
    by false b c e r = rest r _ (never (nat_lt v.x x) (nat_lt v.y y) false b refl)

-- the last corner before the first end tells whether a point comes before all ends
pub corners-look_up : (vs : List Point) (cs : List Corner) (x y z w low p : ℕ) (d : Corner) → IsNonDecreasingBy (λ v. v.x) vs → cs ≡ corners_of vs z w low → y ≤ low → p ≤ length cs
    → AllWithin (λ c. nat_lt c.x x ≡ true) cs 0 p → AllWithin (λ c. nat_lt c.x x ≡ false) cs p (length cs)
    → (nat_lt 0 p && nat_lt (get_or cs (p - 1) d).y y) ≡ reaches vs x y z w
corners-look_up vs cs x y z w low p d h e l m before after =
    let falls : Falls low cs = rw e (corners-fall vs z w low) in
    look-up cs x y p low d falls m before after ∙ ap (list_any (corner_before x y)) e ∙ corners-reach vs x y z w low (ascends vs h) l

-- where there is an element before, and where there is none
pub some-before : (p : ℕ) (b : Bool) → 0 < p → b ≡ (nat_lt 0 p && b)
some-before p b h = by (nat_lt 0 p) (to_below 0 p h)
  where
    by : (a : Bool) → a ≡ true → b ≡ (a && b)
    by true e = refl
    by false e = no e

pub none-before : (p : ℕ) (b : Bool) → p ≤ 0 → nat_lt 0 p ≡ (nat_lt 0 p && b)
none-before p b h = by (nat_lt 0 p) (le-ltb 0 p h)
  where
    by : (a : Bool) → a ≡ false → a ≡ (a && b)
    by true e = no (sym e)
    by false e = refl

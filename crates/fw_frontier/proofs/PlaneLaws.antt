-- In planes just the least bounds are found, so that they name what is inside one of two frontiers.
use Rattle.std.proofs.Common.{◌≡◌, ℕ, ◌+◌, ◌≤◌, ◌<◌, Bool, true, false, not, ◌&&◌, ◌||◌, nat_le, nat_lt, nat_eq, cond, List, [], ◌∷◌, ◌++◌, length, get_or, map, refl, sym, ap, ◌∙◌, subst, zero, suc, ◌⊎◌, inl, inr, arith}
use Rattle.std.proofs.lemmas.Bool.{cases_lt, or_right, le-leb, and_from, and_parts, and_right, ltb-true}
use Rattle.std.proofs.lemmas.Bool.Decides.{nat_tests}
use Rattle.std.proofs.lemmas.List.Elements.{Contains-append_left, Contains-append_right}
use Rattle.std.specs.List.{AllByRecursion, Contains}
use Rattle.std.specs.List.Sorted.{IsStrictlySortedBy}
use Rattle.std.specs.Ordering.{is_lt}
use Rattle.std.specs.declared.cmp.Ordering.TheVariants.{Less}
use Rattle.fw_lemmas.proofs.Each.{each-at, each-append}
use Rattle.fw_time.specs.Stamp.{leq, lub, stamp_cmp, in_domain, up_to}
use Rattle.fw_time.proofs.StampLaws.{leq-refl, leq-trans, leq-antisym, leq-length, lub-left, lub-right, lub-least, before-irrefl}
use Rattle.fw_frontier.specs.declared.planes.Plane.{Plane}
use Rattle.fw_frontier.specs.declared.planes.Point.{Point}
use Rattle.fw_frontier.specs.declared.planes.TheConstants.{PLANES}
use Rattle.fw_frontier.specs.Front.{inside, frontier_of, IsCanonical, IsFrontOf}
use Rattle.fw_frontier.specs.Frontier.{join}
use Rattle.fw_frontier.specs.Planes.{point_of, is_before, reaches, both_reach, is_least, is_least_along, lubs_with, all_lubs, plane_lubs, planes_lubs, HaveSame}
use Rattle.fw_frontier.proofs.GenericLaws.{no, found}
use Rattle.fw_frontier.proofs.InsideLaws.{inside-above, leq-at}
use Rattle.fw_frontier.proofs.AntichainLaws.{antichain-at}
use Rattle.fw_frontier.proofs.CanonicalLaws.{in_domain-canonical, antichain-canonical}
use Rattle.fw_frontier.proofs.NamesLaws.{names-join, all-outside}
use Rattle.fw_frontier.proofs.CornerLaws.{to_below}
use Rattle.fw_frontier.proofs.Pairs.{excluding_pairs}

-- ---- a stamp and the places of a plane

-- each of the first four places is one of the plane's
Covers : Plane → Type 0
Covers plane = (c : ℕ) → c < 4 → (c ≡ plane.x) ⊎ ((c ≡ plane.y) ⊎ ((c ≡ plane.z) ⊎ (c ≡ plane.w)))

leq-each : (s t : List ℕ) → length s ≡ length t → ((c : ℕ) → c < length s → get_or s c 0 ≤ get_or t c 0) → leq s t ≡ true
leq-each [] [] e h = refl
leq-each [] (y ∷ t) e h = absurd (omega arith)
leq-each (x ∷ s) [] e h = absurd (omega arith)
leq-each (x ∷ s) (y ∷ t) e h = and_from (nat_le x y) (leq s t) (le-leb x y (h 0 (omega arith))) (leq-each s t (omega arith) (λ c l. h (suc c) (omega arith)))

leq-places : (plane : Plane) → Covers plane → (s t : List ℕ) → length s ≡ 4 → length t ≡ 4
    → get_or s plane.x 0 ≤ get_or t plane.x 0 → get_or s plane.y 0 ≤ get_or t plane.y 0 → get_or s plane.z 0 ≤ get_or t plane.z 0 → get_or s plane.w 0 ≤ get_or t plane.w 0
    → leq s t ≡ true
unfolding Covers
leq-places plane covers s t e f x y z w = leq-each s t (e ∙ sym f) (λ c l. by c (covers c (omega arith)))
  where
    there : (c d : ℕ) → c ≡ d → get_or s d 0 ≤ get_or t d 0 → get_or s c 0 ≤ get_or t c 0
    there c d e h = let P : ℕ → Type 0 = λ c. get_or s c 0 ≤ get_or t c 0 in subst P (sym e) h

    by : (c : ℕ) → (c ≡ plane.x) ⊎ ((c ≡ plane.y) ⊎ ((c ≡ plane.z) ⊎ (c ≡ plane.w))) → get_or s c 0 ≤ get_or t c 0
    by c (inl e) = there c plane.x e x
    by c (inr (inl e)) = there c plane.y e y
    by c (inr (inr (inl e))) = there c plane.z e z
    by c (inr (inr (inr e))) = there c plane.w e w

-- a stamp comes before the ends at each place of the plane
record IsBefore (plane : Plane) (s : List ℕ) (x y z w : ℕ) : Type 0 where
  at_x : get_or s plane.x 0 < x
  at_y : get_or s plane.y 0 < y
  at_z : get_or s plane.z 0 < z
  at_w : get_or s plane.w 0 < w

test-before : (plane : Plane) (s : List ℕ) (x y z w : ℕ) → IsBefore plane s x y z w → is_before x y z w (point_of plane s) ≡ true
unfolding is_before
test-before plane s x y z w h =
    let a = to_below (get_or s plane.x 0) x h.at_x in
    let b = to_below (get_or s plane.y 0) y h.at_y in
    let c = to_below (get_or s plane.z 0) z h.at_z in
    let d = to_below (get_or s plane.w 0) w h.at_w in
    λ i. a i && (b i && (c i && d i))

before-tested : (plane : Plane) (s : List ℕ) (x y z w : ℕ) → is_before x y z w (point_of plane s) ≡ true → IsBefore plane s x y z w
unfolding is_before
before-tested plane s x y z w h =
    let a = nat_lt (get_or s plane.x 0) x in
    let b = nat_lt (get_or s plane.y 0) y in
    let c = nat_lt (get_or s plane.z 0) z in
    let d = nat_lt (get_or s plane.w 0) w in
    let k = (and_parts a (b && (c && d)) h).1 in
    let l = (and_parts b (c && d) k).1 in
    record {
      at_x = ltb-true (get_or s plane.x 0) x (and_parts a (b && (c && d)) h).0;
      at_y = ltb-true (get_or s plane.y 0) y (and_parts b (c && d) k).0;
      at_z = ltb-true (get_or s plane.z 0) z (and_parts c d l).0;
      at_w = ltb-true (get_or s plane.w 0) w (and_parts c d l).1;
    }

-- some stamp of the list comes before the ends
record HasStampBefore (plane : Plane) (ss : List (List ℕ)) (x y z w : ℕ) : Type 0 where
  place : ℕ
  there : place < length ss
  before : IsBefore plane (get_or ss place []) x y z w

reaches-at : (plane : Plane) (ss : List (List ℕ)) (x y z w i : ℕ) → i < length ss → IsBefore plane (get_or ss i []) x y z w → reaches (map (point_of plane) ss) x y z w ≡ true
reaches-at plane [] x y z w i l h = absurd (omega arith)
reaches-at plane (s ∷ ss) x y z w zero l h = ap (λ b. b || reaches (map (point_of plane) ss) x y z w) (test-before plane s x y z w h)
reaches-at plane (s ∷ ss) x y z w (suc i) l h = or_right (is_before x y z w (point_of plane s)) (reaches (map (point_of plane) ss) x y z w) (reaches-at plane ss x y z w i (omega arith) h)

reaches-found : (plane : Plane) (ss : List (List ℕ)) (x y z w : ℕ) → reaches (map (point_of plane) ss) x y z w ≡ true → HasStampBefore plane ss x y z w
reaches-found plane [] x y z w h = no h
reaches-found plane (s ∷ ss) x y z w h = by (is_before x y z w (point_of plane s)) refl h (λ e. reaches-found plane ss x y z w e)
  where
    later : HasStampBefore plane ss x y z w → HasStampBefore plane (s ∷ ss) x y z w
    later r = let l : r.place < length ss = r.there in record { place = suc r.place; there = omega arith; before = r.before }

    by : (a : Bool) → is_before x y z w (point_of plane s) ≡ a → (a || reaches (map (point_of plane) ss) x y z w) ≡ true → (reaches (map (point_of plane) ss) x y z w ≡ true → HasStampBefore plane ss x y z w) → HasStampBefore plane (s ∷ ss) x y z w
    by true e h r = record { place = 0; there = omega arith; before = before-tested plane s x y z w e }
    by false e h r = later (r h)

-- ---- bounds

-- at least one stamp of each list is at most this one
record IsBound (g : List ℕ) (ss ps : List (List ℕ)) (t : List ℕ) : Type 0 where
  in_the_domain : in_domain (up_to g) t ≡ true
  first : inside ss t ≡ false
  second : inside ps t ≡ false

-- and no other bound is at most it
record IsLeastBound (g : List ℕ) (ss ps : List (List ℕ)) (t : List ℕ) : Type 0 where
  bound : IsBound g ss ps t
  least : (u : List ℕ) → IsBound g ss ps u → leq u t ≡ true → u ≡ t

out-at : (os : List (List ℕ)) (t : List ℕ) (i : ℕ) → i < length os → leq (get_or os i []) t ≡ true → inside os t ≡ false
out-at [] t i l h = absurd (omega arith)
out-at (o ∷ os) t zero l h = by (leq o t) h
  where
    by : (c : Bool) → c ≡ true → (not c && inside os t) ≡ false
    by true e = refl
    by false e = no e
out-at (o ∷ os) t (suc i) l h = and_right (not (leq o t)) (inside os t) (out-at os t i (omega arith) h)

-- what is at least a stamp of each list and in the domain is a bound
bound-of : (g : List ℕ) (ss ps : List (List ℕ)) (s p t : List ℕ) → inside ss s ≡ false → inside ps p ≡ false → leq s t ≡ true → leq p t ≡ true → in_domain (up_to g) t ≡ true → IsBound g ss ps t
bound-of g ss ps s p t h k l m d = record { in_the_domain = d; first = inside-above ss s t h l; second = inside-above ps p t k m }

lub-under : (s p : List ℕ) (c e : ℕ) → get_or s c 0 < e → get_or p c 0 < e → get_or (lub s p) c 0 < e
lub-under [] p c e h k = k
lub-under (x ∷ s) [] c e h k = h
lub-under (x ∷ s) (y ∷ p) zero e h k = by x y e h k
  where
    by : (x y e : ℕ) → x < e → y < e → cond (nat_le x y) y x < e
    by x y e h k = grind (arith, nat_tests)
lub-under (x ∷ s) (y ∷ p) (suc c) e h k = lub-under s p c e h k

InDomain : List ℕ → List (List ℕ) → Type 0
InDomain g ss = AllByRecursion (λ s. in_domain (up_to g) s ≡ true) ss

-- a bound comes before ends before which stamps of both lists come
bound-before : (g : List ℕ) (plane : Plane) (ss ps : List (List ℕ)) (x y z w : ℕ) → InDomain g ss → InDomain g ps
    → both_reach (map (point_of plane) ss) (map (point_of plane) ps) x y z w ≡ true → (u : List ℕ) × (IsBound g ss ps u × IsBefore plane u x y z w)
unfolding InDomain
bound-before g plane ss ps x y z w h k e =
    let r = reaches-found plane ss x y z w (and_parts (reaches (map (point_of plane) ss) x y z w) (reaches (map (point_of plane) ps) x y z w) e).0 in
    let q = reaches-found plane ps x y z w (and_parts (reaches (map (point_of plane) ss) x y z w) (reaches (map (point_of plane) ps) x y z w) e).1 in
    let s = get_or ss r.place [] in
    let p = get_or ps q.place [] in
    let ds : in_domain (up_to g) s ≡ true = each-at (λ s. in_domain (up_to g) s ≡ true) ss r.place [] r.there h in
    let dp : in_domain (up_to g) p ≡ true = each-at (λ s. in_domain (up_to g) s ≡ true) ps q.place [] q.there k in
    let long : length s ≡ length p = leq-length s g ds ∙ sym (leq-length p g dp) in (
      lub s p,
      (
        bound-of g ss ps s p (lub s p) (out-at ss s r.place r.there (leq-refl s)) (out-at ps p q.place q.there (leq-refl p)) (lub-left s p long) (lub-right s p long) (lub-least s p g ds dp),
        record {
          at_x = lub-under s p plane.x x r.before.at_x q.before.at_x;
          at_y = lub-under s p plane.y y r.before.at_y q.before.at_y;
          at_z = lub-under s p plane.z z r.before.at_z q.before.at_z;
          at_w = lub-under s p plane.w w r.before.at_w q.before.at_w;
        },
      ),
    )

-- stamps of both lists come before ends before which a bound comes
reached-by : (g : List ℕ) (plane : Plane) (ss ps : List (List ℕ)) (u : List ℕ) (x y z w : ℕ) → IsBound g ss ps u → IsBefore plane u x y z w
    → both_reach (map (point_of plane) ss) (map (point_of plane) ps) x y z w ≡ true
reached-by g plane ss ps u x y z w h k = λ i. one ss h.first i && one ps h.second i
  where
    lower : (s : List ℕ) → leq s u ≡ true → IsBefore plane s x y z w
    lower s l = record {
      at_x = omega (arith, leq-at s u plane.x l, k.at_x);
      at_y = omega (arith, leq-at s u plane.y l, k.at_y);
      at_z = omega (arith, leq-at s u plane.z l, k.at_z);
      at_w = omega (arith, leq-at s u plane.w l, k.at_w);
    }

    one : (ss : List (List ℕ)) → inside ss u ≡ false → reaches (map (point_of plane) ss) x y z w ≡ true
    one ss e = let f = found ss u e in reaches-at plane ss x y z w f.0 f.1.0 (lower (get_or ss f.0 []) f.1.1)

-- ---- the test in a plane

parts : (p q r s : Bool) → (not p && (not q && (not r && not s))) ≡ true → (p ≡ false) × ((q ≡ false) × ((r ≡ false) × (s ≡ false)))
parts true q r s h = no h
parts false true r s h = no h
parts false false true s h = no h
parts false false false true h = no h
parts false false false false h = (refl, (refl, (refl, refl)))

-- what passes the test is least
least-tested : (g : List ℕ) (plane : Plane) (ss ps : List (List ℕ)) (t : List ℕ) → length g ≡ 4 → Covers plane
    → is_least (map (point_of plane) ss) (map (point_of plane) ps) (point_of plane t) ≡ true → IsBound g ss ps t → IsLeastBound g ss ps t
unfolding is_least
least-tested g plane ss ps t four covers h bound = record { bound = bound; least = λ u k l. leq-antisym u t l (back u k l) }
  where
    reach : ℕ → ℕ → ℕ → ℕ → Bool
    reach x y z w = both_reach (map (point_of plane) ss) (map (point_of plane) ps) x y z w

    at : List ℕ → ℕ → ℕ
    at s c = get_or s c 0

    back : (u : List ℕ) → IsBound g ss ps u → leq u t ≡ true → leq t u ≡ true
    back u k l =
        let x : at u plane.x ≤ at t plane.x = leq-at u t plane.x l in
        let y : at u plane.y ≤ at t plane.y = leq-at u t plane.y l in
        let z : at u plane.z ≤ at t plane.z = leq-at u t plane.z l in
        let w : at u plane.w ≤ at t plane.w = leq-at u t plane.w l in
        let false_parts = parts
        (reach (at t plane.x) (at t plane.y + 1) (at t plane.z + 1) (at t plane.w + 1))
        (reach (at t plane.x + 1) (at t plane.y) (at t plane.z + 1) (at t plane.w + 1))
        (reach (at t plane.x + 1) (at t plane.y + 1) (at t plane.z) (at t plane.w + 1))
        (reach (at t plane.x + 1) (at t plane.y + 1) (at t plane.z + 1) (at t plane.w))
        h in
        let reached = reached-by g plane ss ps u in
        leq-places plane covers t u (leq-length t g bound.in_the_domain ∙ four) (leq-length u g k.in_the_domain ∙ four)
        (elim (cases_lt (at u plane.x) (at t plane.x)) [
          | inl m ↦ no (sym false_parts.0 ∙ reached (at t plane.x) (at t plane.y + 1) (at t plane.z + 1) (at t plane.w + 1) k (record { at_x = m; at_y = omega arith; at_z = omega arith; at_w = omega arith }))
          | inr m ↦ m
        ])
        (elim (cases_lt (at u plane.y) (at t plane.y)) [
          | inl m ↦ no (sym false_parts.1.0 ∙ reached (at t plane.x + 1) (at t plane.y) (at t plane.z + 1) (at t plane.w + 1) k (record { at_x = omega arith; at_y = m; at_z = omega arith; at_w = omega arith }))
          | inr m ↦ m
        ])
        (elim (cases_lt (at u plane.z) (at t plane.z)) [
          | inl m ↦ no (sym false_parts.1.1.0 ∙ reached (at t plane.x + 1) (at t plane.y + 1) (at t plane.z) (at t plane.w + 1) k (record { at_x = omega arith; at_y = omega arith; at_z = m; at_w = omega arith }))
          | inr m ↦ m
        ])
        (elim (cases_lt (at u plane.w) (at t plane.w)) [
          | inl m ↦ no (sym false_parts.1.1.1 ∙ reached (at t plane.x + 1) (at t plane.y + 1) (at t plane.z + 1) (at t plane.w) k (record { at_x = omega arith; at_y = omega arith; at_z = omega arith; at_w = m }))
          | inr m ↦ m
        ])

-- what is least passes the test
test-least : (g : List ℕ) (plane : Plane) (ss ps : List (List ℕ)) (t : List ℕ) → length g ≡ 4 → Covers plane → InDomain g ss → InDomain g ps
    → IsLeastBound g ss ps t → is_least (map (point_of plane) ss) (map (point_of plane) ps) (point_of plane t) ≡ true
unfolding is_least
test-least g plane ss ps t four covers h k least =
    let x = get_or t plane.x 0 in
    let y = get_or t plane.y 0 in
    let z = get_or t plane.z 0 in
    let w = get_or t plane.w 0 in
    let p = lies x (y + 1) (z + 1) (w + 1) (λ u m e. omega (arith, m.at_x, same u e plane.x)) (omega arith) (omega arith) (omega arith) (omega arith) in
    let q = lies (x + 1) y (z + 1) (w + 1) (λ u m e. omega (arith, m.at_y, same u e plane.y)) (omega arith) (omega arith) (omega arith) (omega arith) in
    let r = lies (x + 1) (y + 1) z (w + 1) (λ u m e. omega (arith, m.at_z, same u e plane.z)) (omega arith) (omega arith) (omega arith) (omega arith) in
    let s = lies (x + 1) (y + 1) (z + 1) w (λ u m e. omega (arith, m.at_w, same u e plane.w)) (omega arith) (omega arith) (omega arith) (omega arith) in
    λ i. not (p i) && (not (q i) && (not (r i) && not (s i)))
  where
    same : (u : List ℕ) → u ≡ t → (c : ℕ) → get_or u c 0 ≡ get_or t c 0
    same u e c = ap (λ s. get_or s c 0) e

    lies : (x y z w : ℕ) → ((u : List ℕ) → IsBefore plane u x y z w → u ≡ t → ⊥)
        → x ≤ get_or t plane.x 0 + 1 → y ≤ get_or t plane.y 0 + 1 → z ≤ get_or t plane.z 0 + 1 → w ≤ get_or t plane.w 0 + 1
        → both_reach (map (point_of plane) ss) (map (point_of plane) ps) x y z w ≡ false
    lies x y z w never lx ly lz lw = by (both_reach (map (point_of plane) ss) (map (point_of plane) ps) x y z w) refl
      where
        by : (c : Bool) → both_reach (map (point_of plane) ss) (map (point_of plane) ps) x y z w ≡ c → c ≡ false
        by false e = refl
        by true e =
            let u = bound-before g plane ss ps x y z w h k e in
            let m = u.1.1 in
            let d = u.1.0.in_the_domain in
            let at_most : leq u.0 t ≡ true = leq-places plane covers u.0 t (leq-length u.0 g d ∙ four) (leq-length t g least.bound.in_the_domain ∙ four)
            (omega (arith, m.at_x)) (omega (arith, m.at_y)) (omega (arith, m.at_z)) (omega (arith, m.at_w)) in
            absurd (never u.0 m (least.least u.0 u.1.0 at_most))

-- ---- what is found is least

-- the stamp's least upper bounds with the list's are bounds
AllBounds : List ℕ → (ss ps : List (List ℕ)) → List ℕ → List (List ℕ) → Type 0
AllBounds g ss ps s qs = AllByRecursion (λ q. IsBound g ss ps (lub s q)) qs

bounds_with-least : (g : List ℕ) (plane : Plane) (ss ps : List (List ℕ)) (s : List ℕ) (qs : List (List ℕ)) → length g ≡ 4 → Covers plane → AllBounds g ss ps s qs
    → AllByRecursion (IsLeastBound g ss ps) (lubs_with plane (map (point_of plane) ss) (map (point_of plane) ps) s qs)
unfolding AllBounds is_least_along
bounds_with-least g plane ss ps s [] four covers h = tt
bounds_with-least g plane ss ps s (q ∷ qs) four covers h = by
    (nat_eq (get_or (lub s q) plane.z 0) (get_or s plane.z 0)) (nat_eq (get_or (lub s q) plane.w 0) (get_or s plane.w 0))
    (is_least (map (point_of plane) ss) (map (point_of plane) ps) (point_of plane (lub s q))) refl (bounds_with-least g plane ss ps s qs four covers h.1)
  where
    rest : List (List ℕ)
    rest = lubs_with plane (map (point_of plane) ss) (map (point_of plane) ps) s qs

    by : (c d e : Bool) → is_least (map (point_of plane) ss) (map (point_of plane) ps) (point_of plane (lub s q)) ≡ e → AllByRecursion (IsLeastBound g ss ps) rest
        → AllByRecursion (IsLeastBound g ss ps) (cond (c && (d && e)) (lub s q ∷ rest) rest)
    by true true true f r = (least-tested g plane ss ps (lub s q) four covers f h.0, r)
    by true true false f r = r
    by true false e f r = r
    by false d e f r = r

all_bounds-least : (g : List ℕ) (plane : Plane) (ss ps rs qs : List (List ℕ)) → length g ≡ 4 → Covers plane → AllByRecursion (λ s. AllBounds g ss ps s qs) rs
    → AllByRecursion (IsLeastBound g ss ps) (all_lubs plane (map (point_of plane) ss) (map (point_of plane) ps) rs qs)
all_bounds-least g plane ss ps [] qs four covers h = tt
all_bounds-least g plane ss ps (r ∷ rs) qs four covers h =
    each-append (IsLeastBound g ss ps) (lubs_with plane (map (point_of plane) ss) (map (point_of plane) ps) r qs) (all_lubs plane (map (point_of plane) ss) (map (point_of plane) ps) rs qs)
    (bounds_with-least g plane ss ps r qs four covers h.0) (all_bounds-least g plane ss ps rs qs four covers h.1)

-- the least upper bounds of stamps of both lists are bounds, whichever comes first
lubs-with : (g : List ℕ) (ss ps : List (List ℕ)) (s : List ℕ) (qs : List (List ℕ)) → in_domain (up_to g) s ≡ true → inside ss s ≡ false → InDomain g qs → AllByRecursion (λ q. inside ps q ≡ false) qs → AllBounds g ss ps s qs
unfolding AllBounds InDomain
lubs-with g ss ps s [] d h e k = tt
lubs-with g ss ps s (q ∷ qs) d h e k =
    let long : length s ≡ length q = leq-length s g d ∙ sym (leq-length q g e.0) in
    (bound-of g ss ps s q (lub s q) h k.0 (lub-left s q long) (lub-right s q long) (lub-least s q g d e.0), lubs-with g ss ps s qs d h e.1 k.1)

lubs-after : (g : List ℕ) (ss ps : List (List ℕ)) (p : List ℕ) (qs : List (List ℕ)) → in_domain (up_to g) p ≡ true → inside ps p ≡ false → InDomain g qs → AllByRecursion (λ q. inside ss q ≡ false) qs → AllBounds g ss ps p qs
unfolding AllBounds InDomain
lubs-after g ss ps p [] d h e k = tt
lubs-after g ss ps p (q ∷ qs) d h e k =
    let long : length p ≡ length q = leq-length p g d ∙ sym (leq-length q g e.0) in
    (bound-of g ss ps q p (lub p q) k.0 h (lub-right p q long) (lub-left p q long) (lub-least p q g d e.0), lubs-after g ss ps p qs d h e.1 k.1)

lubs-all : (g : List ℕ) (ss ps rs qs : List (List ℕ)) → InDomain g rs → AllByRecursion (λ r. inside ss r ≡ false) rs → InDomain g qs → AllByRecursion (λ q. inside ps q ≡ false) qs → AllByRecursion (λ s. AllBounds g ss ps s qs) rs
unfolding InDomain
lubs-all g ss ps [] qs d h e k = tt
lubs-all g ss ps (r ∷ rs) qs d h e k = (lubs-with g ss ps r qs d.0 h.0 e k, lubs-all g ss ps rs qs d.1 h.1 e k)

lubs-all_after : (g : List ℕ) (ss ps rs qs : List (List ℕ)) → InDomain g rs → AllByRecursion (λ r. inside ps r ≡ false) rs → InDomain g qs → AllByRecursion (λ q. inside ss q ≡ false) qs → AllByRecursion (λ s. AllBounds g ss ps s qs) rs
unfolding InDomain
lubs-all_after g ss ps [] qs d h e k = tt
lubs-all_after g ss ps (r ∷ rs) qs d h e k = (lubs-after g ss ps r qs d.0 h.0 e k, lubs-all_after g ss ps rs qs d.1 h.1 e k)

plane_bounds-least : (g : List ℕ) (plane : Plane) (ss ps : List (List ℕ)) → length g ≡ 4 → Covers plane → InDomain g ss → InDomain g ps → AllByRecursion (IsLeastBound g ss ps) (plane_lubs plane ss ps)
plane_bounds-least g plane ss ps four covers h k =
    each-append (IsLeastBound g ss ps) (all_lubs plane (map (point_of plane) ss) (map (point_of plane) ps) ss ps) (all_lubs plane (map (point_of plane) ss) (map (point_of plane) ps) ps ss)
    (all_bounds-least g plane ss ps ss ps four covers (lubs-all g ss ps ss ps h (all-outside ss) k (all-outside ps)))
    (all_bounds-least g plane ss ps ps ss four covers (lubs-all_after g ss ps ps ss k (all-outside ps) h (all-outside ss)))

planes_bounds-least : (g : List ℕ) (planes : List Plane) (ss ps : List (List ℕ)) → length g ≡ 4 → AllByRecursion Covers planes → InDomain g ss → InDomain g ps → AllByRecursion (IsLeastBound g ss ps) (planes_lubs planes ss ps)
planes_bounds-least g [] ss ps four covers h k = tt
planes_bounds-least g (plane ∷ planes) ss ps four covers h k =
    each-append (IsLeastBound g ss ps) (plane_lubs plane ss ps) (planes_lubs planes ss ps) (plane_bounds-least g plane ss ps four covers.0 h k) (planes_bounds-least g planes ss ps four covers.1 h k)

-- ---- what is least is found

bounds_with-has : (plane : Plane) (ms os : List Point) (s : List ℕ) (qs : List (List ℕ)) (j : ℕ) → j < length qs
    → is_least_along ms os (get_or s plane.z 0) (get_or s plane.w 0) (point_of plane (lub s (get_or qs j []))) ≡ true → Contains (lubs_with plane ms os s qs) (lub s (get_or qs j []))
bounds_with-has plane ms os s [] j l h = absurd (omega arith)
bounds_with-has plane ms os s (q ∷ qs) zero l h = by (is_least_along ms os (get_or s plane.z 0) (get_or s plane.w 0) (point_of plane (lub s q))) h
  where
    by : (c : Bool) → c ≡ true → Contains (cond c (lub s q ∷ lubs_with plane ms os s qs) (lubs_with plane ms os s qs)) (lub s q)
    by true e = (0, omega arith, refl)
    by false e = no e
bounds_with-has plane ms os s (q ∷ qs) (suc j) l h =
    by (is_least_along ms os (get_or s plane.z 0) (get_or s plane.w 0) (point_of plane (lub s q))) (bounds_with-has plane ms os s qs j (omega arith) h)
  where
    by : (c : Bool) → Contains (lubs_with plane ms os s qs) (lub s (get_or qs j [])) → Contains (cond c (lub s q ∷ lubs_with plane ms os s qs) (lubs_with plane ms os s qs)) (lub s (get_or qs j []))
    by true r = Contains-append_right (lub s q ∷ []) (lubs_with plane ms os s qs) (lub s (get_or qs j [])) r
    by false r = r

all_bounds-has : (plane : Plane) (ms os : List Point) (ss qs : List (List ℕ)) (i : ℕ) (t : List ℕ) → i < length ss → Contains (lubs_with plane ms os (get_or ss i []) qs) t → Contains (all_lubs plane ms os ss qs) t
all_bounds-has plane ms os [] qs i t l h = absurd (omega arith)
all_bounds-has plane ms os (s ∷ ss) qs zero t l h = Contains-append_left (lubs_with plane ms os s qs) (all_lubs plane ms os ss qs) t h
all_bounds-has plane ms os (s ∷ ss) qs (suc i) t l h = Contains-append_right (lubs_with plane ms os s qs) (all_lubs plane ms os ss qs) t (all_bounds-has plane ms os ss qs i t (omega arith) h)

-- the bound has the stamp's coordinates across the plane
record Agrees (plane : Plane) (t s : List ℕ) : Type 0 where
  at_z : get_or t plane.z 0 ≡ get_or s plane.z 0
  at_w : get_or t plane.w 0 ≡ get_or s plane.w 0

along-agrees : (plane : Plane) (ms os : List Point) (s t : List ℕ) → Agrees plane t s → is_least ms os (point_of plane t) ≡ true → is_least_along ms os (get_or s plane.z 0) (get_or s plane.w 0) (point_of plane t) ≡ true
unfolding is_least_along
along-agrees plane ms os s t h k =
    let z = equal (get_or t plane.z 0) (get_or s plane.z 0) h.at_z in
    let w = equal (get_or t plane.w 0) (get_or s plane.w 0) h.at_w in
    λ i. z i && (w i && k i)
  where
    equal : (x y : ℕ) → x ≡ y → nat_eq x y ≡ true
    equal x y e = grind (arith, nat_tests)

-- a least bound of two stamps is found in a plane where it agrees with one of them
plane_bounds-has : (g : List ℕ) (plane : Plane) (ss ps : List (List ℕ)) (t : List ℕ) (i j : ℕ) → length g ≡ 4 → Covers plane → InDomain g ss → InDomain g ps → IsLeastBound g ss ps t
    → i < length ss → j < length ps → lub (get_or ss i []) (get_or ps j []) ≡ t → lub (get_or ps j []) (get_or ss i []) ≡ t
    → Agrees plane t (get_or ss i []) ⊎ Agrees plane t (get_or ps j []) → Contains (plane_lubs plane ss ps) t
plane_bounds-has g plane ss ps t i j four covers h k least l m e f side = by side
  where
    ms : List Point
    ms = map (point_of plane) ss

    os : List Point
    os = map (point_of plane) ps

    passed : is_least ms os (point_of plane t) ≡ true
    passed = test-least g plane ss ps t four covers h k least

    by : Agrees plane t (get_or ss i []) ⊎ Agrees plane t (get_or ps j []) → Contains (plane_lubs plane ss ps) t
    by (inl a) =
        let s = get_or ss i [] in
        let p = get_or ps j [] in
        Contains-append_left (all_lubs plane ms os ss ps) (all_lubs plane ms os ps ss) t
        (all_bounds-has plane ms os ss ps i t l
        (let P : List ℕ → Type 0 = λ u. Contains (lubs_with plane ms os s ps) u in
        subst P e (bounds_with-has plane ms os s ps j m
        (ap (λ u. is_least_along ms os (get_or s plane.z 0) (get_or s plane.w 0) (point_of plane u)) e ∙ along-agrees plane ms os s t a passed))))
    by (inr a) =
        let s = get_or ss i [] in
        let p = get_or ps j [] in
        Contains-append_right (all_lubs plane ms os ss ps) (all_lubs plane ms os ps ss) t
        (all_bounds-has plane ms os ps ss j t m
        (let P : List ℕ → Type 0 = λ u. Contains (lubs_with plane ms os p ss) u in
        subst P f (bounds_with-has plane ms os p ss i l
        (ap (λ u. is_least_along ms os (get_or p plane.z 0) (get_or p plane.w 0) (point_of plane u)) f ∙ along-agrees plane ms os p t a passed))))

-- at each place a least upper bound agrees with one of the two stamps
lub-one : (s p : List ℕ) (c : ℕ) → length s ≡ length p → (get_or (lub s p) c 0 ≡ get_or s c 0) ⊎ (get_or (lub s p) c 0 ≡ get_or p c 0)
lub-one [] p c e = inr refl
lub-one (x ∷ s) [] c e = absurd (omega arith)
lub-one (x ∷ s) (y ∷ p) zero e = by (nat_le x y)
  where
    by : (b : Bool) → (cond b y x ≡ x) ⊎ (cond b y x ≡ y)
    by true = inr refl
    by false = inl refl
lub-one (x ∷ s) (y ∷ p) (suc c) e = lub-one s p c (omega arith)

-- and so with one of them at two of the first three places
data Side (s p t : List ℕ) : Type 0 where
  at_01 : Agrees (record { x = 2; y = 3; z = 0; w = 1 }) t s ⊎ Agrees (record { x = 2; y = 3; z = 0; w = 1 }) t p → Side s p t
  at_02 : Agrees (record { x = 1; y = 3; z = 0; w = 2 }) t s ⊎ Agrees (record { x = 1; y = 3; z = 0; w = 2 }) t p → Side s p t
  at_12 : Agrees (record { x = 0; y = 3; z = 1; w = 2 }) t s ⊎ Agrees (record { x = 0; y = 3; z = 1; w = 2 }) t p → Side s p t

side-of : (s p t : List ℕ) → (get_or t 0 0 ≡ get_or s 0 0) ⊎ (get_or t 0 0 ≡ get_or p 0 0) → (get_or t 1 0 ≡ get_or s 1 0) ⊎ (get_or t 1 0 ≡ get_or p 1 0)
    → (get_or t 2 0 ≡ get_or s 2 0) ⊎ (get_or t 2 0 ≡ get_or p 2 0) → Side s p t
side-of s p t (inl a) (inl b) c = at_01 (inl (record { at_z = a; at_w = b }))
side-of s p t (inr a) (inr b) c = at_01 (inr (record { at_z = a; at_w = b }))
side-of s p t (inl a) (inr b) (inl c) = at_02 (inl (record { at_z = a; at_w = c }))
side-of s p t (inl a) (inr b) (inr c) = at_12 (inr (record { at_z = b; at_w = c }))
side-of s p t (inr a) (inl b) (inl c) = at_12 (inl (record { at_z = b; at_w = c }))
side-of s p t (inr a) (inl b) (inr c) = at_02 (inr (record { at_z = a; at_w = c }))

covers-01 : Covers (record { x = 2; y = 3; z = 0; w = 1 })
unfolding Covers
covers-01 zero h = inr (inr (inl refl))
covers-01 (suc zero) h = inr (inr (inr refl))
covers-01 (suc (suc zero)) h = inl refl
covers-01 (suc (suc (suc zero))) h = inr (inl refl)
covers-01 (suc (suc (suc (suc c)))) h = absurd (omega arith)

covers-02 : Covers (record { x = 1; y = 3; z = 0; w = 2 })
unfolding Covers
covers-02 zero h = inr (inr (inl refl))
covers-02 (suc zero) h = inl refl
covers-02 (suc (suc zero)) h = inr (inr (inr refl))
covers-02 (suc (suc (suc zero))) h = inr (inl refl)
covers-02 (suc (suc (suc (suc c)))) h = absurd (omega arith)

covers-12 : Covers (record { x = 0; y = 3; z = 1; w = 2 })
unfolding Covers
covers-12 zero h = inl refl
covers-12 (suc zero) h = inr (inr (inl refl))
covers-12 (suc (suc zero)) h = inr (inr (inr refl))
covers-12 (suc (suc (suc zero))) h = inr (inl refl)
covers-12 (suc (suc (suc (suc c)))) h = absurd (omega arith)

planes_bounds-has : (g : List ℕ) (ss ps : List (List ℕ)) (t : List ℕ) → length g ≡ 4 → InDomain g ss → InDomain g ps → IsLeastBound g ss ps t → Contains (planes_lubs PLANES ss ps) t
unfolding InDomain
planes_bounds-has g ss ps t four h k least = by (side-of s p t (at 0) (at 1) (at 2))
  where
    x : (i : ℕ) × ((i < length ss) × (leq (get_or ss i []) t ≡ true))
    x = found ss t least.bound.first

    y : (i : ℕ) × ((i < length ps) × (leq (get_or ps i []) t ≡ true))
    y = found ps t least.bound.second

    s : List ℕ
    s = get_or ss x.0 []

    p : List ℕ
    p = get_or ps y.0 []

    ds : in_domain (up_to g) s ≡ true
    ds = each-at (λ s. in_domain (up_to g) s ≡ true) ss x.0 [] x.1.0 h

    dp : in_domain (up_to g) p ≡ true
    dp = each-at (λ s. in_domain (up_to g) s ≡ true) ps y.0 [] y.1.0 k

    long : length s ≡ length p
    long = leq-length s g ds ∙ sym (leq-length p g dp)

    lub-is : lub s p ≡ t
    lub-is = least.least (lub s p)
        (bound-of g ss ps s p (lub s p) (out-at ss s x.0 x.1.0 (leq-refl s)) (out-at ps p y.0 y.1.0 (leq-refl p)) (lub-left s p long) (lub-right s p long) (lub-least s p g ds dp))
        (lub-least s p t x.1.1 y.1.1)

    lub-back : lub p s ≡ t
    lub-back = least.least (lub p s)
        (bound-of g ss ps s p (lub p s) (out-at ss s x.0 x.1.0 (leq-refl s)) (out-at ps p y.0 y.1.0 (leq-refl p)) (lub-right p s (sym long)) (lub-left p s (sym long)) (lub-least p s g dp ds))
        (lub-least p s t y.1.1 x.1.1)

    at : (c : ℕ) → (get_or t c 0 ≡ get_or s c 0) ⊎ (get_or t c 0 ≡ get_or p c 0)
    at c = let P : List ℕ → Type 0 = λ u. (get_or u c 0 ≡ get_or s c 0) ⊎ (get_or u c 0 ≡ get_or p c 0) in subst P lub-is (lub-one s p c long)

    in_plane : (plane : Plane) → Covers plane → Agrees plane t s ⊎ Agrees plane t p → Contains (plane_lubs plane ss ps) t
    in_plane plane covers side = plane_bounds-has g plane ss ps t x.0 y.0 four covers h k least x.1.0 y.1.0 lub-is lub-back side

    first : List (List ℕ)
    first = plane_lubs (record { x = 2; y = 3; z = 0; w = 1 }) ss ps

    second : List (List ℕ)
    second = plane_lubs (record { x = 1; y = 3; z = 0; w = 2 }) ss ps

    third : List (List ℕ)
    third = plane_lubs (record { x = 0; y = 3; z = 1; w = 2 }) ss ps

    by : Side s p t → Contains (planes_lubs PLANES ss ps) t
    by (at_01 side) = Contains-append_left first (second ++ (third ++ [])) t (in_plane (record { x = 2; y = 3; z = 0; w = 1 }) covers-01 side)
    by (at_02 side) = Contains-append_right first (second ++ (third ++ [])) t (Contains-append_left second (third ++ []) t (in_plane (record { x = 1; y = 3; z = 0; w = 2 }) covers-02 side))
    by (at_12 side) =
        Contains-append_right first (second ++ (third ++ [])) t (Contains-append_right second (third ++ []) t (Contains-append_left third [] t (in_plane (record { x = 0; y = 3; z = 1; w = 2 }) covers-12 side)))

-- ---- under each bound there is a least one

least-under : (g : List ℕ) (ss ps : List (List ℕ)) (t : List ℕ) → InDomain g ss → InDomain g ps → IsBound g ss ps t → (u : List ℕ) × (IsLeastBound g ss ps u × (leq u t ≡ true))
unfolding InDomain
least-under g ss ps t h k bound = (u, (record { bound = under; least = smallest }, w.1.1))
  where
    os : List (List ℕ)
    os = excluding_pairs ss ps []

    named : IsFrontOf (up_to g) os (join (frontier_of (up_to g) ss) (frontier_of (up_to g) ps))
    named = names-join g ss ps h k

    outside : (v : List ℕ) → IsBound g ss ps v → inside os v ≡ false
    outside v m = by (in_domain (up_to g) v) (inside os v) (inside ss v) (inside ps v) m.in_the_domain m.first m.second (named.same v)
      where
        by : (a c d e : Bool) → a ≡ true → d ≡ false → e ≡ false → (a && c) ≡ ((a && d) || (a && e)) → c ≡ false
        by true c d e p q r h = h ∙ (λ i. q i || r i)
        by false c d e p q r h = no p

    w : (i : ℕ) × ((i < length os) × (leq (get_or os i []) t ≡ true))
    w = found os t (outside t bound)

    u : List ℕ
    u = get_or os w.0 []

    d : in_domain (up_to g) u ≡ true
    d = each-at (λ s. in_domain (up_to g) s ≡ true) os w.0 [] w.1.0 (in_domain-canonical (up_to g) os named.canonical)

    under : IsBound g ss ps u
    under = by (in_domain (up_to g) u) (inside os u) (inside ss u) (inside ps u) refl refl d (out-at os u w.0 w.1.0 (leq-refl u)) (named.same u)
      where
        by : (a c e f : Bool) → inside ss u ≡ e → inside ps u ≡ f → a ≡ true → c ≡ false → (a && c) ≡ ((a && e) || (a && f)) → IsBound g ss ps u
        by true c true f p q r s h = no (sym s ∙ h)
        by true c false true p q r s h = no (sym s ∙ h)
        by true c false false p q r s h = record { in_the_domain = d; first = p; second = q }
        by false c e f p q r s h = no r

    smallest : (v : List ℕ) → IsBound g ss ps v → leq v u ≡ true → v ≡ u
    smallest v m l =
        let x = found os v (outside v m) in
        let e : get_or os x.0 [] ≡ u = antichain-at os x.0 w.0 (antichain-canonical (up_to g) os named.canonical) x.1.0 w.1.0 (leq-trans (get_or os x.0 []) v u x.1.1 l) in
        leq-antisym v u l (ap (λ s. leq s v) (sym e) ∙ x.1.1)

-- ---- the names

each-least : (g : List ℕ) (ss ps us : List (List ℕ)) (t : List ℕ) → AllByRecursion (IsLeastBound g ss ps) us → Contains us t → IsLeastBound g ss ps t
each-least g ss ps us t h c = let P : List ℕ → Type 0 = IsLeastBound g ss ps in subst P c.2 (at us c.0 t h c.1)
  where
    at : (us : List (List ℕ)) (i : ℕ) (t : List ℕ) → AllByRecursion (IsLeastBound g ss ps) us → i < length us → IsLeastBound g ss ps (get_or us i t)
    at [] i t h l = absurd (omega arith)
    at (u ∷ us) zero t h l = h.0
    at (u ∷ us) (suc i) t h l = at us i t h.1 (omega arith)

all-least : (g : List ℕ) (ss ps us : List (List ℕ)) → ((t : List ℕ) → Contains us t → IsLeastBound g ss ps t) → AllByRecursion (IsLeastBound g ss ps) us
all-least g ss ps [] h = tt
all-least g ss ps (u ∷ us) h = (h u (0, omega arith, refl), all-least g ss ps us (λ t c. h t (Contains-append_right (u ∷ []) us t c)))

-- least bounds in ascending order are a canonical list
canonical-least : (g : List ℕ) (ss ps us : List (List ℕ)) → AllByRecursion (IsLeastBound g ss ps) us → IsStrictlySortedBy stamp_cmp us → IsCanonical (up_to g) us
unfolding IsStrictlySortedBy
canonical-least g ss ps [] h k = tt
canonical-least g ss ps (u ∷ us) h k = (record { in_the_domain = h.0.bound.in_the_domain; ascending = up us k.0; incomparable = apart us k.0 h.1 }, canonical-least g ss ps us h.1 k.1)
  where
    up : (us : List (List ℕ)) → AllByRecursion (λ q. stamp_cmp u q ≡ Less) us → AllByRecursion (λ q. is_lt (stamp_cmp u q) ≡ true) us
    up [] k = tt
    up (q ∷ us) k = (ap is_lt k.0, up us k.1)

    lies : {A : Type 0} (q : List ℕ) → q ≡ u → stamp_cmp u q ≡ Less → A
    lies q e f = no (sym (before-irrefl u) ∙ ap (λ v. is_lt (stamp_cmp u v)) (sym e) ∙ ap is_lt f)

    apart : (us : List (List ℕ)) → AllByRecursion (λ q. stamp_cmp u q ≡ Less) us → AllByRecursion (IsLeastBound g ss ps) us → AllByRecursion (λ q. (leq u q || leq q u) ≡ false) us
    apart [] k l = tt
    apart (q ∷ us) k l = (one (leq u q) refl (leq q u) refl, apart us k.1 l.1)
      where
        one : (c : Bool) → leq u q ≡ c → (d : Bool) → leq q u ≡ d → (c || d) ≡ false
        one true e d f = lies q (sym (l.0.least u h.0.bound e)) k.0
        one false e true f = lies q (h.0.least q l.0.bound f) k.0
        one false e false f = refl

-- the bounds found in planes name what is inside one of the two
pub names-planes : (g : List ℕ) (ss ps us : List (List ℕ)) → length g ≡ 4 → AllByRecursion (λ s. in_domain (up_to g) s ≡ true) ss → AllByRecursion (λ s. in_domain (up_to g) s ≡ true) ps
    → IsStrictlySortedBy stamp_cmp us → HaveSame (planes_lubs PLANES ss ps) us → IsFrontOf (up_to g) us (join (frontier_of (up_to g) ss) (frontier_of (up_to g) ps))
unfolding InDomain
names-planes g ss ps us four h k sorted same = record {
  canonical = canonical-least g ss ps us all sorted;
  same = λ t. by t (in_domain (up_to g) t) refl;
}
  where
    all : AllByRecursion (IsLeastBound g ss ps) us
    all = all-least g ss ps us (λ t c. each-least g ss ps (planes_lubs PLANES ss ps) t (planes_bounds-least g PLANES ss ps four (covers-01, (covers-02, (covers-12, tt))) h k) (same.none_new t c))

    -- a stamp that is not inside is at least one of the bounds
    above : (t : List ℕ) → inside us t ≡ false → (u : List ℕ) × (IsLeastBound g ss ps u × (leq u t ≡ true))
    above t e = let f = found us t e in (get_or us f.0 [], (each-least g ss ps us (get_or us f.0 []) all (f.0, f.1.0, other us f.0 (get_or us f.0 []) f.1.0), f.1.1))
      where
        other : (us : List (List ℕ)) (i : ℕ) (d : List ℕ) → i < length us → get_or us i d ≡ get_or us i []
        other [] i d l = absurd (omega arith)
        other (u ∷ us) zero d l = refl
        other (u ∷ us) (suc i) d l = other us i d (omega arith)

    inner : (t : List ℕ) → in_domain (up_to g) t ≡ true → inside ss t ≡ false → inside ps t ≡ false → inside us t ≡ false
    inner t d e f =
        let u = least-under g ss ps t h k (record { in_the_domain = d; first = e; second = f }) in
        let c = same.none_lost u.0 (planes_bounds-has g ss ps u.0 four h k u.1.0) in
        out-in us t u.0 c u.1.1
      where
        out-in : (us : List (List ℕ)) (t u : List ℕ) → Contains us u → leq u t ≡ true → inside us t ≡ false
        out-in us t u c l = at us c.0 c.1 (ap (λ v. leq v t) (c.2) ∙ l)
          where
            at : (us : List (List ℕ)) (i : ℕ) → i < length us → leq (get_or us i u) t ≡ true → inside us t ≡ false
            at [] i l e = absurd (omega arith)
            at (o ∷ os) zero l e = out-at (o ∷ os) t 0 (omega arith) e
            at (o ∷ os) (suc i) l e = and_right (not (leq o t)) (inside os t) (at os i (omega arith) e)

    outer : (t : List ℕ) (c : Bool) → inside us t ≡ c → (x : Bool) → inside ss t ≡ x → (y : Bool) → inside ps t ≡ y → in_domain (up_to g) t ≡ true → c ≡ (x || y)
    outer t false e true f y g d = let u = above t e in no (sym (inside-above ss u.0 t u.1.0.bound.first u.1.1) ∙ f)
    outer t false e false f true g d = let u = above t e in no (sym (inside-above ps u.0 t u.1.0.bound.second u.1.1) ∙ g)
    outer t false e false f false g d = refl
    outer t true e true f y g d = refl
    outer t true e false f true g d = refl
    outer t true e false f false g d = sym e ∙ inner t d f g

    by : (t : List ℕ) (a : Bool) → in_domain (up_to g) t ≡ a → (a && inside us t) ≡ ((a && inside ss t) || (a && inside ps t))
    by t true d = outer t (inside us t) refl (inside ss t) refl (inside ps t) refl d
    by t false d = refl

-- What projections do to the outside stamps of a frontier.
use Rattle.std.proofs.Common.{◌≡◌, ℕ, zero, suc, ◌+◌, ◌-◌, ◌*◌, ◌/◌, ◌%◌, ◌<◌, ◌≤◌, min, Bool, true, false, not, cond, ◌&&◌, ◌||◌, ◌==◌, nat_lt, nat_le, ◌^◌, List, [], ◌∷◌, ◌++◌, length, get_or, Option, Some, None, lit<, refl, sym, ap, subst, ◌∙◌, arith}
use Rattle.std.proofs.Math.Bool.{or-true, and_comm}
use Rattle.std.proofs.lemmas.Option.{cond_some}
use Rattle.std.proofs.lemmas.Bool.{and_from, and_parts, le-leb, leb-true, ltb-true}
use Rattle.std.specs.Prelude.{option_to_list, slice_index, Result, IfOk}
use Rattle.std.proofs.lemmas.Result.{IfOk-weaker}
use Rattle.std.proofs.lemmas.Bool.Decides.{nat_tests}
use Rattle.std.specs.List.{AllByRecursion}
use Rattle.fw_time.specs.declared.stamp.Bounds.{Bounds}
use Rattle.fw_time.specs.Stamp.{Stamp, leq, nest, outer, counter, in_domain, origin}
use Rattle.fw_time.specs.Sending.{entered_stamp, fed_back_stamp}
use Rattle.std.proofs.Math.Nat.{min-le_left, min-le_right, div-add-mod', mod-lt, le-div_iff_mul-le, div-lt_iff_lt-mul, div-le_self, mul-le-mul_right}
use Rattle.fw_lemmas.proofs.Each.{each-append}
use Rattle.fw_time.specs.NestLaws.{length-nest, dimension-outer}
use Rattle.fw_time.proofs.StampLaws.{leq-refl, leq-length, leq-nest, origin-leq, counter-nest, nest-outer}
use Rattle.fw_time.proofs.DomainLaws.{domain-leq, domain-length, plain-in_domain}
use Rattle.fw_time.proofs.StampSteps.{length-origin}
use Rattle.fw_frontier.specs.Frontier.{Frontier}
use Rattle.fw_frontier.specs.Front.{Front, inside, frontier_of, IsCanonical, IsFrontOf}
use Rattle.fw_frontier.proofs.CanonicalLaws.{in_domain-canonical}
use Rattle.fw_frontier.proofs.BelowLaws.{names-as, names-by, names-numbers, names-limit}
use Rattle.fw_frontier.proofs.NamesLaws.{frontier-closed}
use Rattle.fw_frontier.proofs.StairsLaws.{inside-append}
use Rattle.fw_flow.specs.declared.kind.Kind.TheVariants.{Enter, Feedback, Leave, Sequence, Regroup}
use Rattle.fw_flow.specs.declared.projection.Way.{Way}
use Rattle.fw_flow.specs.declared.projection.Way.TheVariants.{First, Next, NextAfterFirst, Before, Outer, OuterOfFirst}
use Rattle.fw_flow.specs.Projection.{sent_count, phi, IsSentTable, first_coordinate, each_counter, some_counter, phi_of_kind, psi_of_kind, psi_back_of_kind, table_count}
use Rattle.fw_flow.specs.ProjectedStamps.{AreDomainsOf, MayGo, image, images, entered_outside, front_until}
use Rattle.fw_flow.specs.declared.event.Event.{Event}
use Rattle.fw_flow.specs.Kind.{Kind}
use Rattle.fw_flow.specs.declared.kind.Domain.{Domain}
use Rattle.fw_flow.specs.Dataflow.{System, Dataflow, kind_of, sender, max_of, greatest_number, parent_of, domain_of_kind, out_domain_of_kind, greatest_of, greatest_of_kind, bounds_of_domain}
use Rattle.fw_flow.proofs.Chains.{outer_greatest, greatest-unfold, greatest-length, parent-few}
use Rattle.fw_flow.specs.WellFormed.{IsGroupSize}

some-is : (s t : Stamp) → Some s ≡ Some t → s ≡ t
some-is s t e = cc

-- ---- lists of images

-- whether an image is at most a stamp, as none is where there is no image
abbrev is_met : Option Stamp → Stamp → Bool
is_met None u = false
is_met (Some w) u = leq w u

-- what is inside the images, by what is inside the stamps
pub inside-images : (way : Way) (os : List Stamp) (P : Stamp → Type 0) (u v : Stamp) (free : Bool) → ((o : Stamp) → P o → is_met (image way o) u ≡ (not free && leq o v))
    → AllByRecursion P os → inside (images way os) u ≡ (free || inside os v)
inside-images way [] P u v free f h = sym (or-true free)
inside-images way (o ∷ os) P u v free f h =
    one (image way o) ∙ (λ i. not (f o h.0 i) && inside-images way os P u v free f h.1 i) ∙ split free (leq o v) (inside os v)
  where
    one : (w : Option Stamp) → inside (option_to_list w ++ images way os) u ≡ (not (is_met w u) && inside (images way os) u)
    one None = refl
    one (Some w) = refl

    split : (free b c : Bool) → (not (not free && b) && (free || c)) ≡ (free || (not b && c))
    split true b c = refl
    split false b c = refl

-- a fact on each image
pub each-image : (way : Way) (os : List Stamp) (P Q : Stamp → Type 0) → ((o w : Stamp) → P o → image way o ≡ Some w → Q w) → AllByRecursion P os → AllByRecursion Q (images way os)
each-image way [] P Q f h = tt
each-image way (o ∷ os) P Q f h = one (image way o) refl (each-image way os P Q f h.1)
  where
    one : (w : Option Stamp) → image way o ≡ w → AllByRecursion Q (images way os) → AllByRecursion Q (option_to_list w ++ images way os)
    one None e r = r
    one (Some w) e r = (f o w h.0 e, r)

-- ---- a loop's stamps

-- a stamp of a loop, by its outer stamp and its counter
pub record IsOfLoop (b : Stamp) (m : ℕ) (u : Stamp) : Type 0 where
  pub nested : nest (outer u) (counter u) ≡ u
  pub outside : leq (outer u) b ≡ true
  pub counted : counter u ≤ m
  pub long : length (outer u) ≡ length b

pub of_loop : (b : Stamp) (m : ℕ) (u : Stamp) → leq u (nest b m) ≡ true → IsOfLoop b m u
of_loop b m u h =
    let long : length u ≡ length b + 1 = leq-length u (nest b m) h ∙ length-nest b m in
    let e = nest-outer u (omega arith) in
    let l = dimension-outer u (length b) long in
    let q : (leq (outer u) b && nat_le (counter u) m) ≡ true = sym (leq-nest (outer u) b (counter u) m l) ∙ ap (λ w. leq w (nest b m)) e ∙ h in
    record { nested = e; outside = (and_parts _ _ q).0; counted = leb-true (counter u) m (and_parts _ _ q).1; long = l }

-- the order of a loop's stamps
leq-loop : (b : Stamp) (m : ℕ) (o u : Stamp) → IsOfLoop b m o → IsOfLoop b m u → (c d : ℕ) → leq (nest (outer o) c) (nest (outer u) d) ≡ (leq (outer o) (outer u) && nat_le c d)
leq-loop b m o u v w c d = leq-nest (outer o) (outer u) c d (v.long ∙ sym w.long)

nested-leq : (b : Stamp) (m : ℕ) (o u : Stamp) → IsOfLoop b m o → IsOfLoop b m u → (d : ℕ) → leq o (nest (outer u) d) ≡ (leq (outer o) (outer u) && nat_le (counter o) d)
nested-leq b m o u v w d = ap (λ x. leq x (nest (outer u) d)) (sym v.nested) ∙ leq-loop b m o u v w (counter o) d

leq-nested : (b : Stamp) (m : ℕ) (o u : Stamp) → IsOfLoop b m o → IsOfLoop b m u → (c : ℕ) → leq (nest (outer o) c) u ≡ (leq (outer o) (outer u) && nat_le c (counter u))
leq-nested b m o u v w c = ap (leq (nest (outer o) c)) (sym w.nested) ∙ leq-loop b m o u v w c (counter u)

-- a stamp of the loop with a counter up to the greatest
nest-in : (b : Stamp) (m : ℕ) (o : Stamp) (c : ℕ) → leq o b ≡ true → c ≤ m → leq (nest o c) (nest b m) ≡ true
nest-in b m o c h k = leq-nest o b c m (leq-length o b h) ∙ and_from (leq o b) (nat_le c m) h (le-leb c m k)

is_met-if : (b : Bool) (w u : Stamp) → is_met (cond b (Some w) None) u ≡ cond b (leq w u) false
is_met-if true w u = refl
is_met-if false w u = refl

is_met-else : (b : Bool) (w : Stamp) (x : Option Stamp) (u : Stamp) → is_met (cond b (Some w) x) u ≡ cond b (leq w u) (is_met x u)
is_met-else true w x u = refl
is_met-else false w x u = refl

-- ---- where the images of each way are met

met-first : (b : Stamp) (m : ℕ) (o u : Stamp) → leq o b ≡ true → leq u (nest b m) ≡ true → is_met (entered_stamp o) u ≡ (true && leq o (outer u))
met-first b m o u h k =
    let w = of_loop b m u k in
    ap (leq (nest o 0)) (sym w.nested) ∙ leq-nest o (outer u) 0 (counter u) (leq-length o b h ∙ sym w.long) ∙ by (leq o (outer u)) (counter u)
  where
    by : (a : Bool) (c : ℕ) → (a && nat_le 0 c) ≡ (true && a)
    by a c = grind (arith, nat_tests)

met-next : (b : Stamp) (m : ℕ) (o u : Stamp) → leq o (nest b m) ≡ true → leq u (nest b m) ≡ true
    → is_met (fed_back_stamp m o) u ≡ (not (counter u == 0) && leq o (nest (outer u) (counter u - 1)))
met-next b m o u h k =
    let v = of_loop b m o h in
    let w = of_loop b m u k in
    is_met-if (nat_lt (counter o) m) (nest (outer o) (counter o + 1)) u
    ∙ ap (λ x. cond (nat_lt (counter o) m) x false) (leq-nested b m o u v w (counter o + 1))
    ∙ by (leq (outer o) (outer u)) (counter o) (counter u) m v.counted w.counted
    ∙ ap (λ x. not (counter u == 0) && x) (sym (nested-leq b m o u v w (counter u - 1)))
  where
    by : (a : Bool) (d c m : ℕ) → d ≤ m → c ≤ m → cond (nat_lt d m) (a && nat_le (d + 1) c) false ≡ (not (c == 0) && (a && nat_le d (c - 1)))
    by true d c m p q = grind (arith, nat_tests)
    by false d c m p q = grind (arith, nat_tests)

met-next_after_first : (b : Stamp) (m : ℕ) (o u : Stamp) → leq o (nest b m) ≡ true → leq u (nest b m) ≡ true
    → is_met (image (NextAfterFirst m) o) u ≡ (true && leq o (nest (outer u) (counter u - 1)))
met-next_after_first b m o u h k =
    let v = of_loop b m o h in
    let w = of_loop b m u k in
    is_met-else (counter o == 0) o (fed_back_stamp m o) u
    ∙ (λ i. cond (counter o == 0) (same v w i) ((is_met-if (nat_lt (counter o) m) (nest (outer o) (counter o + 1)) u ∙ ap (λ x. cond (nat_lt (counter o) m) x false) (leq-nested b m o u v w (counter o + 1))) i))
    ∙ by (leq (outer o) (outer u)) (counter o) (counter u) m v.counted w.counted
    ∙ ap (λ x. true && x) (sym (nested-leq b m o u v w (counter u - 1)))
  where
    same : IsOfLoop b m o → IsOfLoop b m u → leq o u ≡ (leq (outer o) (outer u) && nat_le (counter o) (counter u))
    same v w = ap (leq o) (sym w.nested) ∙ nested-leq b m o u v w (counter u)

    by : (a : Bool) (d c m : ℕ) → d ≤ m → c ≤ m → cond (d == 0) (a && nat_le d c) (cond (nat_lt d m) (a && nat_le (d + 1) c) false) ≡ (true && (a && nat_le d (c - 1)))
    by true d c m p q = grind (arith, nat_tests)
    by false d c m p q = grind (arith, nat_tests)

met-before : (b : Stamp) (m : ℕ) (o u : Stamp) → leq o (nest b m) ≡ true → leq u (nest b m) ≡ true
    → leq (nest (outer o) (counter o - 1)) u ≡ (true && leq o (nest (outer u) (min (counter u + 1) m)))
met-before b m o u h k =
    let v = of_loop b m o h in
    let w = of_loop b m u k in
    leq-nested b m o u v w (counter o - 1)
    ∙ by (leq (outer o) (outer u)) (counter o) (counter u) m v.counted
    ∙ ap (λ x. true && x) (sym (nested-leq b m o u v w (min (counter u + 1) m)))
  where
    test : (d c m : ℕ) → d ≤ m → nat_le (d - 1) c ≡ nat_le d (min (c + 1) m)
    test d c m p = grind (arith, nat_tests)

    by : (a : Bool) (d c m : ℕ) → d ≤ m → (a && nat_le (d - 1) c) ≡ (true && (a && nat_le d (min (c + 1) m)))
    by a d c m p = ap (λ x. a && x) (test d c m p)

met-outer : (b : Stamp) (m : ℕ) (o u : Stamp) → leq o (nest b m) ≡ true → leq u b ≡ true → leq (outer o) u ≡ (true && leq o (nest u m))
met-outer b m o u h k =
    let v = of_loop b m o h in
    sym (ap (λ x. leq x (nest u m)) (sym v.nested) ∙ leq-nest (outer o) u (counter o) m (v.long ∙ sym (leq-length u b k)) ∙ by (leq (outer o) u) (nat_le (counter o) m) (le-leb (counter o) m v.counted))
  where
    by : (a c : Bool) → c ≡ true → (a && c) ≡ a
    by true c e = e
    by false c e = refl

met-outer_of_first : (b : Stamp) (m : ℕ) (o u : Stamp) → leq o (nest b m) ≡ true → leq u b ≡ true
    → is_met (image OuterOfFirst o) u ≡ (true && leq o (nest u 0))
met-outer_of_first b m o u h k =
    let v = of_loop b m o h in
    is_met-if (counter o == 0) (outer o) u
    ∙ by (leq (outer o) u) (counter o)
    ∙ sym (ap (λ x. leq x (nest u 0)) (sym v.nested) ∙ leq-nest (outer o) u (counter o) 0 (v.long ∙ sym (leq-length u b k)))
  where
    by : (a : Bool) (d : ℕ) → cond (d == 0) a false ≡ (a && nat_le d 0)
    by true d = grind (arith, nat_tests)
    by false d = grind (arith, nat_tests)

-- in a domain without sides
in-plain : (b : Bounds) (s : Stamp) → b.sides ≡ false → leq s b.greatest ≡ true → in_domain b s ≡ true
in-plain b s p h = plain-in_domain b s p ∙ h

-- ---- what is inside the images of each way, seen in the domain to which they go

-- the images are the domain's, and have inside what passes the test
pub record IsMoved (way : Way) (os : Front) (target : Bounds) (test : Frontier) : Type 0 where
  pub images_in : AllByRecursion (λ s. in_domain target s ≡ true) (images way os)
  pub same : (u : Stamp) → in_domain target u ≡ true → inside (images way os) u ≡ test u

-- the test of a frontier on a stamp of its domain
in-frontier : (b : Bounds) (os : Front) (v : Stamp) → in_domain b v ≡ true → inside os v ≡ frontier_of b os v
in-frontier b os v h = sym (ap (λ c. c && inside os v) h)

abbrev AreIn : Bounds → Front → Type 0
AreIn b os = AllByRecursion (λ o. in_domain b o ≡ true) os

pub first-moved : (s r : Bounds) (m : ℕ) (os : Front) → s.sides ≡ false → r.sides ≡ false → r.greatest ≡ nest s.greatest m → AreIn s os → IsMoved First os r (λ u. frontier_of s os (outer u))
first-moved s r m os p q e h = record {
  images_in = each-image First os (λ o. in_domain s o ≡ true) (λ w. in_domain r w ≡ true)
      (λ o w d f. ap (in_domain r) (sym (some-is (nest o 0) w f)) ∙ in-plain r (nest o 0) q (ap (leq (nest o 0)) e ∙ nest-in s.greatest m o 0 (domain-leq s o d) (omega arith))) h;
  same = λ u i.
      let k : leq u (nest s.greatest m) ≡ true = sym (ap (leq u) e) ∙ domain-leq r u i in
      inside-images First os (λ o. in_domain s o ≡ true) u (outer u) false (λ o d. met-first s.greatest m o u (domain-leq s o d) k) h
      ∙ in-frontier s os (outer u) (in-plain s (outer u) p (of_loop s.greatest m u k).outside);
}

pub next-moved : (s r : Bounds) (b : Stamp) (m : ℕ) (os : Front) → s.sides ≡ false → r.sides ≡ false → s.greatest ≡ nest b m → r.greatest ≡ nest b m → AreIn s os
    → IsMoved (Next m) os r (λ u. counter u == 0 || frontier_of s os (nest (outer u) (counter u - 1)))
next-moved s r b m os p q e f h = record {
  images_in = each-image (Next m) os (λ o. in_domain s o ≡ true) (λ w. in_domain r w ≡ true)
      (λ o w d g.
      let v = of_loop b m o (sym (ap (leq o) e) ∙ domain-leq s o d) in
      let i = cond_some (nat_lt (counter o) m) (nest (outer o) (counter o + 1)) w g in
      ap (in_domain r) (sym i.1) ∙ in-plain r (nest (outer o) (counter o + 1)) q (ap (leq (nest (outer o) (counter o + 1))) f ∙ nest-in b m (outer o) (counter o + 1) v.outside (let l : counter o < m = ltb-true (counter o) m i.0 in omega arith))) h;
  same = λ u i.
      let k : leq u (nest b m) ≡ true = sym (ap (leq u) f) ∙ domain-leq r u i in
      let w = of_loop b m u k in
      let c = w.counted in
      let v = nest (outer u) (counter u - 1) in
      let j : in_domain s v ≡ true = in-plain s v p (ap (leq v) e ∙ nest-in b m (outer u) (counter u - 1) w.outside (omega arith)) in
      inside-images (Next m) os (λ o. in_domain s o ≡ true) u v (counter u == 0) (λ o d. met-next b m o u (sym (ap (leq o) e) ∙ domain-leq s o d) k) h
      ∙ ap (λ x. counter u == 0 || x) (in-frontier s os v j);
}

pub next_after_first-moved : (s r : Bounds) (b : Stamp) (m : ℕ) (os : Front) → s.sides ≡ false → r.sides ≡ false → s.greatest ≡ nest b m → r.greatest ≡ nest b m → AreIn s os
    → IsMoved (NextAfterFirst m) os r (λ u. frontier_of s os (nest (outer u) (counter u - 1)))
next_after_first-moved s r b m os p q e f h = record {
  images_in = each-image (NextAfterFirst m) os (λ o. in_domain s o ≡ true) (λ w. in_domain r w ≡ true)
      (λ o w d g. stays o w (sym (ap (leq o) e) ∙ domain-leq s o d) (counter o == 0) (nat_lt (counter o) m) refl g) h;
  same = λ u i.
      let k : leq u (nest b m) ≡ true = sym (ap (leq u) f) ∙ domain-leq r u i in
      let w = of_loop b m u k in
      let c = w.counted in
      let v = nest (outer u) (counter u - 1) in
      let j : in_domain s v ≡ true = in-plain s v p (ap (leq v) e ∙ nest-in b m (outer u) (counter u - 1) w.outside (omega arith)) in
      inside-images (NextAfterFirst m) os (λ o. in_domain s o ≡ true) u v false (λ o d. met-next_after_first b m o u (sym (ap (leq o) e) ∙ domain-leq s o d) k) h
      ∙ in-frontier s os v j;
}
  where
    stays : (o w : Stamp) → leq o (nest b m) ≡ true → (a c : Bool) → nat_lt (counter o) m ≡ c → cond a (Some o) (cond c (Some (nest (outer o) (counter o + 1))) None) ≡ Some w → in_domain r w ≡ true
    stays o w d true c g x = ap (in_domain r) (sym (some-is o w x)) ∙ in-plain r o q (ap (leq o) f ∙ d)
    stays o w d false true g x =
        let v = of_loop b m o d in
        ap (in_domain r) (sym (some-is (nest (outer o) (counter o + 1)) w x)) ∙ in-plain r (nest (outer o) (counter o + 1)) q (ap (leq (nest (outer o) (counter o + 1))) f ∙ nest-in b m (outer o) (counter o + 1) v.outside (let l : counter o < m = ltb-true (counter o) m g in omega arith))
    stays o w d false false g x = absurd (cc)

pub before-moved : (s r : Bounds) (b : Stamp) (m : ℕ) (os : Front) → s.sides ≡ false → r.sides ≡ false → s.greatest ≡ nest b m → r.greatest ≡ nest b m → AreIn r os
    → IsMoved Before os s (λ t. frontier_of r os (nest (outer t) (min (counter t + 1) m)))
before-moved s r b m os p q e f h = record {
  images_in = each-image Before os (λ o. in_domain r o ≡ true) (λ w. in_domain s w ≡ true)
      (λ o w d g.
      let v = of_loop b m o (sym (ap (leq o) f) ∙ domain-leq r o d) in
      let c = v.counted in
      ap (in_domain s) (sym (some-is (nest (outer o) (counter o - 1)) w g)) ∙ in-plain s (nest (outer o) (counter o - 1)) p (ap (leq (nest (outer o) (counter o - 1))) e ∙ nest-in b m (outer o) (counter o - 1) v.outside (omega arith))) h;
  same = λ t i.
      let k : leq t (nest b m) ≡ true = sym (ap (leq t) e) ∙ domain-leq s t i in
      let w = of_loop b m t k in
      let v = nest (outer t) (min (counter t + 1) m) in
      let j : in_domain r v ≡ true = in-plain r v q (ap (leq v) f ∙ nest-in b m (outer t) (min (counter t + 1) m) w.outside (min-le_right (counter t + 1) m)) in
      inside-images Before os (λ o. in_domain r o ≡ true) t v false (λ o d. met-before b m o t (sym (ap (leq o) f) ∙ domain-leq r o d) k) h
      ∙ in-frontier r os v j;
}

pub outer-moved : (s r : Bounds) (m : ℕ) (os : Front) → s.sides ≡ false → r.sides ≡ false → s.greatest ≡ nest r.greatest m → AreIn s os → IsMoved Outer os r (λ u. frontier_of s os (nest u m))
outer-moved s r m os p q e h = record {
  images_in = each-image Outer os (λ o. in_domain s o ≡ true) (λ w. in_domain r w ≡ true)
      (λ o w d g. ap (in_domain r) (sym (some-is (outer o) w g)) ∙ in-plain r (outer o) q (of_loop r.greatest m o (sym (ap (leq o) e) ∙ domain-leq s o d)).outside) h;
  same = λ u i.
      inside-images Outer os (λ o. in_domain s o ≡ true) u (nest u m) false (λ o d. met-outer r.greatest m o u (sym (ap (leq o) e) ∙ domain-leq s o d) (domain-leq r u i)) h
      ∙ in-frontier s os (nest u m) (in-plain s (nest u m) p (ap (leq (nest u m)) e ∙ nest-in r.greatest m u m (domain-leq r u i) (omega arith)));
}

pub outer_of_first-moved : (s r : Bounds) (m : ℕ) (os : Front) → s.sides ≡ false → r.sides ≡ false → s.greatest ≡ nest r.greatest m → AreIn s os → IsMoved OuterOfFirst os r (λ u. frontier_of s os (nest u 0))
outer_of_first-moved s r m os p q e h = record {
  images_in = each-image OuterOfFirst os (λ o. in_domain s o ≡ true) (λ w. in_domain r w ≡ true)
      (λ o w d g.
      let i = cond_some (counter o == 0) (outer o) w g in
      ap (in_domain r) (sym i.1) ∙ in-plain r (outer o) q (of_loop r.greatest m o (sym (ap (leq o) e) ∙ domain-leq s o d)).outside) h;
  same = λ u i.
      inside-images OuterOfFirst os (λ o. in_domain s o ≡ true) u (nest u 0) false (λ o d. met-outer_of_first r.greatest m o u (sym (ap (leq o) e) ∙ domain-leq s o d) (domain-leq r u i)) h
      ∙ in-frontier s os (nest u 0) (in-plain s (nest u 0) p (ap (leq (nest u 0)) e ∙ nest-in r.greatest m u 0 (domain-leq r u i) (omega arith)));
}

-- ---- numbers

-- a stamp of one coordinate
pub of_line : (b : Bounds) (u : Stamp) → length b.greatest ≡ 1 → in_domain b u ≡ true → u ≡ first_coordinate u ∷ []
of_line b u l h = by u (domain-length b u h ∙ l)
  where
    by : (u : Stamp) → length u ≡ 1 → u ≡ first_coordinate u ∷ []
    by [] e = absurd (omega arith)
    by (x ∷ []) e = refl
    by (x ∷ y ∷ u) e = absurd (omega arith)

-- a canonical list of stamps of one coordinate has at most one
one-line : (b : Bounds) (o : Stamp) (os : Front) → length b.greatest ≡ 1 → IsCanonical b (o ∷ os) → os ≡ []
one-line b o [] l h = refl
one-line b o (q ∷ os) l h =
    absurd (by (first_coordinate o) (first_coordinate q) (sym (λ i. leq (of_line b o l h.0.in_the_domain i) (of_line b q l h.1.0.in_the_domain i) || leq (of_line b q l h.1.0.in_the_domain i) (of_line b o l h.0.in_the_domain i)) ∙ h.0.incomparable.0))
  where
    by : (x y : ℕ) → ((nat_le x y && true) || (nat_le y x && true)) ≡ false → ⊥
    by x y e = grind (arith, nat_tests)

pub one-limit : (b : Bounds) (os : Front) (o : Stamp) (x : ℕ) → length b.greatest ≡ 1 → IsCanonical b os → 0 < length os → o ≡ get_or os 0 o → x ≡ slice_index o 0 → os ≡ (x ∷ []) ∷ []
one-limit b [] o x l h some e f = absurd (omega arith)
one-limit b (q ∷ os) o x l h some e f =
    let line = of_line b q l h.0.in_the_domain in
    (λ i. line i ∷ one-line b q os l h i) ∙ ap (λ n. (n ∷ []) ∷ []) (sym (f ∙ ap (λ u. slice_index u 0) (e ∙ line)))

-- the numbers below a limit of the domain
pub names-below_limit : (b : Bounds) (g limit : ℕ) (os : Front) → b.greatest ≡ g ∷ [] → IsFrontOf b os (frontier_of b ((limit ∷ []) ∷ [])) → IsFrontOf b os (λ u. in_domain b u && nat_lt (first_coordinate u) limit)
names-below_limit b g limit os e n = names-numbers b os (Some limit) first_coordinate by (names-limit b g limit os e n)
  where
    by : (t : Stamp) → length t ≡ length b.greatest → first_coordinate t ≡ slice_index t 0
    by [] l = refl
    by (x ∷ t) l = refl

-- numbers of a domain by another test
pub names-numbers_by : (b : Bounds) (g : ℕ) (os : Front) (f : ℕ → Bool) (test : Frontier) → b.greatest ≡ g ∷ [] → IsFrontOf b os (λ u. in_domain b u && f (first_coordinate u))
    → ((u : Stamp) → first_coordinate u ≤ g → f (first_coordinate u) ≡ test u) → IsFrontOf b os (λ u. in_domain b u && test u)
names-numbers_by b g os f test e n h = names-as b os (λ u. in_domain b u && f (first_coordinate u)) (λ u. in_domain b u && test u) n (λ u. by u (in_domain b u) refl)
  where
    small : (u : Stamp) → leq u (g ∷ []) ≡ true → first_coordinate u ≤ g
    small [] k = absurd (cc)
    small (x ∷ u) k = leb-true x g (and_parts _ _ k).0

    by : (u : Stamp) (c : Bool) → in_domain b u ≡ c → (c && f (first_coordinate u)) ≡ (c && test u)
    by u true k = h u (small u (sym (ap (leq u) e) ∙ domain-leq b u k))
    by u false k = refl

-- the test of the numbers below a limit
below-limit : (b : Bounds) (g limit x : ℕ) → b.sides ≡ false → b.greatest ≡ g ∷ [] → frontier_of b (front_until (Some limit)) (x ∷ []) ≡ (nat_le x g && nat_lt x limit)
below-limit b g limit x p e = ap (λ c. c && inside ((limit ∷ []) ∷ []) (x ∷ [])) (plain-in_domain b (x ∷ []) p) ∙ ap (λ t. leq (x ∷ []) t && inside ((limit ∷ []) ∷ []) (x ∷ [])) e ∙ by x g limit
  where
    by : (x g limit : ℕ) → ((nat_le x g && true) && (not (nat_le limit x && true) && true)) ≡ (nat_le x g && nat_lt x limit)
    by x g limit = grind (arith, nat_tests)

-- a limit of the domain
pub limit-in : (b : Bounds) (g limit : ℕ) (os : Front) → b.greatest ≡ g ∷ [] → os ≡ front_until (Some limit) → IsCanonical b os → limit ≤ g
limit-in b g limit os e f h =
    let c : IsCanonical b ((limit ∷ []) ∷ []) = subst (IsCanonical b) f h in
    leb-true limit g ((and_parts _ _ (sym (ap (leq (limit ∷ [])) e) ∙ domain-leq b (limit ∷ []) c.0.in_the_domain)).0)

-- two comparisons are one where each follows from the other
lt-same : (a b c d : ℕ) → (a < b → c < d) → (c < d → a < b) → nat_lt a b ≡ nat_lt c d
lt-same a b c d f g = by (nat_lt a b) refl (nat_lt c d) refl
  where
    by : (x : Bool) → nat_lt a b ≡ x → (y : Bool) → nat_lt c d ≡ y → x ≡ y
    by true e true h = refl
    by true e false h = let l : a < b = ltb-true a b e in let m = f l in absurd (not_less c d h m)
      where
        not_less : (c d : ℕ) → nat_lt c d ≡ false → c < d → ⊥
        not_less c d h m = grind (arith, nat_tests)
    by false e true h = let l : c < d = ltb-true c d h in let m = g l in absurd (not_less a b e m)
      where
        not_less : (a b : ℕ) → nat_lt a b ≡ false → a < b → ⊥
        not_less a b h m = grind (arith, nat_tests)
    by false e false h = refl

-- regrouped, an epoch up to whose last number all are inside
pub phi-regroup : (n g limit k : ℕ) → 1 ≤ n → limit ≤ g → nat_lt k (limit / n) ≡ (nat_le (min (k * n + n - 1) g) g && nat_lt (min (k * n + n - 1) g) limit)
phi-regroup n g limit k p q =
    let a = le-div_iff_mul-le {k = n} {x = k + 1} {y = limit} (omega arith) in
    lt-same k (limit / n) (min (k * n + n - 1) g) limit
    (λ h. let x : (k + 1) * n ≤ limit = a.0 (omega arith) in let y = min-le_left (k * n + n - 1) g in omega arith)
    (λ h. let x : k + 1 ≤ limit / n = a.1 (above (k * n) h) in omega arith)
    ∙ by (nat_lt (min (k * n + n - 1) g) limit) (nat_le (min (k * n + n - 1) g) g) (le-leb (min (k * n + n - 1) g) g (min-le_right (k * n + n - 1) g))
  where
    by : (c a : Bool) → a ≡ true → c ≡ (a && c)
    by c true e = refl
    by true false e = sym e
    by false false e = refl

    least : (x g limit : ℕ) → min x g < limit → limit ≤ g → x < limit
    least x g limit h q = grind (arith, nat_tests)

    above : (kn : ℕ) → min (k * n + n - 1) g < limit → (k + 1) * n ≤ limit
    above kn h = let l = least (k * n + n - 1) g limit h q in omega arith

-- an epoch whose first number is inside
pub psi-regroup : (n end k : ℕ) → 1 ≤ n → nat_lt k (end / n + min 1 (end % n)) ≡ nat_lt (k * n) end
psi-regroup n end k p = by (end / n) (end % n) (div-add-mod' end n) (mod-lt end (omega arith))
  where
    by : (q r : ℕ) → q * n + r ≡ end → r < n → nat_lt k (q + min 1 r) ≡ nat_lt (k * n) end
    by q zero e l = lt-same k (q + min 1 zero) (k * n) end
        (λ h. let x : (k + 1) * n ≤ q * n = mul-le-mul_right {m = k + 1} {n = q} n (omega arith) in omega arith)
        (λ h. less q (λ (g : q ≤ k). let x : q * n ≤ k * n = mul-le-mul_right {m = q} {n = k} n g in omega arith))
      where
        less : (q : ℕ) → (q ≤ k → ⊥) → k < q + 0
        less q f = grind (arith, nat_tests)
    by q (suc r) e l = lt-same k (q + min 1 (suc r)) (k * n) end
        (λ h. let x : k * n ≤ q * n = mul-le-mul_right {m = k} {n = q} n (few q r h) in omega arith)
        (λ h. less q r (λ (g : q + 1 ≤ k). let x : (q + 1) * n ≤ k * n = mul-le-mul_right {m = q + 1} {n = k} n g in omega arith))
      where
        few : (q r : ℕ) → k < q + min 1 (suc r) → k ≤ q
        few q r h = grind (arith, nat_tests)

        less : (q r : ℕ) → (q + 1 ≤ k → ⊥) → k < q + min 1 (suc r)
        less q r f = grind (arith, nat_tests)

-- the numbers of the epochs below a limit
pub psi_back-regroup : (n limit x : ℕ) → 1 ≤ n → nat_lt x (limit * n) ≡ nat_lt (x / n) limit
psi_back-regroup n limit x p =
    let a = div-lt_iff_lt-mul {k = n} {x = x} {y = limit} (omega arith) in
    lt-same x (limit * n) (x / n) limit a.1 a.0

-- ---- the domains of each kind

-- the greatest stamps of the domains of a kind
sender-greatest : {kind : Kind} {s r : Bounds} → (d : AreDomainsOf kind s r) → s.greatest ≡ greatest_of_kind d.flow kind
sender-greatest d = ap (λ b. b.greatest) d.of_sender

receiver-greatest : {kind : Kind} {s r : Bounds} → (d : AreDomainsOf kind s r) → r.greatest ≡ greatest_of d.flow (out_domain_of_kind d.flow kind)
receiver-greatest d = ap (λ b. b.greatest) d.of_receiver

-- none of them has sides
sender-plain : {kind : Kind} {s r : Bounds} → AreDomainsOf kind s r → s.sides ≡ false
sender-plain d = ap (λ b. b.sides) d.of_sender

receiver-plain : {kind : Kind} {s r : Bounds} → AreDomainsOf kind s r → r.sides ≡ false
receiver-plain d = ap (λ b. b.sides) d.of_receiver

-- those that an enter joins
enter-domains : {l : ℕ} {s r : Bounds} → (d : AreDomainsOf (Enter l) s r) → r.greatest ≡ nest s.greatest (max_of d.flow l)
enter-domains {l} d = receiver-greatest d ∙ greatest-unfold d.flow l ∙ ap (λ b. nest b (max_of d.flow l)) (sym (sender-greatest d))

-- those that a leave joins
leave-domains : {l : ℕ} {s r : Bounds} → AreDomainsOf (Leave l) s r → s.greatest ≡ nest r.greatest (counter s.greatest)
leave-domains {l} {s} {r} d =
    let own : s.greatest ≡ nest r.greatest (max_of d.flow l) =
    sender-greatest d ∙ greatest-unfold d.flow l ∙ ap (λ b. nest b (max_of d.flow l)) (sym (receiver-greatest d)) in
    own ∙ ap (nest r.greatest) (sym (ap counter own ∙ counter-nest r.greatest (max_of d.flow l)))

-- those that a feedback joins
feedback-domains : {l : ℕ} {s r : Bounds} → (d : AreDomainsOf (Feedback l) s r)
    → (s.greatest ≡ nest (outer_greatest d.flow l) (counter s.greatest)) × (r.greatest ≡ nest (outer_greatest d.flow l) (counter s.greatest))
feedback-domains {l} d =
    let b = outer_greatest d.flow l in
    let same = ap (nest b) (sym (ap counter (sender-greatest d) ∙ counter-nest b (max_of d.flow l))) in
    (sender-greatest d ∙ same, receiver-greatest d ∙ same)

-- stamps of a domain have some coordinate
somes : (b : Bounds) (os : Front) → 0 < length b.greatest → AreIn b os → AllByRecursion (λ o. 0 < length o) os
somes b [] some h = tt
somes b (o ∷ os) some h = let l = domain-length b o h.0 in (omega (arith, l), somes b os some h.1)

some-greatest : (flow : Dataflow) (d : Domain) → 0 < length (greatest_of flow d)
some-greatest flow d = let n = greatest-length flow d in omega arith

pub somes-sender : {kind : Kind} {s r : Bounds} → AreDomainsOf kind s r → (os : Front) → IsCanonical s os → AllByRecursion (λ o. 0 < length o) os
somes-sender {kind} {s} d os h =
    somes s os (subst (λ (g : Stamp). 0 < length g) (sym (sender-greatest d)) (some-greatest d.flow (domain_of_kind d.flow kind))) (in_domain-canonical s os h)

pub somes-receiver : {kind : Kind} {s r : Bounds} → AreDomainsOf kind s r → (os : Front) → IsCanonical r os → AllByRecursion (λ o. 0 < length o) os
somes-receiver {kind} {r = r} d os h =
    somes r os (subst (λ (g : Stamp). 0 < length g) (sym (receiver-greatest d)) (some-greatest d.flow (out_domain_of_kind d.flow kind))) (in_domain-canonical r os h)

-- those of a domain of one to three coordinates may get a counter
nests : (b : Bounds) (os : Front) → MayGo First b.greatest → AreIn b os → AllByRecursion (MayGo First) os
nests b [] n h = tt
nests b (o ∷ os) n h =
    let l = domain-length b o h.0 in
    ((omega (arith, l, n.0), omega (arith, l, n.1)), nests b os n h.1)

nest-parent : (flow : Dataflow) (l : ℕ) → MayGo First (greatest_of flow (parent_of flow l))
nest-parent flow l =
    let n = greatest-length flow (parent_of flow l) in
    let few = parent-few flow l in
    (omega arith, omega arith)

pub nest-enter : {l : ℕ} {s r : Bounds} → AreDomainsOf (Enter l) s r → MayGo First s.greatest
nest-enter {l} d = subst (MayGo First) (sym (sender-greatest d)) (nest-parent d.flow l)

pub nests-enter : {l : ℕ} {s r : Bounds} → AreDomainsOf (Enter l) s r → (os : Front) → IsCanonical s os → AllByRecursion (MayGo First) os
nests-enter {s = s} d os h = nests s os (nest-enter d) (in_domain-canonical s os h)

pub nests-leave : {l : ℕ} {s r : Bounds} → AreDomainsOf (Leave l) s r → (os : Front) → IsCanonical r os → AllByRecursion (MayGo First) os
nests-leave {l} {r = r} d os h = nests r os (subst (MayGo First) (sym (receiver-greatest d)) (nest-parent d.flow l)) (in_domain-canonical r os h)

-- ---- phi, psi and psi backwards through a loop

-- the same, by a test that agrees on the domain
moved-as : {way : Way} {os : Front} {r : Bounds} {f : Frontier} → IsMoved way os r f → (g : Frontier) → ((u : Stamp) → in_domain r u ≡ true → f u ≡ g u) → IsMoved way os r g
moved-as m g h = record { images_in = m.images_in; same = λ u i. m.same u i ∙ h u i }

-- a frontier has all counters of a stamp where it has the last
each-last : (s : Bounds) (os : Front) (b : Stamp) (m c : ℕ) (u : Stamp) → s.sides ≡ false → s.greatest ≡ nest b m → leq u b ≡ true → c ≤ m → each_counter (frontier_of s os) u c ≡ frontier_of s os (nest u c)
each-last s os b m zero u p e i l = refl
each-last s os b m (suc c) u p e i l =
    ap (λ x. frontier_of s os (nest u (suc c)) && x) (each-last s os b m c u p e i (omega arith))
    ∙ by (frontier_of s os (nest u (suc c))) (frontier_of s os (nest u c))
    ((frontier-closed s os).closed (nest u c) (nest u (suc c)) (in-plain s (nest u c) p (ap (leq (nest u c)) e ∙ nest-in b m u c i (omega arith))) (higher u c))
  where
    by : (x y : Bool) → (x ≡ true → y ≡ true) → (x && y) ≡ x
    by true y h = h refl
    by false y h = refl

    higher : (u : Stamp) (c : ℕ) → leq (nest u c) (nest u (suc c)) ≡ true
    higher u c = leq-nest u u c (suc c) refl ∙ and_from (leq u u) (nat_le c (suc c)) (leq-refl u) (le-leb c (suc c) (omega arith))

-- and one of them where it has the first
some-first : (s : Bounds) (os : Front) (b : Stamp) (m c : ℕ) (u : Stamp) → s.sides ≡ false → s.greatest ≡ nest b m → leq u b ≡ true → c ≤ m → some_counter (frontier_of s os) u c ≡ frontier_of s os (nest u 0)
some-first s os b m zero u p e i l = refl
some-first s os b m (suc c) u p e i l =
    ap (λ x. frontier_of s os (nest u (suc c)) || x) (some-first s os b m c u p e i (omega arith))
    ∙ by (frontier_of s os (nest u (suc c))) (frontier_of s os (nest u 0))
    ((frontier-closed s os).closed (nest u 0) (nest u (suc c)) (in-plain s (nest u 0) p (ap (leq (nest u 0)) e ∙ nest-in b m u 0 i (omega arith))) (higher u c))
  where
    by : (x y : Bool) → (x ≡ true → y ≡ true) → (x || y) ≡ y
    by true y h = sym (h refl)
    by false y h = refl

    higher : (u : Stamp) (c : ℕ) → leq (nest u 0) (nest u (suc c)) ≡ true
    higher u c = leq-nest u u 0 (suc c) refl ∙ and_from (leq u u) (nat_le 0 (suc c)) (leq-refl u) (le-leb 0 (suc c) (omega arith))

pub phi-enter : {l : ℕ} {s r : Bounds} → AreDomainsOf (Enter l) s r → (os : Front) → IsCanonical s os → IsMoved First os r (λ u. frontier_of s os (outer u))
phi-enter {l} {s} {r} d os h = first-moved s r (max_of d.flow l) os (sender-plain d) (receiver-plain d) (enter-domains d) (in_domain-canonical s os h)

pub phi-feedback : {l : ℕ} {s r : Bounds} → AreDomainsOf (Feedback l) s r → (os : Front) → IsCanonical s os
    → IsMoved (Next (counter s.greatest)) os r (λ u. counter u == 0 || frontier_of s os (nest (outer u) (counter u - 1)))
phi-feedback {l} {s} {r} d os h =
    let e = feedback-domains d in
    next-moved s r (outer_greatest d.flow l) (counter s.greatest) os (sender-plain d) (receiver-plain d) e.0 e.1 (in_domain-canonical s os h)

pub phi-leave : {l : ℕ} {s r : Bounds} → AreDomainsOf (Leave l) s r → (os : Front) → IsCanonical s os
    → IsMoved Outer os r (λ u. each_counter (frontier_of s os) u (counter s.greatest))
phi-leave {l} {s} {r} d os h =
    let e = leave-domains d in
    moved-as (outer-moved s r (counter s.greatest) os (sender-plain d) (receiver-plain d) e (in_domain-canonical s os h))
    (λ u. each_counter (frontier_of s os) u (counter s.greatest))
    (λ u i. sym (each-last s os r.greatest (counter s.greatest) (counter s.greatest) u (sender-plain d) e (domain-leq r u i) (omega arith)))

pub psi-feedback : {l : ℕ} {s r : Bounds} → AreDomainsOf (Feedback l) s r → (os : Front) → IsCanonical s os
    → IsMoved (NextAfterFirst (counter s.greatest)) os r (psi_of_kind s.greatest (Feedback l) (frontier_of s os))
psi-feedback {l} {s} {r} d os h =
    let e = feedback-domains d in
    next_after_first-moved s r (outer_greatest d.flow l) (counter s.greatest) os (sender-plain d) (receiver-plain d) e.0 e.1 (in_domain-canonical s os h)

pub psi-leave : {l : ℕ} {s r : Bounds} → AreDomainsOf (Leave l) s r → (os : Front) → IsCanonical s os → IsMoved OuterOfFirst os r (psi_of_kind s.greatest (Leave l) (frontier_of s os))
psi-leave {l} {s} {r} d os h =
    let e = leave-domains d in
    moved-as (outer_of_first-moved s r (counter s.greatest) os (sender-plain d) (receiver-plain d) e (in_domain-canonical s os h))
    (psi_of_kind s.greatest (Leave l) (frontier_of s os))
    (λ u i. sym (some-first s os r.greatest (counter s.greatest) (counter s.greatest) u (sender-plain d) e (domain-leq r u i) (omega arith)))

pub psi_back-enter : {l : ℕ} {s r : Bounds} → AreDomainsOf (Enter l) s r → (os : Front) → IsCanonical r os → IsMoved OuterOfFirst os s (psi_back_of_kind s.greatest (Enter l) (frontier_of r os))
psi_back-enter {l} {s} {r} d os h = outer_of_first-moved r s (max_of d.flow l) os (receiver-plain d) (sender-plain d) (enter-domains d) (in_domain-canonical r os h)

pub psi_back-feedback : {l : ℕ} {s r : Bounds} → AreDomainsOf (Feedback l) s r → (os : Front) → IsCanonical r os → IsMoved Before os s (psi_back_of_kind s.greatest (Feedback l) (frontier_of r os))
psi_back-feedback {l} {s} {r} d os h =
    let e = feedback-domains d in
    before-moved s r (outer_greatest d.flow l) (counter s.greatest) os (sender-plain d) (receiver-plain d) e.0 e.1 (in_domain-canonical r os h)

pub psi_back-leave : {l : ℕ} {s r : Bounds} → AreDomainsOf (Leave l) s r → (os : Front) → IsCanonical r os → IsMoved First os s (psi_back_of_kind s.greatest (Leave l) (frontier_of r os))
psi_back-leave {l} {s} {r} d os h = first-moved r s (counter s.greatest) os (receiver-plain d) (sender-plain d) (leave-domains d) (in_domain-canonical r os h)

-- what is moved names the frontier that the test has
pub moved-ok : {E : Type 0} {way : Way} {os : Front} {r : Bounds} {test : Frontier} (res : Result Front E) → IsMoved way os r test
    → ((b : Bounds) → AreIn b (images way os) → IfOk res (λ g. IsFrontOf b g (frontier_of b (images way os))))
    → IfOk res (λ g. IsFrontOf r g (λ u. in_domain r u && test u))
moved-ok {way = way} {os} {r} {test} res m h =
    IfOk-weaker res (λ g. IsFrontOf r g (frontier_of r (images way os))) (λ g. IsFrontOf r g (λ u. in_domain r u && test u))
    (λ g n. names-by r g (images way os) test n m.same) (h r m.images_in)

-- ---- what enters a loop is at counter 0

-- outside from counter 1 on
from_one : (b : Stamp) (m : ℕ) (u : Stamp) → leq u (nest b m) ≡ true
    → inside (cond (nat_lt 0 m) (nest (origin b) 1 ∷ []) []) u ≡ (counter u == 0)
from_one b m u h = by (nat_lt 0 m) refl
  where
    v : IsOfLoop b m u
    v = of_loop b m u h

    at : leq (nest (origin b) 1) u ≡ nat_le 1 (counter u)
    at =
        ap (leq (nest (origin b) 1)) (sym v.nested)
        ∙ leq-nest (origin b) (outer u) 1 (counter u) (length-origin b ∙ sym v.long)
        ∙ ap (λ c. c && nat_le 1 (counter u)) (origin-leq b (outer u) (sym v.long))

    some : (c : ℕ) → (not (nat_le 1 c) && true) ≡ (c == 0)
    some c = grind (arith, nat_tests)

    none : (m c : ℕ) → nat_lt 0 m ≡ false → c ≤ m → true ≡ (c == 0)
    none m c e l = grind (arith, nat_tests)

    by : (x : Bool) → nat_lt 0 m ≡ x → inside (cond x (nest (origin b) 1 ∷ []) []) u ≡ (counter u == 0)
    by true e = ap (λ c. not c && true) at ∙ some (counter u)
    by false e = none m (counter u) e v.counted

pub psi-enter_in : {l : ℕ} {s r : Bounds} → AreDomainsOf (Enter l) s r → (os : Front) → IsCanonical s os → AreIn r (entered_outside s r os)
psi-enter_in {l} {s} {r} d os h =
    each-append (λ o. in_domain r o ≡ true) (images First os) (cond (nat_lt 0 (counter r.greatest)) (nest (origin s.greatest) 1 ∷ []) [])
    (phi-enter d os h).images_in (one (max_of d.flow l) (enter-domains d) (nat_lt 0 (counter r.greatest)) refl)
  where
    one : (m : ℕ) → r.greatest ≡ nest s.greatest m → (x : Bool) → nat_lt 0 (counter r.greatest) ≡ x → AreIn r (cond x (nest (origin s.greatest) 1 ∷ []) [])
    one m e true f =
        let c : counter r.greatest ≡ m = ap counter e ∙ counter-nest s.greatest m in
        let p : 0 < counter r.greatest = ltb-true 0 (counter r.greatest) f in
        (in-plain r (nest (origin s.greatest) 1) (receiver-plain d) (ap (leq (nest (origin s.greatest) 1)) e ∙ nest-in s.greatest m (origin s.greatest) 1 (origin-leq s.greatest s.greatest refl) (omega (arith, c))), tt)
    one m e false f = tt

psi-enter_same : {l : ℕ} {s r : Bounds} → AreDomainsOf (Enter l) s r → (os : Front) → IsCanonical s os → (u : Stamp) → in_domain r u ≡ true
    → inside (entered_outside s r os) u ≡ psi_of_kind s.greatest (Enter l) (frontier_of s os) u
psi-enter_same {l} {s} {r} d os h u i =
    let m = max_of d.flow l in
    let e = enter-domains d in
    let c : counter r.greatest ≡ m = ap counter e ∙ counter-nest s.greatest m in
    inside-append (images First os) (cond (nat_lt 0 (counter r.greatest)) (nest (origin s.greatest) 1 ∷ []) []) u
    ∙ (λ j. (phi-enter d os h).same u i j && (ap (λ n. inside (cond (nat_lt 0 n) (nest (origin s.greatest) 1 ∷ []) []) u) c ∙ from_one s.greatest m u (sym (ap (leq u) e) ∙ domain-leq r u i)) j)
    ∙ and_comm (frontier_of s os (outer u)) (counter u == 0)

pub entered-ok : {E : Type 0} {l : ℕ} {s r : Bounds} → AreDomainsOf (Enter l) s r → (os : Front) → IsCanonical s os → (res : Result Front E)
    → ((b : Bounds) → AreIn b (entered_outside s r os) → IfOk res (λ g. IsFrontOf b g (frontier_of b (entered_outside s r os))))
    → IfOk res (λ g. IsFrontOf r g (λ u. in_domain r u && psi_of_kind s.greatest (Enter l) (frontier_of s os) u))
entered-ok {l = l} {s} {r} d os h res all =
    IfOk-weaker res (λ g. IsFrontOf r g (frontier_of r (entered_outside s r os))) (λ g. IsFrontOf r g (λ u. in_domain r u && psi_of_kind s.greatest (Enter l) (frontier_of s os) u))
    (λ g n. names-by r g (entered_outside s r os) (psi_of_kind s.greatest (Enter l) (frontier_of s os)) n (psi-enter_same d os h))
    (all r (psi-enter_in d os h))

-- ---- regrouping

-- the test is that of the numbers below a limit
pub record IsBelow (limit : ℕ) (b : Bounds) (test : Frontier) : Type 0 where
  pub plain : b.sides ≡ false
  pub line : b.greatest ≡ greatest_number ∷ []
  pub same : (u : Stamp) → first_coordinate u ≤ greatest_number → nat_lt (first_coordinate u) limit ≡ test u

-- the numbers below a limit name the frontier that the test has
pub below-ok : {E : Type 0} {limit : ℕ} {b : Bounds} {test : Frontier} (res : Result Front E) → IsBelow limit b test
    → (b.sides ≡ false → IfOk res (λ g. IsFrontOf b g (λ u. in_domain b u && nat_lt (first_coordinate u) limit))) → IfOk res (λ g. IsFrontOf b g (λ u. in_domain b u && test u))
below-ok {limit = limit} {b} {test} res m h =
    IfOk-weaker res (λ g. IsFrontOf b g (λ u. in_domain b u && nat_lt (first_coordinate u) limit)) (λ g. IsFrontOf b g (λ u. in_domain b u && test u))
    (λ g n. names-numbers_by b greatest_number g (λ k. nat_lt k limit) test m.line n m.same) (h m.plain)

pub phi-regroup_ok : {n : ℕ} {s r : Bounds} → AreDomainsOf (Regroup n) s r → IsGroupSize {L = ℕ} (Regroup n) → (os : Front) → IsCanonical s os → (limit k : ℕ) → os ≡ front_until (Some limit)
    → k ≡ limit / n → IsBelow k r (λ u. frontier_of s os (min (first_coordinate u * n + n - 1) (first_coordinate s.greatest) ∷ []))
phi-regroup_ok {n} {s} {r} d size os h limit k f is = record {
  plain = receiver-plain d;
  line = receiver-greatest d;
  same = λ u l.
      let e = sender-greatest d in
      let x : Stamp → ℕ = λ t. min (first_coordinate u * n + n - 1) (first_coordinate t) in
      ap (nat_lt (first_coordinate u)) is
      ∙ phi-regroup n greatest_number limit (first_coordinate u) size.0 (limit-in s greatest_number limit os e f h)
      ∙ sym (below-limit s greatest_number limit (x (greatest_number ∷ [])) (sender-plain d) e)
      ∙ (λ j. frontier_of s (sym f j) (x (sym e j) ∷ []));
}

pub psi-regroup_ok : {n : ℕ} {s r : Bounds} → AreDomainsOf (Regroup n) s r → IsGroupSize {L = ℕ} (Regroup n) → (os : Front) (end k : ℕ) → ((x : ℕ) → frontier_of s os (x ∷ []) ≡ nat_lt x end)
    → k ≡ end / n + min 1 (end % n) → IsBelow k r (psi_of_kind s.greatest (Regroup n) (frontier_of s os))
psi-regroup_ok {n} d size os end k f is = record {
  plain = receiver-plain d;
  line = receiver-greatest d;
  same = λ u l. ap (nat_lt (first_coordinate u)) is ∙ psi-regroup n end (first_coordinate u) size.0 ∙ sym (f (first_coordinate u * n));
}

-- the numbers inside, by where they end
below-end : (limit : ℕ) (s : Bounds) (os : Front) → s.sides ≡ false → s.greatest ≡ greatest_number ∷ [] → IsCanonical s os → os ≡ front_until (Some limit)
    → (x : ℕ) → frontier_of s os (x ∷ []) ≡ nat_lt x limit
below-end limit s os p e h f x =
    (λ j. frontier_of s (f j) (x ∷ [])) ∙ below-limit s greatest_number limit x p e ∙ by x greatest_number limit (limit-in s greatest_number limit os e f h)
  where
    by : (x g limit : ℕ) → limit ≤ g → (nat_le x g && nat_lt x limit) ≡ nat_lt x limit
    by x g limit l = grind (arith, nat_tests)

pub end-limit : {n : ℕ} {s r : Bounds} → AreDomainsOf (Regroup n) s r → (limit : ℕ) (os : Front) → IsCanonical s os → os ≡ front_until (Some limit) → (x : ℕ) → frontier_of s os (x ∷ []) ≡ nat_lt x limit
end-limit {s = s} d limit os h f x = below-end limit s os (sender-plain d) (sender-greatest d) h f x

pub end-all : {n : ℕ} {s r : Bounds} → AreDomainsOf (Regroup n) s r → (end : ℕ) (os : Front) → os ≡ front_until None → end ≡ slice_index s.greatest 0 + 1 → (x : ℕ) → frontier_of s os (x ∷ []) ≡ nat_lt x end
end-all {s = s} d end os f k x =
    let e = sender-greatest d in
    (λ j. frontier_of s (f j) (x ∷ [])) ∙ ap (λ c. c && true) (plain-in_domain s (x ∷ []) (sender-plain d)) ∙ ap (λ t. leq (x ∷ []) t && true) e ∙ by x greatest_number end (k ∙ ap (λ t. slice_index t 0 + 1) e)
  where
    by : (x g end : ℕ) → end ≡ g + 1 → ((nat_le x g && true) && true) ≡ nat_lt x end
    by x g end e = grind (arith, nat_tests)

pub psi_back-regroup_ok : {n : ℕ} {s r : Bounds} → AreDomainsOf (Regroup n) s r → IsGroupSize {L = ℕ} (Regroup n) → (os : Front) (limit k : ℕ) → os ≡ front_until (Some limit)
    → k ≡ limit * n → IsBelow k s (psi_back_of_kind s.greatest (Regroup n) (frontier_of r os))
psi_back-regroup_ok {n} {s} {r} d size os limit k f is = record {
  plain = sender-plain d;
  line = sender-greatest d;
  same = λ u l.
      let x = first_coordinate u / n in
      ap (nat_lt (first_coordinate u)) is
      ∙ psi_back-regroup n limit (first_coordinate u) size.0
      ∙ by (nat_le x greatest_number) (nat_lt x limit) (le-leb x greatest_number (omega (arith, div-le_self (first_coordinate u) n)))
      ∙ sym (below-limit r greatest_number limit x (receiver-plain d) (receiver-greatest d))
      ∙ (λ j. frontier_of r (sym f j) (x ∷ []));
}
  where
    by : (a c : Bool) → a ≡ true → c ≡ (a && c)
    by true c e = refl
    by false true e = sym e
    by false false e = refl

-- ---- a table of what was sent

table_count-same : (f g : Frontier) → ((x : ℕ) → f (x ∷ []) ≡ g (x ∷ [])) → (table : List (ℕ × ℕ)) → table_count f table ≡ table_count g table
table_count-same f g e [] = refl
table_count-same f g e (x ∷ table) = λ i. cond (e x.0 i) (x.1 + table_count-same f g e table i) (table_count-same f g e table i)

-- what the messages of a sequence come from, by the count of those of the epochs below a limit
pub phi-sequence_ok : {s r : Bounds} → AreDomainsOf Sequence s r → (os : Front) → IsCanonical s os → (limit count : ℕ) (table : List (ℕ × ℕ)) → os ≡ front_until (Some limit)
    → count ≡ min (table_count (λ t. nat_lt (first_coordinate t) limit) table) (2 ^ 64 - 1)
    → IsBelow count r (phi_of_kind s.greatest Sequence (table_count (frontier_of s os) table) (frontier_of s os))
phi-sequence_ok {s} {r} d os h limit count table f c =
    let e = sender-greatest d in
    let below = below-end limit s os (sender-plain d) e h f in
    let test : Frontier = frontier_of s os in
    let all : ℕ = table_count (λ t. nat_lt (first_coordinate t) limit) table in
    let same : all ≡ table_count test table = table_count-same (λ t. nat_lt (first_coordinate t) limit) test (λ x. sym (below x)) table in
    let some : test s.greatest ≡ false = ap test e ∙ below greatest_number ∙ past greatest_number limit (limit-in s greatest_number limit os e f h) in
    record {
      plain = receiver-plain d;
      line = receiver-greatest d;
      same = λ u l.
          ap (nat_lt (first_coordinate u)) c
          ∙ capped (first_coordinate u) all greatest_number (2 ^ 64 - 1) l (lit< tt)
          ∙ ap (nat_lt (first_coordinate u)) same
          ∙ sym (ap (λ b. b || nat_lt (first_coordinate u) (table_count test table)) some);
    }
  where
    past : (g limit : ℕ) → limit ≤ g → nat_lt g limit ≡ false
    past g limit l = grind (arith, nat_tests)

    capped : (x n g m : ℕ) → x ≤ g → g < m → nat_lt x (min n m) ≡ nat_lt x n
    capped x n g m l k = grind (arith, nat_tests)

-- phi of a kind reads the count for a sequence alone
phi_of_kind-counted : (greatest : Stamp) (kind : Kind) (m n : ℕ) (f : Frontier) (u : Stamp) → (kind ≡ Sequence → m ≡ n) → phi_of_kind greatest kind m f u ≡ phi_of_kind greatest kind n f u
phi_of_kind-counted greatest (Enter l) m n f u h = refl
phi_of_kind-counted greatest (Feedback l) m n f u h = refl
phi_of_kind-counted greatest (Leave l) m n f u h = refl
phi_of_kind-counted greatest Sequence m n f u h = ap (λ c. f greatest || nat_lt (first_coordinate u) c) (h refl)
phi_of_kind-counted greatest (Regroup r) m n f u h = refl
phi_of_kind-counted greatest kind m n f u h = refl

-- phi of an edge, by the table of its sender, which only a sequence needs
pub phi-by_table : (sys : System) (h : List Event) (e : ℕ) (f : Frontier) (table : List (ℕ × ℕ))
    → (kind_of sys.flow (sender sys.flow e) ≡ Sequence → IsSentTable sys h (sender sys.flow e) table)
    → (u : Stamp) → phi sys h e f u
    ≡ (in_domain (bounds_of_domain sys.flow (out_domain_of_kind sys.flow (kind_of sys.flow (sender sys.flow e)))) u
    && phi_of_kind (greatest_of_kind sys.flow (kind_of sys.flow (sender sys.flow e))) (kind_of sys.flow (sender sys.flow e)) (table_count f table) f u)
unfolding phi
phi-by_table sys h e f table is u =
    let kind = kind_of sys.flow (sender sys.flow e) in
    ap (λ c. in_domain (bounds_of_domain sys.flow (out_domain_of_kind sys.flow kind)) u && c)
    (phi_of_kind-counted (greatest_of_kind sys.flow kind) kind (sent_count sys h (sender sys.flow e) f) (table_count f table) f u (λ k. sym (is k f)))

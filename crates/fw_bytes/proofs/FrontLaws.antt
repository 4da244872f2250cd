-- In a domain the fronts that have a spelling are the canonical ones.
use Rattle.std.proofs.Common.{◌≡◌, ℕ, ◌^◌, ◌<◌, true, false, [], ◌∷◌, ◌++◌, length, refl, sym, ap, ◌∙◌, arith, eq-eqb}
use Rattle.std.specs.Prelude.{not, ◌&&◌, ◌||◌, ◌==◌, nat_le}
use Rattle.std.specs.List.{AllByRecursion}
use Rattle.std.specs.Ordering.{is_lt}
use Rattle.std.proofs.lemmas.Bool.{and_from, and_parts, not-true}
use Rattle.std.proofs.lemmas.Bool.Decides.{nat_tests}
use Rattle.fw_lemmas.proofs.Each.{each-weaker, each-both, each-append, each-prefix, each-suffix}
use Rattle.fw_time.specs.Stamp.{Stamp, leq, stamp_cmp, in_domain}
use Rattle.fw_time.specs.declared.stamp.Bounds.{Bounds}
use Rattle.fw_time.proofs.StampLaws.{leq-length}
use Rattle.fw_time.proofs.DomainLaws.{domain-leq, domain-length}
use Rattle.fw_frontier.specs.Front.{Front, IsCanonical}
use Rattle.fw_frontier.proofs.CanonicalLaws.{in_domain-canonical}
use Rattle.fw_bytes.specs.Sound.{stands_before, may_follow_stamps, each_may_follow, IsStamp, IsFront}

-- each stamp may stand before each later one
abbrev StandInOrder : Front → Type 0
StandInOrder [] = Unit {0}
StandInOrder (o ∷ os) = AllByRecursion (λ q. stands_before o q ≡ true) os × StandInOrder os

-- ---- a list whose parts may follow one another stands in order

each_before : (os : Front) (s : Stamp) → may_follow_stamps os s ≡ true → AllByRecursion (λ o. stands_before o s ≡ true) os
each_before [] s e = tt
each_before (o ∷ os) s e = let two = and_parts (stands_before o s) (may_follow_stamps os s) e in (two.0, each_before os s two.1)

may_follow : (os : Front) (s : Stamp) → AllByRecursion (λ o. stands_before o s ≡ true) os → may_follow_stamps os s ≡ true
may_follow [] s all = refl
may_follow (o ∷ os) s all = and_from (stands_before o s) (may_follow_stamps os s) all.0 (may_follow os s all.1)

abbrev StandBefore : Front → Stamp → Type 0
StandBefore xs o = AllByRecursion (λ x. stands_before o x ≡ true) xs

in_order : (before xs : Front) → each_may_follow may_follow_stamps before xs ≡ true → AllByRecursion (StandBefore xs) before × StandInOrder xs
in_order before [] e = (nothing_after before, tt)
  where
    nothing_after : (os : Front) → AllByRecursion (StandBefore []) os
    nothing_after [] = tt
    nothing_after (o ∷ os) = (tt, nothing_after os)
in_order before (x ∷ xs) e =
    let two = and_parts (may_follow_stamps before x) (each_may_follow may_follow_stamps (before ++ x ∷ []) xs) e in
    let later = in_order (before ++ x ∷ []) xs two.1 in
    let earlier = each-prefix (StandBefore xs) before (x ∷ []) later.0 in
    let this = each-suffix (StandBefore xs) before (x ∷ []) later.0 in
    (each-both (λ o. stands_before o x ≡ true) (StandBefore xs) before (each_before before x two.0) earlier, (this.0, later.1))

follow_in_order : (before xs : Front) → AllByRecursion (StandBefore xs) before → StandInOrder xs → each_may_follow may_follow_stamps before xs ≡ true
follow_in_order before [] all ordered = refl
follow_in_order before (x ∷ xs) all ordered =
    let first = each-weaker (StandBefore (x ∷ xs)) (λ o. stands_before o x ≡ true) before (λ o h. h.0) all in
    let rest = each-weaker (StandBefore (x ∷ xs)) (StandBefore xs) before (λ o h. h.1) all in
    and_from (may_follow_stamps before x) (each_may_follow may_follow_stamps (before ++ x ∷ []) xs) (may_follow before x first)
    (follow_in_order (before ++ x ∷ []) xs (each-append (StandBefore xs) before (x ∷ []) rest (ordered.0, tt)) ordered.1)

-- ---- standing in order, in a domain, is being canonical

record IsApart (o q : Stamp) : Type 0 where
  ascending : is_lt (stamp_cmp o q) ≡ true
  incomparable : (leq o q || leq q o) ≡ false

apart : (o q : Stamp) → stands_before o q ≡ true → IsApart o q
apart o q e =
    let a = and_parts (length o == length q) (is_lt (stamp_cmp o q) && not (leq o q || leq q o)) e in
    let b = and_parts (is_lt (stamp_cmp o q)) (not (leq o q || leq q o)) a.1 in
    record { ascending = b.0; incomparable = not-true (leq o q || leq q o) b.1 }

abbrev AreIn : Bounds → Front → Type 0
AreIn bounds os = AllByRecursion (λ o. in_domain bounds o ≡ true) os

canonical_in_order : (bounds : Bounds) (os : Front) → AreIn bounds os → StandInOrder os → IsCanonical bounds os
canonical_in_order bounds [] inside ordered = tt
canonical_in_order bounds (o ∷ os) inside ordered = (
  record {
    in_the_domain = inside.0;
    ascending = each-weaker (λ q. stands_before o q ≡ true) (λ q. is_lt (stamp_cmp o q) ≡ true) os (λ q h. (apart o q h).ascending) ordered.0;
    incomparable = each-weaker (λ q. stands_before o q ≡ true) (λ q. (leq o q || leq q o) ≡ false) os (λ q h. (apart o q h).incomparable) ordered.0;
  },
  canonical_in_order bounds os inside.1 ordered.1,
)

stands : (bounds : Bounds) (o : Stamp) (os : Front) → in_domain bounds o ≡ true → AreIn bounds os
    → AllByRecursion (λ q. is_lt (stamp_cmp o q) ≡ true) os → AllByRecursion (λ q. (leq o q || leq q o) ≡ false) os → StandBefore os o
stands bounds o [] i inside ascending incomparable = tt
stands bounds o (q ∷ os) i inside ascending incomparable =
    let same : length o ≡ length q = domain-length bounds o i ∙ sym (domain-length bounds q inside.0) in (
      and_from (length o == length q) (is_lt (stamp_cmp o q) && not (leq o q || leq q o)) (eq-eqb (length o) (length q) same)
          (and_from (is_lt (stamp_cmp o q)) (not (leq o q || leq q o)) ascending.0 (ap not incomparable.0)),
      stands bounds o os i inside.1 ascending.1 incomparable.1,
    )

ordered_of_canonical : (bounds : Bounds) (os : Front) → AreIn bounds os → IsCanonical bounds os → StandInOrder os
ordered_of_canonical bounds [] inside canonical = tt
ordered_of_canonical bounds (o ∷ os) inside canonical =
    (stands bounds o os inside.0 inside.1 canonical.0.ascending canonical.0.incomparable, ordered_of_canonical bounds os inside.1 canonical.1)

-- ---- stamps of a domain of such stamps

abbrev Fit : Stamp → Type 0
Fit s = AllByRecursion (λ c. c < 2 ^ 32) s

fit_below : (s g : Stamp) → leq s g ≡ true → Fit g → Fit s
fit_below [] g e fit = tt
fit_below (c ∷ s) [] e fit = absurd cc
fit_below (c ∷ s) (d ∷ g) e fit =
    let two = and_parts (nat_le c d) (leq s g) e in
    (below c d two.0 fit.0, fit_below s g two.1 fit.1)
  where
    below : (c d : ℕ) → nat_le c d ≡ true → d < 2 ^ 32 → c < 2 ^ 32
    below c d le lt = grind (arith, nat_tests)

stamp_below : (s g : Stamp) → leq s g ≡ true → IsStamp g → IsStamp s
stamp_below s g e sound =
    let same = leq-length s g e in
    record { some = omega (arith, same, sound.some); few = omega (arith, same, sound.few); fit = fit_below s g e sound.fit }

-- ---- the law

pub canonical_of_sound : (bounds : Bounds) (f : Front) → AreIn bounds f → IsFront f → IsCanonical bounds f
canonical_of_sound bounds f inside sound = canonical_in_order bounds f inside (in_order [] f sound.follow).1

pub sound_of_canonical : (bounds : Bounds) (f : Front) → IsStamp bounds.greatest → length f < 2 ^ 32 → IsCanonical bounds f → IsFront f
sound_of_canonical bounds f greatest few canonical =
    let inside = in_domain-canonical bounds f canonical in
    record {
      few = few;
      parts = each-weaker (λ o. in_domain bounds o ≡ true) IsStamp f (λ o i. stamp_below o bounds.greatest (domain-leq bounds o i) greatest) inside;
      follow = follow_in_order [] f tt (ordered_of_canonical bounds f inside canonical);
    }

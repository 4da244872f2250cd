-- The calls keep a list of outside stamps canonical.
use Rattle.std.proofs.Common.{◌≡◌, ℕ, Bool, true, false, cond, List, [], ◌∷◌, length, refl, sym, ◌∙◌, zero, suc, nat_lt, nat_le, ◌<◌, get_or, ap, inl, inr, arith}
use Rattle.std.proofs.lemmas.Bool.{and_from, and_parts, cases_lt}
use Rattle.std.proofs.lemmas.Bool.Decides.{nat_tests}
use Rattle.std.proofs.lemmas.List.{get_or_past}
use Rattle.std.specs.List.{AllByRecursion}
use Rattle.fw_lemmas.proofs.Each.{each-weaker, each-at}
use Rattle.fw_time.specs.declared.stamp.Bounds.{Bounds}
use Rattle.fw_time.specs.Stamp.{leq, lub, stamp_raised_at, counts, in_domain, up_to}
use Rattle.fw_time.proofs.StampLaws.{leq-length, lub-least, leq-raised}
use Rattle.fw_time.proofs.DomainLaws.{domain-leq, domain-counts, domain-length, side-raised}
use Rattle.fw_frontier.specs.Front.{IsCanonical, all_in_domain}
use Rattle.fw_frontier.specs.Outside.{front_without, front_without_all, below_at}
use Rattle.fw_frontier.proofs.AntichainLaws.{IsAntichain, all-excluding, antichain-excluding}
use Rattle.fw_frontier.proofs.Pairs.{excluding_lubs, excluding_pairs}

-- a canonical list is an antichain of a domain's stamps
pub antichain-canonical : (b : Bounds) (os : List (List ℕ)) → IsCanonical b os → IsAntichain os
antichain-canonical b [] h = tt
antichain-canonical b (o ∷ os) h = (record { ascending = h.0.ascending; incomparable = h.0.incomparable }, antichain-canonical b os h.1)

pub canonical-antichain : (b : Bounds) (os : List (List ℕ)) → AllByRecursion (λ o. in_domain b o ≡ true) os → IsAntichain os → IsCanonical b os
canonical-antichain b [] d h = tt
canonical-antichain b (o ∷ os) d h = (record { in_the_domain = d.0; ascending = h.0.ascending; incomparable = h.0.incomparable }, canonical-antichain b os d.1 h.1)

-- the stamps of a canonical list are the domain's
pub in_domain-canonical : (b : Bounds) (os : List (List ℕ)) → IsCanonical b os → AllByRecursion (λ o. in_domain b o ≡ true) os
in_domain-canonical b [] h = tt
in_domain-canonical b (o ∷ os) h = (h.0.in_the_domain, in_domain-canonical b os h.1)

-- a stamp more is outside
pub canonical-excluding : (b : Bounds) (s : List ℕ) (os : List (List ℕ)) → in_domain b s ≡ true → IsCanonical b os → IsCanonical b (front_without s os)
canonical-excluding b s os h k =
    canonical-antichain b (front_without s os) (all-excluding (λ o. in_domain b o ≡ true) s os h (in_domain-canonical b os k)) (antichain-excluding s os (antichain-canonical b os k))

-- these stamps more are outside
pub canonical-excluding_all : (b : Bounds) (ss os : List (List ℕ)) → AllByRecursion (λ s. in_domain b s ≡ true) ss → IsCanonical b os → IsCanonical b (front_without_all ss os)
canonical-excluding_all b [] os h k = k
canonical-excluding_all b (s ∷ ss) os h k = canonical-excluding_all b ss (front_without s os) h.1 (canonical-excluding b s os h.0 k)

canonical-excluding_lubs : (g : List ℕ) (s : List ℕ) (ps os : List (List ℕ)) → in_domain (up_to g) s ≡ true → AllByRecursion (λ p. in_domain (up_to g) p ≡ true) ps → IsCanonical (up_to g) os → IsCanonical (up_to g) (excluding_lubs s ps os)
canonical-excluding_lubs g s [] os h k l = l
canonical-excluding_lubs g s (p ∷ ps) os h k l =
    canonical-excluding_lubs g s ps (front_without (lub s p) os) h k.1 (canonical-excluding (up_to g) (lub s p) os (lub-least s p g h k.0) l)

pub canonical-excluding_pairs : (g : List ℕ) (ss ps os : List (List ℕ)) → AllByRecursion (λ s. in_domain (up_to g) s ≡ true) ss → AllByRecursion (λ p. in_domain (up_to g) p ≡ true) ps → IsCanonical (up_to g) os → IsCanonical (up_to g) (excluding_pairs ss ps os)
canonical-excluding_pairs g [] ps os h k l = l
canonical-excluding_pairs g (s ∷ ss) ps os h k l = canonical-excluding_pairs g ss ps (excluding_lubs s ps os) h.1 k (canonical-excluding_lubs g s ps os h.0 k l)

-- a stamp at a place of a list of a domain's stamps is the domain's
pub in_domain-at : (b : Bounds) (ss : List (List ℕ)) (i : ℕ) (s : List ℕ) → i < length ss → s ≡ get_or ss i s → AllByRecursion (λ s. in_domain b s ≡ true) ss → in_domain b s ≡ true
in_domain-at b ss i s l e h = ap (in_domain b) e ∙ each-at (λ s. in_domain b s ≡ true) ss i s l h

-- stamps of one domain have one length
pub lengths : (b : Bounds) (ss ps : List (List ℕ)) → AllByRecursion (λ s. in_domain b s ≡ true) ss → AllByRecursion (λ p. in_domain b p ≡ true) ps → AllByRecursion (λ s. AllByRecursion (λ p. length s ≡ length p) ps) ss
lengths b [] ps h k = tt
lengths b (s ∷ ss) ps h k =
    (each-weaker (λ p. in_domain b p ≡ true) (λ p. length s ≡ length p) ps (λ p e. domain-length b s h.0 ∙ sym (domain-length b p e)) k, lengths b ss ps h.1 k)

leq-raised_upto : (s g : List ℕ) (i : ℕ) → leq s g ≡ true → nat_lt (get_or s i 0) (get_or g i 0) ≡ true → leq (stamp_raised_at s i) g ≡ true
leq-raised_upto [] g i h k = h
leq-raised_upto (x ∷ s) [] i h k = cc
leq-raised_upto (x ∷ s) (y ∷ g) zero h k = leq-raised (x ∷ s) (y ∷ g) zero (omega arith) (leq-length (x ∷ s) (y ∷ g) h) ∙ k
leq-raised_upto (x ∷ s) (y ∷ g) (suc i) h k = and_from _ _ (zero_leq y) (leq-raised_upto s g i (and_parts _ _ h).1 k)
  where
    zero_leq : (y : ℕ) → nat_le 0 y ≡ true
    zero_leq y = grind (arith, nat_tests)

-- a place with a greater coordinate is one of the greater stamp's
placed : (s g : List ℕ) (i : ℕ) → nat_lt (get_or s i 0) (get_or g i 0) ≡ true → i < length g
placed s g i h = elim (cases_lt i (length g)) [
  | inl l ↦ l
  | inr l ↦ absurd (never (get_or s i 0) (get_or g i 0) (get_or_past g i 0 l) h)
]
  where
    never : (x y : ℕ) → y ≡ 0 → nat_lt x y ≡ true → ⊥
    never x y e h = grind (arith, nat_tests)

-- what is outside below a stamp lies in the domain
pub canonical-below_at : (b : Bounds) (s : List ℕ) (n : ℕ) → in_domain b s ≡ true → IsCanonical b (below_at s b.greatest n)
canonical-below_at b s zero h = tt
canonical-below_at b s (suc n) h = by (nat_lt (get_or s n 0) (get_or b.greatest n 0)) refl (canonical-below_at b s n h)
  where
    counted : (c : Bool) → counts c s ≡ true → n < length s → counts c (stamp_raised_at s n) ≡ true
    counted true k l = side-raised s n k l
    counted false k l = refl

    by : (c : Bool) → nat_lt (get_or s n 0) (get_or b.greatest n 0) ≡ c → IsCanonical b (below_at s b.greatest n) → IsCanonical b (cond c (front_without (stamp_raised_at s n) (below_at s b.greatest n)) (below_at s b.greatest n))
    by true e r =
        let l = domain-leq b s h in
        canonical-excluding b (stamp_raised_at s n) (below_at s b.greatest n)
        (and_from (counts b.sides (stamp_raised_at s n)) (leq (stamp_raised_at s n) b.greatest) (counted b.sides (domain-counts b s h) (omega (arith, domain-length b s h, placed s b.greatest n e))) (leq-raised_upto s b.greatest n l e)) r
    by false e r = r

-- the test of all stamps, by each
pub all_in_domain-each : (b : Bounds) (os : List (List ℕ)) → all_in_domain b os ≡ true → AllByRecursion (λ o. in_domain b o ≡ true) os
all_in_domain-each b [] h = tt
all_in_domain-each b (o ∷ os) h = ((and_parts _ _ h).0, all_in_domain-each b os (and_parts _ _ h).1)

pub each-all_in_domain : (b : Bounds) (os : List (List ℕ)) → AllByRecursion (λ o. in_domain b o ≡ true) os → all_in_domain b os ≡ true
each-all_in_domain b [] h = refl
each-all_in_domain b (o ∷ os) h = and_from (in_domain b o) (all_in_domain b os) h.0 (each-all_in_domain b os h.1)

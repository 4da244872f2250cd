-- Thinned stamps cover the same: what lacks lies at or below a kept one inside the base.
use Rattle.std.proofs.Common.{◌≡◌, ℕ, zero, suc, ◌<◌, Bool, true, false, cond, ◌&&◌, List, [], ◌∷◌, refl, sym, ap, ◌∙◌, inl, inr, subst, arith}
use Rattle.std.specs.Prelude.{filter, length, slice_index_or}
use Rattle.std.specs.List.{AllByRecursion, Contains}
use Rattle.std.proofs.lemmas.Bool.{and_parts, and_from, or_cases, or_left, or_right, cond_both, cases_Bool}
use Rattle.fw_lemmas.proofs.Bools.{same_tests}
use Rattle.fw_lemmas.proofs.Each.{each-filter, each-one}
use Rattle.fw_time.specs.Stamp.{Stamp, leq, in_domain}
use Rattle.fw_time.specs.declared.stamp.Bounds.{Bounds}
use Rattle.fw_time.proofs.StampLaws.{leq-trans}
use Rattle.fw_frontier.specs.Frontier.{Frontier, IsFrontier, Within, some_above, cover, meet}
use Rattle.fw_model.specs.Thinned.{IsBelowKept, IsThinned, IsThinnedIf, ThinnedStampsCoverTheSame, StampsOutsideCoverTheRest}

-- ---- elements

each-index : {A : Type 0} (P : A → Type 0) (x : A) (xs : List A) (k : ℕ) → k < length xs → slice_index_or xs k x ≡ x → AllByRecursion P xs → P x
each-index P x [] k l e a = absurd (omega arith)
each-index P x (y ∷ ys) zero l e a = subst P e a.0
each-index P x (y ∷ ys) (suc k) l e a = each-index P x ys k (omega arith) e a.1

-- what holds of each holds of one that the list has
pub each-contained : {A : Type 0} (P : A → Type 0) (x : A) (xs : List A) → Contains xs x → AllByRecursion P xs → P x
each-contained P x xs c a = each-index P x xs c.0 c.1 c.2 a

-- ---- what is inside and above

-- a stamp of the list that is inside, and this one or greater
record IsUnder (f : Frontier) (ss : List Stamp) (t : Stamp) : Type 0 where
  above : Stamp
  there : Contains ss above
  inside : f above ≡ true
  below : leq t above ≡ true

under-later : (f : Frontier) (s : Stamp) (ss : List Stamp) (t : Stamp) → IsUnder f ss t → IsUnder f (s ∷ ss) t
under-later f s ss t u =
    let c = u.there in
    let l = c.1 in
    record { above = u.above; there = (suc c.0, omega arith, c.2); inside = u.inside; below = u.below }

above-under : (f : Frontier) (ss : List Stamp) (t : Stamp) → some_above (filter f ss) t ≡ true → IsUnder f ss t
above-under f [] t k = absurd (cc)
above-under f (s ∷ ss) t k = elim (cases_Bool (f s)) [
  | inl e ↦ elim (or_cases (leq t s) (some_above (filter f ss) t) (sym (ap (λ b. some_above (cond b (s ∷ filter f ss) (filter f ss)) t) e) ∙ k)) [
    | inl l ↦ record { above = s; there = (0, omega arith, refl); inside = e; below = l }
    | inr l ↦ under-later f s ss t (above-under f ss t l)
  ]
  | inr e ↦ under-later f s ss t (above-under f ss t (sym (ap (λ b. some_above (cond b (s ∷ filter f ss) (filter f ss)) t) e) ∙ k))
]

index-above : (f : Frontier) (t s : Stamp) → f s ≡ true → leq t s ≡ true → (ss : List Stamp) (k : ℕ) → k < length ss → slice_index_or ss k s ≡ s
    → some_above (filter f ss) t ≡ true
index-above f t s i l [] k m e = absurd (omega arith)
index-above f t s i l (x ∷ xs) zero m e =
    let P : Stamp → Type 0 = λ y. (f y ≡ true) × (leq t y ≡ true) in
    let here : (f x ≡ true) × (leq t x ≡ true) = subst P (sym e) (i, l) in
    ap (λ b. some_above (cond b (x ∷ filter f xs) (filter f xs)) t) here.0 ∙ or_left (leq t x) (some_above (filter f xs) t) here.1
index-above f t s i l (x ∷ xs) (suc k) m e =
    let rest = index-above f t s i l xs k (omega arith) e in
    cond_both (f x) (x ∷ filter f xs) (filter f xs) (λ ys. some_above ys t ≡ true)
    (λ c. or_right (leq t x) (some_above (filter f xs) t) rest) (λ c. rest)

under-above : (f : Frontier) (ss : List Stamp) (t : Stamp) → IsUnder f ss t → some_above (filter f ss) t ≡ true
under-above f ss t u = let c = u.there in index-above f t u.above u.inside u.below ss c.0 c.1 c.2

-- ---- the laws

from-kept : (base : Frontier) (all kept : List Stamp) → IsThinned base all kept → (f : Frontier) (t : Stamp) → IsUnder f kept t → IsUnder f all t
from-kept base all kept h f t u =
    record { above = u.above; there = each-contained (Contains all) u.above kept u.there h.among; inside = u.inside; below = u.below }

from-all : (base : Frontier) (all kept : List Stamp) → IsThinned base all kept → (f : Frontier) → Within base f → (t : Stamp) → IsUnder f all t → IsUnder f kept t
from-all base all kept h f w t u = elim (cases_Bool (base u.above)) [
  | inl i ↦
      let k = each-contained (λ s. base s ≡ true → IsBelowKept base kept s) u.above all u.there h.inside i in
      record { above = k.above; there = k.is_kept; inside = w k.above k.inside; below = leq-trans t u.above k.above u.below k.below }
  | inr o ↦ record {
    above = u.above;
    there = each-contained (λ s. base s ≡ false → Contains kept s) u.above all u.there h.outside o;
    inside = u.inside;
    below = u.below;
  }
]

pub thinned-covers : ThinnedStampsCoverTheSame
thinned-covers bounds base all kept h f w = λ i t. at t i
  where
    at : (t : Stamp) → cover bounds (filter f kept) t ≡ cover bounds (filter f all) t
    at t = ap (λ b. in_domain bounds t && b) (same_tests (some_above (filter f kept) t) (some_above (filter f all) t)
        (λ k. under-above f all t (from-kept base all kept h f t (above-under f kept t k)))
        (λ k. under-above f kept t (from-all base all kept h f w t (above-under f all t k))))

-- stamps that are thinned in the whole are so where the whole is asked, and where it is not
pub thinned-if : (whole : Bool) (base : Frontier) (all kept : List Stamp) → IsThinned base all kept → IsThinnedIf whole base all kept
thinned-if whole base all kept h = record { among = h.among; outside = h.outside; inside = λ e. h.inside }

-- and those are, of which the whole is asked
pub thinned-whole : (base : Frontier) (all kept : List Stamp) → IsThinnedIf true base all kept → IsThinned base all kept
thinned-whole base all kept h = record { among = h.among; outside = h.outside; inside = h.inside refl }

-- where perhaps the whole is asked, not the whole is
pub thinned-less : (whole : Bool) (base : Frontier) (all kept : List Stamp) → IsThinnedIf whole base all kept → IsThinnedIf false base all kept
thinned-less whole base all kept h = record { among = h.among; outside = h.outside; inside = λ e. absurd (cc) }

covers : (bounds : Bounds) (f : Frontier) (ss : List Stamp) (t : Stamp) → in_domain bounds t ≡ true → IsUnder f ss t → cover bounds (filter f ss) t ≡ true
covers bounds f ss t d u = and_from (in_domain bounds t) (some_above (filter f ss) t) d (under-above f ss t u)

pub outside-covers : StampsOutsideCoverTheRest
outside-covers bounds base all kept a f = record {
  within = λ t i.
      let p = and_parts (in_domain bounds t) (some_above (filter f kept) t) i in
      let u = above-under f kept t p.1 in
      covers bounds f all t p.0 (record {
        above = u.above;
        there = each-contained (Contains all) u.above kept u.there a.among;
        inside = u.inside;
        below = u.below;
      });
  rest = λ t i.
      let p = and_parts (in_domain bounds t) (some_above (filter f all) t) i in
      let u = above-under f all t p.1 in
      let mine = cover bounds (filter f kept) t in
      let floor = cover bounds (filter (meet f base) all) t in
      elim (cases_Bool (base u.above)) [
        | inl e ↦ or_right mine floor (covers bounds (meet f base) all t p.0
            (record { above = u.above; there = u.there; inside = and_from (f u.above) (base u.above) u.inside e; below = u.below }))
        | inr e ↦ or_left mine floor (covers bounds f kept t p.0 (record {
          above = u.above;
          there = each-contained (λ x. base x ≡ false → Contains kept x) u.above all u.there a.outside e;
          inside = u.inside;
          below = u.below;
        }))
      ];
}

-- ---- covers

-- what more passes covers more
pub cover-weaker : (bounds : Bounds) (f g : Frontier) (ss : List Stamp) → Within f g → Within (cover bounds (filter f ss)) (cover bounds (filter g ss))
cover-weaker bounds f g ss w t i =
    let p = and_parts (in_domain bounds t) (some_above (filter f ss) t) i in
    let u = above-under f ss t p.1 in
    covers bounds g ss t p.0 (record { above = u.above; there = u.there; inside = w u.above u.inside; below = u.below })

above-each : (bounds : Bounds) (g : Frontier) → IsFrontier bounds g → (t : Stamp) → in_domain bounds t ≡ true → (ss : List Stamp) → AllByRecursion (λ s. g s ≡ true) ss
    → some_above ss t ≡ true → g t ≡ true
above-each bounds g closed t d [] a k = absurd (cc)
above-each bounds g closed t d (s ∷ ss) a k = elim (or_cases (leq t s) (some_above ss t) k) [
  | inl l ↦ closed.closed t s d l a.0
  | inr r ↦ above-each bounds g closed t d ss a.1 r
]

-- stamps inside a frontier cover no more than it has
pub cover-each : (bounds : Bounds) (g : Frontier) → IsFrontier bounds g → (ss : List Stamp) → AllByRecursion (λ s. g s ≡ true) ss → Within (cover bounds ss) g
cover-each bounds g closed ss a t i = let p = and_parts (in_domain bounds t) (some_above ss t) i in above-each bounds g closed t p.0 ss a p.1

pub cover-inside : (bounds : Bounds) (g : Frontier) → IsFrontier bounds g → (ss : List Stamp) → Within (cover bounds (filter g ss)) g
cover-inside bounds g closed ss =
    cover-each bounds g closed (filter g ss) (each-filter (λ s. g s ≡ true) g ss (each-one (λ s. g s ≡ true → g s ≡ true) ss (λ s k. k)))

-- The greatest stamps that cover what some stamps do are among these, and stand for them.
use Rattle.std.proofs.Common.{◌≡◌, ℕ, zero, suc, ◌<◌, true, false, not, List, [], ◌∷◌, length, slice_index_or, refl, sym, subst, ap, ◌∙◌, inl, inr, arith}
use Rattle.std.specs.List.{AllByRecursion, Contains}
use Rattle.std.proofs.lemmas.Bool.{and_parts, and_from, or_cases, or_left, or_right, true_from_ne_false}
use Rattle.fw_lemmas.proofs.Bools.{two_ways}
use Rattle.fw_time.specs.Stamp.{Stamp, leq, lesser, in_domain}
use Rattle.fw_time.specs.declared.stamp.Bounds.{Bounds}
use Rattle.fw_time.proofs.StampLaws.{leq-refl, leq-trans, leq-antisym}
use Rattle.fw_frontier.specs.Frontier.{Frontier, some_above, cover}
use Rattle.fw_model.proofs.ThinnedLaws.{each-contained}
use Rattle.fw_model.specs.Thinned.{IsBelowKept}
use Rattle.fw_regain.specs.Greatest.{AreGreatestIn, GreatestStampsStandForAll}

-- a stamp of the list that is this one or greater
pub record HasAbove (ss : List Stamp) (t : Stamp) : Type 0 where
  pub above : Stamp
  pub there : Contains ss above
  pub below : leq t above ≡ true

has-above : (ss : List Stamp) (t : Stamp) → some_above ss t ≡ true → HasAbove ss t
has-above [] t k = absurd (cc)
has-above (s ∷ ss) t k = elim (or_cases (leq t s) (some_above ss t) k) [
  | inl l ↦ record { above = s; there = (0, omega arith, refl); below = l }
  | inr l ↦
      let u = has-above ss t l in
      let c = u.there in
      let m = c.1 in
      record { above = u.above; there = (suc c.0, omega arith, c.2); below = u.below }
]

above-contained : (t s : Stamp) → leq t s ≡ true → (ss : List Stamp) (k : ℕ) → k < length ss → slice_index_or ss k s ≡ s → some_above ss t ≡ true
above-contained t s l [] k m e = absurd (omega arith)
above-contained t s l (x ∷ xs) zero m e = or_left (leq t x) (some_above xs t) (subst (λ y. leq t y ≡ true) (sym e) l)
above-contained t s l (x ∷ xs) (suc k) m e = or_right (leq t x) (some_above xs t) (above-contained t s l xs k (omega arith) e)

-- what covers as much has one at least as great
covered-above : (bounds : Bounds) (some others : List Stamp) → ((t : Stamp) → cover bounds some t ≡ cover bounds others t)
    → AllByRecursion (λ s. in_domain bounds s ≡ true) some → (s : Stamp) → Contains some s → HasAbove others s
covered-above bounds some others same of s c =
    let d = each-contained (λ x. in_domain bounds x ≡ true) s some c of in
    let mine : cover bounds some s ≡ true = and_from (in_domain bounds s) (some_above some s) d (above-contained s s (leq-refl s) some c.0 c.1 c.2) in
    has-above others s (and_parts (in_domain bounds s) (some_above others s) (sym (same s) ∙ mine)).1

-- of any stamps there is a greatest one above each
pub greatest-above : (bounds : Bounds) (f : Frontier) (all tops : List Stamp) → AllByRecursion (λ s. in_domain bounds s ≡ true) all
    → ((t : Stamp) → f t ≡ cover bounds all t) → AreGreatestIn bounds f tops → (s : Stamp) → Contains all s → HasAbove tops s
greatest-above bounds f all tops of same g s c = covered-above bounds all tops (λ t. sym (g.covering t ∙ same t)) of s c

-- each of the greatest is one of those that are covered
pub greatest-there : (bounds : Bounds) (f : Frontier) (all tops : List Stamp) → AllByRecursion (λ s. in_domain bounds s ≡ true) all
    → ((t : Stamp) → f t ≡ cover bounds all t) → AreGreatestIn bounds f tops → (s : Stamp) → Contains tops s → Contains all s
greatest-there bounds f all tops of same g s c =
    let a = covered-above bounds tops all (λ t. g.covering t ∙ same t) g.of_domain s c in
    let b = greatest-above bounds f all tops of same g a.above a.there in
    let up = leq-trans s a.above b.above a.below b.below in
    let mine = each-contained (λ x. AllByRecursion (λ other. lesser x other ≡ false) tops) s tops c g.greatest in
    let none = each-contained (λ other. lesser s other ≡ false) b.above tops b.there mine in
    let down : leq b.above s ≡ true = true_from_ne_false (leq b.above s)
    (λ e. two_ways (lesser s b.above) (and_from (leq s b.above) (not (leq b.above s)) up (ap not e)) none) in
    let e : a.above ≡ s = leq-antisym a.above s (leq-trans a.above b.above s b.below down) a.below in
    subst (λ x. Contains all x) e a.there

pub each-from : {A : Type 0} (P : A → Type 0) (xs : List A) → ((x : A) → Contains xs x → P x) → AllByRecursion P xs
each-from P [] f = tt
each-from P (x ∷ xs) f = (f x (0, omega arith, refl), each-from P xs (λ y c. let l = c.1 in f y (suc c.0, omega arith, c.2)))

pub greatest-stand : GreatestStampsStandForAll
greatest-stand bounds base f all tops of has same g = record {
  among = each-from (λ s. Contains all s) tops (greatest-there bounds f all tops of same g);
  outside = each-from (λ t. base t ≡ false → Contains tops t) all (λ t c e. absurd (two_ways (base t) (each-contained (λ x. base x ≡ true) t all c has) e));
  inside = each-from (λ t. base t ≡ true → IsBelowKept base tops t) all (λ t c e.
      let a = greatest-above bounds f all tops of same g t c in
      record {
        above = a.above;
        is_kept = a.there;
        inside = each-contained (λ x. base x ≡ true) a.above all (greatest-there bounds f all tops of same g a.above a.there) has;
        below = a.below;
      });
}

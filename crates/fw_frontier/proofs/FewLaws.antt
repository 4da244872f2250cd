-- One outside stamp: what one stamp more makes of it, and what two make together.
use Rattle.std.proofs.Common.{◌≡◌, ℕ, Bool, true, false, not, ◌&&◌, ◌||◌, cond, nat_lt, slice_index, length, get_or, List, [], ◌∷◌, refl, sym, ap, ◌∙◌, arith}
use Rattle.fw_time.specs.Stamp.{leq, lub, in_domain, up_to, stamp_raised_at}
use Rattle.fw_time.proofs.StampLaws.{leq-length, lub-least, leq-lub}
use Rattle.fw_frontier.specs.Frontier.{join}
use Rattle.fw_frontier.specs.Front.{frontier_of, IsFrontOf}
use Rattle.fw_frontier.specs.Outside.{front_without, front_without_all, with_stamp, below_at}
use Rattle.fw_frontier.proofs.GenericLaws.{no}

-- the stamp stays alone where it is at most the other
pub one_stays : (s t : List ℕ) → leq s t ≡ true → s ∷ [] ≡ front_without t (s ∷ [])
unfolding front_without
one_stays s t h = by (leq s t) h
  where
    by : (c : Bool) → c ≡ true → s ∷ [] ≡ cond (not c && true) (with_stamp t (cond (not (leq t s)) (s ∷ []) [])) (s ∷ [])
    by true e = refl
    by false e = no e

-- the other takes its place where the other is at most it
pub one_goes : (s t : List ℕ) → leq s t ≡ false → leq t s ≡ true → t ∷ [] ≡ front_without t (s ∷ [])
unfolding front_without
one_goes s t h k = by (leq s t) h (leq t s) k
  where
    by : (c : Bool) → c ≡ false → (d : Bool) → d ≡ true → t ∷ [] ≡ cond (not c && true) (with_stamp t (cond (not d) (s ∷ []) [])) (s ∷ [])
    by true e d f = no (sym e)
    by false e true f = refl
    by false e false f = no f

-- what is inside one of two frontiers of one outside stamp each
pub one_join : (g : List ℕ) (s t : List ℕ) → in_domain (up_to g) s ≡ true → in_domain (up_to g) t ≡ true
    → IsFrontOf (up_to g) (lub s t ∷ []) (join (frontier_of (up_to g) (s ∷ [])) (frontier_of (up_to g) (t ∷ [])))
one_join g s t h k = record {
  canonical = (record { in_the_domain = lub-least s t g h k; ascending = tt; incomparable = tt }, tt);
  same = λ u. ap (λ c. in_domain (up_to g) u && (not c && true)) (leq-lub s t u (leq-length s g h ∙ sym (leq-length t g k))) ∙ by (in_domain (up_to g) u) (leq s u) (leq t u);
}
  where
    by : (a c d : Bool) → (a && (not (c && d) && true)) ≡ ((a && (not c && true)) || (a && (not d && true)))
    by true true true = refl
    by true true false = refl
    by true false d = refl
    by false c d = refl

-- below the greatest of one coordinate the next one is outside
pub below_one : (s g : List ℕ) → length s ≡ 1 → nat_lt (slice_index s 0) (slice_index g 0) ≡ true → stamp_raised_at s 0 ∷ [] ≡ below_at s g (length s)
unfolding front_without
below_one s g e h = sym (ap (below_at s g) e ∙ by (nat_lt (slice_index s 0) (slice_index g 0)) h)
  where
    by : (c : Bool) → c ≡ true → cond c (front_without (stamp_raised_at s 0) []) [] ≡ stamp_raised_at s 0 ∷ []
    by true f = refl
    by false f = no f

-- at the greatest there is none
pub below_greatest : (s g : List ℕ) → length s ≡ 1 → nat_lt (slice_index s 0) (slice_index g 0) ≡ false → [] ≡ below_at s g (length s)
below_greatest s g e h = sym (ap (below_at s g) e ∙ by (nat_lt (slice_index s 0) (slice_index g 0)) h)
  where
    by : (c : Bool) → c ≡ false → cond c (front_without (stamp_raised_at s 0) []) [] ≡ []
    by true f = no (sym f)
    by false f = refl

-- one stamp is alone outside
pub until_one : (ss : List (List ℕ)) (s : List ℕ) → length ss ≡ 1 → s ≡ get_or ss 0 s → s ∷ [] ≡ front_without_all ss []
unfolding front_without
until_one [] s e i = absurd (omega arith)
until_one (x ∷ []) s e i = ap (λ y. y ∷ []) i
until_one (x ∷ y ∷ ss) s e i = absurd (omega arith)

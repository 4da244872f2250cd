-- Lists of stamps that ascend and of which no two are comparable, whatever their lengths, and that the calls keep them so.
use Rattle.std.proofs.Common.{◌≡◌, ℕ, ◌<◌, Bool, true, false, not, ◌||◌, cond, List, [], ◌∷◌, length, get_or, refl, sym, ◌∙◌, subst, filter, zero, suc, arith}
use Rattle.std.proofs.lemmas.Bool.{and_parts}
use Rattle.std.specs.List.{AllByRecursion}
use Rattle.std.specs.Ordering.{is_lt}
use Rattle.fw_lemmas.proofs.Each.{each-weaker, each-at, each-kept}
use Rattle.fw_time.specs.Stamp.{leq, stamp_cmp}
use Rattle.fw_time.proofs.StampLaws.{leq-refl, before-trans, before-total}
use Rattle.fw_frontier.specs.Front.{inside}
use Rattle.fw_frontier.specs.Outside.{with_stamp, front_without, front_without_all}
use Rattle.fw_frontier.proofs.GenericLaws.{no}

-- the stamp comes before each of these in order and is not comparable with one
pub record Leads (o : List ℕ) (os : List (List ℕ)) : Type 0 where
  pub ascending : AllByRecursion (λ q. is_lt (stamp_cmp o q) ≡ true) os
  pub incomparable : AllByRecursion (λ q. (leq o q || leq q o) ≡ false) os

-- the stamps ascend, and no two of them are comparable
abbrev pub IsAntichain : List (List ℕ) → Type 0
IsAntichain [] = Unit {0}
IsAntichain (o ∷ os) = Leads o os × IsAntichain os

-- what holds of each stamp holds of each after a stamp is put among them
all-placed : (P : List ℕ → Type 0) (s : List ℕ) (os : List (List ℕ)) → P s → AllByRecursion P os → AllByRecursion P (with_stamp s os)
all-placed P s [] h k = (h, tt)
all-placed P s (o ∷ os) h k = by (is_lt (stamp_cmp s o)) (all-placed P s os h k.1)
  where
    by : (b : Bool) → AllByRecursion P (with_stamp s os) → AllByRecursion P (cond b (s ∷ o ∷ os) (o ∷ with_stamp s os))
    by true r = (h, (k.0, k.1))
    by false r = (k.0, r)

-- and of those that stay when a stamp more is outside
pub all-excluding : (P : List ℕ → Type 0) (s : List ℕ) (os : List (List ℕ)) → P s → AllByRecursion P os → AllByRecursion P (front_without s os)
unfolding front_without
all-excluding P s os h k = by (inside os s)
  where
    by : (b : Bool) → AllByRecursion P (cond b (with_stamp s (filter (λ o. not (leq s o)) os)) os)
    by true = all-placed P s (filter (λ o. not (leq s o)) os) h (each-kept P (λ o. not (leq s o)) os k)
    by false = k

pub all-excluding_all : (P : List ℕ → Type 0) (ss os : List (List ℕ)) → AllByRecursion P ss → AllByRecursion P os → AllByRecursion P (front_without_all ss os)
all-excluding_all P [] os h k = k
all-excluding_all P (s ∷ ss) os h k = all-excluding_all P ss (front_without s os) h.1 (all-excluding P s os h.0 k)

pub antichain-filter : (p : List ℕ → Bool) (os : List (List ℕ)) → IsAntichain os → IsAntichain (filter p os)
antichain-filter p [] h = tt
antichain-filter p (o ∷ os) h = by (p o) (antichain-filter p os h.1)
  where
    by : (c : Bool) → IsAntichain (filter p os) → IsAntichain (cond c (o ∷ filter p os) (filter p os))
    by true r = (
      record {
        ascending = each-kept (λ q. is_lt (stamp_cmp o q) ≡ true) p os h.0.ascending;
        incomparable = each-kept (λ q. (leq o q || leq q o) ≡ false) p os h.0.incomparable;
      },
      r,
    )
    by false r = r

or-swap : (a b : Bool) → (a || b) ≡ false → (b || a) ≡ false
or-swap true b h = cc
or-swap false true h = cc
or-swap false false h = refl

antichain-placed : (s : List ℕ) (os : List (List ℕ)) → AllByRecursion (λ q. (leq s q || leq q s) ≡ false) os → IsAntichain os → IsAntichain (with_stamp s os)
antichain-placed s [] k l = (record { ascending = tt; incomparable = tt }, tt)
antichain-placed s (o ∷ os) k l = by (is_lt (stamp_cmp s o)) refl (antichain-placed s os k.1 l.1)
  where
    distinct : o ≡ s → ⊥
    distinct e = let P : List ℕ → Type 0 = λ u. (leq s u || leq u s) ≡ false in
        let f = subst P e k.0 in
        no (sym f ∙ same (leq s s) (leq-refl s))
      where
        same : (c : Bool) → c ≡ true → (c || c) ≡ true
        same c e = cc

    other : (c : Bool) → is_lt (stamp_cmp o s) ≡ c → is_lt (stamp_cmp s o) ≡ false → is_lt (stamp_cmp o s) ≡ true
    other true e f = e
    other false e f = absurd (distinct (before-total o s e f))

    by : (c : Bool) → is_lt (stamp_cmp s o) ≡ c → IsAntichain (with_stamp s os) → IsAntichain (cond c (s ∷ o ∷ os) (o ∷ with_stamp s os))
    by true e r = (
      record {
        ascending = (e, each-weaker (λ q. is_lt (stamp_cmp o q) ≡ true) (λ q. is_lt (stamp_cmp s q) ≡ true) os (λ q m. before-trans s o q e m) l.0.ascending);
        incomparable = k;
      },
      l,
    )
    by false e r = (
      record {
        ascending = all-placed (λ q. is_lt (stamp_cmp o q) ≡ true) s os (other (is_lt (stamp_cmp o s)) refl e) l.0.ascending;
        incomparable = all-placed (λ q. (leq o q || leq q o) ≡ false) s os (or-swap (leq s o) (leq o s) k.0) l.0.incomparable;
      },
      r,
    )

-- what is left after the greater ones are gone is not comparable with a stamp that was inside
apart-filter : (s : List ℕ) (os : List (List ℕ)) → inside os s ≡ true → AllByRecursion (λ q. (leq s q || leq q s) ≡ false) (filter (λ o. not (leq s o)) os)
apart-filter s [] h = tt
apart-filter s (o ∷ os) h = by (leq s o) refl (apart-filter s os (and_parts _ _ h).1)
  where
    none : (c d : Bool) → c ≡ false → not d ≡ true → (c || d) ≡ false
    none true d e f = cc
    none false true e f = cc
    none false false e f = refl

    by : (c : Bool) → leq s o ≡ c → AllByRecursion (λ q. (leq s q || leq q s) ≡ false) (filter (λ o. not (leq s o)) os) → AllByRecursion (λ q. (leq s q || leq q s) ≡ false) (cond (not c) (o ∷ filter (λ o. not (leq s o)) os) (filter (λ o. not (leq s o)) os))
    by true e r = r
    by false e r = (none (leq s o) (leq o s) e (and_parts _ _ h).0, r)

-- a stamp more is outside
pub antichain-excluding : (s : List ℕ) (os : List (List ℕ)) → IsAntichain os → IsAntichain (front_without s os)
unfolding front_without
antichain-excluding s os k = by (inside os s) refl
  where
    by : (c : Bool) → inside os s ≡ c → IsAntichain (cond c (with_stamp s (filter (λ o. not (leq s o)) os)) os)
    by true e = antichain-placed s (filter (λ o. not (leq s o)) os) (apart-filter s os e) (antichain-filter (λ o. not (leq s o)) os k)
    by false e = k

-- these stamps more are outside
pub antichain-excluding_all : (ss os : List (List ℕ)) → IsAntichain os → IsAntichain (front_without_all ss os)
antichain-excluding_all [] os k = k
antichain-excluding_all (s ∷ ss) os k = antichain-excluding_all ss (front_without s os) (antichain-excluding s os k)

-- where one stamp is at most another, the two are one
pub antichain-at : (os : List (List ℕ)) (i j : ℕ) → IsAntichain os → i < length os → j < length os → leq (get_or os i []) (get_or os j []) ≡ true → get_or os i [] ≡ get_or os j []
antichain-at [] i j h l m e = absurd (omega arith)
antichain-at (o ∷ os) zero zero h l m e = refl
antichain-at (o ∷ os) zero (suc j) h l m e = by (leq o (get_or os j [])) (leq (get_or os j []) o) e (each-at (λ q. (leq o q || leq q o) ≡ false) os j [] (omega arith) h.0.incomparable)
  where
    by : {A : Type 0} (c d : Bool) → c ≡ true → (c || d) ≡ false → A
    by true d e f = no (sym f)
    by false d e f = no e
antichain-at (o ∷ os) (suc i) zero h l m e = by (leq o (get_or os i [])) (leq (get_or os i []) o) e (each-at (λ q. (leq o q || leq q o) ≡ false) os i [] (omega arith) h.0.incomparable)
  where
    by : {A : Type 0} (c d : Bool) → d ≡ true → (c || d) ≡ false → A
    by true d e f = no (sym f)
    by false d e f = no (sym f ∙ e)
antichain-at (o ∷ os) (suc i) (suc j) h l m e = antichain-at os i j h.1 (omega arith) (omega arith) e

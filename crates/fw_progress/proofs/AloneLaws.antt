-- Tallies of one stamp: what more and less of a stamp leave.
use Rattle.std.proofs.Common.{◌≡◌, ℕ, ◌+◌, ◌-◌, ◌<◌, ◌≤◌, Bool, true, false, cond, List, [], ◌∷◌, length, Some, None, unwrap_or, refl, sym, ap, subst, ◌∙◌, arith}
use Rattle.std.specs.List.Sorted.{IsStrictlySortedBy}
use Rattle.std.specs.Map.{keys_of, lookup}
use Rattle.std.specs.BTreeMap.{is_at}
use Rattle.std.specs.Ordering.{is_eq}
use Rattle.fw_time.specs.Stamp.{Stamp, same, stamp_cmp}
use Rattle.fw_model.proofs.CmpLaws.{stamp_cmp-equal}
use Rattle.fw_progress.specs.Tally.{times_in, HasManyMore, HasOneLess, HasNoMore}
use Rattle.fw_progress.proofs.TallyLaws.{is_eq-same, same-flip, times-found, times-same, times-absent, none_less}

-- so many of one stamp, and of the others none
alone-times : (s t : Stamp) (n : ℕ) → times_in t ((s, n) ∷ []) ≡ cond (same s t) n 0
unfolding times_in
alone-times s t n = ap (λ b. unwrap_or (cond b (Some n) None) 0) (is_eq-same t s ∙ same-flip t s) ∙ by (same s t)
  where
    by : (b : Bool) → unwrap_or (cond b (Some n) None) 0 ≡ cond b n 0
    by true = refl
    by false = refl

pub none-times : (t : Stamp) → times_in t [] ≡ 0
unfolding times_in
none-times t = refl

-- another stamp is not there
absent : (at s : Stamp) (n : ℕ) → is_eq (stamp_cmp at s) ≡ false → lookup (is_at (stamp_cmp at)) ((s, n) ∷ []) ≡ None
absent at s n e = ap (λ b. cond b (Some n) None) e

pub alone-found : (at s : Stamp) (n : ℕ) → is_eq (stamp_cmp at s) ≡ true → n ≡ times_in at ((s, n) ∷ [])
alone-found at s n e = sym (times-found ((s, n) ∷ []) at n (ap (λ b. cond b (Some n) None) e))

pub alone-absent : (at s : Stamp) (n : ℕ) → is_eq (stamp_cmp at s) ≡ false → 0 ≡ times_in at ((s, n) ∷ [])
alone-absent at s n e = sym (times-absent ((s, n) ∷ []) at (absent at s n e))

pub alone-sorted : (s : Stamp) (n : ℕ) → IsStrictlySortedBy stamp_cmp (keys_of ((s, n) ∷ []))
unfolding IsStrictlySortedBy
alone-sorted s n = (tt, tt)

pub no-entries : (es : List (Stamp × ℕ)) → length es ≡ 0 → es ≡ []
no-entries [] e = refl
no-entries (x ∷ es) e = absurd (omega (arith, e))

-- the first ones of a stamp
pub alone-first : (at : Stamp) (count : ℕ) → 0 < count → HasManyMore at count [] ((at, count) ∷ [])
alone-first at count some = record {
  times = λ t. alone-times at t count ∙ times (same at t) ∙ ap (λ n. cond (same at t) (n + count) n) (sym (none-times t));
  counts = λ f. counts (f at);
  domain = λ b a d. record { of_domain = (d, tt); positive = (some, tt) };
}
  where
    times : (b : Bool) → cond b count 0 ≡ cond b (0 + count) 0
    times true = omega arith
    times false = refl

    counts : (b : Bool) → cond b (count + 0) 0 ≡ 0 + cond b count 0
    counts true = omega arith
    counts false = refl

-- more of the one stamp
pub alone-more : (at s : Stamp) (n count m : ℕ) → is_eq (stamp_cmp at s) ≡ true → 0 < count → m ≡ n + count → HasManyMore at count ((s, n) ∷ []) ((s, m) ∷ [])
alone-more at s n count m e some k = subst (λ u. HasManyMore u count ((s, n) ∷ []) ((s, m) ∷ [])) (sym (stamp_cmp-equal at s e)) (record {
  times = λ t. alone-times s t m ∙ times (same s t) ∙ ap (λ c. cond (same s t) (c + count) c) (sym (alone-times s t n));
  counts = λ f. counts (f s);
  domain = λ b a d. record { of_domain = a.of_domain; positive = (omega (arith, some, k), tt) };
})
  where
    times : (b : Bool) → cond b m 0 ≡ cond b (cond b n 0 + count) (cond b n 0)
    times true = k
    times false = refl

    counts : (b : Bool) → cond b (m + 0) 0 ≡ cond b (n + 0) 0 + cond b count 0
    counts true = omega (arith, k)
    counts false = refl

-- one less of the one stamp
pub alone-less : (at s : Stamp) (n m : ℕ) → is_eq (stamp_cmp at s) ≡ true → 1 < n → m ≡ n - 1 → HasOneLess at ((s, n) ∷ []) ((s, m) ∷ [])
alone-less at s n m e some k = subst (λ u. HasOneLess u ((s, n) ∷ []) ((s, m) ∷ [])) (sym (stamp_cmp-equal at s e)) (record {
  times = λ t. alone-times s t m ∙ times (same s t) ∙ ap (λ c. cond (same s t) (c - 1) c) (sym (alone-times s t n));
  domain = λ b a. record { of_domain = a.of_domain; positive = (omega (arith, some, k), tt) };
})
  where
    times : (b : Bool) → cond b m 0 ≡ cond b (cond b n 0 - 1) (cond b n 0)
    times true = k
    times false = refl

-- the last one of the one stamp
pub alone-last : (at s : Stamp) (n : ℕ) → is_eq (stamp_cmp at s) ≡ true → n ≤ 1 → HasOneLess at ((s, n) ∷ []) []
alone-last at s n e few = subst (λ u. HasOneLess u ((s, n) ∷ []) []) (sym (stamp_cmp-equal at s e)) (record {
  times = λ t. none-times t ∙ times (same s t) ∙ ap (λ c. cond (same s t) (c - 1) c) (sym (alone-times s t n));
  domain = λ b a. record { of_domain = tt; positive = tt };
})
  where
    times : (b : Bool) → 0 ≡ cond b (cond b n 0 - 1) (cond b n 0)
    times true = omega (arith, few)
    times false = refl

pub alone-other : (at s : Stamp) (n : ℕ) → is_eq (stamp_cmp at s) ≡ false → HasOneLess at ((s, n) ∷ []) ((s, n) ∷ [])
alone-other at s n e = none_less ((s, n) ∷ []) at (absent at s n e)

-- none of the one stamp
pub alone-gone : (at s : Stamp) (n : ℕ) → is_eq (stamp_cmp at s) ≡ true → HasNoMore at ((s, n) ∷ []) []
alone-gone at s n e = subst (λ u. HasNoMore u ((s, n) ∷ []) []) (sym (stamp_cmp-equal at s e)) (record {
  times = λ t. none-times t ∙ times (same s t) ∙ ap (λ c. cond (same s t) 0 c) (sym (alone-times s t n));
  domain = λ b a. record { of_domain = tt; positive = tt };
})
  where
    times : (b : Bool) → 0 ≡ cond b 0 (cond b n 0)
    times true = refl
    times false = refl

pub alone-stays : (at s : Stamp) (n : ℕ) → is_eq (stamp_cmp at s) ≡ false → HasNoMore at ((s, n) ∷ []) ((s, n) ∷ [])
alone-stays at s n e = record {
  times = λ t. times (same at t) (times_in t ((s, n) ∷ [])) (λ k. sym (times-same ((s, n) ∷ []) at t k) ∙ times-absent ((s, n) ∷ []) at (absent at s n e));
  domain = λ b a. a;
}
  where
    times : (b : Bool) (m : ℕ) → (b ≡ true → m ≡ 0) → m ≡ cond b 0 m
    times true m f = f refl
    times false m f = refl

-- The first entries, which are acknowledged, and the others, which are in flight.
use Rattle.std.proofs.Common.{◌≡◌, ℕ, zero, suc, ◌+◌, ◌<◌, ◌≤◌, Bool, true, false, not, cond, ◌&&◌, ◌==◌, nat_le, max, List, [], ◌∷◌, ◌++◌, length, get_or, set, take, drop, Some, None, ◌⊎◌, inl, inr, refl, sym, ap, subst, ◌∙◌, arith, length-set, length-append}
use Rattle.std.proofs.lemmas.Bool.{true≢false, cases_lt}
use Rattle.std.proofs.lemmas.Bool.Decides.{nat_tests}
use Rattle.std.specs.List.{AllByRecursion, filter}
use Rattle.std.specs.List.Sorted.{IsPartitionPoint}
use Rattle.std.proofs.Math.Bool.{and-false}
use Rattle.fw_lemmas.proofs.Each.{each-weaker, each-at, each-append, each-kept}
use Rattle.fw_keep.specs.declared.entry.Entry.{Entry}
use Rattle.fw_keep.specs.Entry.{is_in_flight_of, is_withdrawn}
use Rattle.fw_keep.specs.Catalogue.{AreAcknowledged, AreInFlight, IsAcknowledgedUpTo, oldest, persisted}

-- ---- the oldest one in flight

oldest-at : (n : ℕ) (es : List Entry) (d : Entry) → n < length es → AreAcknowledged (take n es) → AreInFlight (drop n es) → oldest es ≡ Some (get_or es n d).id
oldest-at n [] d l first others = absurd (omega arith)
oldest-at zero (e ∷ es) d l first others = ap (λ b. cond b (oldest es) (Some e.id)) others.0
oldest-at (suc n) (e ∷ es) d l first others = ap (λ b. cond b (oldest es) (Some e.id)) first.0 ∙ oldest-at n es d (omega arith) first.1 others

oldest-none : (n : ℕ) (es : List Entry) → length es ≤ n → AreAcknowledged (take n es) → oldest es ≡ None
oldest-none n [] l first = refl
oldest-none zero (e ∷ es) l first = absurd (omega arith)
oldest-none (suc n) (e ∷ es) l first = ap (λ b. cond b (oldest es) (Some e.id)) first.0 ∙ oldest-none n es (omega arith) first.1

persisted-at : (n : ℕ) (es : List Entry) (d : Entry) → n < length es → AreAcknowledged (take n es) → AreInFlight (drop n es)
    → persisted es ≡ set es n (record (get_or es n d) { acknowledged = true })
persisted-at n [] d l first others = absurd (omega arith)
persisted-at zero (e ∷ es) d l first others = ap (λ b. cond b (e ∷ persisted es) (record e { acknowledged = true } ∷ es)) others.0
persisted-at (suc n) (e ∷ es) d l first others =
    ap (λ b. cond b (e ∷ persisted es) (record e { acknowledged = true } ∷ es)) first.0 ∙ ap (λ rest. e ∷ rest) (persisted-at n es d (omega arith) first.1 others)

persisted-none : (n : ℕ) (es : List Entry) → length es ≤ n → AreAcknowledged (take n es) → persisted es ≡ es
persisted-none n [] l first = refl
persisted-none zero (e ∷ es) l first = absurd (omega arith)
persisted-none (suc n) (e ∷ es) l first =
    ap (λ b. cond b (e ∷ persisted es) (record e { acknowledged = true } ∷ es)) first.0 ∙ ap (λ rest. e ∷ rest) (persisted-none n es (omega arith) first.1)

-- the first one in flight is the oldest
pub oldest_at : (n : ℕ) (es : List Entry) (d : Entry) → n < length es → IsAcknowledgedUpTo n es → oldest es ≡ Some (get_or es n d).id
oldest_at n es d l h = oldest-at n es d l h.first h.others

pub oldest_none : (n : ℕ) (es : List Entry) → length es ≤ n → IsAcknowledgedUpTo n es → oldest es ≡ None
oldest_none n es l h = oldest-none n es l h.first

pub persisted_at : (n : ℕ) (es : List Entry) (d : Entry) → n < length es → IsAcknowledgedUpTo n es → persisted es ≡ set es n (record (get_or es n d) { acknowledged = true })
persisted_at n es d l h = persisted-at n es d l h.first h.others

pub persisted_none : (n : ℕ) (es : List Entry) → length es ≤ n → IsAcknowledgedUpTo n es → persisted es ≡ es
persisted_none n es l h = persisted-none n es l h.first

set-first : (n : ℕ) (es : List Entry) (x : Entry) → n < length es → x.acknowledged ≡ true → AreAcknowledged (take n es) → AreAcknowledged (take (suc n) (set es n x))
set-first n [] x l is first = absurd (omega arith)
set-first zero (e ∷ es) x l is first = (is, tt)
set-first (suc n) (e ∷ es) x l is first = (first.0, set-first n es x (omega arith) is first.1)

set-others : (n : ℕ) (es : List Entry) (x : Entry) → n < length es → AreInFlight (drop n es) → AreInFlight (drop (suc n) (set es n x))
set-others n [] x l others = absurd (omega arith)
set-others zero (e ∷ es) x l others = others.1
set-others (suc n) (e ∷ es) x l others = set-others n es x (omega arith) others

-- the first one in flight is acknowledged
pub one_more : (n : ℕ) (es : List Entry) (x : Entry) → n < length es → x.acknowledged ≡ true → IsAcknowledgedUpTo n es → IsAcknowledgedUpTo (n + 1) (set es n x)
one_more n es x l is h =
    let next : suc n ≡ n + 1 = omega arith in
    record {
      there = omega (arith, length-set es n x, l);
      first = subst (λ k. AreAcknowledged (take k (set es n x))) next (set-first n es x l is h.first);
      others = subst (λ k. AreInFlight (drop k (set es n x))) next (set-others n es x l h.others);
    }

-- ---- an entry is added

drop-more : (n : ℕ) (es : List Entry) (e : Entry) → n ≤ length es → AreInFlight (drop n es) → e.acknowledged ≡ false → AreInFlight (drop n (es ++ e ∷ []))
drop-more zero es e l others is = each-append _ es (e ∷ []) others (is, tt)
drop-more (suc n) [] e l others is = absurd (omega arith)
drop-more (suc n) (x ∷ es) e l others is = drop-more n es e (omega arith) others is

take-more : (n : ℕ) (es : List Entry) (e : Entry) → n ≤ length es → AreAcknowledged (take n es) → AreAcknowledged (take n (es ++ e ∷ []))
take-more zero es e l first = tt
take-more (suc n) [] e l first = absurd (omega arith)
take-more (suc n) (x ∷ es) e l first = (first.0, take-more n es e (omega arith) first.1)

pub added : (n : ℕ) (es : List Entry) (e : Entry) → e.acknowledged ≡ false → IsAcknowledgedUpTo n es → IsAcknowledgedUpTo n (es ++ e ∷ [])
added n es e is h = record {
  there = omega (arith, length-append es (e ∷ []), h.there);
  first = take-more n es e h.there h.first;
  others = drop-more n es e h.there h.others is;
}

-- where all are acknowledged, they are so up to the last
pub all_acknowledged : (n : ℕ) (es : List Entry) → n ≡ length es → AreAcknowledged es → IsAcknowledgedUpTo n es
all_acknowledged n es is all =
    subst (λ k. IsAcknowledgedUpTo k es) (sym is) (record { there = omega arith; first = first es all; others = others es })
  where
    first : (es : List Entry) → AreAcknowledged es → AreAcknowledged (take (length es) es)
    first [] a = tt
    first (e ∷ es) a = (a.0, first es a.1)

    others : (es : List Entry) → AreInFlight (drop (length es) es)
    others [] = tt
    others (e ∷ es) = others es

-- ---- entries are taken out

-- those that are kept are parted too
pub kept : (p : Entry → Bool) (n : ℕ) (es : List Entry) → AreAcknowledged (take n es) → AreInFlight (drop n es) → (m : ℕ) × IsAcknowledgedUpTo m (filter p es)
kept p zero es first others = (0, record { there = omega arith; first = tt; others = each-kept _ p es others })
kept p (suc n) [] first others = (0, record { there = omega arith; first = tt; others = tt })
kept p (suc n) (e ∷ es) first others =
    let rest = kept p n es first.1 others in
    elim (p e) as (λ b. (m : ℕ) × IsAcknowledgedUpTo m (cond b (e ∷ filter p es) (filter p es))) [
      | true ↦ (suc rest.0, record { there = omega (arith, rest.1.there); first = (first.0, rest.1.first); others = rest.1.others })
      | false ↦ rest
    ]

-- the first ones are kept
pub first_kept : (p : Entry → Bool) (n : ℕ) (es : List Entry) → AllByRecursion (λ (e : Entry). p e ≡ true) (take n es) → IsAcknowledgedUpTo n es → IsAcknowledgedUpTo n (filter p es)
first_kept p n es all h = record { there = there n es all h.there; first = first n es all h.first; others = others n es all h.others }
  where
    there : (n : ℕ) (es : List Entry) → AllByRecursion (λ (e : Entry). p e ≡ true) (take n es) → n ≤ length es → n ≤ length (filter p es)
    there zero es all l = omega arith
    there (suc n) [] all l = absurd (omega arith)
    there (suc n) (e ∷ es) all l = subst (λ b. suc n ≤ length (cond b (e ∷ filter p es) (filter p es))) (sym all.0) (omega (arith, there n es all.1 (omega arith)))

    first : (n : ℕ) (es : List Entry) → AllByRecursion (λ (e : Entry). p e ≡ true) (take n es) → AreAcknowledged (take n es) → AreAcknowledged (take n (filter p es))
    first zero es all h = tt
    first (suc n) [] all h = tt
    first (suc n) (e ∷ es) all h = subst (λ b. AreAcknowledged (take (suc n) (cond b (e ∷ filter p es) (filter p es)))) (sym all.0) (h.0, first n es all.1 h.1)

    others : (n : ℕ) (es : List Entry) → AllByRecursion (λ (e : Entry). p e ≡ true) (take n es) → AreInFlight (drop n es) → AreInFlight (drop n (filter p es))
    others zero es all h = each-kept _ p es h
    others (suc n) [] all h = tt
    others (suc n) (e ∷ es) all h = subst (λ b. AreInFlight (drop (suc n) (cond b (e ∷ filter p es) (filter p es)))) (sym all.0) (others n es all.1 h)

-- ---- how many are acknowledged

pub partitioned : (n : ℕ) (es : List Entry) → AreAcknowledged (take n es) → AreInFlight (drop n es) → (i j : ℕ) (d : Entry) → i ≤ j → j < length es
    → (get_or es j d).acknowledged ≡ true → (get_or es i d).acknowledged ≡ true
partitioned n [] first others i j d le l h = absurd (omega arith)
partitioned zero (e ∷ es) first others i j d le l h = absurd (true≢false (sym h ∙ each-at (λ (x : Entry). x.acknowledged ≡ false) (e ∷ es) j d l others))
partitioned (suc n) (e ∷ es) first others zero j d le l h = first.0
partitioned (suc n) (e ∷ es) first others (suc i) zero d le l h = absurd (omega arith)
partitioned (suc n) (e ∷ es) first others (suc i) (suc j) d le l h = partitioned n es first.1 others i j d (omega arith) (omega arith) h

-- what holds at each of the first places, and at each of the others
pub each_first : (P : Entry → Type 0) (n : ℕ) (es : List Entry) → ((k : ℕ) (d : Entry) → k < n → k < length es → P (get_or es k d)) → AllByRecursion P (take n es)
each_first P zero es h = tt
each_first P (suc n) [] h = tt
each_first P (suc n) (e ∷ es) h = (h 0 e (omega arith) (omega arith), each_first P n es (λ k d l m. h (suc k) d (omega arith) (omega arith)))

pub each_other : (P : Entry → Type 0) (n : ℕ) (es : List Entry) → ((k : ℕ) (d : Entry) → n ≤ k → k < length es → P (get_or es k d)) → AllByRecursion P (drop n es)
each_other P zero [] h = tt
each_other P zero (e ∷ es) h = (h 0 e (omega arith) (omega arith), each_other P zero es (λ k d l m. h (suc k) d (omega arith) (omega arith)))
each_other P (suc n) [] h = tt
each_other P (suc n) (e ∷ es) h = each_other P n es (λ k d l m. h (suc k) d (omega arith) (omega arith))

-- where those before a place are acknowledged and the others are not
pub upto_point : (n : ℕ) (es : List Entry) → n ≤ length es → IsPartitionPoint (λ (e : Entry). e.acknowledged ≡ true) (λ (e : Entry). e.acknowledged ≡ false) es n
    → IsAcknowledgedUpTo n es
upto_point n es l parts = record {
  there = l;
  first = each_first (λ (e : Entry). e.acknowledged ≡ true) n es (λ k d a b. parts.0 k d (omega arith) a);
  others = each_other (λ (e : Entry). e.acknowledged ≡ false) n es (λ k d a b. parts.1 k d a b);
}

-- ---- what a failure and a withdrawal take out

-- a failure takes out nothing that is acknowledged
pub none_lost : (p : ℕ) (es : List Entry) → AreAcknowledged es → AllByRecursion (λ (e : Entry). is_in_flight_of p e ≡ false) es
none_lost p es h =
    each-weaker (λ (e : Entry). e.acknowledged ≡ true) (λ (e : Entry). is_in_flight_of p e ≡ false) es
    (λ e a. ap (λ b. (e.node == p) && not b) a ∙ and-false (e.node == p)) h

first-at : (P : Entry → Type 0) (n : ℕ) (es : List Entry) (k : ℕ) (d : Entry) → k < n → k < length es → AllByRecursion P (take n es) → P (get_or es k d)
first-at P zero es k d l m h = absurd (omega arith)
first-at P (suc n) [] k d l m h = absurd (omega arith)
first-at P (suc n) (e ∷ es) zero d l m h = h.0
first-at P (suc n) (e ∷ es) (suc k) d l m h = first-at P n es k d (omega arith) (omega arith) h.1

not-from : (id n : ℕ) → n < id → nat_le id n ≡ false
not-from id n l = grind (arith, nat_tests)

-- a withdrawal takes out nothing that is acknowledged, and nothing whose id is below
pub none_withdrawn : (id n m : ℕ) (es : List Entry) → AreAcknowledged (take n es) → AllByRecursion (λ (e : Entry). e.id < id) (take m es)
    → AllByRecursion (λ (e : Entry). is_withdrawn id e ≡ false) (take (max n m) es)
none_withdrawn id n m es first below = each_first (λ (e : Entry). is_withdrawn id e ≡ false) (max n m) es (λ k d l o. by k d l o (cases_lt k n))
  where
    by : (k : ℕ) (d : Entry) → k < max n m → k < length es → (k < n) ⊎ (n ≤ k) → is_withdrawn id (get_or es k d) ≡ false
    by k d l o (inl before) = ap (λ b. not b && nat_le id (get_or es k d).id) (first-at (λ (e : Entry). e.acknowledged ≡ true) n es k d before o first)
    by k d l o (inr after) =
        let under : k < m = omega (arith, l, after) in
        ap (λ b. not (get_or es k d).acknowledged && b) (not-from id (get_or es k d).id (first-at (λ (e : Entry). e.id < id) m es k d under o below))
        ∙ and-false (not (get_or es k d).acknowledged)

-- what does not go is kept
pub none_go : (goes : Entry → Bool) (es : List Entry) → AllByRecursion (λ (e : Entry). goes e ≡ false) es → AllByRecursion (λ (e : Entry). not (goes e) ≡ true) es
none_go goes es h = each-weaker (λ (e : Entry). goes e ≡ false) (λ (e : Entry). not (goes e) ≡ true) es (λ e g. ap not g) h

shorter : (P : Entry → Type 0) (n m : ℕ) (es : List Entry) → n ≤ m → AllByRecursion P (take m es) → AllByRecursion P (take n es)
shorter P zero m es l h = tt
shorter P (suc n) zero es l h = absurd (omega arith)
shorter P (suc n) (suc m) [] l h = tt
shorter P (suc n) (suc m) (e ∷ es) l h = (h.0, shorter P n m es (omega arith) h.1)

-- what is left is parted at the same place where nothing goes up to there
pub left_parted : (goes : Entry → Bool) (n m : ℕ) (es : List Entry) → n ≤ m → AllByRecursion (λ (e : Entry). goes e ≡ false) (take m es) → IsAcknowledgedUpTo n es
    → IsAcknowledgedUpTo n (filter (λ e. not (goes e)) es)
left_parted goes n m es l none h =
    first_kept (λ e. not (goes e)) n es (none_go goes (take n es) (shorter (λ (e : Entry). goes e ≡ false) n m es l none)) h

-- Totals as a list of recs, and back.
use Rattle.std.proofs.Common.{◌≡◌, ℕ, ◌==◌, Bool, true, false, cond, List, [], ◌∷◌, Option, Some, None, refl, sym, ap, ◌∙◌, subst, arith}
use Rattle.std.specs.Prelude.{◌||◌}
use Rattle.std.specs.List.{AllByRecursion}
use Rattle.std.specs.List.Sorted.{IsStrictlySortedBy}
use Rattle.std.specs.Map.{keys_of, lookup}
use Rattle.std.specs.Option.{is_some}
use Rattle.std.specs.Ordering.{is_eq, is_le, nat_cmp}
use Rattle.std.specs.BTreeMap.{BTreeMap, get, is_at}
use Rattle.std.proofs.lemmas.Bool.{eqb-true, or_left, or_right}
use Rattle.std.proofs.lemmas.Bool.Decides.{nat_tests}
use Rattle.fw_lemmas.proofs.Bools.{or_swap}
use Rattle.fw_lemmas.proofs.Orderings.{nat_cmp-test}
use Rattle.fw_lemmas.proofs.Numbers.{eqb-sym}
use Rattle.fw_bag.specs.declared.rec.Rec.{Rec}
use Rattle.fw_bag.specs.Rec.{rec_cmp}
use Rattle.fw_bag.specs.Bag.{with_rec, bag_sum}
use Rattle.fw_bag.specs.Keyed.{sorted_recs, value_sum, has_key, distinct_keys, sums_of}
use Rattle.fw_bag.proofs.BagLaws.{AllByRecursion-with_rec}
use Rattle.fw_table.specs.Sums.{sum_at, entry_recs, sums_at_keys, sums_by_key}
use Rattle.fw_table.proofs.SumLaws.{entries_are_sums_of}
use Rattle.fw_totals.specs.Totals.{total_in, combined, found, HasTotals, AreSumsIn, written, raised_recs, shown_entries}
use Rattle.fw_totals.proofs.PlaceLaws.{in_cond, shown_ascend, shown_found}

-- what is shown of the totals of recs are their sums by key
pub shown_are_sums : (totals : BTreeMap ℕ (Option ℕ)) (rs : List Rec) → IsStrictlySortedBy nat_cmp (keys_of totals.entries) → HasTotals totals rs
    → entry_recs (shown_entries totals.entries) ≡ sums_by_key rs
shown_are_sums totals rs s h =
    entries_are_sums_of (shown_entries totals.entries) rs rs (shown_ascend totals.entries s) (λ q. shown_found q totals.entries s ∙ h q)

sorted-each : (P : Rec → Type 0) (xs ys : List Rec) → AllByRecursion P xs → AllByRecursion P ys → AllByRecursion P (bag_sum xs ys)
sorted-each P [] ys a b = b
sorted-each P (x ∷ xs) ys a b = AllByRecursion-with_rec P x (bag_sum xs ys) a.0 (sorted-each P xs ys a.1 b)

of_keys : (rs : List Rec) (keys : List ℕ) → AreSumsIn rs (sums_of keys rs)
of_keys rs [] = tt
of_keys rs (k ∷ keys) = (refl, of_keys rs keys)

-- the sums of keys have these values
pub sums_are : (keys rs : List Rec) → AreSumsIn rs (sums_at_keys keys rs)
sums_are keys rs = sorted-each (λ x. x.value ≡ value_sum x.key rs) (sums_of (distinct_keys keys) rs) [] (of_keys rs (distinct_keys keys)) tt

key-with_rec : (q : ℕ) (r : Rec) (xs : List Rec) → has_key q (with_rec r xs) ≡ ((r.key == q) || has_key q xs)
key-with_rec q r [] = refl
key-with_rec q r (x ∷ xs) = cases (is_le (rec_cmp r x)) (key-with_rec q r xs)
  where
    cases : (b : Bool) → has_key q (with_rec r xs) ≡ ((r.key == q) || has_key q xs)
        → has_key q (cond b (r ∷ x ∷ xs) (x ∷ with_rec r xs)) ≡ ((r.key == q) || ((x.key == q) || has_key q xs))
    cases true h = refl
    cases false h = ap (λ b. (x.key == q) || b) h ∙ or_swap (x.key == q) (r.key == q) (has_key q xs)

key-sorted : (q : ℕ) (xs : List Rec) → has_key q (sorted_recs xs) ≡ has_key q xs
key-sorted q [] = refl
key-sorted q (x ∷ xs) = key-with_rec q x (sorted_recs xs) ∙ ap (λ b. (x.key == q) || b) (key-sorted q xs)

key-sums : (q : ℕ) (keys rs : List Rec) → has_key q (sums_of (distinct_keys keys) rs) ≡ has_key q keys
key-sums q [] rs = refl
key-sums q (r ∷ keys) rs = cases (has_key r.key keys) refl (key-sums q keys rs)
  where
    there : (b : Bool) → (r.key == q) ≡ b → has_key r.key keys ≡ true → has_key q keys ≡ (b || has_key q keys)
    there true e h = sym (ap (λ k. has_key k keys) (eqb-true r.key q e)) ∙ h
    there false e h = refl

    cases : (b : Bool) → has_key r.key keys ≡ b → has_key q (sums_of (distinct_keys keys) rs) ≡ has_key q keys
        → has_key q (sums_of (cond b (distinct_keys keys) (r.key ∷ distinct_keys keys)) rs) ≡ ((r.key == q) || has_key q keys)
    cases true h ih = ih ∙ there (r.key == q) refl h
    cases false h ih = ap (λ b. (r.key == q) || b) ih

-- and these keys
pub key-sums_at_keys : (q : ℕ) (keys rs : List Rec) → has_key q (sums_at_keys keys rs) ≡ has_key q keys
key-sums_at_keys q keys rs = key-sorted q (sums_of (distinct_keys keys) rs) ∙ key-sums q keys rs

-- a total that is written is no longer to come
pub write_step : (rs : List Rec) (r : Rec) (rest later : List Rec) (old new : BTreeMap ℕ (Option ℕ)) → rest ≡ r ∷ later → AreSumsIn rs rest
    → ((q : ℕ) → get nat_cmp new q ≡ cond (is_at (nat_cmp r.key) q) (Some (Some r.value)) (get nat_cmp old q)) → (q : ℕ)
    → written rs later (found new q) q ≡ written rs rest (found old q) q
write_step rs r rest later old new e a u q =
    let P : List Rec → Type 0 = λ xs. AreSumsIn rs xs in
    ap (λ o. written rs later o q)
    (ap total_in (u q) ∙ in_cond (is_at (nat_cmp r.key) q) r.value (get nat_cmp old q) ∙ ap (λ b. cond b (Some r.value) (found old q)) (nat_cmp-test r.key q))
    ∙ cases (r.key == q) refl (subst P e a).0
    ∙ sym (ap (λ xs. written rs xs (found old q) q) e)
  where
    same : (b : Bool) (o : Option ℕ) → cond b o o ≡ o
    same true o = refl
    same false o = refl

    cases : (b : Bool) → (r.key == q) ≡ b → r.value ≡ value_sum r.key rs
        → cond (has_key q later) (Some (value_sum q rs)) (cond b (Some r.value) (found old q)) ≡ cond (b || has_key q later) (Some (value_sum q rs)) (found old q)
    cases true i v =
        ap (λ n. cond (has_key q later) (Some (value_sum q rs)) (Some n)) (v ∙ ap (λ k. value_sum k rs) (eqb-true r.key q i))
        ∙ same (has_key q later) (Some (value_sum q rs))
    cases false i v = refl

pub rest_sums : (rs : List Rec) (r : Rec) (rest later : List Rec) → rest ≡ r ∷ later → AreSumsIn rs rest → AreSumsIn rs later
rest_sums rs r rest later e a = let P : List Rec → Type 0 = λ xs. AreSumsIn rs xs in (subst P e a).1

-- a key of what is left is among those of all
pub rest_key : (r : Rec) (rest later : List Rec) (q : ℕ) → rest ≡ r ∷ later → has_key q later ≡ true → has_key q rest ≡ true
rest_key r rest later q e h = ap (has_key q) e ∙ or_right (r.key == q) (has_key q later) h

-- and so is that of the first
pub first_key : (r : Rec) (rest later : List Rec) → rest ≡ r ∷ later → has_key r.key rest ≡ true
first_key r rest later e = ap (has_key r.key) e ∙ or_left (r.key == r.key) (has_key r.key later) (self r.key)
  where
    self : (k : ℕ) → (k == k) ≡ true
    self k = grind (arith, nat_tests)

-- what is written at the keys of a time is what is taken in
pub written_all : (q : ℕ) (before : Option ℕ) (now all : List Rec) → combined before (sum_at q now) ≡ sum_at q all → written all now before q ≡ sum_at q all
written_all q before now all h = cases (has_key q now) (has_key q all) h
  where
    cases : (b d : Bool) → combined before (cond b (Some (value_sum q now)) None) ≡ cond d (Some (value_sum q all)) None
        → cond b (Some (value_sum q all)) before ≡ cond d (Some (value_sum q all)) None
    cases true true k = refl
    cases true false k = cc
    cases false d k = k

-- the recs that are raised have the keys of the sums
pub key-raised : (totals : BTreeMap ℕ (Option ℕ)) (q : ℕ) (es : List (ℕ × ℕ)) → has_key q (raised_recs totals es) ≡ is_some (lookup (is_at (nat_cmp q)) es)
key-raised totals q [] = refl
key-raised totals q (e ∷ es) =
    ap (λ b. b || has_key q (raised_recs totals es)) (eqb-sym e.0 q ∙ sym (nat_cmp-test q e.0))
    ∙ cases (is_eq (nat_cmp q e.0)) (key-raised totals q es)
  where
    cases : (b : Bool) → has_key q (raised_recs totals es) ≡ is_some (lookup (is_at (nat_cmp q)) es)
        → (b || has_key q (raised_recs totals es)) ≡ is_some (cond b (Some e.1) (lookup (is_at (nat_cmp q)) es))
    cases true h = refl
    cases false h = h

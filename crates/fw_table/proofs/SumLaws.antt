-- Sums by key: what a look-up finds, and the recs as a bag.
use Rattle.std.proofs.Common.{◌≡◌, ℕ, ◌+◌, ◌==◌, Bool, true, false, cond, List, [], ◌∷◌, Option, Some, None, refl, sym, ap, ◌∙◌, arith, unwrap_or}
use Rattle.std.specs.Prelude.{◌&&◌, ◌||◌}
use Rattle.std.specs.List.{AllByRecursion}
use Rattle.std.specs.List.Sorted.{IsStrictlySortedBy}
use Rattle.std.specs.Map.{lookup, keys_of}
use Rattle.std.specs.declared.cmp.Ordering.TheVariants.{Less}
use Rattle.std.specs.Ordering.{is_eq, is_gt, nat_cmp, ordering_then}
use Rattle.std.specs.BTreeMap.{BTreeMap, get, is_at}
use Rattle.std.proofs.lemmas.Bool.{eqb-true}
use Rattle.std.proofs.lemmas.Map.Keys.{sorted_head, sorted_tail}
use Rattle.fw_lemmas.proofs.Orderings.{then_parts, nat_cmp-test}
use Rattle.fw_lemmas.proofs.Numbers.{eqb-sym}
use Rattle.fw_lemmas.proofs.Options.{found_or_none}
use Rattle.fw_bag.specs.declared.rec.Rec.{Rec}
use Rattle.fw_bag.specs.Rec.{rec_cmp, IsAscending}
use Rattle.fw_bag.specs.Bag.{how_often}
use Rattle.fw_bag.specs.Keyed.{plus, sorted_recs, value_sum, has_key, distinct_keys, sums_of}
use Rattle.fw_bag.proofs.BagLaws.{IsAscending-bag_sum, how_often-bag_sum, same_from_how_often}
use Rattle.fw_table.specs.Sums.{sum_at, HasSums, entry_recs}

-- ---- one rec more

pub none_summed : (k : ℕ) (rs : List Rec) → has_key k rs ≡ false → value_sum k rs ≡ 0
none_summed k [] h = refl
none_summed k (r ∷ rs) h = cases (r.key == k) (none_summed k rs) h
  where
    cases : (b : Bool) → (has_key k rs ≡ false → value_sum k rs ≡ 0) → (b || has_key k rs) ≡ false
        → cond b (plus r.value (value_sum k rs)) (value_sum k rs) ≡ 0
    cases true ih e = cc
    cases false ih e = ih e

-- what is found at a key, or 0, is the sum of its values
pub sum_or_zero : (k : ℕ) (rs : List Rec) → unwrap_or (sum_at k rs) 0 ≡ value_sum k rs
sum_or_zero k rs = found_or_none (has_key k rs) (value_sum k rs) (none_summed k rs)

more_cases : (r : Rec) (q : ℕ) (rs : List Rec) (b : Bool) → (r.key == q) ≡ b
    → cond b (Some (plus r.value (value_sum r.key rs))) (sum_at q rs)
    ≡ cond (b || has_key q rs) (Some (cond b (plus r.value (value_sum q rs)) (value_sum q rs))) None
more_cases r q rs true e = ap (λ k. Some (plus r.value (value_sum k rs))) (eqb-true r.key q e)
more_cases r q rs false e = refl

-- a map in which the sum of a rec's key was raised by its value
pub sums_more : (old new : BTreeMap ℕ ℕ) (r : Rec) (n : ℕ) (rs : List Rec) → HasSums old rs
    → n ≡ plus r.value (unwrap_or (get nat_cmp old r.key) 0)
    → ((q : ℕ) → get nat_cmp new q ≡ cond (is_at (nat_cmp r.key) q) (Some n) (get nat_cmp old q))
    → HasSums new (r ∷ rs)
sums_more old new r n rs h e u = λ q.
    let raised : n ≡ plus r.value (value_sum r.key rs) = e ∙ ap (λ o. plus r.value (unwrap_or o 0)) (h r.key) ∙ ap (plus r.value) (sum_or_zero r.key rs) in
    u q ∙ ap (λ b. cond b (Some n) (get nat_cmp old q)) (nat_cmp-test r.key q)
    ∙ ap (λ m. cond (r.key == q) (Some m) (get nat_cmp old q)) raised
    ∙ ap (λ o. cond (r.key == q) (Some (plus r.value (value_sum r.key rs))) o) (h q)
    ∙ more_cases r q rs (r.key == q) refl

-- ---- the recs of the entries

rec_test : (x y : Rec) → is_eq (rec_cmp x y) ≡ ((x.key == y.key) && (x.value == y.value))
rec_test x y =
    then_parts (nat_cmp x.key y.key) (nat_cmp x.value y.value)
    ∙ ap (λ b. b && is_eq (nat_cmp x.value y.value)) (nat_cmp-test x.key y.key)
    ∙ ap (λ b. (x.key == y.key) && b) (nat_cmp-test x.value y.value)

-- how often the rec of a key and a value is in a list that has it at most once, by what is found at the key
abbrev pub once : Option ℕ → ℕ → ℕ
once None v = 0
once (Some s) v = cond (v == s) 1 0

later_keys : (q : Rec) (k : ℕ) → (q.key == k) ≡ true → (es : List (ℕ × ℕ)) → AllByRecursion (λ y. nat_cmp k y ≡ Less) (keys_of es)
    → how_often q (entry_recs es) ≡ 0
later_keys q k h [] a = refl
later_keys q k h (e ∷ es) a =
    let other : is_eq (rec_cmp q (record { key = e.0; value = e.1 })) ≡ false =
    rec_test q (record { key = e.0; value = e.1 })
    ∙ ap (λ b. b && (q.value == e.1)) (ap (λ i. i == e.0) (eqb-true q.key k h) ∙ sym (nat_cmp-test k e.0) ∙ ap is_eq a.0) in
    ap (λ b. cond b (how_often q (entry_recs es) + 1) (how_often q (entry_recs es))) other ∙ later_keys q k h es a.1

here_cases : (b : Bool) (n : ℕ) → n ≡ 0 → cond b (n + 1) n ≡ cond b 1 0
here_cases true n h = omega arith
here_cases false n h = h

entry_cases : (q : Rec) (e : ℕ × ℕ) (es : List (ℕ × ℕ)) → IsStrictlySortedBy nat_cmp (keys_of (e ∷ es))
    → how_often q (entry_recs es) ≡ once (lookup (is_at (nat_cmp q.key)) es) q.value
    → (b : Bool) → (q.key == e.0) ≡ b
    → cond (b && (q.value == e.1)) (how_often q (entry_recs es) + 1) (how_often q (entry_recs es))
    ≡ once (cond b (Some e.1) (lookup (is_at (nat_cmp q.key)) es)) q.value
entry_cases q e es s ih true h =
    here_cases (q.value == e.1) (how_often q (entry_recs es)) (later_keys q e.0 h es (sorted_head nat_cmp e.0 (keys_of es) s))
entry_cases q e es s ih false h = ih

-- a rec is there once where its value is found at its key
pub entries_once : (q : Rec) (es : List (ℕ × ℕ)) → IsStrictlySortedBy nat_cmp (keys_of es)
    → how_often q (entry_recs es) ≡ once (lookup (is_at (nat_cmp q.key)) es) q.value
entries_once q [] s = refl
entries_once q (e ∷ es) s =
    ap (λ b. cond b (how_often q (entry_recs es) + 1) (how_often q (entry_recs es))) (rec_test q (record { key = e.0; value = e.1 }))
    ∙ entry_cases q e es s (entries_once q es (sorted_tail nat_cmp e.0 (keys_of es) s)) (q.key == e.0) refl
    ∙ ap (λ b. once (cond b (Some e.1) (lookup (is_at (nat_cmp q.key)) es)) q.value) (sym (nat_cmp-test q.key e.0))

above_entries : (x : Rec) (k : ℕ) → x.key ≡ k → (es : List (ℕ × ℕ)) → AllByRecursion (λ y. nat_cmp k y ≡ Less) (keys_of es)
    → AllByRecursion (λ y. is_gt (rec_cmp x y) ≡ false) (entry_recs es)
above_entries x k h [] a = tt
above_entries x k h (e ∷ es) a =
    let less : nat_cmp x.key e.0 ≡ Less = ap (λ i. nat_cmp i e.0) h ∙ a.0 in
    (ap (λ o. is_gt (ordering_then o (nat_cmp x.value e.1))) less, above_entries x k h es a.1)

-- the recs of entries in the order of their keys ascend
pub entries_ascend : (es : List (ℕ × ℕ)) → IsStrictlySortedBy nat_cmp (keys_of es) → IsAscending (entry_recs es)
entries_ascend [] s = tt
entries_ascend (e ∷ es) s =
    (above_entries (record { key = e.0; value = e.1 }) e.0 refl es (sorted_head nat_cmp e.0 (keys_of es) s), entries_ascend es (sorted_tail nat_cmp e.0 (keys_of es) s))

-- ---- sums of the keys, each once

absent_key : (q : Rec) (keys : List Rec) (rs : List Rec) (n : ℕ) → n ≡ cond (has_key q.key keys) (cond (q.value == value_sum q.key rs) 1 0) 0
    → has_key q.key keys ≡ false → n ≡ 0
absent_key q keys rs n h e = h ∙ ap (λ b. cond b (cond (q.value == value_sum q.key rs) 1 0) 0) e

sum_here : (q : Rec) (k : ℕ) (rs : List Rec) (n : ℕ) → (b : Bool) → (q.key == k) ≡ b → (h : Bool)
    → n ≡ cond h (cond (q.value == value_sum q.key rs) 1 0) 0 → (b ≡ true → h ≡ false)
    → cond (b && (q.value == value_sum k rs)) (n + 1) n ≡ cond (b || h) (cond (q.value == value_sum q.key rs) 1 0) 0
sum_here q k rs n true e h i a =
    let zero : n ≡ 0 = i ∙ ap (λ x. cond x (cond (q.value == value_sum q.key rs) 1 0) 0) (a refl) in
    here_cases (q.value == value_sum k rs) n zero
    ∙ ap (λ j. cond (q.value == value_sum j rs) 1 0) (sym (eqb-true q.key k e))
sum_here q k rs n false e h i a = i

keys_cases : (q r : Rec) (keys rs : List Rec)
    → how_often q (sums_of (distinct_keys keys) rs) ≡ cond (has_key q.key keys) (cond (q.value == value_sum q.key rs) 1 0) 0
    → (d : Bool) → has_key r.key keys ≡ d
    → how_often q (sums_of (cond d (distinct_keys keys) (r.key ∷ distinct_keys keys)) rs)
    ≡ cond ((r.key == q.key) || has_key q.key keys) (cond (q.value == value_sum q.key rs) 1 0) 0
keys_cases q r keys rs ih true e = ih ∙ ap (λ b. cond b (cond (q.value == value_sum q.key rs) 1 0) 0) (there (r.key == q.key) refl)
  where
    there : (b : Bool) → (r.key == q.key) ≡ b → has_key q.key keys ≡ (b || has_key q.key keys)
    there true h = sym (ap (λ k. has_key k keys) (eqb-true r.key q.key h)) ∙ e
    there false h = refl
keys_cases q r keys rs ih false e =
    ap (λ b. cond b (how_often q (sums_of (distinct_keys keys) rs) + 1) (how_often q (sums_of (distinct_keys keys) rs)))
    (rec_test q (record { key = r.key; value = value_sum r.key rs }))
    ∙ sum_here q r.key rs (how_often q (sums_of (distinct_keys keys) rs)) (q.key == r.key) refl (has_key q.key keys) ih
    (λ h. ap (λ k. has_key k keys) (eqb-true q.key r.key h) ∙ e)
    ∙ ap (λ b. cond (b || has_key q.key keys) (cond (q.value == value_sum q.key rs) 1 0) 0) (eqb-sym q.key r.key)

-- a rec is there once where its key is there and its value is the sum of the key's
pub sums_once : (q : Rec) (keys rs : List Rec)
    → how_often q (sums_of (distinct_keys keys) rs) ≡ cond (has_key q.key keys) (cond (q.value == value_sum q.key rs) 1 0) 0
sums_once q [] rs = refl
sums_once q (r ∷ keys) rs = keys_cases q r keys rs (sums_once q keys rs) (has_key r.key keys) refl

once_found : (b : Bool) (s v : ℕ) → once (cond b (Some s) None) v ≡ cond b (cond (v == s) 1 0) 0
once_found true s v = refl
once_found false s v = refl

sorted_counts : (q : Rec) (xs : List Rec) → how_often q xs ≡ how_often q (sorted_recs xs)
sorted_counts q xs = let e = how_often-bag_sum q xs [] in omega arith

-- entries in order that have the keys of some recs, each with the sum of its values in others, are these sums in ascending order
pub entries_are_sums_of : (es : List (ℕ × ℕ)) (keys rs : List Rec) → IsStrictlySortedBy nat_cmp (keys_of es)
    → ((q : ℕ) → lookup (is_at (nat_cmp q)) es ≡ cond (has_key q keys) (Some (value_sum q rs)) None)
    → entry_recs es ≡ sorted_recs (sums_of (distinct_keys keys) rs)
entries_are_sums_of es keys rs s h =
    same_from_how_often (entry_recs es) (sorted_recs (sums_of (distinct_keys keys) rs)) (entries_ascend es s)
    (IsAscending-bag_sum (sums_of (distinct_keys keys) rs) [] tt)
    (λ q. entries_once q es s ∙ ap (λ o. once o q.value) (h q.key) ∙ once_found (has_key q.key keys) (value_sum q.key rs) q.value
    ∙ sym (sums_once q keys rs)
    ∙ sorted_counts q (sums_of (distinct_keys keys) rs))

-- the entries of a map of sums are the sums by key, in ascending order
pub entries_are_sums : (sums : BTreeMap ℕ ℕ) (rs : List Rec) → IsStrictlySortedBy nat_cmp (keys_of sums.entries) → HasSums sums rs
    → entry_recs sums.entries ≡ sorted_recs (sums_of (distinct_keys rs) rs)
entries_are_sums sums rs s h = entries_are_sums_of sums.entries rs rs s h

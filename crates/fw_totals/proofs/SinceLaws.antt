-- What changed since something was settled, and how it is written over what was settled.
use Rattle.std.proofs.Common.{◌≡◌, ℕ, Bool, true, false, cond, not, List, [], ◌∷◌, Option, Some, None, map, refl, sym, ap, ◌∙◌, subst}
use Rattle.std.specs.Prelude.{◌&&◌, ◌||◌}
use Rattle.std.specs.Option.{unwrap_or, is_some}
use Rattle.std.specs.List.{AllByRecursion}
use Rattle.std.specs.List.Sorted.{IsStrictlySortedBy}
use Rattle.std.specs.Map.{lookup, keys_of}
use Rattle.std.specs.declared.cmp.Ordering.{Ordering}
use Rattle.std.specs.Ordering.{is_eq, nat_cmp}
use Rattle.std.specs.BTreeMap.{BTreeMap, is_at}
use Rattle.fw_time.specs.Stamp.{Stamp, same}
use Rattle.fw_bag.specs.declared.rec.Rec.{Rec}
use Rattle.fw_bag.specs.Keyed.{plus, sorted_recs, value_sum, has_key, distinct_keys, sums_of}
use Rattle.fw_bag.specs.Arrivals.{Arrival, arrivals_inside, recs_where, recs_inside, AreTimes}
use Rattle.fw_table.specs.declared.sums.Sums.{Sums}
use Rattle.fw_table.specs.Content.{IsTable}
use Rattle.fw_table.specs.Sums.{sum_at, entry_recs, sums_at_keys}
use Rattle.fw_table.proofs.SumLaws.{sum_or_zero, none_summed, entries_are_sums_of}
use Rattle.fw_totals.specs.Totals.{found, combined, raised_recs, shown_entries, HasTotals, WritesOver}
use Rattle.fw_totals.specs.Gathered.{gathered}
use Rattle.fw_totals.specs.Settling.{holds_sums}
use Rattle.fw_totals.proofs.GatherLaws.{settles, where_alike}
use Rattle.fw_totals.proofs.MergeLaws.{fits, values_split, keys_split, merge_cases, found_by_key, same_keys, there_cases}
use Rattle.fw_totals.proofs.NoticeLaws.{nat_entries}
use Rattle.fw_totals.proofs.PlaceLaws.{shown_ascend, shown_found}
use Rattle.fw_totals.proofs.RestoreLaws.{sums_are, key-sums_at_keys, written_all}

-- ---- what came since

-- the test of what came since
abbrev pub since : (Stamp → Bool) → (Stamp → Bool) → Stamp → Bool
since inside after s = after s && not (inside s)

apart_cases : (a i : Bool) → ((a && not i) && i) ≡ false
apart_cases true true = refl
apart_cases true false = refl
apart_cases false i = refl

apart_since : (inside after : Stamp → Bool) (came : List Arrival)
    → AllByRecursion (λ (a : Arrival). (since inside after a.at && inside a.at) ≡ false) came
apart_since inside after [] = tt
apart_since inside after (a ∷ came) = (apart_cases (after a.at) (inside a.at), apart_since inside after came)

together_cases : (a i : Bool) → (i ≡ true → a ≡ true) → ((a && not i) || i) ≡ a
together_cases true true h = refl
together_cases true false h = refl
together_cases false true h = sym (h refl)
together_cases false false h = refl

together : (inside after : Stamp → Bool) → ((s : Stamp) → inside s ≡ true → after s ≡ true) → (came : List Arrival)
    → AllByRecursion (λ (a : Arrival). (since inside after a.at || inside a.at) ≡ after a.at) came
together inside after sub [] = tt
together inside after sub (a ∷ came) = (together_cases (after a.at) (inside a.at) (sub a.at), together inside after sub came)

-- what is found of what came inside, and of what came since, is what is found of what came inside now
pub merged_since : (inside after : Stamp → Bool) → ((s : Stamp) → inside s ≡ true → after s ≡ true) → (came : List Arrival) (q : ℕ)
    → combined (sum_at q (recs_inside inside came)) (sum_at q (recs_inside (since inside after) came)) ≡ sum_at q (recs_inside after came)
merged_since inside after sub came q =
    let now : List Rec = recs_where (λ (a : Arrival). since inside after a.at) came in
    let old : List Rec = recs_where (λ (a : Arrival). inside a.at) came in
    merge_cases (has_key q old) (has_key q now) (value_sum q old) (value_sum q now) (fits q old) (none_summed q old) (none_summed q now)
    ∙ ap (λ b. cond b (Some (plus (value_sum q old) (value_sum q now))) None)
    (sym (keys_split (λ a. since inside after a.at) (λ a. inside a.at) q came))
    ∙ ap (λ n. cond (has_key q (recs_where (λ a. since inside after a.at || inside a.at) came)) (Some n) None)
    (sym (values_split (λ a. since inside after a.at) (λ a. inside a.at) q came (apart_since inside after came)))
    ∙ ap (sum_at q) (where_alike (λ a. since inside after a.at || inside a.at) (λ a. after a.at) came (together inside after sub came))

-- ---- changes are written over

pub changes_over : (inside after : Stamp → Bool) → ((s : Stamp) → inside s ≡ true → after s ≡ true) → (came : List Arrival)
    → WritesOver (sums_at_keys (recs_inside (since inside after) came) (recs_inside after came)) (recs_inside inside came) (recs_inside after came)
changes_over inside after sub came =
    let now : List Rec = recs_inside (since inside after) came in
    let old : List Rec = recs_inside inside came in
    let all : List Rec = recs_inside after came in
    record {
      sums = sums_are now all;
      found = λ q.
          ap (λ b. cond b (Some (value_sum q all)) (sum_at q old)) (key-sums_at_keys q now all)
          ∙ written_all q (sum_at q old) now all (merged_since inside after sub came q);
    }

-- ---- what the times outside give

all_kept : (xs : List Arrival) → arrivals_inside (λ s. not false) xs ≡ xs
all_kept [] = refl
all_kept (a ∷ xs) = ap (λ (ys : List Arrival). a ∷ ys) (all_kept xs)

none_there : (xs : List Arrival) → recs_where (λ (a : Arrival). false) xs ≡ []
none_there [] = refl
none_there (a ∷ xs) = none_there xs

where_both : (inside after : Stamp → Bool) (came : List Arrival)
    → recs_where (λ a. after a.at) (arrivals_inside (λ s. not (inside s)) came) ≡ recs_inside (since inside after) came
where_both inside after [] = refl
where_both inside after (a ∷ came) = cases (inside a.at) (where_both inside after came)
  where
    out : (t : Bool) (xs ys : List Rec) → ys ≡ cond (t && not true) xs ys
    out true xs ys = refl
    out false xs ys = refl

    here : (t : Bool) (xs ys : List Rec) → xs ≡ ys → cond t (a.rec ∷ xs) xs ≡ cond (t && not false) (a.rec ∷ ys) ys
    here true xs ys h = ap (λ (rs : List Rec). a.rec ∷ rs) h
    here false xs ys h = h

    cases : (i : Bool) → recs_where (λ b. after b.at) (arrivals_inside (λ s. not (inside s)) came) ≡ recs_inside (since inside after) came
        → recs_where (λ b. after b.at) (cond (not i) (a ∷ arrivals_inside (λ s. not (inside s)) came) (arrivals_inside (λ s. not (inside s)) came))
        ≡ cond (after a.at && not i) (a.rec ∷ recs_inside (since inside after) came) (recs_inside (since inside after) came)
    cases true h = h ∙ out (after a.at) (a.rec ∷ recs_inside (since inside after) came) (recs_inside (since inside after) came)
    cases false h = here (after a.at) (recs_where (λ b. after b.at) (arrivals_inside (λ s. not (inside s)) came)) (recs_inside (since inside after) came) h

module _ {T : Type 0} (cmp : T → T → Ordering) (coords : T → Stamp) (apart : (x y : T) → is_eq (cmp x y) ≡ same (coords x) (coords y)) where
  times_kept : (test : Stamp → Bool) (came : List Arrival) → AreTimes coords came → AreTimes coords (arrivals_inside test came)
  times_kept test [] h = tt
  times_kept test (a ∷ came) h = cases (test a.at) (times_kept test came h.1)
    where
      cases : (b : Bool) → AreTimes coords (arrivals_inside test came) → AreTimes coords (cond b (a ∷ arrivals_inside test came) (arrivals_inside test came))
      cases true k = (h.0, k)
      cases false k = k

  -- taken into no totals, the times inside give the totals of what came since
  pub gathers_since : (into : T → Bool) (inside after : Stamp → Bool) → ((t : T) → after (coords t) ≡ into t) → (table : BTreeMap T Sums) (came : List Arrival)
      → IsStrictlySortedBy cmp (keys_of table.entries) → IsTable cmp coords holds_sums table (arrivals_inside (λ s. not (inside s)) came)
      → (none : BTreeMap ℕ (Option ℕ)) → ((q : ℕ) → found none q ≡ None) → AreTimes coords came → (q : ℕ)
      → gathered into q (found none q) table.entries ≡ sum_at q (recs_inside (since inside after) came)
  gathers_since into inside after agree table came sorted held none empty times q =
      let rest : List Arrival = arrivals_inside (λ s. not (inside s)) came in
      let P : List Arrival → Type 0 = λ xs. IsTable cmp coords holds_sums table xs in
      settles cmp coords apart into (λ s. false) after agree (λ s h. cc) table rest sorted (subst P (sym (all_kept rest)) held)
      none (λ k. empty k ∙ sym (ap (sum_at k) (none_there rest))) (times_kept (λ s. not (inside s)) came times) q
      ∙ ap (sum_at q) (where_both inside after came)

  -- what came since a frontier that holds what is settled came since what is settled
  later_cases : (a b i : Bool) → (i ≡ true → b ≡ true) → ((a && not b) && not i) ≡ (a && not b)
  later_cases false b i h = refl
  later_cases true true i h = refl
  later_cases true false true h = sym (ap not (h refl))
  later_cases true false false h = refl

  later : (inside before after : Stamp → Bool) → ((s : Stamp) → inside s ≡ true → before s ≡ true) → (came : List Arrival)
      → AllByRecursion (λ (a : Arrival). since inside (since before after) a.at ≡ since before after a.at) came
  later inside before after sub [] = tt
  later inside before after sub (a ∷ came) = (later_cases (after a.at) (before a.at) (inside a.at) (sub a.at), later inside before after sub came)

  -- taken into no totals, the times inside a frontier, but for those inside an earlier one, give the totals of what came since that
  pub gathers_between : (earlier into : T → Bool) (inside before after : Stamp → Bool) → ((t : T) → before (coords t) ≡ earlier t) → ((t : T) → after (coords t) ≡ into t)
      → ((s : Stamp) → inside s ≡ true → before s ≡ true) → (table : BTreeMap T Sums) (came : List Arrival)
      → IsStrictlySortedBy cmp (keys_of table.entries) → IsTable cmp coords holds_sums table (arrivals_inside (λ s. not (inside s)) came)
      → (none : BTreeMap ℕ (Option ℕ)) → ((q : ℕ) → found none q ≡ None) → AreTimes coords came → (q : ℕ)
      → gathered (λ t. into t && not (earlier t)) q (found none q) table.entries ≡ sum_at q (recs_inside (since before after) came)
  gathers_between earlier into inside before after at_g at_f sub table came sorted held none empty times q =
      gathers_since (λ t. into t && not (earlier t)) inside (since before after)
      (λ t. ap (λ b. b && not (before (coords t))) (at_f t) ∙ ap (λ b. into t && not b) (at_g t)) table came sorted held none empty times q
      ∙ ap (sum_at q) (where_alike (λ a. since inside (since before after) a.at) (λ a. since before after a.at) came (later inside before after sub came))

-- ---- with the totals before them

module _ (totals : BTreeMap ℕ (Option ℕ)) (es : List (ℕ × ℕ)) (now all : List Rec) (held : (q : ℕ) → lookup (is_at (nat_cmp q)) es ≡ sum_at q now)
    (whole : (q : ℕ) → combined (found totals q) (sum_at q now) ≡ sum_at q all) where
  added_is : (k s : ℕ) → lookup (is_at (nat_cmp k)) es ≡ Some s → plus s (unwrap_or (found totals k) 0) ≡ value_sum k all
  added_is k s f =
      let one : Some (plus s (unwrap_or (found totals k) 0)) ≡ sum_at k all = ap (combined (found totals k)) (sym f ∙ held k) ∙ whole k in
      ap (λ o. unwrap_or o 0) one ∙ sum_or_zero k all

  as_sums : (xs : List (ℕ × ℕ)) → AllByRecursion (λ (e : ℕ × ℕ). lookup (is_at (nat_cmp e.0)) es ≡ Some e.1) xs
      → raised_recs totals xs ≡ entry_recs (map (λ (e : ℕ × ℕ). (e.0, value_sum e.0 all)) xs)
  as_sums [] a = refl
  as_sums (e ∷ xs) a =
      ap (λ v. record { key = e.0; value = v } ∷ raised_recs totals xs) (added_is e.0 e.1 a.0)
      ∙ ap (λ ys. record { key = e.0; value = value_sum e.0 all } ∷ ys) (as_sums xs a.1)

  -- the sums with the totals before them are the sums of these keys in all, in ascending order
  pub added_are_sums : IsStrictlySortedBy nat_cmp (keys_of es) → raised_recs totals es ≡ sorted_recs (sums_of (distinct_keys now) all)
  added_are_sums s =
      let P : List ℕ → Type 0 = λ ks. IsStrictlySortedBy nat_cmp ks in
      as_sums es (nat_entries (λ q. lookup (is_at (nat_cmp q)) es) es s (λ q c k. k))
      ∙ entries_are_sums_of (map (λ (e : ℕ × ℕ). (e.0, value_sum e.0 all)) es) now all
      (subst P (sym (same_keys (λ i. value_sum i all) es)) s)
      (λ q. found_by_key (λ i. value_sum i all) q es
      ∙ ap (λ b. cond b (Some (value_sum q all)) None) (ap is_some (held q) ∙ there_cases (has_key q now) (value_sum q now)))

-- what is shown of the sums of what came since, with the settled totals added, are the totals of these keys
pub shown_since : (inside after : Stamp → Bool) → ((s : Stamp) → inside s ≡ true → after s ≡ true) → (came : List Arrival)
    → (totals sums : BTreeMap ℕ (Option ℕ)) → HasTotals totals (recs_inside inside came) → HasTotals sums (recs_inside (since inside after) came)
    → IsStrictlySortedBy nat_cmp (keys_of sums.entries)
    → raised_recs totals (shown_entries sums.entries) ≡ sums_at_keys (recs_inside (since inside after) came) (recs_inside after came)
shown_since inside after sub came totals sums h k s =
    added_are_sums totals (shown_entries sums.entries) (recs_inside (since inside after) came) (recs_inside after came)
    (λ q. shown_found q sums.entries s ∙ k q)
    (λ q. ap (λ o. combined o (sum_at q (recs_inside (since inside after) came))) (h q) ∙ merged_since inside after sub came q)
    (shown_ascend sums.entries s)

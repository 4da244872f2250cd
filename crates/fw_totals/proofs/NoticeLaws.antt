-- What is sent from running totals, and how they follow.
use Rattle.std.proofs.Common.{◌≡◌, ℕ, ◌==◌, Bool, true, false, cond, not, List, [], ◌∷◌, Option, Some, None, map, refl, sym, ap, ◌∙◌, subst}
use Rattle.std.specs.Prelude.{◌||◌}
use Rattle.std.specs.Option.{unwrap_or, is_some}
use Rattle.std.specs.List.{AllByRecursion}
use Rattle.std.specs.List.Sorted.{IsStrictlySortedBy}
use Rattle.std.specs.Map.{lookup, keys_of}
use Rattle.std.specs.Ordering.{nat_cmp}
use Rattle.std.specs.BTreeMap.{BTreeMap, get, is_at}
use Rattle.std.proofs.lemmas.Bool.{eqb-true}
use Rattle.std.proofs.lemmas.Map.Keys.{sorted_head, sorted_tail}
use Rattle.fw_lemmas.proofs.Orderings.{nat_cmp-test}
use Rattle.fw_lemmas.proofs.Numbers.{eqb-self}
use Rattle.fw_time.specs.Stamp.{Stamp}
use Rattle.fw_bag.specs.declared.rec.Rec.{Rec}
use Rattle.fw_bag.specs.Keyed.{plus, sorted_recs, value_sum, has_key, distinct_keys, sums_of}
use Rattle.fw_bag.specs.Arrivals.{Arrival, arrivals_at, arrivals_inside}
use Rattle.fw_table.specs.Content.{IsContentOf}
use Rattle.fw_bag.proofs.ArrivalLaws.{at-inside}
use Rattle.fw_table.specs.declared.sums.Sums.{Sums}
use Rattle.fw_table.specs.Sums.{HasSums, sum_at, entry_recs}
use Rattle.fw_totals.specs.Totals.{combined}
use Rattle.fw_table.proofs.SumLaws.{sum_or_zero, entries_are_sums_of}
use Rattle.fw_totals.proofs.MergeLaws.{found_by_key, same_keys, there_cases}
use Rattle.fw_totals.specs.Totals.{total_in, found, HasTotals, raised_recs}
use Rattle.fw_totals.specs.Settling.{holds_sums}
use Rattle.fw_totals.proofs.PlaceLaws.{absent}

-- each entry is what is found at its key
pub nat_entries : (find : ℕ → Option ℕ) (es : List (ℕ × ℕ)) → IsStrictlySortedBy nat_cmp (keys_of es)
    → ((q c : ℕ) → lookup (is_at (nat_cmp q)) es ≡ Some c → find q ≡ Some c) → AllByRecursion (λ (e : ℕ × ℕ). find e.0 ≡ Some e.1) es
nat_entries find [] s h = tt
nat_entries find (e ∷ es) s h = (
  h e.0 e.1 (ap (λ b. cond b (Some e.1) (lookup (is_at (nat_cmp e.0)) es)) (nat_cmp-test e.0 e.0 ∙ eqb-self e.0)),
  nat_entries find es (sorted_tail nat_cmp e.0 (keys_of es) s) (λ q c k. h q c (later q c k (q == e.0) refl)),
)
  where
    later : (q c : ℕ) → lookup (is_at (nat_cmp q)) es ≡ Some c → (b : Bool) → (q == e.0) ≡ b → lookup (is_at (nat_cmp q)) (e ∷ es) ≡ Some c
    later q c k true i =
        let n : None ≡ Some c = sym (ap (λ j. lookup (is_at (nat_cmp j)) es) (eqb-true q e.0 i) ∙ absent e.0 es (sorted_head nat_cmp e.0 (keys_of es) s)) ∙ k in absurd (cc n)
    later q c k false i = ap (λ b. cond b (Some e.1) (lookup (is_at (nat_cmp q)) es)) (nat_cmp-test q e.0 ∙ i) ∙ k

module _ (totals : BTreeMap ℕ (Option ℕ)) (sums : BTreeMap ℕ ℕ) (now all : List Rec) (held : HasSums sums now)
    (whole : (q : ℕ) → combined (found totals q) (sum_at q now) ≡ sum_at q all) where
  raised_is : (k s : ℕ) → get nat_cmp sums k ≡ Some s → plus s (unwrap_or (found totals k) 0) ≡ value_sum k all
  raised_is k s f =
      let one : Some (plus s (unwrap_or (found totals k) 0)) ≡ sum_at k all = ap (combined (found totals k)) (sym f ∙ held k) ∙ whole k in
      ap (λ o. unwrap_or o 0) one ∙ sum_or_zero k all

  as_entries : (es : List (ℕ × ℕ)) → AllByRecursion (λ (e : ℕ × ℕ). get nat_cmp sums e.0 ≡ Some e.1) es
      → raised_recs totals es ≡ entry_recs (map (λ (e : ℕ × ℕ). (e.0, value_sum e.0 all)) es)
  as_entries [] a = refl
  as_entries (e ∷ es) a =
      ap (λ v. record { key = e.0; value = v } ∷ raised_recs totals es) (raised_is e.0 e.1 a.0)
      ∙ ap (λ xs. record { key = e.0; value = value_sum e.0 all } ∷ xs) (as_entries es a.1)

  -- the sums with the totals before them are the sums of these keys in all, in ascending order
  pub raised_are_sums : IsStrictlySortedBy nat_cmp (keys_of sums.entries) → raised_recs totals sums.entries ≡ sorted_recs (sums_of (distinct_keys now) all)
  raised_are_sums s =
      let P : List ℕ → Type 0 = λ ks. IsStrictlySortedBy nat_cmp ks in
      as_entries sums.entries (nat_entries (get nat_cmp sums) sums.entries s (λ q c k. k))
      ∙ entries_are_sums_of (map (λ (e : ℕ × ℕ). (e.0, value_sum e.0 all)) sums.entries) now all
      (subst P (sym (same_keys (λ i. value_sum i all) sums.entries)) s)
      (λ q. found_by_key (λ i. value_sum i all) q sums.entries
      ∙ ap (λ b. cond b (Some (value_sum q all)) None) (ap is_some (held q) ∙ there_cases (has_key q now) (value_sum q now)))

-- what is kept at a time outside is of all that came then
pub content_now : (inside : Stamp → Bool) (t : Stamp) (came : List Arrival) → inside t ≡ false → (o : Option Sums)
    → IsContentOf holds_sums o (arrivals_at t (arrivals_inside (λ s. not (inside s)) came)) → IsContentOf holds_sums o (arrivals_at t came)
content_now inside t came out o h =
    let P : List Arrival → Type 0 = λ xs. IsContentOf holds_sums o xs in
    subst P (at-inside t (λ s. not (inside s)) came ∙ ap (λ b. cond (not b) (arrivals_at t came) []) out) h

-- ---- one rec more

more_cases : (r : Rec) (q : ℕ) (rs : List Rec) (b : Bool) → (r.key == q) ≡ b
    → cond b (Some (plus r.value (value_sum r.key rs))) (sum_at q rs)
    ≡ cond (b || has_key q rs) (Some (cond b (plus r.value (value_sum q rs)) (value_sum q rs))) None
more_cases r q rs true e = ap (λ k. Some (plus r.value (value_sum k rs))) (eqb-true r.key q e)
more_cases r q rs false e = refl

in_cond : (b : Bool) (n : ℕ) (o : Option (Option ℕ)) → total_in (cond b (Some (Some n)) o) ≡ cond b (Some n) (total_in o)
in_cond true n o = refl
in_cond false n o = refl

pub totals_more : (old new : BTreeMap ℕ (Option ℕ)) (r : Rec) (n : ℕ) (rs : List Rec) → HasTotals old rs → n ≡ plus r.value (value_sum r.key rs)
    → ((q : ℕ) → get nat_cmp new q ≡ cond (is_at (nat_cmp r.key) q) (Some (Some n)) (get nat_cmp old q)) → HasTotals new (r ∷ rs)
totals_more old new r n rs h e u = λ q.
    ap total_in (u q) ∙ in_cond (is_at (nat_cmp r.key) q) n (get nat_cmp old q)
    ∙ ap (λ b. cond b (Some n) (found old q)) (nat_cmp-test r.key q)
    ∙ ap (λ m. cond (r.key == q) (Some m) (found old q)) e
    ∙ ap (λ o. cond (r.key == q) (Some (plus r.value (value_sum r.key rs))) o) (h q)
    ∙ more_cases r q rs (r.key == q) refl

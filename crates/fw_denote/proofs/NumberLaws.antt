-- Maps of numbers by stamp and key: what a look-up finds, and the timed recs of the entries as a bag.
use Rattle.std.proofs.Common.{◌≡◌, ℕ, ◌+◌, ◌==◌, Bool, true, false, cond, List, [], ◌∷◌, reverse, map, Option, Some, None, refl, sym, ap, ◌∙◌, unwrap_or, arith}
use Rattle.std.specs.Prelude.{◌&&◌, ◌||◌, filter}
use Rattle.std.specs.List.{AllByRecursion}
use Rattle.std.specs.List.Sorted.{IsStrictlySortedBy}
use Rattle.std.specs.Map.{lookup, keys_of}
use Rattle.std.specs.declared.cmp.Ordering.{Ordering}
use Rattle.std.specs.declared.cmp.Ordering.TheVariants.{Less, Equal, Greater}
use Rattle.std.specs.Ordering.{is_eq, nat_cmp}
use Rattle.std.specs.Cmp.{IsTotalOrder}
use Rattle.std.specs.BTreeMap.{BTreeMap, get}
use Rattle.std.specs.BTreeMap as tree
use Rattle.std.proofs.lemmas.Bool.{and_parts, eqb-true}
use Rattle.std.proofs.lemmas.Cmp.{nat_cmp_total, nat_list_cmp_total, on_total, then_total}
use Rattle.std.proofs.lemmas.Map.Keys.{sorted_head, sorted_tail}
use Rattle.fw_lemmas.proofs.Orderings.{then_parts, nat_cmp-test}
use Rattle.fw_lemmas.proofs.Options.{found_or_none}
use Rattle.fw_time.specs.Stamp.{Stamp, leq, same, stamp_cmp}
use Rattle.fw_bag.specs.declared.rec.Rec.{Rec}
use Rattle.fw_bag.specs.Keyed.{plus, value_sum, has_key}
use Rattle.fw_flow.specs.WholeBags.{Timed, timed_where, in_order, sums_at, totals_at, distinct_stamps}
use Rattle.fw_model.proofs.StampLaws.{same-is}
use Rattle.fw_model.proofs.WeightLaws.{weigh, one, how_often-where}
use Rattle.fw_model.proofs.DistinctLaws.{stamp_cmp-test, same-swap}
use Rattle.fw_model.proofs.SumLaws.{AreSameBags, rec_cmp-test, sums-is, has_key-same, value_sum-same, sum-outputs, total-outputs}
use Rattle.fw_denote.specs.declared.keyed.Slot.{Slot}
use Rattle.fw_denote.specs.Numbers.{slot_cmp, slot_of, is_there, sum_of_slot, total_at, HasNumbers, entry_rec}
use Rattle.fw_denote.proofs.Counts.{one_bag, reversed-weigh}

-- ---- slots

pub slot_order : IsTotalOrder slot_cmp
slot_order = then_total (on_total (λ (s : Slot). s.at) nat_list_cmp_total) (on_total (λ (s : Slot). s.key) nat_cmp_total)

pub slot-test : (k s : Slot) → is_eq (slot_cmp k s) ≡ (same k.at s.at && (k.key == s.key))
slot-test k s =
    then_parts (stamp_cmp k.at s.at) (nat_cmp k.key s.key)
    ∙ ap (λ b. b && is_eq (nat_cmp k.key s.key)) (stamp_cmp-test k.at s.at)
    ∙ ap (λ b. same k.at s.at && b) (nat_cmp-test k.key s.key)

pub slot-is : (k s : Slot) → (same k.at s.at && (k.key == s.key)) ≡ true → k ≡ s
slot-is k s e =
    let a = and_parts (same k.at s.at) (k.key == s.key) e in
    let f : Stamp → Slot = λ t. record { at = t; key = k.key } in
    let g : ℕ → Slot = λ n. record { at = s.at; key = n } in
    ap f (same-is k.at s.at a.0) ∙ ap g (eqb-true k.key s.key a.1)

-- ---- one timed rec more

pub none_summed : (k : ℕ) (rs : List Rec) → has_key k rs ≡ false → value_sum k rs ≡ 0
none_summed k [] h = refl
none_summed k (r ∷ rs) h = cases (r.key == k) (none_summed k rs) h
  where
    cases : (b : Bool) → (has_key k rs ≡ false → value_sum k rs ≡ 0) → (b || has_key k rs) ≡ false
        → cond b (plus r.value (value_sum k rs)) (value_sum k rs) ≡ 0
    cases true ih e = cc
    cases false ih e = ih e

pub if-same : (b : Bool) (x y : ℕ) (o : Option ℕ) → (b ≡ true → x ≡ y) → cond b (Some x) o ≡ cond b (Some y) o
if-same true x y o h = ap (λ n. Some n) (h refl)
if-same false x y o h = refl

-- what is found at a key
abbrev found : ℕ → List Rec → Option ℕ
found key xs = cond (has_key key xs) (Some (value_sum key xs)) None

-- the sum at a slot after one more timed rec
sum_at-more : (r : Timed) (rs : List Timed) (s : Slot) (a b : Bool) → same s.at r.at ≡ a → (r.rec.key == s.key) ≡ b
    → cond (a && b) (Some (plus r.rec.value (sum_of_slot rs s))) (cond (is_there s rs) (Some (sum_of_slot rs s)) None)
    ≡ cond (is_there s (r ∷ rs)) (Some (sum_of_slot (r ∷ rs) s)) None
sum_at-more r rs s a b i j =
    by a b j ∙ sym (ap (λ c. found s.key (map (λ (x : Timed). x.rec) (cond c (r ∷ filter (λ (x : Timed). same s.at x.at) rs) (filter (λ (x : Timed). same s.at x.at) rs)))) i)
  where
    by : (a b : Bool) → (r.rec.key == s.key) ≡ b → cond (a && b) (Some (plus r.rec.value (sum_of_slot rs s))) (found s.key (timed_where (same s.at) rs))
        ≡ found s.key (map (λ (x : Timed). x.rec) (cond a (r ∷ filter (λ (x : Timed). same s.at x.at) rs) (filter (λ (x : Timed). same s.at x.at) rs)))
    by true true e = sym (ap (λ c. cond (c || is_there s rs) (Some (cond c (plus r.rec.value (sum_of_slot rs s)) (sum_of_slot rs s))) None) e)
    by true false e = sym (ap (λ c. cond (c || is_there s rs) (Some (cond c (plus r.rec.value (sum_of_slot rs s)) (sum_of_slot rs s))) None) e)
    by false b e = refl

-- a map in which the number of a timed rec's slot was raised by its value
pub sums_more : (old new : BTreeMap Slot ℕ) (r : Timed) (n : ℕ) (rs : List Timed)
    → n ≡ plus r.rec.value (unwrap_or (get slot_cmp old (slot_of r)) 0)
    → ((s : Slot) → get slot_cmp new s ≡ cond (is_eq (slot_cmp (slot_of r) s)) (Some n) (get slot_cmp old s))
    → HasNumbers old (sum_of_slot rs) rs → HasNumbers new (sum_of_slot (r ∷ rs)) (r ∷ rs)
sums_more old new r n rs e u h = λ s.
    let k = slot_of r in
    let raised : n ≡ plus r.rec.value (sum_of_slot rs k) =
    e ∙ ap (λ o. plus r.rec.value (unwrap_or o 0)) (h k)
    ∙ ap (plus r.rec.value) (found_or_none (is_there k rs) (sum_of_slot rs k) (none_summed k.key (timed_where (same k.at) rs))) in
    u s
    ∙ ap (λ b. cond b (Some n) (get slot_cmp old s)) (slot-test k s)
    ∙ if-same (same k.at s.at && (k.key == s.key)) n (plus r.rec.value (sum_of_slot rs s)) (get slot_cmp old s)
    (λ t. raised ∙ ap (λ (x : Slot). plus r.rec.value (sum_of_slot rs x)) (slot-is k s t))
    ∙ ap (λ b. cond (b && (r.rec.key == s.key)) (Some (plus r.rec.value (sum_of_slot rs s))) (get slot_cmp old s)) (same-swap k.at s.at)
    ∙ ap (λ o. cond (same s.at r.at && (r.rec.key == s.key)) (Some (plus r.rec.value (sum_of_slot rs s))) o) (h s)
    ∙ sum_at-more r rs s (same s.at r.at) (r.rec.key == s.key) refl refl

-- ---- from the end

at_stamp-reversed : (t : Stamp) (rs : List Timed) → AreSameBags (timed_where (same t) (reverse rs)) (timed_where (same t) rs)
at_stamp-reversed t rs = λ q. how_often-where t q (reverse rs) ∙ reversed-weigh (one t q) rs ∙ sym (how_often-where t q rs)

pub sums_all : (m : BTreeMap Slot ℕ) (rs : List Timed) → HasNumbers m (sum_of_slot (reverse rs)) (reverse rs) → HasNumbers m (sum_of_slot rs) rs
sums_all m rs h = λ s.
    let e = at_stamp-reversed s.at rs in
    h s ∙ ap (λ b. cond b (Some (sum_of_slot (reverse rs) s)) None) (has_key-same s.key _ _ e)
    ∙ ap (λ n. cond (is_there s rs) (Some n) None) (value_sum-same s.key _ _ e)

-- ---- the timed recs of the entries

none_above : (q : Slot) (es : List (Slot × ℕ)) → AllByRecursion (λ y. slot_cmp q y ≡ Less) (keys_of es) → lookup (tree.is_at (slot_cmp q)) es ≡ None
none_above q [] a = refl
none_above q (e ∷ es) a = ap (λ o. cond (is_eq o) (Some e.1) (lookup (tree.is_at (slot_cmp q)) es)) a.0 ∙ none_above q es a.1

-- 1 where the number is found
abbrev once : Option ℕ → ℕ → ℕ
once None v = 0
once (Some n) v = cond (v == n) 1 0

entry-one : (t : Stamp) (q : Rec) (e : Slot × ℕ) → one t q (entry_rec e) ≡ cond (is_eq (slot_cmp (record { at = t; key = q.key }) e.0)) (cond (q.value == e.1) 1 0) 0
unfolding one
entry-one t q e =
    ap {B = ℕ} (λ b. cond (same t e.0.at && b) 1 0) (rec_cmp-test q (record { key = e.0.key; value = e.1 }))
    ∙ split (same t e.0.at) (q.key == e.0.key) (q.value == e.1)
    ∙ sym (ap (λ b. cond b (cond (q.value == e.1) 1 0) 0) (slot-test (record { at = t; key = q.key }) e.0))
  where
    split : (a b c : Bool) → ◌≡◌ {A = ℕ} (cond (a && (b && c)) 1 0) (cond (a && b) (cond c 1 0) 0)
    split true true c = refl
    split true false c = refl
    split false b c = refl

entries-weigh : (t : Stamp) (q : Rec) (es : List (Slot × ℕ)) → IsStrictlySortedBy slot_cmp (keys_of es)
    → weigh (one t q) (map entry_rec es) ≡ once (lookup (tree.is_at (slot_cmp (record { at = t; key = q.key }))) es) q.value
unfolding weigh
entries-weigh t q [] s = refl
entries-weigh t q (e ∷ es) s =
    let ih = entries-weigh t q es (sorted_tail slot_cmp e.0 (keys_of es) s) in
    ap (λ n. n + weigh (one t q) (map entry_rec es)) (entry-one t q e)
    ∙ ap (λ n. cond (is_eq (slot_cmp k e.0)) (cond (q.value == e.1) 1 0) 0 + n) ih
    ∙ by (slot_cmp k e.0) refl
  where
    k : Slot
    k = record { at = t; key = q.key }

    above : slot_cmp k e.0 ≡ Equal → AllByRecursion (λ y. slot_cmp e.0 y ≡ Less) (keys_of es) → AllByRecursion (λ y. slot_cmp k y ≡ Less) (keys_of es)
    above i a = walk (keys_of es) a
      where
        walk : (ks : List Slot) → AllByRecursion (λ y. slot_cmp e.0 y ≡ Less) ks → AllByRecursion (λ y. slot_cmp k y ≡ Less) ks
        walk [] a = tt
        walk (y ∷ ys) a = (slot_order.congr k e.0 y i ∙ a.0, walk ys a.1)

    by : (o : Ordering) → slot_cmp k e.0 ≡ o
        → cond (is_eq o) (cond (q.value == e.1) 1 0) 0 + once (lookup (tree.is_at (slot_cmp k)) es) q.value
        ≡ once (cond (is_eq o) (Some e.1) (lookup (tree.is_at (slot_cmp k)) es)) q.value
    by Less i = omega arith
    by Greater i = omega arith
    by Equal i =
        let none = none_above k es (above i (sorted_head slot_cmp e.0 (keys_of es) s)) in
        let z : once (lookup (tree.is_at (slot_cmp k)) es) q.value ≡ 0 = ap (λ o. once o q.value) none in
        omega arith

once-found : (b : Bool) (n v : ℕ) → ◌≡◌ {A = ℕ} (once (cond b (Some n) None) v) (cond b (cond (v == n) 1 0) 0)
once-found true n v = refl
once-found false n v = refl

-- the timed recs of the entries of a map of numbers
numbers-weigh : (m : BTreeMap Slot ℕ) (number : Slot → ℕ) (rs : List Timed) → IsStrictlySortedBy slot_cmp (keys_of m.entries) → HasNumbers m number rs
    → (t : Stamp) (q : Rec) → weigh (one t q) (map entry_rec m.entries)
    ≡ cond (has_key q.key (timed_where (same t) rs)) (cond (q.value == number (record { at = t; key = q.key })) 1 0) 0
numbers-weigh m number rs s h t q =
    let k : Slot = record { at = t; key = q.key } in
    entries-weigh t q m.entries s
    ∙ ap (λ o. once o q.value) (h k)
    ∙ once-found (is_there k rs) (number k) q.value

-- the entries of a map of sums are what a sum sends
pub sums_sent : (m : BTreeMap Slot ℕ) (rs sent : List Timed) → IsStrictlySortedBy slot_cmp (keys_of m.entries) → HasNumbers m (sum_of_slot rs) rs
    → sent ≡ map entry_rec m.entries → in_order sent ≡ in_order (sums_at (distinct_stamps rs) rs)
sums_sent m rs sent s h e =
    one_bag sent (sums_at (distinct_stamps rs) rs) (record {
      weighs = λ t q.
          ap (weigh (one t q)) e ∙ numbers-weigh m (sum_of_slot rs) rs s h t q
          ∙ sym (sum-outputs t q rs ∙ sums-is q (timed_where (same t) rs) (timed_where (same t) rs));
    })

-- the entries of a map of totals are what a total sends
pub totals_sent : (m : BTreeMap Slot ℕ) (rs sent : List Timed) → IsStrictlySortedBy slot_cmp (keys_of m.entries) → HasNumbers m (total_at rs) rs
    → sent ≡ map entry_rec m.entries → in_order sent ≡ in_order (totals_at (distinct_stamps rs) rs)
totals_sent m rs sent s h e =
    one_bag sent (totals_at (distinct_stamps rs) rs) (record {
      weighs = λ t q.
          ap (weigh (one t q)) e ∙ numbers-weigh m (total_at rs) rs s h t q
          ∙ sym (total-outputs t q rs ∙ sums-is q (timed_where (same t) rs) (timed_where (λ u. leq u t) rs));
    })

-- What the table of a cross holds, as a list, and the table that holds such a list.
use Rattle.std.proofs.Common.{◌≡◌, ℕ, zero, suc, ◌+◌, ◌==◌, ◌++◌, ◌<◌, ◌≤◌, Bool, true, false, cond, not, List, [], ◌∷◌, Some, None, map, reverse, length, take, get_or, Vec, refl, sym, ap, ◌∙◌, arith}
use Rattle.std.specs.Prelude.{filter}
use Rattle.std.specs.Ordering.{nat_cmp, is_eq}
use Rattle.std.specs.declared.cmp.Ordering.TheVariants.{Less}
use Rattle.std.specs.List.{AllByRecursion, sum_by}
use Rattle.std.specs.List.Sorted.{IsStrictlySortedBy}
use Rattle.std.specs.Map.{keys_of, lookup}
use Rattle.std.specs.BTreeMap.{BTreeMap, is_at}
use Rattle.std.proofs.lemmas.Bool.{eqb-true, not-true}
use Rattle.std.proofs.Math.Seq.{take-suc}
use Rattle.std.proofs.lemmas.List.{map-append, reverse-append, take_all}
use Rattle.std.proofs.lemmas.List.Sums.{sum_by-cons, sum_by-append}
use Rattle.std.proofs.lemmas.List.Sorted.{sum_by-IsPermutation, IsPermutation-reverse}
use Rattle.std.proofs.lemmas.Map.Keys.{sorted_head, sorted_tail}
use Rattle.fw_lemmas.proofs.Each.{each-one, each-filter, each-weaker}
use Rattle.fw_lemmas.proofs.Filters.{filter-none, filter-inner}
use Rattle.fw_lemmas.proofs.Orderings.{nat_cmp-test}
use Rattle.fw_lemmas.proofs.Numbers.{eqb-sym, eqb-self}
use Rattle.fw_time.specs.Stamp.{Stamp}
use Rattle.fw_bag.specs.Arrivals.{Arrival, arrivals_inside}
use Rattle.fw_keyed.specs.Sides.{is_left, AreOfTwo}
use Rattle.fw_paired.specs.declared.cross.Cross.{Cross}
use Rattle.fw_paired.specs.declared.held.HeldRec.{HeldRec}
use Rattle.fw_paired.specs.declared.pair.StampedValue.{StampedValue}
use Rattle.fw_paired.specs.Bags.{AreReordered}
use Rattle.fw_paired.specs.Cross.{HasArrivals, IsCross, arrival_of, held, held_entries, held_values, values_at}
use Rattle.fw_paired.specs.Pairs.{is_right, stamped_value, stamped_values}
use Rattle.fw_paired.proofs.WeightLaws.{weight-map, weight-filter, weight-same, weight-both}
use Rattle.fw_paired.proofs.PairLaws.{of_key, values-weigh}

-- ---- the entries of a map

none_there : {B : Type 0} (q : ℕ) (es : List (ℕ × B)) → AllByRecursion (λ k. (q == k) ≡ false) (keys_of es) → lookup (is_at (nat_cmp q)) es ≡ None
none_there q [] h = refl
none_there q (e ∷ es) h = ap (λ b. cond b (Some e.1) (lookup (is_at (nat_cmp q)) es)) (nat_cmp-test q e.0 ∙ h.0) ∙ none_there q es h.1

apart : (k q : ℕ) → nat_cmp k q ≡ Less → (k == q) ≡ false
apart k q h = sym (nat_cmp-test k q) ∙ ap is_eq h

-- nothing came where no key has a value
nothing-came : (came : List Arrival) → ((q : ℕ) → AreReordered (stamped_values q came) []) → came ≡ []
nothing-came [] h = refl
nothing-came (a ∷ came) h =
    let one : sum_by (λ (v : StampedValue). 1) (stamped_values a.rec.key (a ∷ came)) ≡ 0 = h a.rec.key (λ v. 1) in
    let weighed = values-weigh (λ v. 1) a.rec.key (a ∷ came) in
    let split = sum_by-cons (of_key (λ v. 1) a.rec.key) a came in
    let here : of_key (λ v. 1) a.rec.key a ≡ 1 = ap (λ b. cond b 1 0) (eqb-self a.rec.key) in
    absurd (omega arith)

module _ (side : ℕ) (test : Stamp → Bool) (w : HeldRec → ℕ) where
  -- what a value of a key weighs, as a held rec
  abbrev value_weight : ℕ → StampedValue → ℕ
  value_weight key v = cond (test v.at) (w (record { side = side; at = v.at; rec = record { key = key; value = v.value } })) 0

  -- what an arrival weighs, as a held rec
  abbrev arrival_weight : Arrival → ℕ
  arrival_weight a = cond (test a.at) (w (held a)) 0

  held-weigh : (came : List Arrival) → sum_by w (map held (arrivals_inside test came)) ≡ sum_by arrival_weight came
  held-weigh came = weight-map w held (arrivals_inside test came) ∙ weight-filter (λ a. w (held a)) (λ (a : Arrival). test a.at) came

  values-held : (key : ℕ) (vs : List StampedValue) → sum_by w (held_values side key test vs) ≡ sum_by (value_weight key) vs
  values-held key vs =
      weight-map w (λ (v : StampedValue). record { side = side; at = v.at; rec = record { key = key; value = v.value } }) (filter (λ (v : StampedValue). test v.at) vs)
      ∙ weight-filter (λ (v : StampedValue). w (record { side = side; at = v.at; rec = record { key = key; value = v.value } })) (λ (v : StampedValue). test v.at) vs

  of-key-same : (k : ℕ) (a : Arrival) → a.side ≡ side → (k == a.rec.key) ≡ true → arrival_weight a ≡ value_weight k (stamped_value a)
  of-key-same k a s e =
      ap (λ (h : HeldRec). cond (test a.at) (w h) 0)
      (λ i. record { side = s i; at = a.at; rec = record { key = sym (eqb-true k a.rec.key e) i; value = a.rec.value } })

  -- what came with a key, and what came without it
  key-weigh : (k : ℕ) (came : List Arrival) → AllByRecursion (λ (a : Arrival). a.side ≡ side) came
      → sum_by arrival_weight came
      ≡ sum_by (value_weight k) (stamped_values k came) + sum_by arrival_weight (filter (λ (a : Arrival). not (k == a.rec.key)) came)
  key-weigh k came s =
      weight-same arrival_weight (λ a. of_key (value_weight k) k a + cond (not (k == a.rec.key)) (arrival_weight a) 0) came
      (each-weaker (λ (a : Arrival). a.side ≡ side) _ came (λ a e. cases a e (k == a.rec.key) refl) s)
      ∙ weight-both (of_key (value_weight k) k) (λ a. cond (not (k == a.rec.key)) (arrival_weight a) 0) came
      ∙ ap (λ n. n + sum_by (λ (a : Arrival). cond (not (k == a.rec.key)) (arrival_weight a) 0) came) (sym (values-weigh (value_weight k) k came))
      ∙ ap (λ n. sum_by (value_weight k) (stamped_values k came) + n) (sym (weight-filter arrival_weight (λ (a : Arrival). not (k == a.rec.key)) came))
    where
      cases : (a : Arrival) → a.side ≡ side → (b : Bool) → (k == a.rec.key) ≡ b
          → arrival_weight a ≡ cond b (value_weight k (stamped_value a)) 0 + cond (not b) (arrival_weight a) 0
      cases a e true h = let g = of-key-same k a e h in omega arith
      cases a e false h = omega arith

module _ {A : Type 0} where
  -- look-ups of the other keys, where those of the first one are left out
  rest-has : (k : ℕ) (v : Vec StampedValue A) (es : List (ℕ × Vec StampedValue A)) (came : List Arrival)
      → AllByRecursion (λ q. nat_cmp k q ≡ Less) (keys_of es)
      → ((q : ℕ) → AreReordered (stamped_values q came) (values_at (lookup (is_at (nat_cmp q)) ((k, v) ∷ es))))
      → (q : ℕ) → AreReordered (stamped_values q (filter (λ (a : Arrival). not (k == a.rec.key)) came)) (values_at (lookup (is_at (nat_cmp q)) es))
  rest-has k v es came below h q u = cases (q == k) refl
    where
      cases : (b : Bool) → (q == k) ≡ b
          → sum_by u (stamped_values q (filter (λ (a : Arrival). not (k == a.rec.key)) came)) ≡ sum_by u (values_at (lookup (is_at (nat_cmp q)) es))
      cases true e =
          let same : q ≡ k = eqb-true q k e in
          let none : lookup (is_at (nat_cmp q)) es ≡ None =
          none_there q es (each-weaker (λ i. nat_cmp k i ≡ Less) (λ i. (q == i) ≡ false) (keys_of es) (λ i l. ap (λ j. j == i) same ∙ apart k i l) below) in
          let out : filter (λ (a : Arrival). q == a.rec.key) (filter (λ (a : Arrival). not (k == a.rec.key)) came) ≡ [] =
          filter-none (λ (a : Arrival). q == a.rec.key) (filter (λ (a : Arrival). not (k == a.rec.key)) came)
          (each-filter (λ (a : Arrival). (q == a.rec.key) ≡ false) (λ (a : Arrival). not (k == a.rec.key)) came
          (each-one _ came (λ a n. ap (λ j. j == a.rec.key) same ∙ not-true (k == a.rec.key) n))) in
          ap (λ (xs : List Arrival). sum_by u (map stamped_value xs)) out ∙ ap (λ o. sum_by u (values_at o)) (sym none)
      cases false e =
          let inner = filter-inner (λ (a : Arrival). q == a.rec.key) (λ (a : Arrival). not (k == a.rec.key)) came
          (each-one _ came (λ a h. ap not (ap (λ j. k == j) (sym (eqb-true q a.rec.key h)) ∙ eqb-sym k q ∙ e))) in
          ap (λ (xs : List Arrival). sum_by u (map stamped_value xs)) inner
          ∙ h q u ∙ ap (λ b. sum_by u (values_at (cond b (Some v) (lookup (is_at (nat_cmp q)) es)))) (nat_cmp-test q k ∙ e)

module _ {A : Type 0} (side : ℕ) (test : Stamp → Bool) (w : HeldRec → ℕ) where
  -- a map's entries hold what came
  pub entries_hold : (es : List (ℕ × Vec StampedValue A)) (came : List Arrival) → IsStrictlySortedBy nat_cmp (keys_of es)
      → AllByRecursion (λ (a : Arrival). a.side ≡ side) came
      → ((q : ℕ) → AreReordered (stamped_values q came) (values_at (lookup (is_at (nat_cmp q)) es)))
      → sum_by w (map held (arrivals_inside test came)) ≡ sum_by w (held_entries side test es)
  entries_hold [] came o s h = ap (λ (xs : List Arrival). sum_by w (map held (arrivals_inside test xs))) (nothing-came came h)
  entries_hold (e ∷ es) came o s h =
      let later : List Arrival = filter (λ (a : Arrival). not (e.0 == a.rec.key)) came in
      let sides : AllByRecursion (λ (a : Arrival). a.side ≡ side) later =
      each-filter (λ (a : Arrival). a.side ≡ side) (λ (a : Arrival). not (e.0 == a.rec.key)) came (each-weaker (λ (a : Arrival). a.side ≡ side) _ came (λ a x y. x) s) in
      let ih = entries_hold es later (sorted_tail nat_cmp e.0 (keys_of es) o) sides (rest-has e.0 e.1 es came (sorted_head nat_cmp e.0 (keys_of es) o) h) in
      let found : lookup (is_at (nat_cmp e.0)) (e ∷ es) ≡ Some e.1 =
      ap (λ b. cond b (Some e.1) (lookup (is_at (nat_cmp e.0)) es)) (nat_cmp-test e.0 e.0 ∙ eqb-self e.0) in
      held-weigh side test w came ∙ key-weigh side test w e.0 came s
      ∙ ap (λ n. n + sum_by (arrival_weight side test w) later) (h e.0 (value_weight side test w e.0) ∙ ap (λ o. sum_by (value_weight side test w e.0) (values_at o)) found ∙ sym (values-held side test w e.0 e.1.items))
      ∙ ap (λ n. sum_by w (held_values side e.0 test e.1.items) + n) (sym (held-weigh side test w later) ∙ ih)
      ∙ sym (sum_by-append w (held_values side e.0 test e.1.items) (held_entries side test es))

-- ---- both in-edges

left-sides : (came : List Arrival) → AllByRecursion (λ (a : Arrival). a.side ≡ 0) (filter is_left came)
left-sides came = each-filter (λ (a : Arrival). a.side ≡ 0) is_left came (each-one _ came (λ a e. eqb-true a.side 0 e))

right-sides : (came : List Arrival) → AreOfTwo came → AllByRecursion (λ (a : Arrival). a.side ≡ 1) (filter is_right came)
right-sides came o = each-filter (λ (a : Arrival). a.side ≡ 1) is_right came (each-weaker (λ (a : Arrival). a.side < 2) _ came (λ a l e. one a.side l e) o)
  where
    one : (n : ℕ) → n < 2 → not (n == 0) ≡ true → n ≡ 1
    one zero l e = absurd (cc)
    one (suc zero) l e = refl
    one (suc (suc n)) l e = absurd (omega arith)

-- what came on both in-edges, one after the other, is all that came
both-sides : (test : Stamp → Bool) (w : HeldRec → ℕ) (came : List Arrival)
    → sum_by w (map held (arrivals_inside test came))
    ≡ sum_by w (map held (arrivals_inside test (filter is_left came))) + sum_by w (map held (arrivals_inside test (filter is_right came)))
both-sides test w came =
    held-weigh 0 test w came
    ∙ weight-same g (λ a. cond (is_left a) (g a) 0 + cond (is_right a) (g a) 0) came (each-one _ came (λ a. cases (is_left a) (g a)))
    ∙ weight-both (λ a. cond (is_left a) (g a) 0) (λ a. cond (is_right a) (g a) 0) came
    ∙ ap (λ n. n + sum_by (λ a. cond (is_right a) (g a) 0) came) (sym (held-weigh 0 test w (filter is_left came) ∙ weight-filter g is_left came))
    ∙ ap (λ n. sum_by w (map held (arrivals_inside test (filter is_left came))) + n) (sym (held-weigh 0 test w (filter is_right came) ∙ weight-filter g is_right came))
  where
    g : Arrival → ℕ
    g a = cond (test a.at) (w (held a)) 0

    cases : (b : Bool) (n : ℕ) → n ≡ cond b n 0 + cond (not b) n 0
    cases true n = omega arith
    cases false n = omega arith

-- the entries of both maps of a table hold what came
pub table_holds : (cross : Cross) (test : Stamp → Bool) (came : List Arrival) → AreOfTwo came → IsCross cross came
    → IsStrictlySortedBy nat_cmp (keys_of cross.first.entries) → IsStrictlySortedBy nat_cmp (keys_of cross.second.entries)
    → AreReordered (map held (arrivals_inside test came)) (held_entries 0 test cross.first.entries ++ held_entries 1 test cross.second.entries)
table_holds cross test came o h l r w =
    both-sides test w came
    ∙ ap (λ n. n + sum_by w (map held (arrivals_inside test (filter is_right came))))
    (entries_hold 0 test w cross.first.entries (filter is_left came) l (left-sides came) h.first)
    ∙ ap (λ n. sum_by w (held_entries 0 test cross.first.entries) + n)
    (entries_hold 1 test w cross.second.entries (filter is_right came) r (right-sides came o) h.second)
    ∙ sym (sum_by-append w (held_entries 0 test cross.first.entries) (held_entries 1 test cross.second.entries))

-- ---- what came in another order

module _ {A : Type 0} (values : BTreeMap ℕ (Vec StampedValue A)) (side : Arrival → Bool) where
  pub has_reordered : (xs ys : List Arrival) → AreReordered (map held xs) (map held ys) → HasArrivals values (filter side xs) → HasArrivals values (filter side ys)
  has_reordered xs ys e h q w = sym (as_held ys) ∙ sym (e weight) ∙ as_held xs ∙ h q w
    where
      weight : HeldRec → ℕ
      weight x = cond (side (arrival_of x)) (of_key w q (arrival_of x)) 0

      as_held : (zs : List Arrival) → sum_by weight (map held zs) ≡ sum_by w (stamped_values q (filter side zs))
      as_held zs = weight-map weight held zs ∙ sym (weight-filter (of_key w q) side zs) ∙ sym (values-weigh w q (filter side zs))

-- a table of what came is one of the same in another order
pub cross_reordered : (cross : Cross) (xs ys : List Arrival) → AreReordered (map held xs) (map held ys) → IsCross cross xs → IsCross cross ys
cross_reordered cross xs ys e h = record {
  first = has_reordered cross.first is_left xs ys e h.first;
  second = has_reordered cross.second is_right xs ys e h.second;
}

-- these held recs, as what came, the latest first
abbrev pub came_of : List HeldRec → List Arrival
came_of hs = reverse (map arrival_of hs)

-- one more of them came last
pub came_more : (hs : List HeldRec) (i : ℕ) (x : HeldRec) → i < length hs → x ≡ get_or hs i x → came_of (take (i + 1) hs) ≡ arrival_of x ∷ came_of (take i hs)
came_more hs i x h e =
    let n : i + 1 ≡ suc i = omega arith in
    ap (λ k. came_of (take k hs)) n ∙ ap came_of (take-suc hs i x h)
    ∙ ap reverse (map-append arrival_of (take i hs) (get_or hs i x ∷ [])) ∙ reverse-append (map arrival_of (take i hs)) (arrival_of (get_or hs i x) ∷ [])
    ∙ ap (λ y. arrival_of y ∷ came_of (take i hs)) (sym e)

pub came_all : (hs : List HeldRec) (i : ℕ) → length hs ≤ i → came_of (take i hs) ≡ came_of hs
came_all hs i l = ap came_of (take_all i hs l)

held-came : (hs : List HeldRec) → AreReordered hs (map held (came_of hs))
held-came hs w =
    sym (weight-map w held (came_of hs) ∙ sum_by-IsPermutation (λ a. w (held a)) (map arrival_of hs) (came_of hs) (IsPermutation-reverse (map arrival_of hs))
    ∙ weight-map (λ a. w (held a)) arrival_of hs)

-- so a table of what is held is one of all that came
pub cross_of_held : (cross : Cross) (hs : List HeldRec) (came : List Arrival) → AreReordered (map held came) hs → IsCross cross (came_of hs) → IsCross cross came
cross_of_held cross hs came e h = cross_reordered cross (came_of hs) came (λ w. sym (e w ∙ held-came hs w)) h

-- The pairs that recs make as they come are all pairs.
use Rattle.std.proofs.Common.{◌≡◌, ℕ, ◌+◌, ◌==◌, Bool, true, false, cond, not, List, [], ◌∷◌, map, refl, sym, ap, ◌∙◌, arith}
use Rattle.std.specs.Prelude.{filter, ◌%◌, ◌^◌}
use Rattle.std.specs.List.{sum_by}
use Rattle.std.proofs.lemmas.Bool.{eqb-true}
use Rattle.std.proofs.lemmas.List.Sums.{sum_by-cons, sum_by-append}
use Rattle.fw_lemmas.proofs.Each.{each-one}
use Rattle.fw_lemmas.proofs.Filters.{filter-in, filter-out}
use Rattle.fw_lemmas.proofs.Numbers.{eqb-sym}
use Rattle.fw_time.specs.Stamp.{Stamp}
use Rattle.fw_bag.specs.declared.rec.Rec.{Rec}
use Rattle.fw_bag.specs.Arrivals.{Arrival}
use Rattle.fw_bag.specs.Keyed.{plus}
use Rattle.fw_keyed.specs.Sides.{is_left}
use Rattle.fw_paired.specs.declared.pair.Pair.{Pair}
use Rattle.fw_paired.specs.declared.pair.StampedValue.{StampedValue}
use Rattle.fw_paired.specs.Bags.{AreReordered}
use Rattle.fw_paired.specs.Pairs.{all_pairs, is_right, pair_of, pairs_made, pairs_with, stamped_value, stamped_values}
use Rattle.fw_paired.proofs.WeightLaws.{weight-map, weight-filter, weight-flat_map, weight-same, weight-both}

-- what an arrival weighs as one of these values
abbrev pub of_key : (StampedValue → ℕ) → ℕ → Arrival → ℕ
of_key w key a = cond (key == a.rec.key) (w (stamped_value a)) 0

pub values-weigh : (w : StampedValue → ℕ) (key : ℕ) (came : List Arrival) → sum_by w (stamped_values key came) ≡ sum_by (of_key w key) came
values-weigh w key came =
    weight-map w stamped_value (filter (λ (a : Arrival). key == a.rec.key) came)
    ∙ weight-filter (λ a. w (stamped_value a)) (λ (a : Arrival). key == a.rec.key) came

plus-swap : (x y : ℕ) → plus x y ≡ plus y x
plus-swap x y = let e : x + y ≡ y + x = omega arith in ap (λ n. n % 2 ^ 64) e

module _ (w : Pair → ℕ) where
  -- what a rec weighs with an arrival, if that has its key
  abbrev with_one : ℕ → Stamp → Rec → Arrival → ℕ
  with_one side t r b = of_key (λ v. w (pair_of side t r v)) r.key b

  with-weigh : (side : ℕ) (t : Stamp) (r : Rec) (came : List Arrival)
      → sum_by w (map (pair_of side t r) (stamped_values r.key came)) ≡ sum_by (with_one side t r) came
  with-weigh side t r came = weight-map w (pair_of side t r) (stamped_values r.key came) ∙ values-weigh (λ v. w (pair_of side t r v)) r.key came

  -- the arrivals of two in-edges weigh this together
  abbrev crossed_weight : List Arrival → List Arrival → ℕ
  crossed_weight ls rs = sum_by (λ (a : Arrival). sum_by (with_one 0 a.at a.rec) rs) ls

  all-weigh : (came : List Arrival) → sum_by w (all_pairs came) ≡ crossed_weight (filter is_left came) (filter is_right came)
  all-weigh came =
      weight-flat_map w (λ (a : Arrival). map (pair_of 0 a.at a.rec) (stamped_values a.rec.key (filter is_right came))) (filter is_left came)
      ∙ weight-same (λ (a : Arrival). sum_by w (map (pair_of 0 a.at a.rec) (stamped_values a.rec.key (filter is_right came))))
      (λ (a : Arrival). sum_by (with_one 0 a.at a.rec) (filter is_right came)) (filter is_left came)
      (each-one _ (filter is_left came) (λ a. with-weigh 0 a.at a.rec (filter is_right came)))

  -- of two arrivals of which the second is on the second in-edge, either one may come later
  swapped-pair : (side : ℕ) (a l : Arrival) → (side == 0) ≡ false → l.rec.key ≡ a.rec.key
      → pair_of 0 l.at l.rec (stamped_value a) ≡ pair_of side a.at a.rec (stamped_value l)
  swapped-pair side a l e k = λ i. record {
    first = cond (sym e i) a.at l.at;
    second = cond (sym e i) l.at a.at;
    rec = record { key = k i; value = plus-swap l.rec.value a.rec.value i };
  }

  either-weighs : (a l : Arrival) → (a.side == 0) ≡ false → with_one 0 l.at l.rec a ≡ with_one a.side a.at a.rec l
  either-weighs a l e = cases (l.rec.key == a.rec.key) refl ∙ ap (λ b. cond b (w (pair_of a.side a.at a.rec (stamped_value l))) 0) (eqb-sym l.rec.key a.rec.key)
    where
      cases : (b : Bool) → (l.rec.key == a.rec.key) ≡ b
          → cond b (w (pair_of 0 l.at l.rec (stamped_value a))) 0 ≡ cond b (w (pair_of a.side a.at a.rec (stamped_value l))) 0
      cases true k = ap w (swapped-pair a.side a l e (eqb-true l.rec.key a.rec.key k))
      cases false k = refl

  first-weighs : (a : Arrival) (came : List Arrival) → (a.side == 0) ≡ true
      → sum_by w (pairs_with a came) ≡ sum_by (with_one 0 a.at a.rec) (filter is_right came)
  first-weighs a came e =
      ap (λ (b : Bool). sum_by w (map (pair_of a.side a.at a.rec) (stamped_values a.rec.key (cond b (filter is_right came) (filter is_left came))))) e
      ∙ with-weigh a.side a.at a.rec (filter is_right came)
      ∙ ap (λ (n : ℕ). sum_by (with_one n a.at a.rec) (filter is_right came)) (eqb-true a.side 0 e)

  second-weighs : (a : Arrival) (came : List Arrival) → (a.side == 0) ≡ false
      → sum_by w (pairs_with a came) ≡ sum_by (λ (l : Arrival). with_one 0 l.at l.rec a) (filter is_left came)
  second-weighs a came e =
      ap (λ (b : Bool). sum_by w (map (pair_of a.side a.at a.rec) (stamped_values a.rec.key (cond b (filter is_right came) (filter is_left came))))) e
      ∙ with-weigh a.side a.at a.rec (filter is_left came)
      ∙ sym (weight-same (λ (l : Arrival). with_one 0 l.at l.rec a) (with_one a.side a.at a.rec) (filter is_left came)
      (each-one _ (filter is_left came) (λ l. either-weighs a l e)))

  -- one more on the second in-edge
  one-more : (a : Arrival) (ls rs : List Arrival)
      → crossed_weight ls (a ∷ rs) ≡ sum_by (λ (l : Arrival). with_one 0 l.at l.rec a) ls + crossed_weight ls rs
  one-more a ls rs =
      weight-same (λ (l : Arrival). sum_by (with_one 0 l.at l.rec) (a ∷ rs))
      (λ (l : Arrival). with_one 0 l.at l.rec a + sum_by (with_one 0 l.at l.rec) rs) ls
      (each-one _ ls (λ l. sum_by-cons (with_one 0 l.at l.rec) a rs))
      ∙ weight-both (λ (l : Arrival). with_one 0 l.at l.rec a) (λ (l : Arrival). sum_by (with_one 0 l.at l.rec) rs) ls

  -- one arrival more
  made-more : (a : Arrival) (came : List Arrival) → crossed_weight (filter is_left came) (filter is_right came) ≡ sum_by w (pairs_made came)
      → (b : Bool) → is_left a ≡ b
      → crossed_weight (filter is_left (a ∷ came)) (filter is_right (a ∷ came)) ≡ sum_by w (pairs_with a came) + sum_by w (pairs_made came)
  made-more a came ih true e =
      ap (λ ls. crossed_weight ls (filter is_right (a ∷ came))) (filter-in is_left a came e)
      ∙ ap (λ rs. crossed_weight (a ∷ filter is_left came) rs) (filter-out is_right a came (ap not e))
      ∙ sum_by-cons (λ (l : Arrival). sum_by (with_one 0 l.at l.rec) (filter is_right came)) a (filter is_left came)
      ∙ ap (λ n. n + crossed_weight (filter is_left came) (filter is_right came)) (sym (first-weighs a came e))
      ∙ ap (λ n. sum_by w (pairs_with a came) + n) ih
  made-more a came ih false e =
      ap (λ ls. crossed_weight ls (filter is_right (a ∷ came))) (filter-out is_left a came e)
      ∙ ap (λ rs. crossed_weight (filter is_left came) rs) (filter-in is_right a came (ap not e))
      ∙ one-more a (filter is_left came) (filter is_right came)
      ∙ ap (λ n. n + crossed_weight (filter is_left came) (filter is_right came)) (sym (second-weighs a came e))
      ∙ ap (λ n. sum_by w (pairs_with a came) + n) ih

  made-weigh : (came : List Arrival) → crossed_weight (filter is_left came) (filter is_right came) ≡ sum_by w (pairs_made came)
  made-weigh [] = refl
  made-weigh (a ∷ came) = made-more a came (made-weigh came) (is_left a) refl ∙ sym (sum_by-append w (pairs_with a came) (pairs_made came))

  made-all : (came : List Arrival) → sum_by w (all_pairs came) ≡ sum_by w (pairs_made came)
  made-all came = all-weigh came ∙ made-weigh came

-- in whatever order they come
pub pairs_are_all : (came : List Arrival) → AreReordered (all_pairs came) (pairs_made came)
pairs_are_all came w = made-all w came

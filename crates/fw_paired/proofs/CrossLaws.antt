-- The table of a cross: one arrival more, and what it answers.
use Rattle.std.proofs.Common.{◌≡◌, ℕ, ◌+◌, ◌==◌, ◌++◌, Bool, true, false, cond, not, List, [], ◌∷◌, Some, map, Vec, refl, sym, ap, ◌∙◌, subst, arith}
use Rattle.std.specs.Prelude.{filter}
use Rattle.std.specs.Ordering.{nat_cmp}
use Rattle.std.specs.List.{sum_by}
use Rattle.std.specs.BTreeMap.{BTreeMap, get, is_at}
use Rattle.std.proofs.lemmas.Bool.{eqb-true}
use Rattle.std.proofs.lemmas.List.Sums.{sum_by-cons, sum_by_push}
use Rattle.fw_lemmas.proofs.Filters.{filter-in, filter-out}
use Rattle.fw_lemmas.proofs.Orderings.{nat_cmp-test}
use Rattle.fw_lemmas.proofs.Numbers.{eqb-sym}
use Rattle.fw_time.specs.Stamp.{Stamp}
use Rattle.fw_bag.specs.declared.rec.Rec.{Rec}
use Rattle.fw_bag.specs.Arrivals.{Arrival, arrival}
use Rattle.fw_keyed.specs.Sides.{is_left}
use Rattle.fw_paired.specs.declared.cross.Cross.{Cross}
use Rattle.fw_paired.specs.declared.pair.StampedValue.{StampedValue}
use Rattle.fw_paired.specs.Bags.{AreReordered}
use Rattle.fw_paired.specs.Cross.{HasArrivals, IsCross, values_at}
use Rattle.fw_paired.specs.Pairs.{is_right, pair_of, pairs_with, stamped_value, stamped_values}
use Rattle.fw_paired.proofs.WeightLaws.{weight-map}

module _ {A : Type 0} (old new : BTreeMap ℕ (Vec StampedValue A)) where
  read-at : (k q : ℕ) (v : Vec StampedValue A) → ((q : ℕ) → get nat_cmp new q ≡ cond (is_at (nat_cmp k) q) (Some v) (get nat_cmp old q))
      → get nat_cmp new q ≡ cond (q == k) (Some v) (get nat_cmp old q)
  read-at k q v u = u q ∙ ap (λ b. cond b (Some v) (get nat_cmp old q)) (nat_cmp-test k q ∙ eqb-sym k q)

  -- a map in which the value of an arrival was put last at its key
  pub arrivals_more : (side : ℕ) (t : Stamp) (r : Rec) (v : Vec StampedValue A) (came : List Arrival) → HasArrivals old came
      → ((q : ℕ) → get nat_cmp new q ≡ cond (is_at (nat_cmp r.key) q) (Some v) (get nat_cmp old q))
      → v.items ≡ values_at (get nat_cmp old r.key) ++ record { at = t; value = r.value } ∷ []
      → HasArrivals new (arrival side t r ∷ came)
  arrivals_more side t r v came h u l = λ q w.
      cases w q (q == r.key) refl ∙ ap (λ o. sum_by w (values_at o)) (sym (read-at r.key q v u))
    where
      last : StampedValue
      last = record { at = t; value = r.value }

      cases : (w : StampedValue → ℕ) (q : ℕ) (b : Bool) → (q == r.key) ≡ b
          → sum_by w (map stamped_value (cond b (arrival side t r ∷ filter (λ (a : Arrival). q == a.rec.key) came) (filter (λ (a : Arrival). q == a.rec.key) came)))
          ≡ sum_by w (values_at (cond b (Some v) (get nat_cmp old q)))
      cases w q true e =
          let a = sum_by-cons w last (stamped_values q came) in
          let b = h q w in
          let c : sum_by w v.items ≡ sum_by w (values_at (get nat_cmp old q)) + w last =
          ap (sum_by w) l ∙ sum_by_push w (values_at (get nat_cmp old r.key)) last
          ∙ ap (λ k. sum_by w (values_at (get nat_cmp old k)) + w last) (sym (eqb-true q r.key e)) in
          omega arith
      cases w q false e = h q w

  -- the same, where these were the values at the key
  pub arrivals_pushed : (side : ℕ) (t : Stamp) (r : Rec) (v : Vec StampedValue A) (last : StampedValue) (vs : List StampedValue) (came : List Arrival)
      → HasArrivals old came
      → ((q : ℕ) → get nat_cmp new q ≡ cond (is_at (nat_cmp r.key) q) (Some v) (get nat_cmp old q))
      → values_at (get nat_cmp old r.key) ≡ vs → v.items ≡ vs ++ last ∷ [] → last.at ≡ t → last.value ≡ r.value
      → HasArrivals new (arrival side t r ∷ came)
  arrivals_pushed side t r v last vs came h u f l a b =
      arrivals_more side t r v came h u (l ∙ (λ i. sym f i ++ record { at = a i; value = b i } ∷ []))

  -- a map in which the values of a key were written back
  pub arrivals_same : (k : ℕ) (v : Vec StampedValue A) (vs : List StampedValue) (came : List Arrival) → HasArrivals old came
      → ((q : ℕ) → get nat_cmp new q ≡ cond (is_at (nat_cmp k) q) (Some v) (get nat_cmp old q))
      → values_at (get nat_cmp old k) ≡ vs → v.items ≡ vs
      → HasArrivals new came
  arrivals_same k v vs came h u f l = λ q w. cases w q (q == k) refl ∙ ap (λ o. sum_by w (values_at o)) (sym (read-at k q v u))
    where
      cases : (w : StampedValue → ℕ) (q : ℕ) (b : Bool) → (q == k) ≡ b
          → sum_by w (stamped_values q came) ≡ sum_by w (values_at (cond b (Some v) (get nat_cmp old q)))
      cases w q true e = h q w ∙ ap (λ i. sum_by w (values_at (get nat_cmp old i))) (eqb-true q k e) ∙ ap (sum_by w) (f ∙ sym l)
      cases w q false e = h q w

module _ {A : Type 0} (first second : BTreeMap ℕ (Vec StampedValue A)) (a : Arrival) (came : List Arrival) where
  -- an arrival more on the first in-edge
  pub more_first : (a.side == 0) ≡ true → HasArrivals first (a ∷ filter is_left came) → HasArrivals second (filter is_right came)
      → HasArrivals first (filter is_left (a ∷ came)) × HasArrivals second (filter is_right (a ∷ came))
  more_first e l r =
      let P : List Arrival → Type 0 = λ xs. HasArrivals first xs in
      let Q : List Arrival → Type 0 = λ xs. HasArrivals second xs in
      (subst P (sym (filter-in is_left a came e)) l, subst Q (sym (filter-out is_right a came (ap not e))) r)

  -- an arrival more on the second in-edge
  pub more_second : (a.side == 0) ≡ false → HasArrivals first (filter is_left came) → HasArrivals second (a ∷ filter is_right came)
      → HasArrivals first (filter is_left (a ∷ came)) × HasArrivals second (filter is_right (a ∷ came))
  more_second e l r =
      let P : List Arrival → Type 0 = λ xs. HasArrivals first xs in
      let Q : List Arrival → Type 0 = λ xs. HasArrivals second xs in
      (subst P (sym (filter-out is_left a came e)) l, subst Q (sym (filter-in is_right a came (ap not e))) r)

-- what the values of the other in-edge make with a rec are its pairs
pub answers : (cross : Cross) (side : ℕ) (t : Stamp) (r : Rec) (came : List Arrival) → IsCross cross came
    → AreReordered (pairs_with (arrival side t r) came)
    (map (pair_of side t r) (values_at (get nat_cmp (cond (side == 0) cross.second cross.first) r.key)))
answers cross side t r came h w = cases (side == 0)
  where
    cases : (b : Bool) → sum_by w (map (pair_of side t r) (stamped_values r.key (cond b (filter is_right came) (filter is_left came))))
        ≡ sum_by w (map (pair_of side t r) (values_at (get nat_cmp (cond b cross.second cross.first) r.key)))
    cases true =
        weight-map w (pair_of side t r) (stamped_values r.key (filter is_right came)) ∙ h.second r.key (λ v. w (pair_of side t r v))
        ∙ sym (weight-map w (pair_of side t r) (values_at (get nat_cmp cross.second r.key)))
    cases false =
        weight-map w (pair_of side t r) (stamped_values r.key (filter is_left came)) ∙ h.first r.key (λ v. w (pair_of side t r v))
        ∙ sym (weight-map w (pair_of side t r) (values_at (get nat_cmp cross.first r.key)))

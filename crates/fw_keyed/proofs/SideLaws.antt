-- Values by key: one rec more, and the pairs that a join makes.
use Rattle.std.proofs.Common.{◌≡◌, ℕ, zero, suc, ◌==◌, ◌++◌, Bool, true, false, cond, not, List, [], ◌∷◌, Option, Some, map, reverse, Vec, refl, sym, ap, ◌∙◌, subst, arith, inl, inr, ◌⊎◌}
use Rattle.std.specs.Ordering.{nat_cmp}
use Rattle.std.specs.List.{filter}
use Rattle.std.specs.BTreeMap.{BTreeMap, get, is_at}
use Rattle.std.proofs.lemmas.Bool.{eqb-true}
use Rattle.std.proofs.lemmas.Bool.Decides.{nat_tests}
use Rattle.std.proofs.lemmas.List.{reverse-append}
use Rattle.fw_bag.specs.declared.rec.Rec.{Rec}
use Rattle.fw_bag.specs.Keyed.{plus, joined_rec}
use Rattle.std.specs.Prelude.{◌<◌, ◌&&◌}
use Rattle.std.specs.List.{AllByRecursion}
use Rattle.fw_lemmas.proofs.Orderings.{nat_cmp-test}
use Rattle.fw_lemmas.proofs.Numbers.{eqb-sym}
use Rattle.fw_time.specs.Stamp.{Stamp, same}
use Rattle.fw_bag.specs.Arrivals.{Arrival, recs_where, arrivals_at}
use Rattle.fw_keyed.specs.Sides.{values_with, values_kept, HasValues, sums_with, is_left, recs_across, AreOfTwo}

module _ {A : Type 0} where
  step_cases : (r : Rec) (rs : List Rec) (v : Vec ℕ A) (o : Option (Vec ℕ A)) (q : ℕ)
      → reverse v.items ≡ r.value ∷ values_with r.key rs → values_kept o ≡ values_with q rs
      → (b : Bool) → (r.key == q) ≡ b
      → values_kept (cond b (Some v) o) ≡ map (λ (x : Rec). x.value) (cond b (r ∷ filter (λ (x : Rec). q == x.key) rs) (filter (λ (x : Rec). q == x.key) rs))
  step_cases r rs v o q h k true e = h ∙ ap (λ i. r.value ∷ values_with i rs) (eqb-true r.key q e)
  step_cases r rs v o q h k false e = k

  -- a map in which the value of a rec was put last at its key
  pub values_more : (old new : BTreeMap ℕ (Vec ℕ A)) (r : Rec) (v : Vec ℕ A) (rs : List Rec) → HasValues old rs
      → ((q : ℕ) → get nat_cmp new q ≡ cond (is_at (nat_cmp r.key) q) (Some v) (get nat_cmp old q))
      → reverse v.items ≡ r.value ∷ values_kept (get nat_cmp old r.key)
      → HasValues new (r ∷ rs)
  values_more old new r v rs h u l = λ q.
      ap values_kept (u q ∙ ap (λ b. cond b (Some v) (get nat_cmp old q)) (nat_cmp-test r.key q))
      ∙ step_cases r rs v (get nat_cmp old q) q (l ∙ ap (λ vs. r.value ∷ vs) (h r.key)) (h q) (r.key == q) refl
      ∙ ap (λ b. map (λ (x : Rec). x.value) (cond b (r ∷ filter (λ (x : Rec). q == x.key) rs) (filter (λ (x : Rec). q == x.key) rs))) (eqb-sym r.key q)

  same_cases : (rs : List Rec) (k : ℕ) (v : Vec ℕ A) (o : Option (Vec ℕ A)) (q : ℕ)
      → reverse v.items ≡ values_with k rs → values_kept o ≡ values_with q rs
      → (b : Bool) → (k == q) ≡ b → values_kept (cond b (Some v) o) ≡ values_with q rs
  same_cases rs k v o q h l true e = h ∙ ap (λ i. values_with i rs) (eqb-true k q e)
  same_cases rs k v o q h l false e = l

  -- a map in which the values of a key were written back
  pub values_same : (old new : BTreeMap ℕ (Vec ℕ A)) (k : ℕ) (v : Vec ℕ A) (rs : List Rec) → HasValues old rs
      → ((q : ℕ) → get nat_cmp new q ≡ cond (is_at (nat_cmp k) q) (Some v) (get nat_cmp old q))
      → reverse v.items ≡ values_kept (get nat_cmp old k)
      → HasValues new rs
  values_same old new k v rs h u l = λ q.
      ap values_kept (u q ∙ ap (λ b. cond b (Some v) (get nat_cmp old q)) (nat_cmp-test k q))
      ∙ same_cases rs k v (get nat_cmp old q) q (l ∙ h k) (h q) (k == q) refl

-- the latest value comes first
pub reverse_last : (vs : List ℕ) (x : ℕ) → reverse (vs ++ x ∷ []) ≡ x ∷ reverse vs
reverse_last vs x = reverse-append vs (x ∷ [])

joined_cases : (r x : Rec) (xs : List Rec) → joined_rec r xs ≡ sums_with r (values_with r.key xs) → (b : Bool)
    → map (λ (y : Rec). record { key = r.key; value = plus r.value y.value }) (cond b (x ∷ filter (λ (y : Rec). r.key == y.key) xs) (filter (λ (y : Rec). r.key == y.key) xs))
    ≡ sums_with r (map (λ (y : Rec). y.value) (cond b (x ∷ filter (λ (y : Rec). r.key == y.key) xs) (filter (λ (y : Rec). r.key == y.key) xs)))
joined_cases r x xs ih true = ap (λ rs. record { key = r.key; value = plus r.value x.value } ∷ rs) ih
joined_cases r x xs ih false = ih

-- a join pairs the rec with each value of its key
pub joined_values : (r : Rec) (xs : List Rec) → joined_rec r xs ≡ sums_with r (values_with r.key xs)
joined_values r [] = refl
joined_values r (x ∷ xs) = joined_cases r x xs (joined_values r xs) (r.key == x.key)

-- ---- two sides

pub recs_with : (test : Arrival → Bool) (a : Arrival) (came : List Arrival) → test a ≡ true → recs_where test (a ∷ came) ≡ a.rec ∷ recs_where test came
recs_with test a came h = ap (λ b. cond b (a.rec ∷ recs_where test came) (recs_where test came)) h

pub recs_without : (test : Arrival → Bool) (a : Arrival) (came : List Arrival) → test a ≡ false → recs_where test (a ∷ came) ≡ recs_where test came
recs_without test a came h = ap (λ b. cond b (a.rec ∷ recs_where test came) (recs_where test came)) h

abbrev pub is_right : Arrival → Bool
is_right a = not (is_left a)

module _ {A : Type 0} (left right : BTreeMap ℕ (Vec ℕ A)) (a : Arrival) (came : List Arrival) where
  -- a rec more on the first side
  pub more_left : is_left a ≡ true → HasValues left (a.rec ∷ recs_where is_left came) → HasValues right (recs_where is_right came)
      → HasValues left (recs_where is_left (a ∷ came)) × HasValues right (recs_where is_right (a ∷ came))
  more_left h l r =
      let P : List Rec → Type 0 = λ rs. HasValues left rs in
      let Q : List Rec → Type 0 = λ rs. HasValues right rs in
      (subst P (sym (recs_with is_left a came h)) l, subst Q (sym (recs_without is_right a came (ap not h))) r)

  -- a rec more on the second side
  pub more_right : is_left a ≡ false → HasValues left (recs_where is_left came) → HasValues right (a.rec ∷ recs_where is_right came)
      → HasValues left (recs_where is_left (a ∷ came)) × HasValues right (recs_where is_right (a ∷ came))
  more_right h l r =
      let P : List Rec → Type 0 = λ rs. HasValues left rs in
      let Q : List Rec → Type 0 = λ rs. HasValues right rs in
      (subst P (sym (recs_without is_left a came h)) l, subst Q (sym (recs_with is_right a came (ap not h))) r)

at_cases : (p q : Arrival → Bool) (t : Stamp) (a : Arrival) (came : List Arrival) → p a ≡ q a
    → recs_where p (arrivals_at t came) ≡ recs_where (λ b. q b && same b.at t) came
    → (d e : Bool) → q a ≡ d → same a.at t ≡ e
    → recs_where p (cond e (a ∷ arrivals_at t came) (arrivals_at t came))
    ≡ cond (d && e) (a.rec ∷ recs_where (λ b. q b && same b.at t) came) (recs_where (λ b. q b && same b.at t) came)
at_cases p q t a came h ih true true k l = recs_with p a (arrivals_at t came) (h ∙ k) ∙ ap (λ rs. a.rec ∷ rs) ih
at_cases p q t a came h ih false true k l = recs_without p a (arrivals_at t came) (h ∙ k) ∙ ih
at_cases p q t a came h ih true false k l = ih
at_cases p q t a came h ih false false k l = ih

-- of what came at a stamp, the recs that pass one of two tests that agree
pub sides_at : (p q : Arrival → Bool) (t : Stamp) (came : List Arrival) → AllByRecursion (λ (a : Arrival). p a ≡ q a) came
    → recs_where p (arrivals_at t came) ≡ recs_where (λ b. q b && same b.at t) came
sides_at p q t [] h = refl
sides_at p q t (a ∷ came) h = at_cases p q t a came h.0 (sides_at p q t came h.1) (q a) (same a.at t) refl refl

-- where there are two sides, the first is the other of the second
pub left_is_other : (came : List Arrival) → AreOfTwo came → AllByRecursion (λ (a : Arrival). is_left a ≡ not (a.side == 1)) came
left_is_other [] h = tt
left_is_other (a ∷ came) h = (of_two a.side h.0, left_is_other came h.1)
  where
    of_two : (n : ℕ) → n < 2 → (n == 0) ≡ not (n == 1)
    of_two n l = grind (arith, nat_tests)

-- and the second of the first
pub right_is_other : (came : List Arrival) → AllByRecursion (λ (a : Arrival). is_right a ≡ not (a.side == 0)) came
right_is_other [] = tt
right_is_other (a ∷ came) = (refl, right_is_other came)

two : (n : ℕ) → n < 2 → (n ≡ 0) ⊎ (n ≡ 1)
two zero h = inl refl
two (suc zero) h = inr refl
two (suc (suc n)) h = absurd (omega arith)

-- the values of a key on the other side, by what each side has
pub values_are : (side key : ℕ) (t : Stamp) (came : List Arrival) (vs : List ℕ) → side < 2 → AreOfTwo came
    → (side ≡ 1 → vs ≡ values_with key (recs_where is_left (arrivals_at t came)))
    → (side ≡ 0 → vs ≡ values_with key (recs_where is_right (arrivals_at t came)))
    → vs ≡ values_with key (recs_across side t came)
values_are side key t came vs l o h k = elim (two side l) [
  | inl e ↦
      k e ∙ ap (values_with key) (sides_at is_right (λ a. not (a.side == 0)) t came (right_is_other came))
      ∙ ap (λ i. values_with key (recs_across i t came)) (sym e)
  | inr e ↦
      h e ∙ ap (values_with key) (sides_at is_left (λ a. not (a.side == 1)) t came (left_is_other came o))
      ∙ ap (λ i. values_with key (recs_across i t came)) (sym e)
]

-- what is sent, from the values of the key
pub joins_are : (r : Rec) (vs : List ℕ) (rs : List Rec) → vs ≡ values_with r.key rs → sums_with r vs ≡ joined_rec r rs
joins_are r vs rs h = ap (sums_with r) h ∙ sym (joined_values r rs)

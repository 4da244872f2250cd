-- What the answers of comparisons say.
use Rattle.std.proofs.Common.{◌≡◌, true, refl, false, List, [], ◌∷◌, ap, ◌∙◌, ◌&&◌, ℕ, ◌==◌, arith, ◌<◌, nat_lt, cond, inl, inr}
use Rattle.std.specs.Cmp.Lexicographic.{slice_cmp}
use Rattle.std.specs.Cmp.{IsTotalOrder}
use Rattle.std.specs.Ordering.{is_eq, is_le, is_gt, ordering_then, ordering_reverse, nat_cmp, eq_by_cmp}
use Rattle.std.specs.declared.cmp.Ordering.TheVariants.{Less, Equal, Greater}
use Rattle.std.specs.declared.cmp.Ordering.{Ordering}
use Rattle.std.proofs.lemmas.Bool.Decides.{nat_tests}
use Rattle.std.proofs.lemmas.Bool.{cond-true, lt-ltb, cases_Bool, cond-false, ltb-true, eqb-true}

pub equal_from_is_eq : (o : Ordering) → is_eq o ≡ true → o ≡ Equal
equal_from_is_eq Less h = cc
equal_from_is_eq Equal h = refl
equal_from_is_eq Greater h = cc

pub le_not_gt : (o : Ordering) → is_le o ≡ true → is_gt o ≡ false
le_not_gt Less h = refl
le_not_gt Equal h = refl
le_not_gt Greater h = cc

pub not_gt_le : (o : Ordering) → is_gt o ≡ false → is_le o ≡ true
not_gt_le Less h = refl
not_gt_le Equal h = refl
not_gt_le Greater h = cc

pub gt_of : (o : Ordering) → is_le o ≡ false → o ≡ Greater
gt_of Less h = cc
gt_of Equal h = cc
gt_of Greater h = refl

-- what two comparisons one after the other find equal, each finds equal
pub then_equal : (o p : Ordering) → ordering_then o p ≡ Equal → (o ≡ Equal) × (p ≡ Equal)
then_equal Less p h = cc
then_equal Equal p h = (refl, h)
then_equal Greater p h = cc

-- lists that are found equal are one, where their elements are
pub slice_cmp-same : {A : Type 0} (R : A → A → Ordering) → ((x y : A) → R x y ≡ Equal → x ≡ y) → (xs ys : List A) → slice_cmp R xs ys ≡ Equal → xs ≡ ys
slice_cmp-same R h [] [] e = refl
slice_cmp-same R h [] (y ∷ ys) e = cc
slice_cmp-same R h (x ∷ xs) [] e = cc
slice_cmp-same R h (x ∷ xs) (y ∷ ys) e =
    let a = then_equal (R x y) (slice_cmp R xs ys) e in
    ap (λ z. z ∷ xs) (h x y a.0) ∙ ap (λ zs. y ∷ zs) (slice_cmp-same R h xs ys a.1)

-- two comparisons one after the other find equal what both do
pub then_parts : (o p : Ordering) → is_eq (ordering_then o p) ≡ (is_eq o && is_eq p)
then_parts Less p = refl
then_parts Equal p = refl
then_parts Greater p = refl

-- what the first finds greater stays so
pub gt_then : (o p : Ordering) → is_gt o ≡ true → is_gt (ordering_then o p) ≡ true
gt_then Less p k = cc
gt_then Equal p k = cc
gt_then Greater p k = refl

-- elements of which neither is greater are tied
pub tied : {K : Type 0} {R : K → K → Ordering} → IsTotalOrder R → (x y : K) → is_gt (R x y) ≡ false → is_gt (R y x) ≡ false → R x y ≡ Equal
tied {R} o x y h k = by (R x y) (R y x) (o.antisymm x y) h k
  where
    by : (a b : Ordering) → a ≡ ordering_reverse b → is_gt a ≡ false → is_gt b ≡ false → a ≡ Equal
    by Less Less e h k = absurd (cc)
    by Less Equal e h k = absurd (cc)
    by Less Greater e h k = absurd (cc)
    by Equal b e h k = refl
    by Greater b e h k = absurd (cc)

pub equal_by_cmp : (q k : ℕ) → eq_by_cmp nat_cmp q k ≡ (k == q)
equal_by_cmp q k = grind (arith, nat_tests)

-- numbers that are found equal, by the test
pub nat_cmp-test : (k q : ℕ) → is_eq (nat_cmp k q) ≡ (k == q)
nat_cmp-test k q = grind (arith, nat_tests)

pub nat_cmp-less : (n k : ℕ) → n < k → nat_cmp n k ≡ Less
nat_cmp-less n k h = cond-true (nat_lt n k) Less (cond (n == k) Equal Greater) (lt-ltb n k h)

pub nat_cmp-greater : (k n : ℕ) → n < k → nat_cmp k n ≡ Greater
nat_cmp-greater k n l = elim (cases_Bool (nat_lt k n)) [
  | inl e ↦ let m = ltb-true k n e in absurd (omega arith)
  | inr e ↦ cond-false (nat_lt k n) Less (cond (k == n) Equal Greater) e ∙ (elim (cases_Bool (k == n)) [
    | inl f ↦ let i = eqb-true k n f in absurd (omega arith)
    | inr f ↦ cond-false (k == n) Equal Greater f
  ])
]

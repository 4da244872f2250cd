-- The laws of the order of recs.
use Rattle.std.proofs.Common.{◌≡◌, ℕ, true, false, refl, ap, ◌∙◌, subst}
use Rattle.std.proofs.lemmas.Cmp.{nat_cmp_total, on_total, then_total, tied_itself, upto}
use Rattle.std.proofs.lemmas.Map.Lookups.{exact_unsigned}
use Rattle.std.specs.Cmp.{IsTotalOrder}
use Rattle.std.specs.declared.cmp.Ordering.{Ordering}
use Rattle.std.specs.declared.cmp.Ordering.TheVariants.{Less, Equal, Greater}
use Rattle.std.specs.Ordering.{nat_cmp, ordering_reverse, is_eq, is_le, is_gt}
use Rattle.fw_lemmas.proofs.Orderings.{equal_from_is_eq, le_not_gt, not_gt_le, gt_of, then_equal}
use Rattle.fw_bag.specs.declared.rec.Rec.{Rec}
use Rattle.fw_bag.specs.Rec.{rec_cmp}

-- the order of recs is total
pub rec_order : IsTotalOrder rec_cmp
rec_order = then_total (on_total (λ (r : Rec). r.key) nat_cmp_total) (on_total (λ (r : Rec). r.value) nat_cmp_total)

-- recs of which neither is less are equal
pub rec_cmp-same : (x y : Rec) → rec_cmp x y ≡ Equal → x ≡ y
rec_cmp-same x y h =
    let parts = then_equal (nat_cmp x.key y.key) (nat_cmp x.value y.value) h in
    let f : ℕ → Rec = λ n. record x { key = n } in
    let g : ℕ → Rec = λ n. record y { value = n } in
    ap f (exact_unsigned _ _ parts.0) ∙ ap g (exact_unsigned _ _ parts.1)

-- a rec equals itself
pub rec_cmp-refl : (x : Rec) → rec_cmp x x ≡ Equal
rec_cmp-refl x = tied_itself rec_order x

-- recs that the test finds equal are equal
pub is_eq-same : (x y : Rec) → is_eq (rec_cmp x y) ≡ true → x ≡ y
is_eq-same x y h = rec_cmp-same x y (equal_from_is_eq _ h)

-- the smaller of two recs, seen from the greater
pub gt_from_less : (x y : Rec) → rec_cmp x y ≡ Less → is_le (rec_cmp y x) ≡ false
gt_from_less x y h = ap is_le (rec_order.antisymm y x ∙ ap ordering_reverse h)

le_cases : (x y z : Rec) → rec_cmp x y ≡ Less → (o : Ordering) → rec_cmp y z ≡ o → is_le o ≡ true → rec_cmp x z ≡ Less
le_cases x y z l Less e h = rec_order.trans x y z l e
le_cases x y z l Equal e h = let P : Rec → Type 0 = λ r. rec_cmp x r ≡ Less in subst P (rec_cmp-same y z e) l
le_cases x y z l Greater e h = cc

-- what is less than a rec is less than each rec that is not less than that one
pub less-trans_le : (x y z : Rec) → rec_cmp x y ≡ Less → is_le (rec_cmp y z) ≡ true → rec_cmp x z ≡ Less
less-trans_le x y z l h = le_cases x y z l (rec_cmp y z) refl h

-- what is not greater, by the other test
pub is_gt-from_le : (x y : Rec) → is_le (rec_cmp x y) ≡ true → is_gt (rec_cmp x y) ≡ false
is_gt-from_le x y h = le_not_gt (rec_cmp x y) h

-- a greater rec, seen from the smaller
pub less_from_gt : (x y : Rec) → is_le (rec_cmp x y) ≡ false → rec_cmp y x ≡ Less
less_from_gt x y h = rec_order.antisymm y x ∙ ap ordering_reverse (gt_of (rec_cmp x y) h)

-- a rec that is greater is not equal
pub is_eq-from_gt : (x y : Rec) → is_le (rec_cmp x y) ≡ false → is_eq (rec_cmp x y) ≡ false
is_eq-from_gt x y h = ap is_eq (gt_of (rec_cmp x y) h)

-- what is at most a rec is at most each rec that is not less than that one
pub le-trans : (x y z : Rec) → is_le (rec_cmp x y) ≡ true → is_gt (rec_cmp y z) ≡ false → is_gt (rec_cmp x z) ≡ false
le-trans x y z h g = upto rec_order x y z (is_gt-from_le x y h) g

-- what is less than a rec equals none that is not less than that one
pub is_eq-from_less : (x y z : Rec) → rec_cmp x y ≡ Less → is_gt (rec_cmp y z) ≡ false → is_eq (rec_cmp x z) ≡ false
is_eq-from_less x y z l g = ap is_eq (less-trans_le x y z l (not_gt_le (rec_cmp y z) g))

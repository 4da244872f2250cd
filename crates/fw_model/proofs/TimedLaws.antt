-- The order of timed recs: a bag has one list in order, which the counts of its timed recs decide.
use Rattle.std.proofs.Common.{◌≡◌, ℕ, ◌+◌, Bool, true, false, cond, List, [], ◌∷◌, filter, refl, sym, ap, ◌∙◌, arith}
use Rattle.std.proofs.lemmas.Bool.{cond_both}
use Rattle.std.proofs.lemmas.Cmp.{nat_list_cmp_total, on_total, then_total, tied_itself}
use Rattle.std.specs.Cmp.{IsTotalOrder}
use Rattle.std.specs.declared.cmp.Ordering.TheVariants.{Equal}
use Rattle.std.specs.List.{AllByRecursion}
use Rattle.std.specs.Ordering.{is_eq, is_gt}
use Rattle.fw_lemmas.proofs.Each.{each-kept}
use Rattle.fw_lemmas.proofs.Orderings.{equal_from_is_eq, then_equal}
use Rattle.fw_bag.specs.declared.rec.Rec.{Rec}
use Rattle.fw_bag.specs.Rec.{rec_cmp}
use Rattle.fw_bag.proofs.RecLaws.{rec_order, rec_cmp-same}
use Rattle.fw_time.specs.Stamp.{Stamp, stamp_cmp}
use Rattle.fw_flow.specs.Counting.{how_many}
use Rattle.fw_flow.specs.WholeBags.{Timed, timed_cmp, with_timed, in_order}
use Rattle.fw_model.proofs.AscentLaws.{IsAscentOf, ascending-put, copy_by, each-put, not_above, put-weigh, same_by_copies}
use Rattle.fw_model.proofs.CmpLaws.{stamp_cmp-same}
use Rattle.fw_model.proofs.WeightLaws.{weigh}

-- ---- the order

-- the order of timed recs is total
pub timed_order : IsTotalOrder timed_cmp
timed_order = then_total (on_total (λ (x : Timed). x.at) nat_list_cmp_total) (on_total (λ (x : Timed). x.rec) rec_order)

-- timed recs of which neither is less are equal
pub timed_cmp-same : (x y : Timed) → timed_cmp x y ≡ Equal → x ≡ y
timed_cmp-same x y h =
    let parts = then_equal (stamp_cmp x.at y.at) (rec_cmp x.rec y.rec) h in
    let f : Stamp → Timed = λ t. record x { at = t } in
    let g : Rec → Timed = λ r. record y { rec = r } in
    ap f (stamp_cmp-same _ _ parts.0) ∙ ap g (rec_cmp-same _ _ parts.1)

-- a timed rec equals itself
pub timed_cmp-refl : (x : Timed) → timed_cmp x x ≡ Equal
timed_cmp-refl x = tied_itself timed_order x

-- timed recs that the test finds equal are equal
pub timed-same : (x y : Timed) → is_eq (timed_cmp x y) ≡ true → x ≡ y
timed-same x y h = timed_cmp-same x y (equal_from_is_eq _ h)

-- ---- ascending lists

-- no timed rec of the list is greater than a later one
unfoldable pub IsAscendingTimed : List Timed → Type 0
IsAscendingTimed [] = Unit {0}
IsAscendingTimed (x ∷ xs) = AllByRecursion (λ y. is_gt (timed_cmp x y) ≡ false) xs × IsAscendingTimed xs

pub ascending-nil : IsAscendingTimed []
unfolding IsAscendingTimed
ascending-nil = tt

pub ascending-cons : (x : Timed) (xs : List Timed) → AllByRecursion (λ y. is_gt (timed_cmp x y) ≡ false) xs → IsAscendingTimed xs → IsAscendingTimed (x ∷ xs)
unfolding IsAscendingTimed
ascending-cons x xs a b = (a, b)

pub timed_ascent : IsAscentOf timed_cmp with_timed IsAscendingTimed
unfolding IsAscendingTimed
timed_ascent = record {
  order = timed_order;
  equal = timed_cmp-same;
  alone = λ r. refl;
  among = λ r x xs. refl;
  none = tt;
  more = λ x xs above rest. (above, rest);
  parts = λ x xs a. a;
}

-- what holds of each timed rec holds of each in order
pub each-in_order : (P : Timed → Type 0) (xs : List Timed) → AllByRecursion P xs → AllByRecursion P (in_order xs)
each-in_order P [] a = tt
each-in_order P (x ∷ xs) a = each-put timed_ascent P x (in_order xs) a.0 (each-in_order P xs a.1)

-- a timed rec that is not greater than another is not greater than what that one is not greater than
pub above-weaker : (r x : Timed) (xs : List Timed) → is_gt (timed_cmp r x) ≡ false → AllByRecursion (λ y. is_gt (timed_cmp x y) ≡ false) xs
    → AllByRecursion (λ y. is_gt (timed_cmp r y) ≡ false) xs
above-weaker r x xs h a = not_above timed_ascent r x xs h a

-- what is in order ascends
pub ascending-in_order : (xs : List Timed) → IsAscendingTimed (in_order xs)
unfolding IsAscendingTimed
ascending-in_order [] = tt
ascending-in_order (x ∷ xs) = ascending-put timed_ascent x (in_order xs) (ascending-in_order xs)

-- what passes a test ascends
pub ascending-filter : (test : Timed → Bool) (xs : List Timed) → IsAscendingTimed xs → IsAscendingTimed (filter test xs)
unfolding IsAscendingTimed
ascending-filter test [] a = tt
ascending-filter test (x ∷ xs) a =
    cond_both (test x) (x ∷ filter test xs) (filter test xs) IsAscendingTimed
    (λ e. (each-kept (λ y. is_gt (timed_cmp x y) ≡ false) test xs a.0, ascending-filter test xs a.1)) (λ e. ascending-filter test xs a.1)

-- ---- how often a timed rec is in a list

-- how many timed recs of the list equal this one
abbrev pub how_often_timed : Timed → List Timed → ℕ
how_often_timed q xs = how_many (λ x. is_eq (timed_cmp q x)) xs

-- 1 where the test holds, and else 0
abbrev one_if : Bool → ℕ
one_if b = cond b 1 0

-- 1 where they are equal, and else 0
abbrev one_if_same : Timed → Timed → ℕ
one_if_same q x = one_if (is_eq (timed_cmp q x))

counted : (b : Bool) (n : ℕ) → cond b (n + 1) n ≡ n + one_if b
counted true n = refl
counted false n = omega arith

how_often-cons : (q x : Timed) (xs : List Timed) → how_often_timed q (x ∷ xs) ≡ how_often_timed q xs + one_if_same q x
how_often-cons q x xs = counted (is_eq (timed_cmp q x)) (how_often_timed q xs)

-- how often is what the list weighs by it
pub how_often-weigh : (q : Timed) (xs : List Timed) → how_often_timed q xs ≡ weigh (copy_by timed_cmp q) xs
unfolding weigh
how_often-weigh q [] = refl
how_often-weigh q (x ∷ xs) = omega (arith, how_often-cons q x xs, how_often-weigh q xs)

-- in order each timed rec is as often as before
pub how_often-in_order : (q : Timed) (xs : List Timed) → how_often_timed q (in_order xs) ≡ how_often_timed q xs
how_often-in_order q [] = refl
how_often-in_order q (x ∷ xs) =
    how_often-weigh q (with_timed x (in_order xs))
    ∙ omega (arith, put-weigh timed_ascent (copy_by timed_cmp q) x (in_order xs), how_often-weigh q (in_order xs), how_often-cons q x xs, how_often-in_order q xs)

-- two ascending lists that have each timed rec equally often are the same list
pub same_from_how_often : (xs ys : List Timed) → IsAscendingTimed xs → IsAscendingTimed ys
    → ((q : Timed) → how_often_timed q xs ≡ how_often_timed q ys) → xs ≡ ys
same_from_how_often xs ys s t h = same_by_copies timed_ascent xs ys s t (λ q. sym (how_often-weigh q xs) ∙ h q ∙ how_often-weigh q ys)

-- what ascends is in order
pub in_order-ascending : (xs : List Timed) → IsAscendingTimed xs → in_order xs ≡ xs
in_order-ascending xs a = same_from_how_often (in_order xs) xs (ascending-in_order xs) a (λ q. how_often-in_order q xs)

-- what is in order stays so
pub in_order-twice : (xs : List Timed) → in_order (in_order xs) ≡ in_order xs
in_order-twice xs = in_order-ascending (in_order xs) (ascending-in_order xs)

-- ---- what passes a test

-- what passes is as often as before
pub how_often-filter_in : (test : Timed → Bool) (q : Timed) (xs : List Timed) → test q ≡ true → how_often_timed q (filter test xs) ≡ how_often_timed q xs
how_often-filter_in test q [] k = refl
how_often-filter_in test q (x ∷ xs) k =
    cond_both (test x) (x ∷ filter test xs) (filter test xs) (λ ys. how_often_timed q ys ≡ how_often_timed q (x ∷ xs))
    (λ e. omega (arith, how_often-cons q x (filter test xs), how_often-cons q x xs, how_often-filter_in test q xs k))
    (λ e. omega (arith, how_often-cons q x xs, how_often-filter_in test q xs k, other (is_eq (timed_cmp q x)) refl e))
  where
    other : (b : Bool) → is_eq (timed_cmp q x) ≡ b → test x ≡ false → one_if b ≡ 0
    other true i e = let n = ap test (timed-same q x i) in absurd (cc)
    other false i e = refl

-- what does not pass is not there
pub how_often-filter_out : (test : Timed → Bool) (q : Timed) (xs : List Timed) → test q ≡ false → how_often_timed q (filter test xs) ≡ 0
how_often-filter_out test q [] k = refl
how_often-filter_out test q (x ∷ xs) k =
    cond_both (test x) (x ∷ filter test xs) (filter test xs) (λ ys. how_often_timed q ys ≡ 0)
    (λ e. omega (arith, how_often-cons q x (filter test xs), how_often-filter_out test q xs k, other (is_eq (timed_cmp q x)) refl e))
    (λ e. how_often-filter_out test q xs k)
  where
    other : (b : Bool) → is_eq (timed_cmp q x) ≡ b → test x ≡ true → one_if b ≡ 0
    other true i e = let n = ap test (timed-same q x i) in absurd (cc)
    other false i e = refl

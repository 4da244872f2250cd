-- Bags of timed recs as their counts.
use Rattle.std.proofs.Common.{◌≡◌, ℕ, suc, ◌+◌, ◌<◌, Bool, false, List, [], ◌∷◌, length, reverse, take, get_or, refl, sym, ap, ◌∙◌, arith}
use Rattle.std.specs.List.{AllByRecursion, fold}
use Rattle.std.specs.List.Sorted.{IsPermutation, IsSortedBy, IsSorted}
use Rattle.std.specs.Ordering.{is_gt, is_lt, ordering_reverse}
use Rattle.std.specs.declared.cmp.Ordering.{Ordering}
use Rattle.std.specs.declared.cmp.Ordering.TheVariants.{Less, Equal, Greater}
use Rattle.std.proofs.lemmas.List.Sorted.{sum_by-IsPermutation, IsPermutation-reverse}
use Rattle.std.proofs.lemmas.List.{reverse-append}
use Rattle.std.proofs.Math.Seq.{take-suc}
use Rattle.fw_time.specs.Stamp.{Stamp}
use Rattle.fw_bag.specs.declared.rec.Rec.{Rec}
use Rattle.fw_flow.specs.WholeBags.{Timed, timed_cmp, in_order}
use Rattle.fw_model.proofs.TimedLaws.{timed_order, IsAscendingTimed, ascending-nil, ascending-cons, ascending-in_order, above-weaker, how_often-in_order, same_from_how_often, in_order-ascending, in_order-twice}
use Rattle.fw_model.proofs.DistinctLaws.{how_often_timed-one}
use Rattle.fw_model.proofs.WeightLaws.{weigh, one}

-- each timed rec is equally often in both
pub record AreOneBag (xs ys : List Timed) : Type 0 where
  pub weighs : (t : Stamp) (q : Rec) → weigh (one t q) xs ≡ weigh (one t q) ys

-- one bag has one list in order
pub one_bag : (xs ys : List Timed) → AreOneBag xs ys → in_order xs ≡ in_order ys
one_bag xs ys h =
    same_from_how_often (in_order xs) (in_order ys) (ascending-in_order xs) (ascending-in_order ys)
    (λ q. how_often-in_order q xs ∙ how_often_timed-one q xs ∙ h.weighs q.at q.rec ∙ sym (how_often_timed-one q ys) ∙ sym (how_often-in_order q ys))

pub in_order_again : (xs : List Timed) → in_order (in_order xs) ≡ in_order xs
in_order_again xs = in_order-twice xs

-- ---- what a sort gives

weighed-from : (w : Timed → ℕ) (n : ℕ) (xs : List Timed) → fold (λ a x. a + w x) n xs ≡ n + weigh w xs
unfolding weigh
weighed-from w n [] = omega arith
weighed-from w n (x ∷ xs) = let h = weighed-from w (n + w x) xs in omega arith

permuted-weigh : (w : Timed → ℕ) (xs ys : List Timed) → IsPermutation xs ys → weigh w ys ≡ weigh w xs
permuted-weigh w xs ys p =
    let a = weighed-from w 0 xs in
    let b = weighed-from w 0 ys in
    let c = sum_by-IsPermutation w xs ys p in
    omega arith

permuted : (xs ys : List Timed) → IsPermutation xs ys → AreOneBag ys xs
permuted xs ys p = record { weighs = λ t q. permuted-weigh (one t q) xs ys p }

-- a list weighs what it weighs from its end
pub reversed-weigh : (w : Timed → ℕ) (xs : List Timed) → weigh w (reverse xs) ≡ weigh w xs
reversed-weigh w xs = permuted-weigh w xs (reverse xs) (IsPermutation-reverse xs)

-- ---- what a loop has come past, the latest first

pub past-more : (xs : List Timed) (i : ℕ) (d : Timed) → i < length xs → reverse (take (i + 1) xs) ≡ get_or xs i d ∷ reverse (take i xs)
past-more xs i d h =
    let e : i + 1 ≡ suc i = omega arith in
    ap (λ n. reverse (take n xs)) e ∙ ap reverse (take-suc xs i d h) ∙ reverse-append (take i xs) (get_or xs i d ∷ [])

not_lt : (o : Ordering) → is_lt o ≡ false → is_gt (ordering_reverse o) ≡ false
not_lt Less h = cc
not_lt Equal h = refl
not_lt Greater h = refl

abbrev before : Timed → Timed → Bool
before x y = is_lt (timed_cmp x y)

above-sorted : (x : Timed) (xs : List Timed) → ((y : Timed) (ys : List Timed) → xs ≡ y ∷ ys → before y x ≡ false) → IsAscendingTimed xs
    → AllByRecursion (λ y. is_gt (timed_cmp x y) ≡ false) xs
unfolding IsAscendingTimed
above-sorted x [] h a = tt
above-sorted x (y ∷ ys) h a =
    let g : is_gt (timed_cmp x y) ≡ false = ap is_gt (timed_order.antisymm x y) ∙ not_lt (timed_cmp y x) (h y ys refl) in
    (g, above-weaker x y ys g a.0)

ascending-sorted : (xs : List Timed) → IsSortedBy before xs → IsAscendingTimed xs
ascending-sorted [] s = ascending-nil
ascending-sorted (x ∷ xs) s =
    let rest = ascending-sorted xs
    (λ k d z h. let e : suc (k + 1) ≡ suc k + 1 = omega arith in
    ap (λ i. before (get_or (x ∷ xs) i d) (get_or xs k d)) e ∙ s (suc k) d (omega arith) (omega arith)) in
    ascending-cons x xs
    (above-sorted x xs
    (λ y ys e. let l : 0 + 1 < length (x ∷ xs) = let n = ap length e in omega arith in
    sym (ap (λ zs. before (get_or zs 0 x) x) e) ∙ s 0 x (omega arith) l) rest)
    rest

-- the list of a bag in order is found by sorting
pub sorted_list : (xs ys : List Timed) → IsPermutation xs ys → IsSorted timed_cmp ys → in_order xs ≡ ys
sorted_list xs ys p s = one_bag xs ys (record { weighs = λ t q. sym ((permuted xs ys p).weighs t q) }) ∙ in_order-ascending ys (ascending-sorted ys s)

-- the same, of the element that is found there
pub past-here : (xs : List Timed) (i : ℕ) (x : Timed) → i < length xs → x ≡ get_or xs i x → reverse (take (i + 1) xs) ≡ x ∷ reverse (take i xs)
past-here xs i x h e = past-more xs i x h ∙ ap (λ y. y ∷ reverse (take i xs)) (sym e)

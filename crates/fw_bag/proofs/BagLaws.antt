-- The laws of bags as lists of recs.
use Rattle.std.proofs.Common.{◌≡◌, ℕ, zero, suc, ◌+◌, ◌<◌, ◌≤◌, Bool, true, false, cond, List, [], ◌∷◌, length, refl, sym, ap, ◌∙◌, subst, inl, inr, arith}
use Rattle.std.proofs.lemmas.Bool.{cases_Bool, false≢true}
use Rattle.std.specs.declared.cmp.Ordering.{Ordering}
use Rattle.std.specs.declared.cmp.Ordering.TheVariants.{Less, Equal, Greater}
use Rattle.std.specs.List.{AllByRecursion}
use Rattle.std.specs.Ordering.{ordering_reverse, is_eq, is_le, is_gt}
use Rattle.fw_bag.specs.declared.rec.Rec.{Rec}
use Rattle.fw_bag.specs.Rec.{rec_cmp, IsAscending}
use Rattle.fw_bag.specs.Bag.{with_rec, without_rec, how_often, bag_sum}
use Rattle.fw_bag.proofs.RecLaws.{rec_order, rec_cmp-same, rec_cmp-refl, is_eq-same, gt_from_less, less_from_gt, less-trans_le, is_gt-from_le, is_eq-from_gt, is_eq-from_less, le-trans}

-- ---- a rec put in its place

-- before the first, where that is not less
pub with_rec-le : (r x : Rec) (xs : List Rec) → is_le (rec_cmp r x) ≡ true → with_rec r (x ∷ xs) ≡ r ∷ x ∷ xs
with_rec-le r x xs h = ap (λ b. cond b (r ∷ x ∷ xs) (x ∷ with_rec r xs)) h

-- after the first, where that is less
pub with_rec-gt : (r x : Rec) (xs : List Rec) → is_le (rec_cmp r x) ≡ false → with_rec r (x ∷ xs) ≡ x ∷ with_rec r xs
with_rec-gt r x xs h = ap (λ b. cond b (r ∷ x ∷ xs) (x ∷ with_rec r xs)) h

comm_cons : (x y : Rec) → rec_cmp x y ≡ Less → (z : Rec) (zs : List Rec) → with_rec x (with_rec y zs) ≡ with_rec y (with_rec x zs)
    → (b d : Bool) → is_le (rec_cmp y z) ≡ b → is_le (rec_cmp x z) ≡ d → with_rec x (with_rec y (z ∷ zs)) ≡ with_rec y (with_rec x (z ∷ zs))
comm_cons x y l z zs ih true d p q =
    let e : with_rec x (with_rec y (z ∷ zs)) ≡ x ∷ y ∷ z ∷ zs = ap (with_rec x) (with_rec-le y z zs p) ∙ with_rec-le x y (z ∷ zs) (ap is_le l) in
    let f : with_rec y (with_rec x (z ∷ zs)) ≡ x ∷ y ∷ z ∷ zs = ap (with_rec y) (with_rec-le x z zs (ap is_le (less-trans_le x y z l p))) ∙ with_rec-gt y x (z ∷ zs) (gt_from_less x y l) ∙ ap (λ ys. x ∷ ys) (with_rec-le y z zs p) in
    e ∙ sym f
comm_cons x y l z zs ih false true p q =
    let e : with_rec x (with_rec y (z ∷ zs)) ≡ x ∷ z ∷ with_rec y zs = ap (with_rec x) (with_rec-gt y z zs p) ∙ with_rec-le x z (with_rec y zs) q in
    let f : with_rec y (with_rec x (z ∷ zs)) ≡ x ∷ z ∷ with_rec y zs = ap (with_rec y) (with_rec-le x z zs q) ∙ with_rec-gt y x (z ∷ zs) (gt_from_less x y l) ∙ ap (λ ys. x ∷ ys) (with_rec-gt y z zs p) in
    e ∙ sym f
comm_cons x y l z zs ih false false p q =
    let e : with_rec x (with_rec y (z ∷ zs)) ≡ z ∷ with_rec x (with_rec y zs) = ap (with_rec x) (with_rec-gt y z zs p) ∙ with_rec-gt x z (with_rec y zs) q in
    let f : with_rec y (with_rec x (z ∷ zs)) ≡ z ∷ with_rec y (with_rec x zs) = ap (with_rec y) (with_rec-gt x z zs q) ∙ with_rec-gt y z (with_rec x zs) p in
    e ∙ ap (λ ys. z ∷ ys) ih ∙ sym f

comm_less : (x y : Rec) → rec_cmp x y ≡ Less → (zs : List Rec) → with_rec x (with_rec y zs) ≡ with_rec y (with_rec x zs)
comm_less x y l [] = with_rec-le x y [] (ap is_le l) ∙ sym (with_rec-gt y x [] (gt_from_less x y l))
comm_less x y l (z ∷ zs) = comm_cons x y l z zs (comm_less x y l zs) (is_le (rec_cmp y z)) (is_le (rec_cmp x z)) refl refl

comm_cases : (x y : Rec) (zs : List Rec) → (o : Ordering) → rec_cmp x y ≡ o → with_rec x (with_rec y zs) ≡ with_rec y (with_rec x zs)
comm_cases x y zs Less e = comm_less x y e zs
comm_cases x y zs Equal e = let P : Rec → Type 0 = λ r. with_rec x (with_rec r zs) ≡ with_rec r (with_rec x zs) in subst P (rec_cmp-same x y e) refl
comm_cases x y zs Greater e = sym (comm_less y x (rec_order.antisymm y x ∙ ap ordering_reverse e) zs)

-- two recs may be put in their places in either order
pub with_rec_comm : (x y : Rec) (zs : List Rec) → with_rec x (with_rec y zs) ≡ with_rec y (with_rec x zs)
with_rec_comm x y zs = comm_cases x y zs (rec_cmp x y) refl

-- ---- sums

-- a rec may be put into the second bag instead of the sum
pub bag_sum-with_rec : (r : Rec) (xs ys : List Rec) → bag_sum xs (with_rec r ys) ≡ with_rec r (bag_sum xs ys)
bag_sum-with_rec r [] ys = refl
bag_sum-with_rec r (x ∷ xs) ys = ap (with_rec x) (bag_sum-with_rec r xs ys) ∙ with_rec_comm x r (bag_sum xs ys)

-- ---- a rec taken out

-- the first is taken out, where it is equal
pub without_rec-here : (r x : Rec) (xs : List Rec) → is_eq (rec_cmp r x) ≡ true → without_rec r (x ∷ xs) ≡ xs
without_rec-here r x xs h = ap (λ b. cond b xs (x ∷ without_rec r xs)) h

-- the first stays, where it is not equal
pub without_rec-later : (r x : Rec) (xs : List Rec) → is_eq (rec_cmp r x) ≡ false → without_rec r (x ∷ xs) ≡ x ∷ without_rec r xs
without_rec-later r x xs h = ap (λ b. cond b xs (x ∷ without_rec r xs)) h

-- the first is one more, where it is equal
pub how_often-here : (r x : Rec) (xs : List Rec) → is_eq (rec_cmp r x) ≡ true → how_often r (x ∷ xs) ≡ how_often r xs + 1
how_often-here r x xs h = ap (λ b. cond b (how_often r xs + 1) (how_often r xs)) h

-- the first is not counted, where it is not equal
pub how_often-later : (r x : Rec) (xs : List Rec) → is_eq (rec_cmp r x) ≡ false → how_often r (x ∷ xs) ≡ how_often r xs
how_often-later r x xs h = ap (λ b. cond b (how_often r xs + 1) (how_often r xs)) h

-- a rec is there no more often than there are recs
pub how_often-few : (r : Rec) (xs : List Rec) → how_often r xs ≤ length xs
how_often-few r [] = omega arith
how_often-few r (x ∷ xs) =
    let few = how_often-few r xs in
    elim (cases_Bool (is_eq (rec_cmp r x))) [
      | inl e ↦ let here = how_often-here r x xs e in omega arith
      | inr e ↦ let later = how_often-later r x xs e in omega arith
    ]

-- ---- lengths

length-with_rec_cases : (r x : Rec) (xs : List Rec) → length (with_rec r xs) ≡ length xs + 1 → (b : Bool)
    → length (cond b (r ∷ x ∷ xs) (x ∷ with_rec r xs)) ≡ length (x ∷ xs) + 1
length-with_rec_cases r x xs ih true = omega arith
length-with_rec_cases r x xs ih false = omega arith

-- a rec that is put in is one more
pub length-with_rec : (r : Rec) (xs : List Rec) → length (with_rec r xs) ≡ length xs + 1
length-with_rec r [] = omega arith
length-with_rec r (x ∷ xs) = length-with_rec_cases r x xs (length-with_rec r xs) (is_le (rec_cmp r x))

-- a sum has the recs of both
pub length-bag_sum : (xs ys : List Rec) → length (bag_sum xs ys) ≡ length xs + length ys
length-bag_sum [] ys = omega arith
length-bag_sum (x ∷ xs) ys = omega (arith, length-with_rec x (bag_sum xs ys), length-bag_sum xs ys)

length-without_cases : (r x : Rec) (xs : List Rec) → (0 < how_often r xs → length (without_rec r xs) + 1 ≡ length xs) → (b : Bool)
    → 0 < cond b (how_often r xs + 1) (how_often r xs) → length (cond b xs (x ∷ without_rec r xs)) + 1 ≡ length (x ∷ xs)
length-without_cases r x xs ih true p = omega arith
length-without_cases r x xs ih false p = omega (arith, ih p)

-- a rec that is taken out is one less
pub length-without_rec : (r : Rec) (xs : List Rec) → 0 < how_often r xs → length (without_rec r xs) + 1 ≡ length xs
length-without_rec r [] p = absurd (omega arith)
length-without_rec r (x ∷ xs) p = length-without_cases r x xs (length-without_rec r xs) (is_eq (rec_cmp r x)) p

without_none_cases : (r x : Rec) (xs : List Rec) → (how_often r xs ≡ 0 → without_rec r xs ≡ xs) → (b : Bool)
    → cond b (how_often r xs + 1) (how_often r xs) ≡ 0 → cond b xs (x ∷ without_rec r xs) ≡ x ∷ xs
without_none_cases r x xs ih true p = absurd (omega arith)
without_none_cases r x xs ih false p = ap (λ ys. x ∷ ys) (ih p)

-- a rec that is not there leaves the list
pub without_rec-none : (r : Rec) (xs : List Rec) → how_often r xs ≡ 0 → without_rec r xs ≡ xs
without_rec-none r [] p = refl
without_rec-none r (x ∷ xs) p = without_none_cases r x xs (without_rec-none r xs) (is_eq (rec_cmp r x)) p

-- what is never above 0 is 0
pub zero_from_test : (n : ℕ) → (0 < n → false ≡ true) → n ≡ 0
zero_from_test zero h = refl
zero_from_test (suc n) h = absurd (false≢true (h (omega arith)))

-- ---- how often a rec is in a bag

-- 1 where the recs are equal, and else 0
abbrev pub one_if_same : Rec → Rec → ℕ
one_if_same q r = cond (is_eq (rec_cmp q r)) 1 0

counted : (b : Bool) (n : ℕ) → cond b (n + 1) n ≡ n + cond b 1 0
counted true n = refl
counted false n = omega arith

how_often-cons : (q x : Rec) (xs : List Rec) → how_often q (x ∷ xs) ≡ how_often q xs + one_if_same q x
how_often-cons q x xs = counted (is_eq (rec_cmp q x)) (how_often q xs)

how_often-with_cases : (q r x : Rec) (xs : List Rec) → how_often q (with_rec r xs) ≡ how_often q xs + one_if_same q r
    → (b : Bool) → is_le (rec_cmp r x) ≡ b → how_often q (with_rec r (x ∷ xs)) ≡ how_often q (x ∷ xs) + one_if_same q r
how_often-with_cases q r x xs ih true h = ap (how_often q) (with_rec-le r x xs h) ∙ how_often-cons q r (x ∷ xs)
how_often-with_cases q r x xs ih false h =
    let later : how_often q (with_rec r (x ∷ xs)) ≡ how_often q (x ∷ with_rec r xs) = ap (how_often q) (with_rec-gt r x xs h) in
    omega (arith, later, how_often-cons q x (with_rec r xs), how_often-cons q x xs, ih)

-- a rec that is put in is there once more, and the others as often as before
pub how_often-with_rec : (q r : Rec) (xs : List Rec) → how_often q (with_rec r xs) ≡ how_often q xs + one_if_same q r
how_often-with_rec q r [] = how_often-cons q r []
how_often-with_rec q r (x ∷ xs) = how_often-with_cases q r x xs (how_often-with_rec q r xs) (is_le (rec_cmp r x)) refl

-- a sum has each rec as often as both bags together
pub how_often-bag_sum : (q : Rec) (xs ys : List Rec) → how_often q (bag_sum xs ys) ≡ how_often q xs + how_often q ys
how_often-bag_sum q [] ys = omega arith
how_often-bag_sum q (x ∷ xs) ys =
    omega (arith, how_often-with_rec q x (bag_sum xs ys), how_often-bag_sum q xs ys, how_often-cons q x xs)

without_with_cases : (r x : Rec) (xs : List Rec) → without_rec r (with_rec r xs) ≡ xs
    → (b : Bool) → is_le (rec_cmp r x) ≡ b → without_rec r (with_rec r (x ∷ xs)) ≡ x ∷ xs
without_with_cases r x xs ih true h = ap (without_rec r) (with_rec-le r x xs h) ∙ without_rec-here r r (x ∷ xs) (ap is_eq (rec_cmp-refl r))
without_with_cases r x xs ih false h =
    ap (without_rec r) (with_rec-gt r x xs h) ∙ without_rec-later r x (with_rec r xs) (is_eq-from_gt r x h) ∙ ap (λ ys. x ∷ ys) ih

-- a rec that is put in and taken out leaves the list
pub without_rec-with_rec : (r : Rec) (xs : List Rec) → without_rec r (with_rec r xs) ≡ xs
without_rec-with_rec r [] = without_rec-here r r [] (ap is_eq (rec_cmp-refl r))
without_rec-with_rec r (x ∷ xs) = without_with_cases r x xs (without_rec-with_rec r xs) (is_le (rec_cmp r x)) refl

how_often-without_cases : (q r x : Rec) (xs : List Rec)
    → (0 < how_often r xs → how_often q (without_rec r xs) + one_if_same q r ≡ how_often q xs)
    → (b : Bool) → is_eq (rec_cmp r x) ≡ b → 0 < how_often r (x ∷ xs)
    → how_often q (without_rec r (x ∷ xs)) + one_if_same q r ≡ how_often q (x ∷ xs)
how_often-without_cases q r x xs ih true h p =
    let taken : how_often q (without_rec r (x ∷ xs)) ≡ how_often q xs = ap (how_often q) (without_rec-here r x xs h) in
    let same : one_if_same q r ≡ one_if_same q x = ap (one_if_same q) (is_eq-same r x h) in
    omega (arith, taken, same, how_often-cons q x xs)
how_often-without_cases q r x xs ih false h p =
    let kept : how_often q (without_rec r (x ∷ xs)) ≡ how_often q (x ∷ without_rec r xs) = ap (how_often q) (without_rec-later r x xs h) in
    let there : 0 < how_often r xs = omega (arith, how_often-later r x xs h) in
    omega (arith, kept, ih there, how_often-cons q x xs, how_often-cons q x (without_rec r xs))

-- a rec that is taken out is there once less, and the others as often as before
pub how_often-without_rec : (q r : Rec) (xs : List Rec) → 0 < how_often r xs → how_often q (without_rec r xs) + one_if_same q r ≡ how_often q xs
how_often-without_rec q r [] p = absurd (omega arith)
how_often-without_rec q r (x ∷ xs) p = how_often-without_cases q r x xs (how_often-without_rec q r xs) (is_eq (rec_cmp r x)) refl p

-- ---- ascending lists

above-weaker : (r x : Rec) (xs : List Rec) → is_le (rec_cmp r x) ≡ true → AllByRecursion (λ y. is_gt (rec_cmp x y) ≡ false) xs
    → AllByRecursion (λ y. is_gt (rec_cmp r y) ≡ false) xs
above-weaker r x [] h a = tt
above-weaker r x (y ∷ ys) h a = (le-trans r x y h a.0, above-weaker r x ys h a.1)

above-with_cases : (P : Rec → Type 0) (r x : Rec) (xs : List Rec) → P r → AllByRecursion P (x ∷ xs) → AllByRecursion P (with_rec r xs)
    → (b : Bool) → AllByRecursion P (cond b (r ∷ x ∷ xs) (x ∷ with_rec r xs))
above-with_cases P r x xs p a ih true = (p, a)
above-with_cases P r x xs p a ih false = (a.0, ih)

-- what holds of each rec and of one more holds of each with that put in
pub AllByRecursion-with_rec : (P : Rec → Type 0) (r : Rec) (xs : List Rec) → P r → AllByRecursion P xs → AllByRecursion P (with_rec r xs)
AllByRecursion-with_rec P r [] p a = (p, tt)
AllByRecursion-with_rec P r (x ∷ xs) p a = above-with_cases P r x xs p a (AllByRecursion-with_rec P r xs p a.1) (is_le (rec_cmp r x))

above-without_cases : (P : Rec → Type 0) (r x : Rec) (xs : List Rec) → AllByRecursion P (x ∷ xs) → AllByRecursion P (without_rec r xs)
    → (b : Bool) → AllByRecursion P (cond b xs (x ∷ without_rec r xs))
above-without_cases P r x xs a ih true = a.1
above-without_cases P r x xs a ih false = (a.0, ih)

-- what holds of each rec holds of each without one
pub AllByRecursion-without_rec : (P : Rec → Type 0) (r : Rec) (xs : List Rec) → AllByRecursion P xs → AllByRecursion P (without_rec r xs)
AllByRecursion-without_rec P r [] a = tt
AllByRecursion-without_rec P r (x ∷ xs) a = above-without_cases P r x xs a (AllByRecursion-without_rec P r xs a.1) (is_eq (rec_cmp r x))

ascending-with_cases : (r x : Rec) (xs : List Rec) → IsAscending (x ∷ xs) → IsAscending (with_rec r xs) → (b : Bool) → is_le (rec_cmp r x) ≡ b
    → IsAscending (with_rec r (x ∷ xs))
ascending-with_cases r x xs s ih true h =
    subst IsAscending (sym (with_rec-le r x xs h)) ((is_gt-from_le r x h, above-weaker r x xs h s.0), s)
ascending-with_cases r x xs s ih false h =
    let P : Rec → Type 0 = λ y. is_gt (rec_cmp x y) ≡ false in
    subst IsAscending (sym (with_rec-gt r x xs h)) (AllByRecursion-with_rec P r xs (ap is_gt (less_from_gt r x h)) s.0, ih)

-- an ascending list still ascends with a rec put in
pub IsAscending-with_rec : (r : Rec) (xs : List Rec) → IsAscending xs → IsAscending (with_rec r xs)
IsAscending-with_rec r [] s = (tt, tt)
IsAscending-with_rec r (x ∷ xs) s = ascending-with_cases r x xs s (IsAscending-with_rec r xs s.1) (is_le (rec_cmp r x)) refl

ascending-without_cases : (r x : Rec) (xs : List Rec) → IsAscending (x ∷ xs) → IsAscending (without_rec r xs) → (b : Bool)
    → IsAscending (cond b xs (x ∷ without_rec r xs))
ascending-without_cases r x xs s ih true = s.1
ascending-without_cases r x xs s ih false = let P : Rec → Type 0 = λ y. is_gt (rec_cmp x y) ≡ false in (AllByRecursion-without_rec P r xs s.0, ih)

-- an ascending list still ascends with a rec taken out
pub IsAscending-without_rec : (r : Rec) (xs : List Rec) → IsAscending xs → IsAscending (without_rec r xs)
IsAscending-without_rec r [] s = tt
IsAscending-without_rec r (x ∷ xs) s = ascending-without_cases r x xs s (IsAscending-without_rec r xs s.1) (is_eq (rec_cmp r x))

-- a sum ascends where its second bag does
pub IsAscending-bag_sum : (xs ys : List Rec) → IsAscending ys → IsAscending (bag_sum xs ys)
IsAscending-bag_sum [] ys s = s
IsAscending-bag_sum (x ∷ xs) ys s = IsAscending-with_rec x (bag_sum xs ys) (IsAscending-bag_sum xs ys s)

-- ---- a bag is known by how often it has each rec

how_often-below : (q x : Rec) (xs : List Rec) → rec_cmp q x ≡ Less → AllByRecursion (λ y. is_gt (rec_cmp x y) ≡ false) xs → how_often q xs ≡ 0
how_often-below q x [] l a = refl
how_often-below q x (y ∷ ys) l a = how_often-later q y ys (is_eq-from_less q x y l a.0) ∙ how_often-below q x ys l a.1

how_often-self : (x : Rec) (xs : List Rec) → how_often x (x ∷ xs) ≡ how_often x xs + 1
how_often-self x xs = how_often-here x x xs (ap is_eq (rec_cmp-refl x))

-- a rec that is less than the first is not in an ascending list
pub how_often-less : (q x : Rec) (xs : List Rec) → rec_cmp q x ≡ Less → IsAscending (x ∷ xs) → how_often q (x ∷ xs) ≡ 0
how_often-less q x xs l s = how_often-later q x xs (ap is_eq l) ∙ how_often-below q x xs l s.0

same_cases : (x y : Rec) (xs ys : List Rec) → IsAscending (x ∷ xs) → IsAscending (y ∷ ys)
    → ((q : Rec) → how_often q (x ∷ xs) ≡ how_often q (y ∷ ys)) → (((q : Rec) → how_often q xs ≡ how_often q ys) → xs ≡ ys)
    → (o : Ordering) → rec_cmp x y ≡ o → x ∷ xs ≡ y ∷ ys
same_cases x y xs ys s t h ih Less e = absurd (omega (arith, h x, how_often-self x xs, how_often-less x y ys e t))
same_cases x y xs ys s t h ih Greater e =
    let less : rec_cmp y x ≡ Less = rec_order.antisymm y x ∙ ap ordering_reverse e in
    absurd (omega (arith, h y, how_often-self y ys, how_often-less y x xs less s))
same_cases x y xs ys s t h ih Equal e =
    let same : x ≡ y = rec_cmp-same x y e in
    let rest : (q : Rec) → how_often q xs ≡ how_often q ys = λ q. omega (arith, h q, how_often-cons q x xs, how_often-cons q y ys, ap (one_if_same q) same) in
    ap (λ q. q ∷ xs) same ∙ ap (λ qs. y ∷ qs) (ih rest)

-- two ascending lists that have each rec equally often are the same list
pub same_from_how_often : (xs ys : List Rec) → IsAscending xs → IsAscending ys → ((q : Rec) → how_often q xs ≡ how_often q ys) → xs ≡ ys
same_from_how_often [] [] s t h = refl
same_from_how_often [] (y ∷ ys) s t h = absurd (omega (arith, h y, how_often-self y ys))
same_from_how_often (x ∷ xs) [] s t h = absurd (omega (arith, h x, how_often-self x xs))
same_from_how_often (x ∷ xs) (y ∷ ys) s t h = same_cases x y xs ys s t h (same_from_how_often xs ys s.1 t.1) (rec_cmp x y) refl

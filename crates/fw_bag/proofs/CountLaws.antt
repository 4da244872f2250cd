-- The list of recs that a map from recs to counts gives, and how it changes with the map.
use Rattle.std.proofs.Common.{◌≡◌, ℕ, zero, suc, ◌+◌, ◌<◌, Bool, true, false, cond, List, [], ◌∷◌, Some, None, unwrap_or, refl, sym, ap, ◌∙◌, subst, arith, add-suc, add-zero, add-one}
use Rattle.std.proofs.lemmas.Cmp.{eq_by_cmp_equiv}
use Rattle.std.proofs.lemmas.Map.{lookup-none}
use Rattle.std.proofs.lemmas.Map.Entries.{none_below_head, none_past_head}
use Rattle.std.proofs.lemmas.Map.Keys.{IsDistinct-from_sorted, sorted_head, sorted_tail}
use Rattle.std.specs.BTreeMap.{insert_entry, is_at}
use Rattle.std.specs.declared.cmp.Ordering.{Ordering}
use Rattle.std.specs.declared.cmp.Ordering.TheVariants.{Less, Equal, Greater}
use Rattle.std.specs.List.{AllByRecursion, slice_get}
use Rattle.std.specs.List.Sorted.{IsStrictlySortedBy}
use Rattle.std.specs.Map.{keys_of, lookup, set_value, remove_entry}
use Rattle.std.specs.Ordering.{is_eq, is_le, is_gt, match_ordering}
use Rattle.fw_bag.specs.declared.rec.Rec.{Rec}
use Rattle.fw_bag.specs.Rec.{rec_cmp, IsAscending}
use Rattle.fw_bag.specs.Bag.{with_rec, without_rec, how_often, bag_sum, with_copies, copies_before, expand, IsPositive, IsTally}
use Rattle.fw_bag.proofs.BagLaws.{with_rec-le, with_rec-gt, bag_sum-with_rec, without_rec-here, without_rec-later, how_often-here, how_often-later}
use Rattle.fw_bag.proofs.RecLaws.{rec_order, rec_cmp-same, rec_cmp-refl}

-- ---- copies

-- a rec goes before its copies, where it goes before what follows them
with_rec-copies_same : (n : ℕ) (r : Rec) (xs : List Rec) → with_rec r xs ≡ r ∷ xs → with_rec r (copies_before n r xs) ≡ r ∷ copies_before n r xs
with_rec-copies_same zero r xs h = h
with_rec-copies_same (suc n) r xs h = with_rec-le r r (copies_before n r xs) (ap is_le (rec_cmp-refl r))

-- copies go before copies of the same rec
with_copies-same : (n m : ℕ) (r : Rec) (xs : List Rec) → with_rec r xs ≡ r ∷ xs → with_copies n r (copies_before m r xs) ≡ copies_before (m + n) r xs
with_copies-same zero m r xs h = ap (λ k. copies_before k r xs) (sym (add-zero m))
with_copies-same (suc n) m r xs h =
    ap (with_rec r) (with_copies-same n m r xs h) ∙ with_rec-copies_same (m + n) r xs h ∙ ap (λ k. copies_before k r xs) (sym (add-suc m n))

-- a greater rec goes after the copies
with_rec-copies_gt : (m : ℕ) (r x : Rec) (xs : List Rec) → is_le (rec_cmp r x) ≡ false → with_rec r (copies_before m x xs) ≡ copies_before m x (with_rec r xs)
with_rec-copies_gt zero r x xs h = refl
with_rec-copies_gt (suc m) r x xs h = with_rec-gt r x (copies_before m x xs) h ∙ ap (λ ys. x ∷ ys) (with_rec-copies_gt m r x xs h)

with_copies-gt : (n m : ℕ) (r x : Rec) (xs : List Rec) → is_le (rec_cmp r x) ≡ false → with_copies n r (copies_before m x xs) ≡ copies_before m x (with_copies n r xs)
with_copies-gt zero m r x xs h = refl
with_copies-gt (suc n) m r x xs h = ap (with_rec r) (with_copies-gt n m r x xs h) ∙ with_rec-copies_gt m r x (with_copies n r xs) h

-- the first copies of the first bag may be put into the second
pub bag_sum-copies_before : (n : ℕ) (r : Rec) (xs ys : List Rec) → bag_sum (copies_before n r xs) ys ≡ bag_sum xs (with_copies n r ys)
bag_sum-copies_before zero r xs ys = refl
bag_sum-copies_before (suc n) r xs ys = ap (with_rec r) (bag_sum-copies_before n r xs ys) ∙ sym (bag_sum-with_rec r xs (with_copies n r ys))

-- the step of a sum that goes over the counts of the first bag
pub bag_sum_step : (s t : List (Rec × ℕ)) (r : Rec) (n : ℕ) (xs ys zs : List Rec) → s ≡ (r, n) ∷ t → ys ≡ with_copies n r xs
    → bag_sum (expand s) xs ≡ zs → bag_sum (expand t) ys ≡ zs
bag_sum_step s t r n xs ys zs e f h =
    ap (bag_sum (expand t)) f ∙ sym (bag_sum-copies_before n r (expand t) xs) ∙ ap (λ es. bag_sum (expand es) xs) (sym e) ∙ h

without_rec-copies : (m : ℕ) (r x : Rec) (xs : List Rec) → is_eq (rec_cmp r x) ≡ false → without_rec r (copies_before m x xs) ≡ copies_before m x (without_rec r xs)
without_rec-copies zero r x xs h = refl
without_rec-copies (suc m) r x xs h = without_rec-later r x (copies_before m x xs) h ∙ ap (λ ys. x ∷ ys) (without_rec-copies m r x xs h)

how_often-copies_here : (m : ℕ) (r x : Rec) (xs : List Rec) → is_eq (rec_cmp r x) ≡ true → how_often r (copies_before m x xs) ≡ how_often r xs + m
how_often-copies_here zero r x xs h = omega arith
how_often-copies_here (suc m) r x xs h = omega (arith, how_often-here r x (copies_before m x xs) h, how_often-copies_here m r x xs h)

how_often-copies_later : (m : ℕ) (r x : Rec) (xs : List Rec) → is_eq (rec_cmp r x) ≡ false → how_often r (copies_before m x xs) ≡ how_often r xs
how_often-copies_later zero r x xs h = refl
how_often-copies_later (suc m) r x xs h = how_often-later r x (copies_before m x xs) h ∙ how_often-copies_later m r x xs h

-- ---- the list that a map of counts gives

-- a rec that is less than the first goes before the list
with_rec-expand_less : (r x : Rec) (m : ℕ) (es : List (Rec × ℕ)) → 0 < m → rec_cmp r x ≡ Less → with_rec r (copies_before m x (expand es)) ≡ r ∷ copies_before m x (expand es)
with_rec-expand_less r x zero es p h = absurd (omega arith)
with_rec-expand_less r x (suc m) es p h = with_rec-le r x (copies_before m x (expand es)) (ap is_le h)

-- a rec that is less than each goes before the list
with_rec-expand_all : (r : Rec) (es : List (Rec × ℕ)) → AllByRecursion (λ q. rec_cmp r q ≡ Less) (keys_of es) → IsPositive es → with_rec r (expand es) ≡ r ∷ expand es
with_rec-expand_all r [] a p = refl
with_rec-expand_all r (e ∷ es) a p = with_rec-expand_less r e.0 e.1 es p.0 a.0

-- how often the entries have the rec
abbrev held : Rec → List (Rec × ℕ) → ℕ
held r es = unwrap_or (lookup (is_at (rec_cmp r)) es) 0

held-below : (r : Rec) (e : Rec × ℕ) (es : List (Rec × ℕ)) → IsStrictlySortedBy rec_cmp (keys_of (e ∷ es)) → rec_cmp r e.0 ≡ Less → held r (e ∷ es) ≡ 0
held-below r e es s h = ap (λ o. unwrap_or o 0) (lookup-none (is_at (rec_cmp r)) (e ∷ es) (none_below_head rec_order r e es s h))

held-here : (r : Rec) (e : Rec × ℕ) (es : List (Rec × ℕ)) → rec_cmp r e.0 ≡ Equal → held r (e ∷ es) ≡ e.1
held-here r e es h = ap (λ b. unwrap_or (cond b (Some e.1) (lookup (is_at (rec_cmp r)) es)) 0) (ap is_eq h)

held-later : (r : Rec) (e : Rec × ℕ) (es : List (Rec × ℕ)) → is_eq (rec_cmp r e.0) ≡ false → held r (e ∷ es) ≡ held r es
held-later r e es h = ap (λ b. unwrap_or (cond b (Some e.1) (lookup (is_at (rec_cmp r)) es)) 0) h

insert_entry-at : (r : Rec) (n : ℕ) (e : Rec × ℕ) (es : List (Rec × ℕ)) → (o : Ordering) → rec_cmp r e.0 ≡ o
    → insert_entry rec_cmp (e ∷ es) r n ≡ match_ordering o ((r, n) ∷ e ∷ es) ((e.0, n) ∷ es) (e ∷ insert_entry rec_cmp es r n)
insert_entry-at r n e es o h = ap (λ p. match_ordering p ((r, n) ∷ e ∷ es) ((e.0, n) ∷ es) (e ∷ insert_entry rec_cmp es r n)) h

raise_cases : (r : Rec) (n : ℕ) (e : Rec × ℕ) (es : List (Rec × ℕ)) → IsStrictlySortedBy rec_cmp (keys_of (e ∷ es)) → IsPositive (e ∷ es)
    → expand (insert_entry rec_cmp es r (held r es + n)) ≡ with_copies n r (expand es)
    → (o : Ordering) → rec_cmp r e.0 ≡ o
    → expand (insert_entry rec_cmp (e ∷ es) r (held r (e ∷ es) + n)) ≡ with_copies n r (expand (e ∷ es))
raise_cases r n e es s p ih Less h =
    ap expand (insert_entry-at r (held r (e ∷ es) + n) e es Less h)
    ∙ ap (λ k. copies_before (k + n) r (expand (e ∷ es))) (held-below r e es s h)
    ∙ sym (with_copies-same n 0 r (expand (e ∷ es)) (with_rec-expand_less r e.0 e.1 es p.0 h))
raise_cases r n e es s p ih Equal h =
    let same : e.0 ≡ r = sym (rec_cmp-same r e.0 h) in
    let above : with_rec e.0 (expand es) ≡ e.0 ∷ expand es = with_rec-expand_all e.0 es (sorted_head rec_cmp e.0 (keys_of es) s) p.1 in
    ap expand (insert_entry-at r (held r (e ∷ es) + n) e es Equal h)
    ∙ ap (λ k. copies_before (k + n) e.0 (expand es)) (held-here r e es h)
    ∙ sym (with_copies-same n e.1 e.0 (expand es) above)
    ∙ ap (λ q. with_copies n q (expand (e ∷ es))) same
raise_cases r n e es s p ih Greater h =
    ap expand (insert_entry-at r (held r (e ∷ es) + n) e es Greater h)
    ∙ ap (λ k. copies_before e.1 e.0 (expand (insert_entry rec_cmp es r (k + n)))) (held-later r e es (ap is_eq h))
    ∙ ap (copies_before e.1 e.0) ih
    ∙ sym (with_copies-gt n e.1 r e.0 (expand es) (ap is_le h))

-- a count that is raised by n puts n copies in their place
pub expand-insert_entry : (r : Rec) (n : ℕ) (es : List (Rec × ℕ)) → IsStrictlySortedBy rec_cmp (keys_of es) → IsPositive es
    → expand (insert_entry rec_cmp es r (held r es + n)) ≡ with_copies n r (expand es)
expand-insert_entry r n [] s p =
    ap (λ k. copies_before k r []) (refl) ∙ sym (with_copies-same n 0 r [] refl)
expand-insert_entry r n (e ∷ es) s p =
    raise_cases r n e es s p (expand-insert_entry r n es (sorted_tail rec_cmp e.0 (keys_of es) s) p.1) (rec_cmp r e.0) refl

held_cases : (r : Rec) (e : Rec × ℕ) (es : List (Rec × ℕ)) → IsStrictlySortedBy rec_cmp (keys_of (e ∷ es)) → how_often r (expand es) ≡ held r es
    → (b : Bool) → is_eq (rec_cmp r e.0) ≡ b → how_often r (expand (e ∷ es)) ≡ held r (e ∷ es)
held_cases r e es s ih true h =
    let none : held r es ≡ 0 = ap (λ o. unwrap_or o 0) (lookup-none (is_at (rec_cmp r)) es (none_past_head (eq_by_cmp_equiv rec_order) r e es (IsDistinct-from_sorted rec_cmp (keys_of (e ∷ es)) s) h)) in
    let here : held r (e ∷ es) ≡ e.1 = ap (λ b. unwrap_or (cond b (Some e.1) (lookup (is_at (rec_cmp r)) es)) 0) h in
    omega (arith, how_often-copies_here e.1 r e.0 (expand es) h)
held_cases r e es s ih false h = how_often-copies_later e.1 r e.0 (expand es) h ∙ ih ∙ sym (held-later r e es h)

-- the list has a rec as often as its count says
pub how_often-expand : (r : Rec) (es : List (Rec × ℕ)) → IsStrictlySortedBy rec_cmp (keys_of es) → how_often r (expand es) ≡ unwrap_or (lookup (is_at (rec_cmp r)) es) 0
how_often-expand r [] s = refl
how_often-expand r (e ∷ es) s = held_cases r e es s (how_often-expand r es (sorted_tail rec_cmp e.0 (keys_of es) s)) (is_eq (rec_cmp r e.0)) refl

-- ---- changes of one count

set_value-at : (test : Rec → Bool) (k : ℕ) (e : Rec × ℕ) (es : List (Rec × ℕ)) → (b : Bool) → test e.0 ≡ b
    → set_value test (e ∷ es) k ≡ cond b ((e.0, k) ∷ es) (e ∷ set_value test es k)
set_value-at test k e es b h = ap (λ d. cond d ((e.0, k) ∷ es) (e ∷ set_value test es k)) h

remove_entry-at : (test : Rec → Bool) (e : Rec × ℕ) (es : List (Rec × ℕ)) → (b : Bool) → test e.0 ≡ b
    → remove_entry test (e ∷ es) ≡ cond b es (e ∷ remove_entry test es)
remove_entry-at test e es b h = ap (λ d. cond d es (e ∷ remove_entry test es)) h

lookup-at : (test : Rec → Bool) (e : Rec × ℕ) (es : List (Rec × ℕ)) → (b : Bool) → test e.0 ≡ b
    → lookup test (e ∷ es) ≡ cond b (Some e.1) (lookup test es)
lookup-at test e es b h = ap (λ d. cond d (Some e.1) (lookup test es)) h

some_same : (m n : ℕ) → Some m ≡ Some n → m ≡ n
some_same m n h = cc

-- the first of some copies is taken out
without_rec-first : (r x : Rec) (m k : ℕ) (xs : List Rec) → is_eq (rec_cmp r x) ≡ true → m ≡ k + 1 → without_rec r (copies_before m x xs) ≡ copies_before k x xs
without_rec-first r x m k xs h e = ap (λ j. without_rec r (copies_before j x xs)) (e ∙ add-one k) ∙ without_rec-here r x (copies_before k x xs) h

lower_cases : (r : Rec) (n k : ℕ) → n ≡ k + 1 → (e : Rec × ℕ) (es : List (Rec × ℕ))
    → (lookup (is_at (rec_cmp r)) es ≡ Some n → expand (set_value (is_at (rec_cmp r)) es k) ≡ without_rec r (expand es))
    → (b : Bool) → is_eq (rec_cmp r e.0) ≡ b → lookup (is_at (rec_cmp r)) (e ∷ es) ≡ Some n
    → expand (set_value (is_at (rec_cmp r)) (e ∷ es) k) ≡ without_rec r (expand (e ∷ es))
lower_cases r n k d e es ih true h f =
    let m : e.1 ≡ n = some_same e.1 n (sym (lookup-at (is_at (rec_cmp r)) e es true h) ∙ f) in
    ap expand (set_value-at (is_at (rec_cmp r)) k e es true h) ∙ sym (without_rec-first r e.0 e.1 k (expand es) h (m ∙ d))
lower_cases r n k d e es ih false h f =
    ap expand (set_value-at (is_at (rec_cmp r)) k e es false h)
    ∙ ap (copies_before e.1 e.0) (ih (sym (lookup-at (is_at (rec_cmp r)) e es false h) ∙ f))
    ∙ sym (without_rec-copies e.1 r e.0 (expand es) h)

-- a count that is lowered by 1 takes one rec out
pub expand-set_value : (r : Rec) (n k : ℕ) → n ≡ k + 1 → (es : List (Rec × ℕ)) → lookup (is_at (rec_cmp r)) es ≡ Some n
    → expand (set_value (is_at (rec_cmp r)) es k) ≡ without_rec r (expand es)
expand-set_value r n k d [] f = cc
expand-set_value r n k d (e ∷ es) f = lower_cases r n k d e es (expand-set_value r n k d es) (is_eq (rec_cmp r e.0)) refl f

remove_cases : (r : Rec) (n : ℕ) → n ≡ 1 → (e : Rec × ℕ) (es : List (Rec × ℕ))
    → (lookup (is_at (rec_cmp r)) es ≡ Some n → expand (remove_entry (is_at (rec_cmp r)) es) ≡ without_rec r (expand es))
    → (b : Bool) → is_eq (rec_cmp r e.0) ≡ b → lookup (is_at (rec_cmp r)) (e ∷ es) ≡ Some n
    → expand (remove_entry (is_at (rec_cmp r)) (e ∷ es)) ≡ without_rec r (expand (e ∷ es))
remove_cases r n d e es ih true h f =
    let m : e.1 ≡ 0 + 1 = some_same e.1 n (sym (lookup-at (is_at (rec_cmp r)) e es true h) ∙ f) ∙ d in
    ap expand (remove_entry-at (is_at (rec_cmp r)) e es true h) ∙ sym (without_rec-first r e.0 e.1 0 (expand es) h m)
remove_cases r n d e es ih false h f =
    ap expand (remove_entry-at (is_at (rec_cmp r)) e es false h)
    ∙ ap (copies_before e.1 e.0) (ih (sym (lookup-at (is_at (rec_cmp r)) e es false h) ∙ f))
    ∙ sym (without_rec-copies e.1 r e.0 (expand es) h)

-- an entry that is removed, whose count is 1, takes one rec out
pub expand-remove_entry : (r : Rec) (n : ℕ) → n ≡ 1 → (es : List (Rec × ℕ)) → lookup (is_at (rec_cmp r)) es ≡ Some n
    → expand (remove_entry (is_at (rec_cmp r)) es) ≡ without_rec r (expand es)
expand-remove_entry r n d [] f = cc
expand-remove_entry r n d (e ∷ es) f = remove_cases r n d e es (expand-remove_entry r n d es) (is_eq (rec_cmp r e.0)) refl f

absent_cases : (r : Rec) (e : Rec × ℕ) (es : List (Rec × ℕ))
    → (lookup (is_at (rec_cmp r)) es ≡ None → without_rec r (expand es) ≡ expand es)
    → (b : Bool) → is_eq (rec_cmp r e.0) ≡ b → lookup (is_at (rec_cmp r)) (e ∷ es) ≡ None → without_rec r (expand (e ∷ es)) ≡ expand (e ∷ es)
absent_cases r e es ih true h f = let g : Some e.1 ≡ None = sym (lookup-at (is_at (rec_cmp r)) e es true h) ∙ f in cc
absent_cases r e es ih false h f =
    without_rec-copies e.1 r e.0 (expand es) h ∙ ap (copies_before e.1 e.0) (ih (sym (lookup-at (is_at (rec_cmp r)) e es false h) ∙ f))

-- a rec with no entry is not there to be taken out
pub without_rec-absent : (r : Rec) (es : List (Rec × ℕ)) → lookup (is_at (rec_cmp r)) es ≡ None → without_rec r (expand es) ≡ expand es
without_rec-absent r [] f = refl
without_rec-absent r (e ∷ es) f = absent_cases r e es (without_rec-absent r es) (is_eq (rec_cmp r e.0)) refl f

-- ---- counts of at least 1

insert_positive : (r : Rec) (n : ℕ) → 0 < n → (e : Rec × ℕ) (es : List (Rec × ℕ)) → IsPositive (e ∷ es) → IsPositive (insert_entry rec_cmp es r n)
    → (o : Ordering) → IsPositive (match_ordering o ((r, n) ∷ e ∷ es) ((e.0, n) ∷ es) (e ∷ insert_entry rec_cmp es r n))
insert_positive r n q e es p ih Less = (q, p)
insert_positive r n q e es p ih Equal = (q, p.1)
insert_positive r n q e es p ih Greater = (p.0, ih)

pub IsPositive-insert_entry : (r : Rec) (n : ℕ) → 0 < n → (es : List (Rec × ℕ)) → IsPositive es → IsPositive (insert_entry rec_cmp es r n)
IsPositive-insert_entry r n q [] p = (q, tt)
IsPositive-insert_entry r n q (e ∷ es) p = insert_positive r n q e es p (IsPositive-insert_entry r n q es p.1) (rec_cmp r e.0)

set_positive : (test : Rec → Bool) (k : ℕ) → 0 < k → (e : Rec × ℕ) (es : List (Rec × ℕ)) → IsPositive (e ∷ es) → IsPositive (set_value test es k)
    → (b : Bool) → IsPositive (cond b ((e.0, k) ∷ es) (e ∷ set_value test es k))
set_positive test k q e es p ih true = (q, p.1)
set_positive test k q e es p ih false = (p.0, ih)

pub IsPositive-set_value : (test : Rec → Bool) (k : ℕ) → 0 < k → (es : List (Rec × ℕ)) → IsPositive es → IsPositive (set_value test es k)
IsPositive-set_value test k q [] p = tt
IsPositive-set_value test k q (e ∷ es) p = set_positive test k q e es p (IsPositive-set_value test k q es p.1) (test e.0)

remove_positive : (test : Rec → Bool) (e : Rec × ℕ) (es : List (Rec × ℕ)) → IsPositive (e ∷ es) → IsPositive (remove_entry test es)
    → (b : Bool) → IsPositive (cond b es (e ∷ remove_entry test es))
remove_positive test e es p ih true = p.1
remove_positive test e es p ih false = (p.0, ih)

pub IsPositive-remove_entry : (test : Rec → Bool) (es : List (Rec × ℕ)) → IsPositive es → IsPositive (remove_entry test es)
IsPositive-remove_entry test [] p = tt
IsPositive-remove_entry test (e ∷ es) p = remove_positive test e es p (IsPositive-remove_entry test es p.1) (test e.0)

positive_cases : (test : Rec → Bool) (n : ℕ) (e : Rec × ℕ) (es : List (Rec × ℕ)) → 0 < e.1 → (lookup test es ≡ Some n → 0 < n)
    → (b : Bool) → cond b (Some e.1) (lookup test es) ≡ Some n → 0 < n
positive_cases test n e es p ih true f = let m : e.1 ≡ n = some_same e.1 n f in omega arith
positive_cases test n e es p ih false f = ih f

-- a count that is found is at least 1
pub IsPositive-lookup : (test : Rec → Bool) (n : ℕ) (es : List (Rec × ℕ)) → IsPositive es → lookup test es ≡ Some n → 0 < n
IsPositive-lookup test n [] p f = cc
IsPositive-lookup test n (e ∷ es) p f = positive_cases test n e es p.0 (IsPositive-lookup test n es p.1) (test e.0) f

-- ---- what a look-up in the counts says of the list

-- a rec with an entry is in the list
pub how_often-found : (r : Rec) (n : ℕ) (es : List (Rec × ℕ)) → IsTally es → lookup (is_at (rec_cmp r)) es ≡ Some n → 0 < how_often r (expand es)
how_often-found r n es t h =
    let e : unwrap_or (lookup (is_at (rec_cmp r)) es) 0 ≡ n = ap (λ o. unwrap_or o 0) h in
    omega (arith, how_often-expand r es t.ordered, e, IsPositive-lookup (is_at (rec_cmp r)) n es t.positive h)

-- a rec with no entry is not in the list
pub how_often-absent : (r : Rec) (es : List (Rec × ℕ)) → IsTally es → lookup (is_at (rec_cmp r)) es ≡ None → how_often r (expand es) ≡ 0
how_often-absent r es t h = how_often-expand r es t.ordered ∙ ap (λ o. unwrap_or o 0) h

-- ---- the list ascends

above_copies : (x r : Rec) (m : ℕ) (xs : List Rec) → is_gt (rec_cmp x r) ≡ false → AllByRecursion (λ y. is_gt (rec_cmp x y) ≡ false) xs
    → AllByRecursion (λ y. is_gt (rec_cmp x y) ≡ false) (copies_before m r xs)
above_copies x r zero xs h a = a
above_copies x r (suc m) xs h a = (h, above_copies x r m xs h a)

above_expand : (x : Rec) (es : List (Rec × ℕ)) → AllByRecursion (λ y. rec_cmp x y ≡ Less) (keys_of es) → AllByRecursion (λ y. is_gt (rec_cmp x y) ≡ false) (expand es)
above_expand x [] a = tt
above_expand x (e ∷ es) a = above_copies x e.0 e.1 (expand es) (ap is_gt a.0) (above_expand x es a.1)

IsAscending-copies : (r : Rec) (m : ℕ) (xs : List Rec) → AllByRecursion (λ y. is_gt (rec_cmp r y) ≡ false) xs → IsAscending xs → IsAscending (copies_before m r xs)
IsAscending-copies r zero xs a s = s
IsAscending-copies r (suc m) xs a s = (above_copies r r m xs (ap is_gt (rec_cmp-refl r)) a, IsAscending-copies r m xs a s)

-- the list that a map of counts gives ascends
pub IsAscending-expand : (es : List (Rec × ℕ)) → IsStrictlySortedBy rec_cmp (keys_of es) → IsAscending (expand es)
IsAscending-expand [] s = tt
IsAscending-expand (e ∷ es) s =
    IsAscending-copies e.0 e.1 (expand es) (above_expand e.0 es (sorted_head rec_cmp e.0 (keys_of es) s)) (IsAscending-expand es (sorted_tail rec_cmp e.0 (keys_of es) s))

-- ---- the first rec

first_of_copies : (r : Rec) (m : ℕ) (xs : List Rec) → 0 < m → copies_before m r xs ≡ r ∷ without_rec r (copies_before m r xs)
first_of_copies r zero xs p = absurd (omega arith)
first_of_copies r (suc m) xs p = ap (λ ys. r ∷ ys) (sym (without_rec-here r r (copies_before m r xs) (ap is_eq (rec_cmp-refl r))))

-- the rec of the first entry is the first of the list
pub expand_first : (r : Rec) (n : ℕ) (es : List (Rec × ℕ)) → IsPositive es → slice_get es 0 ≡ Some (r, n) → expand es ≡ r ∷ without_rec r (expand es)
expand_first r n [] p h = cc
expand_first r n (e ∷ es) p h =
    let f : e ≡ (r, n) = cc in
    let P : Rec → Type 0 = λ q. expand (e ∷ es) ≡ q ∷ without_rec q (expand (e ∷ es)) in
    let k : Rec × ℕ → Rec = λ q. q.0 in
    subst P (ap k f) (first_of_copies e.0 e.1 (expand es) p.0)

-- a list with a rec is not empty
pub cons_not_empty : (r : Rec) (xs : List Rec) → r ∷ xs ≡ [] → ⊥
cons_not_empty r xs h = cc

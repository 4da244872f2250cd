-- Ascending lists, by any order: what is put in, what a list weighs with it, and that the counts of its items decide such a list.
use Rattle.std.proofs.Common.{◌≡◌, ℕ, ◌+◌, false, cond, List, [], ◌∷◌, refl, sym, ap, ◌∙◌, subst, arith}
use Rattle.std.specs.Cmp.{IsTotalOrder}
use Rattle.std.specs.declared.cmp.Ordering.{Ordering}
use Rattle.std.specs.declared.cmp.Ordering.TheVariants.{Less, Equal, Greater}
use Rattle.std.specs.List.{AllByRecursion}
use Rattle.std.specs.Ordering.{ordering_reverse, is_eq, is_le, is_gt}
use Rattle.std.proofs.lemmas.Bool.{cond_both}
use Rattle.std.proofs.lemmas.Cmp.{tied_itself, upto}
use Rattle.fw_lemmas.proofs.Orderings.{le_not_gt, gt_of}
use Rattle.fw_model.proofs.WeightLaws.{weigh}

-- items are put into their ascending lists by a total order, of which only equal items are tied
pub record IsAscentOf {A : Type 0} (cmp : A → A → Ordering) (put : A → List A → List A) (Ascends : List A → Type 0) : Type 0 where
  pub order : IsTotalOrder cmp
  pub equal : (x y : A) → cmp x y ≡ Equal → x ≡ y
  pub alone : (m : A) → put m [] ≡ m ∷ []
  pub among : (m x : A) (xs : List A) → put m (x ∷ xs) ≡ cond (is_le (cmp m x)) (m ∷ x ∷ xs) (x ∷ put m xs)
  pub none : Ascends []
  pub more : (x : A) (xs : List A) → AllByRecursion (λ y. is_gt (cmp x y) ≡ false) xs → Ascends xs → Ascends (x ∷ xs)
  pub parts : (x : A) (xs : List A) → Ascends (x ∷ xs) → AllByRecursion (λ y. is_gt (cmp x y) ≡ false) xs × Ascends xs

-- 1 where the two are tied, and else 0
abbrev pub copy_by : {A : Type 0} → (A → A → Ordering) → A → A → ℕ
copy_by cmp q x = cond (is_eq (cmp q x)) 1 0

module _ {A : Type 0} {cmp : A → A → Ordering} {put : A → List A → List A} {Ascends : List A → Type 0} (is : IsAscentOf cmp put Ascends) where
  -- what holds of each item and of one more holds of each with that put in
  pub each-put : (P : A → Type 0) (m : A) (xs : List A) → P m → AllByRecursion P xs → AllByRecursion P (put m xs)
  each-put P m [] p a = subst (AllByRecursion P) (sym (is.alone m)) (p, tt)
  each-put P m (x ∷ xs) p a =
      subst (AllByRecursion P) (sym (is.among m x xs))
      (cond_both (is_le (cmp m x)) (m ∷ x ∷ xs) (x ∷ put m xs) (AllByRecursion P) (λ e. (p, a)) (λ e. (a.0, each-put P m xs p a.1)))

  -- an item that is not greater than another is not greater than what that one is not greater than
  pub not_above : (m x : A) (xs : List A) → is_gt (cmp m x) ≡ false → AllByRecursion (λ y. is_gt (cmp x y) ≡ false) xs → AllByRecursion (λ y. is_gt (cmp m y) ≡ false) xs
  not_above m x [] h a = tt
  not_above m x (y ∷ ys) h a = (upto is.order m x y h a.0, not_above m x ys h a.1)

  -- an ascending list ascends with one more put in
  pub ascending-put : (m : A) (xs : List A) → Ascends xs → Ascends (put m xs)
  ascending-put m [] a = subst Ascends (sym (is.alone m)) (is.more m [] tt is.none)
  ascending-put m (x ∷ xs) a =
      let p = is.parts x xs a in
      subst Ascends (sym (is.among m x xs))
      (cond_both (is_le (cmp m x)) (m ∷ x ∷ xs) (x ∷ put m xs) Ascends
      (λ e. let g = le_not_gt (cmp m x) e in is.more m (x ∷ xs) (g, not_above m x xs g p.0) a)
      (λ e.
      let g : is_gt (cmp x m) ≡ false = ap is_gt (is.order.antisymm x m ∙ ap ordering_reverse (gt_of (cmp m x) e)) in
      is.more x (put m xs) (each-put (λ y. is_gt (cmp x y) ≡ false) m xs g p.0) (ascending-put m xs p.1)))

  -- a list weighs with one put in what both weigh
  pub put-weigh : (w : A → ℕ) (m : A) (xs : List A) → weigh w (put m xs) ≡ w m + weigh w xs
  unfolding weigh
  put-weigh w m [] = ap (λ ys. weigh w ys) (is.alone m)
  put-weigh w m (x ∷ xs) =
      let h = put-weigh w m xs in
      ap (λ ys. weigh w ys) (is.among m x xs)
      ∙ cond_both (is_le (cmp m x)) (m ∷ x ∷ xs) (x ∷ put m xs) (λ ys. weigh w ys ≡ w m + weigh w (x ∷ xs)) (λ e. refl) (λ e. omega arith)

  copy-itself : (x : A) → copy_by cmp x x ≡ 1
  copy-itself x = ap (λ o. cond (is_eq o) 1 0) (tied_itself is.order x)

  is_eq-from_less : (q x y : A) → cmp q x ≡ Less → is_gt (cmp x y) ≡ false → is_eq (cmp q y) ≡ false
  is_eq-from_less q x y l g = by (cmp x y) refl g
    where
      by : (o : Ordering) → cmp x y ≡ o → is_gt o ≡ false → is_eq (cmp q y) ≡ false
      by Less e g = ap is_eq (is.order.trans q x y l e)
      by Equal e g = let P : A → Type 0 = λ z. is_eq (cmp q z) ≡ false in subst P (is.equal x y e) (ap is_eq l)
      by Greater e g = cc

  none-below : (q x : A) (xs : List A) → cmp q x ≡ Less → AllByRecursion (λ y. is_gt (cmp x y) ≡ false) xs → weigh (copy_by cmp q) xs ≡ 0
  unfolding weigh
  none-below q x [] l a = refl
  none-below q x (y ∷ ys) l a =
      let h = none-below q x ys l a.1 in
      let z : copy_by cmp q y ≡ 0 = ap (λ b. cond b 1 0) (is_eq-from_less q x y l a.0) in
      omega arith

  -- what is less than the first of an ascending list is not in it
  none-less : (q x : A) (xs : List A) → cmp q x ≡ Less → AllByRecursion (λ y. is_gt (cmp x y) ≡ false) xs → weigh (copy_by cmp q) (x ∷ xs) ≡ 0
  unfolding weigh
  none-less q x xs l a =
      let h = none-below q x xs l a in
      let z : copy_by cmp q x ≡ 0 = ap (λ o. cond (is_eq o) 1 0) l in
      omega arith

  same_cases : (x y : A) (xs ys : List A) → Ascends (x ∷ xs) → Ascends (y ∷ ys)
      → ((q : A) → weigh (copy_by cmp q) (x ∷ xs) ≡ weigh (copy_by cmp q) (y ∷ ys))
      → (((q : A) → weigh (copy_by cmp q) xs ≡ weigh (copy_by cmp q) ys) → xs ≡ ys)
      → (o : Ordering) → cmp x y ≡ o → x ∷ xs ≡ y ∷ ys
  unfolding weigh
  same_cases x y xs ys s t h ih Less e =
      let a = h x in
      let b = copy-itself x in
      let z = none-less x y ys e (is.parts y ys t).0 in
      absurd (omega arith)
  same_cases x y xs ys s t h ih Greater e =
      let lesser : cmp y x ≡ Less = is.order.antisymm y x ∙ ap ordering_reverse e in
      let a = h y in
      let b = copy-itself y in
      let z = none-less y x xs lesser (is.parts x xs s).0 in
      absurd (omega arith)
  same_cases x y xs ys s t h ih Equal e =
      let same : x ≡ y = is.equal x y e in
      let rest : (q : A) → weigh (copy_by cmp q) xs ≡ weigh (copy_by cmp q) ys = λ q. let a = h q in let b = ap (copy_by cmp q) same in omega arith in
      ap (λ q. q ∷ xs) same ∙ ap (λ qs. y ∷ qs) (ih rest)

  -- two ascending lists that have each item equally often are the same list
  pub same_by_copies : (xs ys : List A) → Ascends xs → Ascends ys → ((q : A) → weigh (copy_by cmp q) xs ≡ weigh (copy_by cmp q) ys) → xs ≡ ys
  unfolding weigh
  same_by_copies [] [] s t h = refl
  same_by_copies [] (y ∷ ys) s t h = let a = h y in let b = copy-itself y in absurd (omega arith)
  same_by_copies (x ∷ xs) [] s t h = let a = h x in let b = copy-itself x in absurd (omega arith)
  same_by_copies (x ∷ xs) (y ∷ ys) s t h = same_cases x y xs ys s t h (same_by_copies xs ys (is.parts x xs s).1 (is.parts y ys t).1) (cmp x y) refl

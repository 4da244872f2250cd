-- Taking entries out in place, from a place on.
use Rattle.std.proofs.Common.{◌≡◌, ℕ, zero, suc, ◌+◌, ◌<◌, ◌≤◌, Bool, true, false, not, cond, List, [], ◌∷◌, ◌++◌, length, filter, get_or, set, take, drop, refl, sym, ap, subst, ◌∙◌, inl, inr, arith, append_assoc, length-set}
use Rattle.std.specs.List.{AllByRecursion, swap}
use Rattle.std.proofs.Math.Seq.{drop-length}
use Rattle.std.proofs.lemmas.Bool.{cases_eq}
use Rattle.std.proofs.lemmas.List.{take-append-drop, take_more_set, take-set, take-set-le, drop-set-lt, drop_more, append-nil}
use Rattle.std.proofs.lemmas.List.Edits.{swap_is}
use Rattle.std.proofs.lemmas.List.Elements.{filter-append}
use Rattle.fw_keep.specs.declared.entry.Entry.{Entry}
use Rattle.fw_keep.specs.Catalogue.{ids_of}

-- ---- filters of a first part that stays

filter-stays : (goes : Entry → Bool) (es : List Entry) → AllByRecursion (λ (e : Entry). goes e ≡ false) es → filter (λ e. not (goes e)) es ≡ es
filter-stays goes [] h = refl
filter-stays goes (e ∷ es) h =
    ap (λ b. cond (not b) (e ∷ filter (λ x. not (goes x)) es) (filter (λ x. not (goes x)) es)) h.0 ∙ ap (λ rest. e ∷ rest) (filter-stays goes es h.1)

filter-goes : (goes : Entry → Bool) (es : List Entry) → AllByRecursion (λ (e : Entry). goes e ≡ false) es → filter goes es ≡ []
filter-goes goes [] h = refl
filter-goes goes (e ∷ es) h = ap (λ b. cond b (e ∷ filter goes es) (filter goes es)) h.0 ∙ filter-goes goes es h.1

-- what is kept, where the first ones stay
pub kept_from : (goes : Entry → Bool) (n : ℕ) (es : List Entry) → AllByRecursion (λ (e : Entry). goes e ≡ false) (take n es)
    → take n es ++ filter (λ e. not (goes e)) (drop n es) ≡ filter (λ e. not (goes e)) es
kept_from goes n es h =
    ap (λ xs. xs ++ filter (λ e. not (goes e)) (drop n es)) (sym (filter-stays goes (take n es) h))
    ∙ sym (filter-append (λ e. not (goes e)) (take n es) (drop n es)) ∙ ap (filter (λ e. not (goes e))) (take-append-drop n es)

-- what goes, where the first ones stay
pub gone_from : (goes : Entry → Bool) (n : ℕ) (es : List Entry) → AllByRecursion (λ (e : Entry). goes e ≡ false) (take n es)
    → filter goes (drop n es) ≡ filter goes es
gone_from goes n es h =
    ap (λ xs. xs ++ filter goes (drop n es)) (sym (filter-goes goes (take n es) h))
    ∙ sym (filter-append goes (take n es) (drop n es)) ∙ ap (filter goes) (take-append-drop n es)

-- ---- one entry more

-- of the ids of those that go one more is known
pub gone-one : (goes : Entry → Bool) (es : List Entry) (i : ℕ) (e : Entry) → i < length es → e ≡ get_or es i e → goes e ≡ true
    → ids_of (filter goes (drop i es)) ≡ e.id ∷ ids_of (filter goes (drop (i + 1) es))
gone-one goes es i e l is g =
    ap (λ xs. ids_of (filter goes xs)) (drop_more es i e l ∙ ap (λ (x : Entry). x ∷ drop (i + 1) es) (sym is))
    ∙ ap (λ b. ids_of (cond b (e ∷ filter goes (drop (i + 1) es)) (filter goes (drop (i + 1) es)))) g

pub gone-none : (goes : Entry → Bool) (es : List Entry) (i : ℕ) (e : Entry) → i < length es → e ≡ get_or es i e → goes e ≡ false
    → filter goes (drop i es) ≡ filter goes (drop (i + 1) es)
gone-none goes es i e l is g =
    ap (filter goes) (drop_more es i e l ∙ ap (λ (x : Entry). x ∷ drop (i + 1) es) (sym is))
    ∙ ap (λ b. cond b (e ∷ filter goes (drop (i + 1) es)) (filter goes (drop (i + 1) es))) g

-- two lists that are the same from a place on are so from the next one on
pub rest-more : (xs ys : List Entry) (i : ℕ) → drop i xs ≡ drop i ys → drop (i + 1) xs ≡ drop (i + 1) ys
rest-more xs ys i e =
    let step : suc i ≡ i + 1 = omega arith in
    ap (λ n. drop n xs) (sym step) ∙ sym (next i xs) ∙ ap (drop 1) e ∙ next i ys ∙ ap (λ n. drop n ys) step
  where
    next : (n : ℕ) (zs : List Entry) → drop 1 (drop n zs) ≡ drop (suc n) zs
    next zero zs = refl
    next (suc n) [] = refl
    next (suc n) (z ∷ zs) = next n zs

-- and so is what stands there
pub rest-head : (xs ys : List Entry) (i : ℕ) (d : Entry) → i < length xs → length xs ≡ length ys → drop i xs ≡ drop i ys → get_or xs i d ≡ get_or ys i d
rest-head xs ys i d l same e = head_of (get_or xs i d) (get_or ys i d) (drop (i + 1) xs) (drop (i + 1) ys) (sym (drop_more xs i d l) ∙ e ∙ drop_more ys i d (omega (arith, same, l)))
  where
    head_of : (a b : Entry) (xs ys : List Entry) → a ∷ xs ≡ b ∷ ys → a ≡ b
    head_of a b xs ys k = cc

-- ---- the swap of an entry to the end of those that are kept

pub swap-take : (xs : List Entry) (i j : ℕ) (d : Entry) → i ≤ j → j < length xs → take (i + 1) (swap xs i j) ≡ take i xs ++ get_or xs j d ∷ []
swap-take xs i j d le l =
    ap (take (i + 1)) (sym (swap_is xs i j d (omega arith) l)) ∙ elim (cases_eq i j) [
      | inl e ↦ subst (λ k. take (i + 1) (set (set xs i (get_or xs k d)) k (get_or xs i d)) ≡ take i xs ++ get_or xs k d ∷ []) e (alone (get_or xs i d))
      | inr n ↦ take-set-le (i + 1) (set xs i (get_or xs j d)) j (get_or xs i d) (omega (arith, n)) ∙ take_more_set xs i (get_or xs j d) (omega arith)
    ]
  where
    alone : (x : Entry) → take (i + 1) (set (set xs i x) i x) ≡ take i xs ++ x ∷ []
    alone x = take_more_set (set xs i x) i x (omega (arith, length-set xs i x)) ∙ ap (λ ys. ys ++ x ∷ []) (take-set xs i x)

pub swap-drop : (xs : List Entry) (i j : ℕ) (d : Entry) → i ≤ j → j < length xs → drop (j + 1) (swap xs i j) ≡ drop (j + 1) xs
swap-drop xs i j d le l =
    ap (drop (j + 1)) (sym (swap_is xs i j d (omega arith) l))
    ∙ drop-set-lt (j + 1) (set xs i (get_or xs j d)) j (get_or xs i d) (omega arith) ∙ drop-set-lt (j + 1) xs i (get_or xs j d) (omega arith)

-- ---- what is kept so far

-- The first ones of the entries are those that are kept of the first ones that were looked at, and the others are as they were.
pub record IsKeptSoFar (goes : Entry → Bool) (from : ℕ) (old new : List Entry) (kept place : ℕ) : Type 0 where
  pub after : from ≤ kept
  pub before : kept ≤ place
  pub long : length new ≡ length old
  pub rest : drop place new ≡ drop place old
  pub so_far : take kept new ++ filter (λ e. not (goes e)) (drop place old) ≡ take from old ++ filter (λ e. not (goes e)) (drop from old)

pub kept-none : (goes : Entry → Bool) (from : ℕ) (es : List Entry) → IsKeptSoFar goes from es es from from
kept-none goes from es = record { after = omega arith; before = omega arith; long = refl; rest = refl; so_far = refl }

-- one more goes
pub kept-gone : (goes : Entry → Bool) (from : ℕ) (old new : List Entry) (kept place : ℕ) (e : Entry) → place < length new → e ≡ get_or new place e → goes e ≡ true
    → IsKeptSoFar goes from old new kept place → IsKeptSoFar goes from old new kept (place + 1)
kept-gone goes from old new kept place e l is g h =
    let there : e ≡ get_or old place e = is ∙ rest-head new old place e l h.long h.rest in
    record {
      after = h.after;
      before = omega (arith, h.before);
      long = h.long;
      rest = rest-more new old place h.rest;
      so_far = ap (λ xs. take kept new ++ xs) (sym (gone-none (λ x. not (goes x)) old place e (omega (arith, l, h.long)) there (ap not g))) ∙ h.so_far;
    }

-- one more stays
pub kept-stays : (goes : Entry → Bool) (from : ℕ) (old new : List Entry) (kept place : ℕ) (e : Entry) → place < length new → e ≡ get_or new place e → goes e ≡ false
    → IsKeptSoFar goes from old new kept place → IsKeptSoFar goes from old (swap new kept place) (kept + 1) (place + 1)
kept-stays goes from old new kept place e l is g h =
    let there : e ≡ get_or old place e = is ∙ rest-head new old place e l h.long h.rest in
    let test : Entry → Bool = λ x. not (goes x) in
    record {
      after = omega (arith, h.after);
      before = omega (arith, h.before);
      long = swap-length new kept place e (omega (arith, h.before)) l ∙ h.long;
      rest = swap-drop new kept place e h.before l ∙ rest-more new old place h.rest;
      so_far =
          ap (λ xs. xs ++ filter test (drop (place + 1) old)) (swap-take new kept place e h.before l ∙ ap (λ (x : Entry). take kept new ++ x ∷ []) (sym is))
          ∙ append_assoc (take kept new) (e ∷ []) (filter test (drop (place + 1) old))
          ∙ ap (λ xs. take kept new ++ xs) (sym (stays-one test old place e (omega (arith, l, h.long)) there (ap not g)))
          ∙ h.so_far;
    }
  where
    swap-length : (xs : List Entry) (i j : ℕ) (d : Entry) → i < length xs → j < length xs → length (swap xs i j) ≡ length xs
    swap-length xs i j d a b =
        ap length (sym (swap_is xs i j d a b)) ∙ length-set (set xs i (get_or xs j d)) j (get_or xs i d) ∙ length-set xs i (get_or xs j d)

    stays-one : (test : Entry → Bool) (es : List Entry) (i : ℕ) (x : Entry) → i < length es → x ≡ get_or es i x → test x ≡ true
        → filter test (drop i es) ≡ x ∷ filter test (drop (i + 1) es)
    stays-one test es i x a b c =
        ap (filter test) (drop_more es i x a ∙ ap (λ (y : Entry). y ∷ drop (i + 1) es) (sym b))
        ∙ ap (λ k. cond k (x ∷ filter test (drop (i + 1) es)) (filter test (drop (i + 1) es))) c

-- all were looked at
pub kept-all : (goes : Entry → Bool) (from : ℕ) (old new : List Entry) (kept place : ℕ) → place ≡ length new → IsKeptSoFar goes from old new kept place
    → take kept new ≡ take from old ++ filter (λ e. not (goes e)) (drop from old)
kept-all goes from old new kept place end h =
    sym (append-nil (take kept new))
    ∙ ap (λ xs. take kept new ++ filter (λ e. not (goes e)) xs) (sym (drop-length old) ∙ ap (λ n. drop n old) (sym h.long ∙ sym end))
    ∙ h.so_far

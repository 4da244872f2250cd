-- What becomes of places in a row, and where one is found.
use Rattle.std.proofs.Common.{◌≡◌, ◌⊎◌, ℕ, zero, suc, ◌<◌, ◌≤◌, cond, List, [], ◌∷◌, ◌++◌, length, get_or, Contains, Equal, nat_cmp, refl, sym, ap, subst, ◌∙◌, inl, inr, arith, length-append}
use Rattle.std.proofs.lemmas.List.Elements.{Contains-append_left, Contains-append_right, Contains-append_cases}
use Rattle.std.specs.Ordering.{match_ordering, is_eq}
use Rattle.std.specs.List.{AllByRecursion}
use Rattle.std.specs.BTreeSet.{insert_key}
use Rattle.std.specs.BTreeMap.{is_at}
use Rattle.std.specs.Set.{remove_key}
use Rattle.fw_lemmas.proofs.Lists.{only_one}
use Rattle.fw_lemmas.proofs.Orderings.{nat_cmp-less, nat_cmp-greater}
use Rattle.fw_places.specs.Places.{IsPut, IsTakenOut, IsFirstFrom, HasNoneBetween}

-- ---- what holds of each

at : (P : ℕ → Type 0) (xs : List ℕ) (i d : ℕ) → AllByRecursion P xs → i < length xs → P (get_or xs i d)
at P [] i d a l = absurd (omega arith)
at P (x ∷ xs) zero d a l = a.0
at P (x ∷ xs) (suc i) d a l = at P xs i d a.1 (omega arith)

pub each_of : (P : ℕ → Type 0) (xs : List ℕ) (q : ℕ) → AllByRecursion P xs → Contains xs q → P q
each_of P xs q a c = subst P c.2 (at P xs c.0 q a c.1)

-- ---- a place among lower and higher ones

pub itself : (k : ℕ) → nat_cmp k k ≡ Equal
itself k = grind arith

-- a set puts it there
pub put_new : (ls us : List ℕ) (k : ℕ) → AllByRecursion (λ q. q < k) ls → AllByRecursion (λ q. k < q) us → ls ++ k ∷ us ≡ insert_key nat_cmp (ls ++ us) k
put_new [] [] k a b = refl
put_new [] (x ∷ us) k a b = sym (ap (λ o. match_ordering o (k ∷ x ∷ us) (x ∷ us) (x ∷ insert_key nat_cmp us k)) (nat_cmp-less k x b.0))
put_new (x ∷ ls) us k a b =
    ap (λ xs. x ∷ xs) (put_new ls us k a.1 b)
    ∙ sym (ap (λ o. match_ordering o (k ∷ x ∷ ls ++ us) (x ∷ ls ++ us) (x ∷ insert_key nat_cmp (ls ++ us) k)) (nat_cmp-greater k x a.0))

-- and leaves it there
pub put_old : (ls us : List ℕ) (k : ℕ) → AllByRecursion (λ q. q < k) ls → ls ++ k ∷ us ≡ insert_key nat_cmp (ls ++ k ∷ us) k
put_old [] us k a = sym (ap (λ o. match_ordering o (k ∷ k ∷ us) (k ∷ us) (k ∷ insert_key nat_cmp us k)) (itself k))
put_old (x ∷ ls) us k a =
    ap (λ xs. x ∷ xs) (put_old ls us k a.1)
    ∙ sym (ap (λ o. match_ordering o (k ∷ x ∷ ls ++ k ∷ us) (x ∷ ls ++ k ∷ us) (x ∷ insert_key nat_cmp (ls ++ k ∷ us) k)) (nat_cmp-greater k x a.0))

-- without it
pub out_old : (ls us : List ℕ) (k : ℕ) → AllByRecursion (λ q. q < k) ls → ls ++ us ≡ remove_key (is_at (nat_cmp k)) (ls ++ k ∷ us)
out_old [] us k a = sym (ap (λ o. cond (is_eq o) us (k ∷ remove_key (is_at (nat_cmp k)) us)) (itself k))
out_old (x ∷ ls) us k a =
    ap (λ xs. x ∷ xs) (out_old ls us k a.1)
    ∙ sym (ap (λ o. cond (is_eq o) (ls ++ k ∷ us) (x ∷ remove_key (is_at (nat_cmp k)) (ls ++ k ∷ us))) (nat_cmp-greater k x a.0))

-- and where it is not nothing goes
pub out_new : (ls us : List ℕ) (k : ℕ) → AllByRecursion (λ q. q < k) ls → AllByRecursion (λ q. k < q) us → ls ++ us ≡ remove_key (is_at (nat_cmp k)) (ls ++ us)
out_new [] [] k a b = refl
out_new [] (x ∷ us) k a b =
    ap (λ xs. x ∷ xs) (out_new [] us k tt b.1) ∙ sym (ap (λ o. cond (is_eq o) us (x ∷ remove_key (is_at (nat_cmp k)) us)) (nat_cmp-less k x b.0))
out_new (x ∷ ls) us k a b =
    ap (λ xs. x ∷ xs) (out_new ls us k a.1 b)
    ∙ sym (ap (λ o. cond (is_eq o) (ls ++ us) (x ∷ remove_key (is_at (nat_cmp k)) (ls ++ us))) (nat_cmp-greater k x a.0))

either : {A B C D : Type 0} → (A → C) → (B → D) → A ⊎ B → C ⊎ D
either f g (inl a) = inl (f a)
either f g (inr b) = inr (g b)

one_of : {A B C : Type 0} → (A → C) → (B → C) → A ⊎ B → C
one_of f g (inl a) = f a
one_of f g (inr b) = g b

middle : (ls us : List ℕ) (k q : ℕ) → Contains (ls ++ k ∷ us) q → (q ≡ k) ⊎ Contains (ls ++ us) q
middle ls us k q c =
    one_of (λ h. inr (Contains-append_left ls us q h))
    (λ h. either (only_one k q) (Contains-append_right ls us q) (Contains-append_cases (k ∷ []) us q h))
    (Contains-append_cases ls (k ∷ us) q c)

around : (ls us : List ℕ) (k q : ℕ) → Contains (ls ++ us) q → Contains (ls ++ k ∷ us) q
around ls us k q c =
    one_of (Contains-append_left ls (k ∷ us) q) (λ h. Contains-append_right ls (k ∷ us) q (Contains-append_right (k ∷ []) us q h))
    (Contains-append_cases ls us q c)

pub here : (ls us : List ℕ) (k : ℕ) → Contains (ls ++ k ∷ us) k
here ls us k = Contains-append_right ls (k ∷ us) k (0, omega arith, refl)

pub is_put_new : (ls us : List ℕ) (k : ℕ) → IsPut k (ls ++ us) (ls ++ k ∷ us)
is_put_new ls us k = record { there = here ls us k; stays = around ls us k; only = middle ls us k }

absent : (ls us : List ℕ) (k : ℕ) → AllByRecursion (λ q. q < k) ls → AllByRecursion (λ q. k < q) us → Contains (ls ++ us) k → ⊥
absent ls us k a b c =
    one_of (λ h. irreflexive k (each_of (λ q. q < k) ls k a h)) (λ h. irreflexive k (each_of (λ q. k < q) us k b h)) (Contains-append_cases ls us k c)
  where
    irreflexive : (k : ℕ) → k < k → ⊥
    irreflexive k l = omega arith

pub is_out_new : (ls us : List ℕ) (k : ℕ) → AllByRecursion (λ q. q < k) ls → AllByRecursion (λ q. k < q) us → IsTakenOut k (ls ++ k ∷ us) (ls ++ us)
is_out_new ls us k a b = record {
  gone = absent ls us k a b;
  stays = λ q d c. one_of (λ e. absurd (d e)) (λ h. h) (middle ls us k q c);
  only = around ls us k;
  fewer = λ c. let long = length-append ls (k ∷ us) in let short = length-append ls us in omega (arith, long, short);
}

pub is_out_old : (ls us : List ℕ) (k : ℕ) → AllByRecursion (λ q. q < k) ls → AllByRecursion (λ q. k < q) us → IsTakenOut k (ls ++ us) (ls ++ us)
is_out_old ls us k a b = record {
  gone = absent ls us k a b;
  stays = λ q d c. c;
  only = λ q c. c;
  fewer = λ c. absurd (absent ls us k a b c);
}

-- ---- the first place from one on

-- none is below the limit where the first is not
pub none_below : (k x limit : ℕ) (places : List ℕ) → IsFirstFrom k places x → limit ≤ x → HasNoneBetween k limit places
none_below k x limit places f l = λ q c from under. lost q x limit l (f.least q c from) under
  where
    lost : (q x limit : ℕ) → limit ≤ x → x ≤ q → q < limit → ⊥
    lost q x limit e l m = omega (arith, e, l, m)

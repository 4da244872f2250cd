-- What is kept at a number after an output was changed.
use Rattle.std.proofs.Common.{◌≡◌, ℕ, Bool, true, false, cond, List, [], ◌∷◌, filter, Some, None, unwrap_or, refl, sym, ap, ◌∙◌, inl, inr}
use Rattle.std.specs.BTreeMap.{insert_entry, is_at}
use Rattle.std.specs.List.Sorted.{IsStrictlySortedBy}
use Rattle.std.specs.Map.{keys_of, lookup, remove_entry}
use Rattle.std.specs.declared.cmp.Ordering.{Ordering}
use Rattle.std.specs.declared.cmp.Ordering.TheVariants.{Less, Equal, Greater}
use Rattle.std.specs.Ordering.{is_eq, nat_cmp, match_ordering}
use Rattle.std.proofs.lemmas.Bool.{cond_both, cond-true, cond-false, cases_Bool}
use Rattle.std.proofs.lemmas.Cmp.{nat_cmp_total, tied_itself, eq_by_cmp_equiv}
use Rattle.std.proofs.lemmas.Map.{lookup-none}
use Rattle.std.proofs.lemmas.Map.Entries.{none_past_head, lookup-filter-keys}
use Rattle.std.proofs.lemmas.Map.Keys.{IsDistinct-from_sorted, sorted_tail}
use Rattle.std.proofs.lemmas.Map.Lookups.{exact_unsigned}
use Rattle.fw_lemmas.proofs.Orderings.{equal_from_is_eq}
use Rattle.fw_bag.specs.declared.rec.Rec.{Rec}
use Rattle.fw_border.specs.Outputs.{recs_at_number}

-- the test of a number
abbrev at_number : ℕ → ℕ → Bool
at_number x = is_at (nat_cmp x)

number-is : (x y : ℕ) → at_number x y ≡ true → x ≡ y
number-is x y e = exact_unsigned x y (equal_from_is_eq (nat_cmp x y) e)

number-self : (x : ℕ) → at_number x x ≡ true
number-self x = ap is_eq (tied_itself nat_cmp_total x)

number-apart : (x y : ℕ) → (x ≡ y → ⊥) → at_number x y ≡ false
number-apart x y n = elim (cases_Bool (at_number x y)) [
  | inl e ↦ absurd (n (number-is x y e))
  | inr e ↦ e
]

-- the recs where the first entry is or is not at the number
at_first : (x : ℕ) (e : ℕ × List Rec) (es : List (ℕ × List Rec)) → at_number x e.0 ≡ true → recs_at_number (e ∷ es) x ≡ e.1
at_first x e es h = ap (λ o. unwrap_or o []) (cond-true (at_number x e.0) (Some e.1) (lookup (at_number x) es) h)

at_later : (x : ℕ) (e : ℕ × List Rec) (es : List (ℕ × List Rec)) → at_number x e.0 ≡ false → recs_at_number (e ∷ es) x ≡ recs_at_number es x
at_later x e es h = ap (λ o. unwrap_or o []) (cond-false (at_number x e.0) (Some e.1) (lookup (at_number x) es) h)

-- ---- recs that are put in

-- the recs that are put in at a number are there
pub recs_at-inserted : (x : ℕ) (w : List Rec) (es : List (ℕ × List Rec)) → recs_at_number (insert_entry nat_cmp es x w) x ≡ w
recs_at-inserted x w [] = at_first x (x, w) [] (number-self x)
recs_at-inserted x w (e ∷ es) = by (nat_cmp x e.0) refl (recs_at-inserted x w es)
  where
    by : (o : Ordering) → nat_cmp x e.0 ≡ o → recs_at_number (insert_entry nat_cmp es x w) x ≡ w
        → recs_at_number (match_ordering o ((x, w) ∷ e ∷ es) ((e.0, w) ∷ es) (e ∷ insert_entry nat_cmp es x w)) x ≡ w
    by Less q h = at_first x (x, w) (e ∷ es) (number-self x)
    by Equal q h = at_first x (e.0, w) es (ap is_eq q)
    by Greater q h = at_later x e (insert_entry nat_cmp es x w) (ap is_eq q) ∙ h

-- at another number those stay that were there
pub recs_at-inserted_apart : (x y : ℕ) (w : List Rec) (es : List (ℕ × List Rec)) → (y ≡ x → ⊥) → recs_at_number (insert_entry nat_cmp es x w) y ≡ recs_at_number es y
recs_at-inserted_apart x y w [] n = at_later y (x, w) [] (number-apart y x n)
recs_at-inserted_apart x y w (e ∷ es) n = by (nat_cmp x e.0) refl (recs_at-inserted_apart x y w es n)
  where
    by : (o : Ordering) → nat_cmp x e.0 ≡ o → recs_at_number (insert_entry nat_cmp es x w) y ≡ recs_at_number es y
        → recs_at_number (match_ordering o ((x, w) ∷ e ∷ es) ((e.0, w) ∷ es) (e ∷ insert_entry nat_cmp es x w)) y ≡ recs_at_number (e ∷ es) y
    by Less q h = at_later y (x, w) (e ∷ es) (number-apart y x n)
    by Equal q h =
        let other = number-apart y e.0 (λ s. n (s ∙ sym (exact_unsigned x e.0 q))) in
        at_later y (e.0, w) es other ∙ sym (at_later y e es other)
    by Greater q h = elim (cases_Bool (at_number y e.0)) [
      | inl t ↦ at_first y e (insert_entry nat_cmp es x w) t ∙ sym (at_first y e es t)
      | inr f ↦ at_later y e (insert_entry nat_cmp es x w) f ∙ h ∙ sym (at_later y e es f)
    ]

-- ---- recs that are taken out

-- where recs are taken out, none is left
pub recs_at-removed : (x : ℕ) (es : List (ℕ × List Rec)) → IsStrictlySortedBy nat_cmp (keys_of es) → recs_at_number (remove_entry (is_at (nat_cmp x)) es) x ≡ []
recs_at-removed x [] s = refl
recs_at-removed x (e ∷ es) s = elim (cases_Bool (at_number x e.0)) [
  | inl t ↦
      let none = lookup-none (at_number x) es (none_past_head (eq_by_cmp_equiv nat_cmp_total) x e es (IsDistinct-from_sorted nat_cmp (keys_of (e ∷ es)) s) t) in
      ap (λ fs. recs_at_number fs x) (cond-true (at_number x e.0) es (e ∷ remove_entry (at_number x) es) t) ∙ ap (λ o. unwrap_or o []) none
  | inr f ↦
      ap (λ fs. recs_at_number fs x) (cond-false (at_number x e.0) es (e ∷ remove_entry (at_number x) es) f)
      ∙ at_later x e (remove_entry (at_number x) es) f ∙ recs_at-removed x es (sorted_tail nat_cmp e.0 (keys_of es) s)
]

-- at another number those stay that were there
pub recs_at-removed_apart : (x y : ℕ) (es : List (ℕ × List Rec)) → (y ≡ x → ⊥) → recs_at_number (remove_entry (is_at (nat_cmp x)) es) y ≡ recs_at_number es y
recs_at-removed_apart x y [] n = refl
recs_at-removed_apart x y (e ∷ es) n = elim (cases_Bool (at_number x e.0)) [
  | inl t ↦
      ap (λ fs. recs_at_number fs y) (cond-true (at_number x e.0) es (e ∷ remove_entry (at_number x) es) t)
      ∙ sym (at_later y e es (number-apart y e.0 (λ s. n (s ∙ sym (number-is x e.0 t)))))
  | inr f ↦
      let left = ap (λ fs. recs_at_number fs y) (cond-false (at_number x e.0) es (e ∷ remove_entry (at_number x) es) f) in
      elim (cases_Bool (at_number y e.0)) [
        | inl t ↦ left ∙ at_first y e (remove_entry (at_number x) es) t ∙ sym (at_first y e es t)
        | inr g ↦ left ∙ at_later y e (remove_entry (at_number x) es) g ∙ recs_at-removed_apart x y es n ∙ sym (at_later y e es g)
      ]
]

-- ---- recs that are kept by their numbers

-- the recs at a number stay, if it passes the test
pub recs_at-kept : (p : ℕ → Bool) (x : ℕ) (es : List (ℕ × List Rec)) → recs_at_number (filter (λ e. p e.0) es) x ≡ cond (p x) (recs_at_number es x) []
recs_at-kept p x es =
    let found = lookup-filter-keys (at_number x) p (p x) (λ k h. ap p (sym (number-is x k h))) es in
    ap (λ o. unwrap_or o []) found
    ∙ cond_both (p x) (lookup (at_number x) es) None (λ o. unwrap_or o [] ≡ cond (p x) (recs_at_number es x) [])
    (λ t. sym (cond-true (p x) (recs_at_number es x) [] t)) (λ f. sym (cond-false (p x) (recs_at_number es x) [] f))

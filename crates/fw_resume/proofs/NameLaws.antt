-- The other ids of a catalogue differ, so that in order they rise.
use Rattle.std.proofs.Common.{◌≡◌, ℕ, ◌<◌, Bool, true, false, not, ◌||◌, ◌==◌, List, [], ◌∷◌, ◌++◌, filter, refl, sym, ap, subst, ◌∙◌, arith}
use Rattle.std.specs.List.{AllByRecursion, IsDistinct}
use Rattle.std.specs.List.Sorted.{IsPermutation, IsSorted}
use Rattle.std.specs.Ordering.{nat_cmp}
use Rattle.std.proofs.lemmas.Bool.{cond_both, eqb-true, eq-eqb, false_from_ne_true}
use Rattle.std.proofs.lemmas.List.Sorted.{IsNonDecreasingBy-from_sort}
use Rattle.std.proofs.lemmas.Map.Keys.{IsDistinct-IsPermutation, IsStrictlyIncreasing-from_distinct}
use Rattle.fw_lemmas.proofs.Each.{each-weaker}
use Rattle.fw_keep.specs.declared.entry.Entry.{Entry}
use Rattle.fw_keep.specs.Catalogue.{AreDistinct, IsCatalogue, KeepState, has_entry, ids_of, is_id_among}
use Rattle.fw_lemmas.proofs.Numbers.{eqb-sym}
use Rattle.fw_keep.proofs.IdLaws.{ascending-distinct, ascending-kept}
use Rattle.fw_resume.specs.Names.{AreOthers, other_ids}

pub none-after : (id : ℕ) (ids : List ℕ) → AllByRecursion (λ later. id < later) ids → is_id_among id ids ≡ false
none-after id [] a = refl
none-after id (x ∷ ids) a =
    let l = a.0 in
    ap (λ b. b || is_id_among id ids) (false_from_ne_true (x == id) (λ t. let q : x ≡ id = eqb-true x id t in absurd (omega (arith, l, q)))) ∙ none-after id ids a.1

-- an id that no entry has is not that of one that is left
pub left-apart : (test : Entry → Bool) (id : ℕ) (es : List Entry) → is_id_among id (ids_of es) ≡ false → is_id_among id (ids_of (filter test es)) ≡ false
left-apart test id [] a = refl
left-apart test id (e ∷ es) a =
    let b = or-false (e.id == id) (is_id_among id (ids_of es)) a in
    cond_both (test e) (e ∷ filter test es) (filter test es) (λ xs. is_id_among id (ids_of xs) ≡ false)
    (λ k. ap (λ c. c || is_id_among id (ids_of (filter test es))) b.0 ∙ left-apart test id es b.1) (λ k. left-apart test id es b.1)
  where
    or-false : (a b : Bool) → (a || b) ≡ false → (a ≡ false) × (b ≡ false)
    or-false true b e = absurd (cc)
    or-false false b e = (refl, e)

-- two lists of ids of which none is in both
both-distinct : (xs ys : List ℕ) → AreDistinct xs → AreDistinct ys → AllByRecursion (λ y. is_id_among y xs ≡ false) ys → AreDistinct (xs ++ ys)
both-distinct [] ys a b c = b
both-distinct (x ∷ xs) ys a b c = (
  none-in x xs ys a.0 (each-weaker (λ y. is_id_among y (x ∷ xs) ≡ false) (λ y. (y == x) ≡ false) ys (λ y k. first y x xs k) c),
  both-distinct xs ys a.1 b (each-weaker (λ y. is_id_among y (x ∷ xs) ≡ false) (λ y. is_id_among y xs ≡ false) ys (λ y k. rest y x xs k) c),
)
  where
    first : (y x : ℕ) (xs : List ℕ) → is_id_among y (x ∷ xs) ≡ false → (y == x) ≡ false
    first y x xs k = false_from_ne_true (y == x) (λ t. never y x xs k (eq-eqb x y (sym (eqb-true y x t))))
      where
        never : (y x : ℕ) (xs : List ℕ) → is_id_among y (x ∷ xs) ≡ false → (x == y) ≡ true → ⊥
        never y x xs k q = let r : true ≡ false = sym (ap (λ b. b || is_id_among y xs) q) ∙ k in cc

    rest : (y x : ℕ) (xs : List ℕ) → is_id_among y (x ∷ xs) ≡ false → is_id_among y xs ≡ false
    rest y x xs k = by (x == y) k
      where
        by : (b : Bool) → (b || is_id_among y xs) ≡ false → is_id_among y xs ≡ false
        by true e = absurd (cc)
        by false e = e

    none-in : (x : ℕ) (xs ys : List ℕ) → is_id_among x xs ≡ false → AllByRecursion (λ y. (y == x) ≡ false) ys → is_id_among x (xs ++ ys) ≡ false
    none-in x [] [] a b = refl
    none-in x [] (y ∷ ys) a b = ap (λ c. c || is_id_among x ys) b.0 ∙ none-in x [] ys refl b.1
    none-in x (z ∷ xs) ys a b = by (z == x) a (none-in x xs ys)
      where
        by : (c : Bool) → (c || is_id_among x xs) ≡ false → (is_id_among x xs ≡ false → AllByRecursion (λ y. (y == x) ≡ false) ys → is_id_among x (xs ++ ys) ≡ false)
            → (c || is_id_among x (xs ++ ys)) ≡ false
        by true e r = absurd (cc)
        by false e r = r e b

pub others_differ : (keep : KeepState) → IsCatalogue keep → AreDistinct (other_ids keep)
others_differ keep c =
    let flying : Entry → Bool = λ (e : Entry). not e.acknowledged in
    both-distinct (ids_of (filter flying keep.entries)) keep.waiting (ascending-distinct (ids_of (filter flying keep.entries)) (ascending-kept flying keep.entries c.ascending)) c.distinct
    (each-weaker (λ id. has_entry id keep.entries ≡ false) (λ id. is_id_among id (ids_of (filter flying keep.entries)) ≡ false) keep.waiting
    (λ id k. left-apart flying id keep.entries k) c.apart)

not-again : (x : ℕ) (xs : List ℕ) → is_id_among x xs ≡ false → AllByRecursion (λ y. (x == y) ≡ false) xs
not-again x [] e = tt
not-again x (y ∷ xs) e = by (y == x) refl e (not-again x xs)
  where
    by : (b : Bool) → (y == x) ≡ b → (b || is_id_among x xs) ≡ false → (is_id_among x xs ≡ false → AllByRecursion (λ z. (x == z) ≡ false) xs)
        → ((x == y) ≡ false) × AllByRecursion (λ z. (x == z) ≡ false) xs
    by true i k r = absurd (cc)
    by false i k r = (false_from_ne_true (x == y) (λ t. let q : true ≡ false = sym (eq-eqb y x (sym (eqb-true x y t))) ∙ i in absurd (cc)), r k)

to-distinct : (ids : List ℕ) → AreDistinct ids → IsDistinct (λ x y. x == y) ids
unfolding IsDistinct
to-distinct [] d = tt
to-distinct (x ∷ xs) d = (not-again x xs d.0, to-distinct xs d.1)

pub others : (keep : KeepState) (old ids : List ℕ) → IsCatalogue keep → old ≡ other_ids keep → IsPermutation old ids → IsSorted nat_cmp ids → AreOthers keep ids
others keep old ids c is p s = record {
  same = subst (λ xs. IsPermutation xs ids) is p;
  rise = IsStrictlyIncreasing-from_distinct ids (IsNonDecreasingBy-from_sort (λ x. x) ids s)
      (IsDistinct-IsPermutation (λ x y. x == y) eqb-sym old ids p (to-distinct old (subst AreDistinct (sym is) (others_differ keep c))));
}

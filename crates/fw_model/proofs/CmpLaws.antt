-- The orders of stamps and messages are total, and of what satisfies a decided property one is least.
use Rattle.std.proofs.Common.{◌≡◌, true, false, List, [], ◌∷◌, refl, sym, ap, ◌∙◌, inl, inr, ◌⊎◌}
use Rattle.std.specs.List.{AllByRecursion}
use Rattle.std.specs.Cmp.{IsTotalOrder}
use Rattle.std.specs.declared.cmp.Ordering.{Ordering}
use Rattle.std.specs.declared.cmp.Ordering.TheVariants.{Less, Equal, Greater}
use Rattle.std.specs.Ordering.{ordering_reverse, is_eq, is_gt}
use Rattle.std.specs.Cmp.Lexicographic.{slice_cmp}
use Rattle.std.proofs.lemmas.Bool.{cases_Bool}
use Rattle.std.proofs.lemmas.Cmp.{nat_list_cmp_total, lists_total, tied_itself, upto}
use Rattle.std.proofs.lemmas.Map.Lookups.{exact_bytes}
use Rattle.fw_lemmas.proofs.Each.{each-weaker}
use Rattle.fw_lemmas.proofs.Orderings.{equal_from_is_eq, slice_cmp-same}
use Rattle.fw_time.specs.Stamp.{Stamp, stamp_cmp}
use Rattle.fw_frontier.specs.Front.{Front}
use Rattle.fw_model.proofs.Decisions.{Decided}

-- ---- elements that an order finds equal are one

pub stamp_cmp-same : (s t : Stamp) → stamp_cmp s t ≡ Equal → s ≡ t
stamp_cmp-same = exact_bytes

pub fronts_cmp-same : (f g : List Stamp) → slice_cmp stamp_cmp f g ≡ Equal → f ≡ g
fronts_cmp-same = slice_cmp-same stamp_cmp stamp_cmp-same

pub stamp_total : IsTotalOrder stamp_cmp
stamp_total = nat_list_cmp_total

pub stamp_cmp-equal : (s t : Stamp) → is_eq (stamp_cmp s t) ≡ true → s ≡ t
stamp_cmp-equal s t e = stamp_cmp-same s t (equal_from_is_eq (stamp_cmp s t) e)

-- one of two elements is not greater than the other
pub not_greater : {K : Type 0} {R : K → K → Ordering} → IsTotalOrder R → (x y : K) → is_gt (R x y) ≡ true → is_gt (R y x) ≡ false
not_greater {R} o x y h = by (R x y) (R y x) (o.antisymm x y) h
  where
    by : (a b : Ordering) → a ≡ ordering_reverse b → is_gt a ≡ true → is_gt b ≡ false
    by a Less e h = refl
    by a Equal e h = refl
    by Less Greater e h = absurd (cc)
    by Equal Greater e h = absurd (cc)
    by Greater Greater e h = absurd (cc)

-- ---- the least element with a property

-- the element has the property, and none of the list that has it comes before
pub record IsLeastIn {K : Type 0} (R : K → K → Ordering) (P : K → Type 0) (xs : List K) (x : K) : Type 0 where
  pub has : P x
  pub least : AllByRecursion (λ y. P y → is_gt (R x y) ≡ false) xs

least-with : {K : Type 0} {R : K → K → Ordering} → IsTotalOrder R → (P : K → Type 0) (x w : K) (xs : List K) → P x → IsLeastIn R P xs w
    → (y : K) × IsLeastIn R P (x ∷ xs) y
least-with {R} o P x w xs p l = elim (cases_Bool (is_gt (R x w))) [
  | inl e ↦ (w, record { has = l.has; least = (λ q. not_greater o x w e, l.least) })
  | inr e ↦ (
    x,
    record {
      has = p;
      least = (
        λ q. ap is_gt (tied_itself o x),
        each-weaker (λ y. P y → is_gt (R w y) ≡ false) (λ y. P y → is_gt (R x y) ≡ false) xs (λ y h q. upto o x w y e (h q)) l.least,
      );
    },
  )
]

-- of the listed elements with a decided property one is least, or none has it
pub find_least : {K : Type 0} {R : K → K → Ordering} → IsTotalOrder R → (P : K → Type 0) → ((x : K) → Decided (P x)) → (xs : List K)
    → ((x : K) × IsLeastIn R P xs x) ⊎ AllByRecursion (λ x. P x → ⊥) xs
find_least o P decide [] = inr tt
find_least {R} o P decide (x ∷ xs) = elim (decide x) [
  | inr n ↦ elim (find_least o P decide xs) [
    | inl w ↦ let l = w.1 in inl (w.0, record { has = l.has; least = (λ p. absurd (n p), l.least) })
    | inr none ↦ inr (n, none)
  ]
  | inl p ↦ elim (find_least o P decide xs) [
    | inl w ↦ inl (least-with o P x w.0 xs p w.1)
    | inr none ↦ inl (
      x,
      record {
        has = p;
        least = (
          λ q. ap is_gt (tied_itself o x),
          each-weaker (λ y. P y → ⊥) (λ y. P y → is_gt (R x y) ≡ false) xs (λ y n q. absurd (n q)) none,
        );
      },
    )
  ]
]

-- ---- decided equations

-- elements that an order compares are one, or not
pub decided-same : {K : Type 0} {R : K → K → Ordering} → IsTotalOrder R → ((x y : K) → R x y ≡ Equal → x ≡ y) → (x y : K) → Decided (x ≡ y)
decided-same {K} {R} o h x y = by (R x y) refl
  where
    differ : (r : Ordering) → R x y ≡ r → (Equal ≡ r → ⊥) → x ≡ y → ⊥
    differ r e n p = n (sym (tied_itself o x) ∙ ap (R x) p ∙ e)

    by : (r : Ordering) → R x y ≡ r → Decided (x ≡ y)
    by Less e = inr (differ Less e (λ q. cc))
    by Equal e = inl (h x y e)
    by Greater e = inr (differ Greater e (λ q. cc))

pub decided-stamp : (s t : Stamp) → Decided (s ≡ t)
decided-stamp s t = decided-same stamp_total stamp_cmp-same s t

pub decided-front : (f g : Front) → Decided (f ≡ g)
decided-front f g = decided-same (lists_total stamp_total) fronts_cmp-same f g

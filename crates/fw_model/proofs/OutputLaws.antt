-- Parts of timed recs, by a test of their stamps, and where they are: what the kinds share of what they send in all.
use Rattle.std.proofs.Common.{◌≡◌, Bool, true, false, cond, ◌||◌, List, [], ◌∷◌, ◌++◌, Option, Some, None, map, filter, refl, sym, ap, ◌∙◌, inl, inr}
use Rattle.std.proofs.lemmas.Bool.{cond-true, cond-false, cases_Bool}
use Rattle.std.proofs.lemmas.List.Elements.{filter-append}
use Rattle.std.specs.List.{AllByRecursion, flat_map, list_any}
use Rattle.fw_lemmas.proofs.Bools.{two_ways}
use Rattle.fw_lemmas.proofs.Each.{each-append}
use Rattle.fw_bag.specs.declared.rec.Rec.{Rec}
use Rattle.fw_time.specs.Stamp.{Stamp, same, leq}
use Rattle.fw_flow.specs.Dataflow.{greatest_number}
use Rattle.fw_flow.specs.WholeBags.{Timed, timed_where, timed_recs, timed_at_some, joint_bag}
use Rattle.fw_model.specs.Wholes.{part, is_sent_at}
use Rattle.fw_model.proofs.StampLaws.{same-is}

-- ---- stamps that are one

-- what is at a stamp of which another is the same is at that one
pub same-through : (t u s : Stamp) → same t u ≡ true → same u s ≡ true → same t s ≡ true
same-through t u s e k = ap (λ v. same v s) (same-is t u e) ∙ k

-- ---- parts of a list

-- what passes two tests, of which the second says more, passes the second
pub filter-filter : {X : Type 0} (p q : X → Bool) → ((x : X) → q x ≡ true → p x ≡ true) → (xs : List X) → filter q (filter p xs) ≡ filter q xs
filter-filter p q w [] = refl
filter-filter p q w (x ∷ xs) = step (filter-filter p q w xs) (p x) refl
  where
    step : filter q (filter p xs) ≡ filter q xs → (b : Bool) → p x ≡ b → filter q (cond b (x ∷ filter p xs) (filter p xs)) ≡ filter q (x ∷ xs)
    step ih true e = ap (λ ys. cond (q x) (x ∷ ys) ys) ih
    step ih false e = elim (cases_Bool (q x)) [
      | inl k ↦ absurd (two_ways (p x) (w x k) e)
      | inr k ↦ ih ∙ sym (cond-false (q x) (x ∷ filter q xs) (filter q xs) k)
    ]

-- whether some element passes a test can be seen from those that pass one that says less
pub list_any-filter : {X : Type 0} (p q : X → Bool) → ((x : X) → p x ≡ true → q x ≡ true) → (xs : List X) → list_any p (filter q xs) ≡ list_any p xs
list_any-filter p q w [] = refl
list_any-filter p q w (x ∷ xs) = step (list_any-filter p q w xs) (q x) refl
  where
    step : list_any p (filter q xs) ≡ list_any p xs → (b : Bool) → q x ≡ b → list_any p (cond b (x ∷ filter q xs) (filter q xs)) ≡ list_any p (x ∷ xs)
    step ih true e = ap (λ b. p x || b) ih
    step ih false e = elim (cases_Bool (p x)) [
      | inl k ↦ absurd (two_ways (q x) (w x k) e)
      | inr k ↦ ih ∙ sym (ap (λ b. b || list_any p xs) k)
    ]

pub part-part : (p q : Stamp → Bool) → ((s : Stamp) → q s ≡ true → p s ≡ true) → (rs : List Timed) → part q (part p rs) ≡ part q rs
part-part p q w rs = filter-filter (λ r. p r.at) (λ r. q r.at) (λ r. w r.at) rs

pub recs_where-part : (t u : Stamp) → same t u ≡ true → (rs : List Timed) → timed_where (same u) rs ≡ timed_where (same u) (part (same t) rs)
recs_where-part t u e rs = sym (ap (map (λ (r : Timed). r.rec)) (part-part (same t) (same u) (λ s k. same-through t u s e k) rs))

-- the part of the bags together is the parts together
pub together-part : (p : Stamp → Bool) (bags : List (List Timed)) → joint_bag (map (part p) bags) ≡ part p (joint_bag bags)
together-part p [] = refl
together-part p (xs ∷ bags) =
    ap (λ ys. part p xs ++ ys) (together-part p bags) ∙ sym (filter-append (λ (r : Timed). p r.at) xs (joint_bag bags))

-- the part of what elements give, where each gives it in a part or gives nothing to it
pub part-flat_map : {A : Type 0} (p : Stamp → Bool) (keep : A → Bool) (g h : A → List Timed)
    → ((x : A) → part p (g x) ≡ cond (keep x) (part p (h x)) []) → (xs : List A) → part p (flat_map g xs) ≡ part p (flat_map h (filter keep xs))
part-flat_map p keep g h w [] = refl
part-flat_map p keep g h w (x ∷ xs) = step (part-flat_map p keep g h w xs) (keep x) refl
  where
    step : part p (flat_map g xs) ≡ part p (flat_map h (filter keep xs)) → (b : Bool) → keep x ≡ b
        → part p (flat_map g (x ∷ xs)) ≡ part p (flat_map h (cond b (x ∷ filter keep xs) (filter keep xs)))
    step ih true e =
        filter-append (λ (r : Timed). p r.at) (g x) (flat_map g xs)
        ∙ ap (λ ys. ys ++ part p (flat_map g xs)) (w x ∙ cond-true (keep x) (part p (h x)) [] e)
        ∙ ap (λ ys. part p (h x) ++ ys) ih
        ∙ sym (filter-append (λ (r : Timed). p r.at) (h x) (flat_map h (filter keep xs)))
    step ih false e =
        filter-append (λ (r : Timed). p r.at) (g x) (flat_map g xs)
        ∙ ap (λ ys. ys ++ part p (flat_map g xs)) (w x ∙ cond-false (keep x) (part p (h x)) [] e)
        ∙ ih

part-timed_out : (t u : Stamp) (rs : List Rec) → same t u ≡ false → part (same t) (timed_recs u rs) ≡ []
part-timed_out t u [] e = refl
part-timed_out t u (r ∷ rs) e =
    cond-false (same t u) (record { at = u; rec = r } ∷ part (same t) (timed_recs u rs)) (part (same t) (timed_recs u rs)) e ∙ part-timed_out t u rs e

-- of recs at one stamp, what is at another is all or nothing
pub part-timed : (t u : Stamp) (rs qs : List Rec) → (same t u ≡ true → rs ≡ qs) → part (same t) (timed_recs u rs) ≡ cond (same t u) (part (same t) (timed_recs u qs)) []
part-timed t u rs qs w = elim (cases_Bool (same t u)) [
  | inl e ↦ ap (λ xs. part (same t) (timed_recs u xs)) (w e) ∙ sym (cond-true (same t u) (part (same t) (timed_recs u qs)) [] e)
  | inr e ↦ part-timed_out t u rs e ∙ sym (cond-false (same t u) (part (same t) (timed_recs u qs)) [] e)
]

pub part-timed_at_some : (t : Stamp) (at : Option Stamp) (rs : List Rec) → part (same t) (timed_at_some at rs) ≡ cond (is_sent_at t at) (part (same t) (timed_at_some at rs)) []
part-timed_at_some t None rs = refl
part-timed_at_some t (Some u) rs = part-timed t u rs rs (λ e. refl)

-- ---- what takes part

pub sent_at-some : (t : Stamp) (at : Option Stamp) → is_sent_at t at ≡ true → at ≡ Some t
sent_at-some t None k = absurd (cc)
sent_at-some t (Some u) k = ap (λ v. Some v) (sym (same-is t u k))

-- ---- at which stamps

-- the timed rec is at a stamp that holds
abbrev pub At : (Stamp → Type 0) → Timed → Type 0
At P r = P r.at

-- the number is one of the greatest or below
abbrev pub IsNumber : Stamp → Type 0
IsNumber t = leq t (greatest_number ∷ []) ≡ true

pub each-timed : (P : Stamp → Type 0) (at : Stamp) → P at → (rs : List Rec) → AllByRecursion (At P) (timed_recs at rs)
each-timed P at p [] = tt
each-timed P at p (r ∷ rs) = (p, each-timed P at p rs)

pub each-timed_at_some : (P : Stamp → Type 0) (at : Option Stamp) → ((s : Stamp) → at ≡ Some s → P s) → (rs : List Rec) → AllByRecursion (At P) (timed_at_some at rs)
each-timed_at_some P None p rs = tt
each-timed_at_some P (Some s) p rs = each-timed P s (p s refl) rs

pub each-flat_map : {A B : Type 0} (P : A → Type 0) (Q : B → Type 0) (g : A → List B) → ((x : A) → P x → AllByRecursion Q (g x))
    → (xs : List A) → AllByRecursion P xs → AllByRecursion Q (flat_map g xs)
each-flat_map P Q g w [] a = tt
each-flat_map P Q g w (x ∷ xs) a = each-append Q (g x) (flat_map g xs) (w x a.0) (each-flat_map P Q g w xs a.1)

pub each-together : (P : Timed → Type 0) (bags : List (List Timed)) → AllByRecursion (AllByRecursion P) bags → AllByRecursion P (joint_bag bags)
each-together P bags a = each-flat_map (AllByRecursion P) P (λ xs. xs) (λ xs b. b) bags a

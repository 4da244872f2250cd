-- The weight of a list: the sum of a number of each element.
unfoldable pub use Rattle.fw_model.specs.Weights.{weigh, one}
use Rattle.std.proofs.Common.{◌≡◌, ℕ, zero, suc, ◌+◌, ◌<◌, ◌≤◌, Bool, true, false, cond, ◌&&◌, List, [], ◌∷◌, ◌++◌, map, refl, ap, ◌∙◌, inl, inr, arith}
use Rattle.std.proofs.Math.Bool.{and-false}
use Rattle.std.specs.List.{AllByRecursion, flat_map}
use Rattle.std.specs.Ordering.{is_eq}
use Rattle.std.specs.Prelude.{filter}
use Rattle.std.proofs.lemmas.Bool.{and_parts, and_from, cases_Bool, cond_both, cond-true, cond-false}
use Rattle.fw_time.specs.Stamp.{Stamp, same}
use Rattle.fw_bag.specs.declared.rec.Rec.{Rec}
use Rattle.fw_bag.specs.Rec.{rec_cmp}
use Rattle.fw_bag.specs.Bag.{how_often}
use Rattle.fw_bag.proofs.RecLaws.{is_eq-same, rec_cmp-refl}
use Rattle.fw_flow.specs.WholeBags.{Timed, timed_where}
use Rattle.fw_model.proofs.StampLaws.{same-is, same-refl}

pub weigh-append : {A : Type 0} (w : A → ℕ) (xs ys : List A) → weigh w (xs ++ ys) ≡ weigh w xs + weigh w ys
unfolding weigh
weigh-append w [] ys = omega arith
weigh-append w (x ∷ xs) ys = let h = weigh-append w xs ys in omega arith

pub weigh-flat_map : {A B : Type 0} (w : B → ℕ) (f : A → List B) (xs : List A) → weigh w (flat_map f xs) ≡ weigh (λ x. weigh w (f x)) xs
unfolding weigh
weigh-flat_map w f [] = refl
weigh-flat_map w f (x ∷ xs) = let h = weigh-flat_map w f xs in omega (arith, weigh-append w (f x) (flat_map f xs))

pub weigh-map : {A B : Type 0} (w : B → ℕ) (f : A → B) (xs : List A) → weigh w (map f xs) ≡ weigh (λ x. w (f x)) xs
unfolding weigh
weigh-map w f [] = refl
weigh-map w f (x ∷ xs) = ap (λ n. w (f x) + n) (weigh-map w f xs)

pub weigh-same : {A : Type 0} (w u : A → ℕ) (xs : List A) → AllByRecursion (λ x. w x ≡ u x) xs → weigh w xs ≡ weigh u xs
unfolding weigh
weigh-same w u [] a = refl
weigh-same w u (x ∷ xs) a = let h = weigh-same w u xs a.1 in let e = a.0 in omega arith

pub weigh-lighter : {A : Type 0} (w u : A → ℕ) (xs : List A) → AllByRecursion (λ x. w x ≤ u x) xs → weigh w xs ≤ weigh u xs
unfolding weigh
weigh-lighter w u [] a = omega arith
weigh-lighter w u (x ∷ xs) a = let h = weigh-lighter w u xs a.1 in let e = a.0 in omega arith

pub weigh-none : {A : Type 0} (w : A → ℕ) (xs : List A) → AllByRecursion (λ x. w x ≡ 0) xs → weigh w xs ≡ 0
unfolding weigh
weigh-none w [] a = refl
weigh-none w (x ∷ xs) a = let h = weigh-none w xs a.1 in let e = a.0 in omega arith

-- ---- timed recs

-- whether a timed rec is this rec at this stamp
abbrev pub is_at : Stamp → Rec → Timed → Bool
is_at t q x = same t x.at && is_eq (rec_cmp q x.rec)

-- a rec at a stamp
abbrev pub at_stamp : Stamp → Rec → Timed
at_stamp t q = record { at = t; rec = q }

pub is_at-is : (t : Stamp) (q : Rec) (x : Timed) → is_at t q x ≡ true → at_stamp t q ≡ x
is_at-is t q x k =
    let a = and_parts (same t x.at) (is_eq (rec_cmp q x.rec)) k in
    ap (λ s. at_stamp s q) (same-is t x.at a.0) ∙ ap (at_stamp x.at) (is_eq-same q x.rec a.1)

pub is_at-self : (x : Timed) → is_at x.at x.rec x ≡ true
is_at-self x = and_from (same x.at x.at) (is_eq (rec_cmp x.rec x.rec)) (same-refl x.at) (ap is_eq (rec_cmp-refl x.rec))

pub one-in : (t : Stamp) (q : Rec) (x : Timed) → is_at t q x ≡ true → one t q x ≡ 1
unfolding one
one-in t q x k = cond-true (is_at t q x) 1 0 k

pub one-out : (t : Stamp) (q : Rec) (x : Timed) → is_at t q x ≡ false → one t q x ≡ 0
unfolding one
one-out t q x k = cond-false (is_at t q x) 1 0 k

-- the list without the first that is this one
take_out : Stamp → Rec → List Timed → List Timed
take_out t q [] = []
take_out t q (x ∷ xs) = cond (is_at t q x) xs (x ∷ take_out t q xs)

take_out-weigh : (w : Timed → ℕ) (t : Stamp) (q : Rec) (xs : List Timed) → 0 < weigh (one t q) xs
    → weigh w xs ≡ w (at_stamp t q) + weigh w (take_out t q xs)
unfolding weigh take_out
take_out-weigh w t q [] l = absurd (omega arith)
take_out-weigh w t q (x ∷ xs) l =
    cond_both (is_at t q x) xs (x ∷ take_out t q xs) (λ ys. weigh w (x ∷ xs) ≡ w (at_stamp t q) + weigh w ys)
    (λ e. let i = ap w (is_at-is t q x e) in omega arith)
    (λ e. let z = one-out t q x e in let h = take_out-weigh w t q xs (omega arith) in omega arith)

weigh-less_cases : (w : Timed → ℕ) (x : Timed) (xs ys : List Timed)
    → ((zs : List Timed) → ((t : Stamp) (q : Rec) → 0 < w (at_stamp t q) → weigh (one t q) xs ≤ weigh (one t q) zs) → weigh w xs ≤ weigh w zs)
    → ((t : Stamp) (q : Rec) → 0 < w (at_stamp t q) → weigh (one t q) (x ∷ xs) ≤ weigh (one t q) ys)
    → (n : ℕ) → w x ≡ n → weigh w (x ∷ xs) ≤ weigh w ys
unfolding weigh
weigh-less_cases w x xs ys ih k zero e =
    let h = ih ys (λ t q l. let a = k t q l in omega arith) in omega arith
weigh-less_cases w x xs ys ih k (suc n) e =
    let t = x.at in
    let q = x.rec in
    let there = k t q (omega arith) in
    let self = one-in t q x (is_at-self x) in
    let some : 0 < weigh (one t q) ys = omega arith in
    let h = ih (take_out t q ys) (λ s r l. let a = k s r l in let b = take_out-weigh (one s r) t q ys some in omega arith) in
    let b = take_out-weigh w t q ys some in
    omega arith

-- a list that has each timed rec of some weight at most as often weighs no more
pub weigh-less : (w : Timed → ℕ) (xs ys : List Timed)
    → ((t : Stamp) (q : Rec) → 0 < w (at_stamp t q) → weigh (one t q) xs ≤ weigh (one t q) ys) → weigh w xs ≤ weigh w ys
unfolding weigh
weigh-less w [] ys k = omega arith
weigh-less w (x ∷ xs) ys k = weigh-less_cases w x xs ys (λ zs. weigh-less w xs zs) k (w x) refl

-- lists that have each timed rec of some weight equally often weigh the same
pub weigh-equal : (w : Timed → ℕ) (xs ys : List Timed)
    → ((t : Stamp) (q : Rec) → 0 < w (at_stamp t q) → weigh (one t q) xs ≡ weigh (one t q) ys) → weigh w xs ≡ weigh w ys
weigh-equal w xs ys k =
    let a = weigh-less w xs ys (λ t q l. let e = k t q l in omega arith) in
    let b = weigh-less w ys xs (λ t q l. let e = k t q l in omega arith) in
    omega arith

-- how often a rec is among those at a stamp
pub how_often-where : (t : Stamp) (q : Rec) (xs : List Timed) → how_often q (timed_where (same t) xs) ≡ weigh (one t q) xs
unfolding weigh
how_often-where t q [] = refl
how_often-where t q (x ∷ xs) =
    let h = how_often-where t q xs in
    elim (cases_Bool (same t x.at)) [
      | inl e ↦
          ap (λ b. how_often q (map (λ r. r.rec) (cond b (x ∷ filter (λ r. same t r.at) xs) (filter (λ r. same t r.at) xs)))) e
          ∙ cond_both (is_eq (rec_cmp q x.rec)) (how_often q (timed_where (same t) xs) + 1) (how_often q (timed_where (same t) xs)) (λ n. n ≡ one t q x + weigh (one t q) xs)
          (λ c. let i = one-in t q x (and_from (same t x.at) (is_eq (rec_cmp q x.rec)) e c) in omega arith)
          (λ c. let i = one-out t q x (ap (λ b. same t x.at && b) c ∙ and-false (same t x.at)) in omega arith)
      | inr e ↦
          let i = one-out t q x (ap (λ b. b && is_eq (rec_cmp q x.rec)) e) in
          ap (λ b. how_often q (map (λ r. r.rec) (cond b (x ∷ filter (λ r. same t r.at) xs) (filter (λ r. same t r.at) xs)))) e ∙ omega arith
    ]

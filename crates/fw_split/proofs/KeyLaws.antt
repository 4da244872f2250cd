-- What is sent of some keys is what is sent of their recs alone: of distinct and join as equations of lists, of sums by key.
use Rattle.std.proofs.Common.{◌≡◌, ℕ, Bool, true, false, cond, ◌||◌, ◌==◌, List, [], ◌∷◌, ◌++◌, map, refl, sym, ap, subst, ◌∙◌, inl, inr}
use Rattle.std.specs.Prelude.{filter}
use Rattle.std.specs.Ordering.{is_eq}
use Rattle.std.proofs.lemmas.Bool.{both_ways, cases_Bool, cond-true, cond-false, eqb-true}
use Rattle.std.proofs.lemmas.List.Elements.{filter-append}
use Rattle.fw_time.specs.Stamp.{Stamp, same}
use Rattle.fw_bag.specs.declared.rec.Rec.{Rec}
use Rattle.fw_bag.specs.Keyed.{plus, joined_rec, value_sum, has_key}
use Rattle.fw_flow.specs.WholeBags.{Timed, timed_cmp, timed_recs, timed_where, is_among_timed, distinct_timed, joined_timed, joined_bags, joint_bag}
use Rattle.fw_model.proofs.CarriedLaws.{where-filter}
use Rattle.fw_model.proofs.TimedLaws.{timed-same}

-- the timed recs whose keys pass a test
abbrev pub keyed : (ℕ → Bool) → List Timed → List Timed
keyed test rs = filter (λ r. test r.rec.key) rs

-- the recs whose keys pass a test
abbrev pub keyed_recs : (ℕ → Bool) → List Rec → List Rec
keyed_recs test rs = filter (λ r. test r.key) rs

cond-both : {A : Type 0} (b : Bool) (x : A) → cond b x x ≡ x
cond-both true x = refl
cond-both false x = refl

-- ---- distinct

-- a rec is among those of its keys exactly where it is among all
among-keyed : (test : ℕ → Bool) (r : Timed) (rs : List Timed) → test r.rec.key ≡ true → is_among_timed r (keyed test rs) ≡ is_among_timed r rs
among-keyed test r [] k = refl
among-keyed test r (x ∷ xs) k = elim (cases_Bool (test x.rec.key)) [
  | inl e ↦
      ap (is_among_timed r) (cond-true (test x.rec.key) (x ∷ keyed test xs) (keyed test xs) e)
      ∙ ap (λ z. is_eq (timed_cmp r x) || z) (among-keyed test r xs k)
  | inr e ↦
      ap (is_among_timed r) (cond-false (test x.rec.key) (x ∷ keyed test xs) (keyed test xs) e) ∙ among-keyed test r xs k
      ∙ sym (other (is_eq (timed_cmp r x)) (λ h. both_ways (test x.rec.key) e (subst (λ y. test y.rec.key ≡ true) (timed-same r x h) k)))
]
  where
    other : (b : Bool) → (b ≡ true → ⊥) → (b || is_among_timed r xs) ≡ is_among_timed r xs
    other true h = absurd (h refl)
    other false h = refl

pub distinct-keyed : (test : ℕ → Bool) (rs : List Timed) → keyed test (distinct_timed rs) ≡ distinct_timed (keyed test rs)
distinct-keyed test [] = refl
distinct-keyed test (r ∷ rs) =
    let rest = distinct-keyed test rs in
    elim (cases_Bool (test r.rec.key)) [
      | inl k ↦
          let there = among-keyed test r rs k in
          with_key (is_among_timed r rs) k there rest
      | inr k ↦
          without_key (is_among_timed r rs) k rest
    ]
  where
    with_key : (a : Bool) → test r.rec.key ≡ true → is_among_timed r (keyed test rs) ≡ a → keyed test (distinct_timed rs) ≡ distinct_timed (keyed test rs)
        → keyed test (cond a (distinct_timed rs) (r ∷ distinct_timed rs)) ≡ distinct_timed (cond (test r.rec.key) (r ∷ keyed test rs) (keyed test rs))
    with_key true k e rest =
        rest ∙ sym (ap distinct_timed (cond-true (test r.rec.key) (r ∷ keyed test rs) (keyed test rs) k)
        ∙ cond-true (is_among_timed r (keyed test rs)) (distinct_timed (keyed test rs)) (r ∷ distinct_timed (keyed test rs)) e)
    with_key false k e rest =
        cond-true (test r.rec.key) (r ∷ keyed test (distinct_timed rs)) (keyed test (distinct_timed rs)) k
        ∙ ap (λ ys. r ∷ ys) rest
        ∙ sym (ap distinct_timed (cond-true (test r.rec.key) (r ∷ keyed test rs) (keyed test rs) k)
        ∙ cond-false (is_among_timed r (keyed test rs)) (distinct_timed (keyed test rs)) (r ∷ distinct_timed (keyed test rs)) e)

    without_key : (a : Bool) → test r.rec.key ≡ false → keyed test (distinct_timed rs) ≡ distinct_timed (keyed test rs)
        → keyed test (cond a (distinct_timed rs) (r ∷ distinct_timed rs)) ≡ distinct_timed (cond (test r.rec.key) (r ∷ keyed test rs) (keyed test rs))
    without_key true k rest = rest ∙ sym (ap distinct_timed (cond-false (test r.rec.key) (r ∷ keyed test rs) (keyed test rs) k))
    without_key false k rest =
        cond-false (test r.rec.key) (r ∷ keyed test (distinct_timed rs)) (keyed test (distinct_timed rs)) k ∙ rest
        ∙ sym (ap distinct_timed (cond-false (test r.rec.key) (r ∷ keyed test rs) (keyed test rs) k))

-- ---- join

keyed-append : (test : ℕ → Bool) (xs ys : List Timed) → keyed test (xs ++ ys) ≡ keyed test xs ++ keyed test ys
keyed-append test xs ys = filter-append (λ (r : Timed). test r.rec.key) xs ys

-- recs that are all of one key
one_key : (test : ℕ → Bool) (t : Stamp) (r : Rec) (zs : List Rec)
    → keyed test (timed_recs t (map (λ z. record { key = r.key; value = plus r.value z.value }) zs))
    ≡ cond (test r.key) (timed_recs t (map (λ z. record { key = r.key; value = plus r.value z.value }) zs)) []
one_key test t r [] = sym (cond-both (test r.key) [])
one_key test t r (z ∷ zs) = at (test r.key) (one_key test t r zs)
  where
    more : List Timed
    more = timed_recs t (map (λ x. record { key = r.key; value = plus r.value x.value }) zs)

    first : Timed
    first = record { at = t; rec = record { key = r.key; value = plus r.value z.value } }

    at : (b : Bool) → keyed test more ≡ cond b more [] → cond b (first ∷ keyed test more) (keyed test more) ≡ cond b (first ∷ more) []
    at true e = ap (λ ys. first ∷ ys) e
    at false e = e

-- with one rec more on the other edge
step : (r : Rec) (t : Stamp) (y : Timed) (zs : List Timed)
    → joined_rec r (timed_where (same t) (y ∷ zs))
    ≡ cond (same t y.at) (cond (r.key == y.rec.key) (record { key = r.key; value = plus r.value y.rec.value } ∷ joined_rec r (timed_where (same t) zs)) (joined_rec r (timed_where (same t) zs)))
    (joined_rec r (timed_where (same t) zs))
step r t y zs = outer (same t y.at)
  where
    one : Rec
    one = record { key = r.key; value = plus r.value y.rec.value }

    rest : List Rec
    rest = joined_rec r (timed_where (same t) zs)

    inner : (d : Bool) → map (λ (x : Rec). record { key = r.key; value = plus r.value x.value }) (cond d (y.rec ∷ filter (λ (x : Rec). r.key == x.key) (timed_where (same t) zs)) (filter (λ (x : Rec). r.key == x.key) (timed_where (same t) zs)))
        ≡ cond d (one ∷ rest) rest
    inner true = refl
    inner false = refl

    outer : (c : Bool) → joined_rec r (map (λ (z : Timed). z.rec) (cond c (y ∷ filter (λ (z : Timed). same t z.at) zs) (filter (λ (z : Timed). same t z.at) zs)))
        ≡ cond c (cond (r.key == y.rec.key) (one ∷ rest) rest) rest
    outer true = inner (r.key == y.rec.key)
    outer false = refl

other-keyed : (test : ℕ → Bool) (r : Rec) (t : Stamp) (ys : List Timed) → test r.key ≡ true
    → joined_rec r (timed_where (same t) (keyed test ys)) ≡ joined_rec r (timed_where (same t) ys)
other-keyed test r t [] k = refl
other-keyed test r t (y ∷ ys) k =
    let one : Rec = record { key = r.key; value = plus r.value y.rec.value } in
    let rest = joined_rec r (timed_where (same t) ys) in
    elim (cases_Bool (test y.rec.key)) [
      | inl e ↦
          ap (λ zs. joined_rec r (timed_where (same t) zs)) (cond-true (test y.rec.key) (y ∷ keyed test ys) (keyed test ys) e)
          ∙ step r t y (keyed test ys)
          ∙ ap (λ j. cond (same t y.at) (cond (r.key == y.rec.key) (one ∷ j) j) j) (other-keyed test r t ys k)
          ∙ sym (step r t y ys)
      | inr e ↦
          ap (λ zs. joined_rec r (timed_where (same t) zs)) (cond-false (test y.rec.key) (y ∷ keyed test ys) (keyed test ys) e)
          ∙ other-keyed test r t ys k
          ∙ sym (step r t y ys
          ∙ ap (λ d. cond (same t y.at) (cond d (one ∷ rest) rest) rest) (not_same (r.key == y.rec.key) refl e)
          ∙ cond-both (same t y.at) rest)
    ]
  where
    not_same : (d : Bool) → (r.key == y.rec.key) ≡ d → test y.rec.key ≡ false → d ≡ false
    not_same true h e = absurd (both_ways (test y.rec.key) e (subst (λ x. test x ≡ true) (eqb-true r.key y.rec.key h) k))
    not_same false h e = refl

pub join-keyed : (test : ℕ → Bool) (xs ys : List Timed) → keyed test (joined_timed xs ys) ≡ joined_timed (keyed test xs) (keyed test ys)
join-keyed test [] ys = refl
join-keyed test (x ∷ xs) ys =
    let here = timed_recs x.at (joined_rec x.rec (timed_where (same x.at) ys)) in
    keyed-append test here (joined_timed xs ys)
    ∙ ap (λ zs. zs ++ keyed test (joined_timed xs ys)) (one_key test x.at x.rec (filter (λ z. x.rec.key == z.key) (timed_where (same x.at) ys)))
    ∙ ap (λ zs. cond (test x.rec.key) here [] ++ zs) (join-keyed test xs ys)
    ∙ elim (cases_Bool (test x.rec.key)) [
      | inl k ↦
          ap (λ zs. zs ++ joined_timed (keyed test xs) (keyed test ys)) (cond-true (test x.rec.key) here [] k)
          ∙ ap (λ rs. timed_recs x.at rs ++ joined_timed (keyed test xs) (keyed test ys)) (sym (other-keyed test x.rec x.at ys k))
          ∙ sym (ap (λ zs. joined_timed zs (keyed test ys)) (cond-true (test x.rec.key) (x ∷ keyed test xs) (keyed test xs) k))
      | inr k ↦
          ap (λ zs. zs ++ joined_timed (keyed test xs) (keyed test ys)) (cond-false (test x.rec.key) here [] k)
          ∙ sym (ap (λ zs. joined_timed zs (keyed test ys)) (cond-false (test x.rec.key) (x ∷ keyed test xs) (keyed test xs) k))
    ]

-- ---- joint bags

pub joint-keyed : (test : ℕ → Bool) (bags : List (List Timed)) → joint_bag (map (keyed test) bags) ≡ keyed test (joint_bag bags)
joint-keyed test [] = refl
joint-keyed test (xs ∷ bags) = ap (λ ys. keyed test xs ++ ys) (joint-keyed test bags) ∙ sym (keyed-append test xs (joint_bag bags))

pub joined-keyed : (test : ℕ → Bool) (bags : List (List Timed)) → keyed test (joined_bags bags) ≡ joined_bags (map (keyed test) bags)
joined-keyed test [] = refl
joined-keyed test (xs ∷ []) = refl
joined-keyed test (xs ∷ ys ∷ rest) = join-keyed test xs ys

-- ---- sums

pub key-keyed : (test : ℕ → Bool) (key : ℕ) (rs : List Rec) → test key ≡ true → has_key key (keyed_recs test rs) ≡ has_key key rs
key-keyed test key [] k = refl
key-keyed test key (x ∷ xs) k = elim (cases_Bool (test x.key)) [
  | inl e ↦ ap (has_key key) (cond-true (test x.key) (x ∷ keyed_recs test xs) (keyed_recs test xs) e) ∙ ap (λ z. x.key == key || z) (key-keyed test key xs k)
  | inr e ↦
      ap (has_key key) (cond-false (test x.key) (x ∷ keyed_recs test xs) (keyed_recs test xs) e) ∙ key-keyed test key xs k
      ∙ sym (other (x.key == key) (λ h. both_ways (test x.key) e (subst (λ y. test y ≡ true) (sym (eqb-true x.key key h)) k)))
]
  where
    other : (b : Bool) → (b ≡ true → ⊥) → (b || has_key key xs) ≡ has_key key xs
    other true h = absurd (h refl)
    other false h = refl

pub value-keyed : (test : ℕ → Bool) (key : ℕ) (rs : List Rec) → test key ≡ true → value_sum key (keyed_recs test rs) ≡ value_sum key rs
value-keyed test key [] k = refl
value-keyed test key (x ∷ xs) k = elim (cases_Bool (test x.key)) [
  | inl e ↦
      ap (value_sum key) (cond-true (test x.key) (x ∷ keyed_recs test xs) (keyed_recs test xs) e)
      ∙ ap (λ z. cond (x.key == key) (plus x.value z) z) (value-keyed test key xs k)
  | inr e ↦
      ap (value_sum key) (cond-false (test x.key) (x ∷ keyed_recs test xs) (keyed_recs test xs) e) ∙ value-keyed test key xs k
      ∙ sym (other (x.key == key) (λ h. both_ways (test x.key) e (subst (λ y. test y ≡ true) (sym (eqb-true x.key key h)) k)))
]
  where
    other : (b : Bool) → (b ≡ true → ⊥) → cond b (plus x.value (value_sum key xs)) (value_sum key xs) ≡ value_sum key xs
    other true h = absurd (h refl)
    other false h = refl

-- a key that does not pass is not there
pub key-left : (test : ℕ → Bool) (key : ℕ) (rs : List Rec) → test key ≡ false → has_key key (keyed_recs test rs) ≡ false
key-left test key [] k = refl
key-left test key (x ∷ xs) k = elim (cases_Bool (test x.key)) [
  | inl e ↦
      ap (has_key key) (cond-true (test x.key) (x ∷ keyed_recs test xs) (keyed_recs test xs) e)
      ∙ other (x.key == key) (λ h. both_ways (test key) k (subst (λ y. test y ≡ true) (eqb-true x.key key h) e)) (key-left test key xs k)
  | inr e ↦ ap (has_key key) (cond-false (test x.key) (x ∷ keyed_recs test xs) (keyed_recs test xs) e) ∙ key-left test key xs k
]
  where
    other : (b : Bool) → (b ≡ true → ⊥) → has_key key (keyed_recs test xs) ≡ false → (b || has_key key (keyed_recs test xs)) ≡ false
    other true h e = absurd (h refl)
    other false h e = e

-- the recs at stamps that pass a test, of keys that pass
pub where-keyed : (at : Stamp → Bool) (test : ℕ → Bool) (rs : List Timed) → timed_where at (keyed test rs) ≡ keyed_recs test (timed_where at rs)
where-keyed at test rs = where-filter at (λ r. test r.key) rs

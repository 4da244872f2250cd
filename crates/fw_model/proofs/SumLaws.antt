-- Sums by key depend on how often each rec is there, and not on the order.
use Rattle.std.proofs.Common.{◌≡◌, ℕ, ◌+◌, ◌*◌, ◌/◌, ◌%◌, ◌^◌, Bool, true, false, cond, ◌&&◌, ◌||◌, ◌==◌, nat_lt, List, [], ◌∷◌, map, refl, sym, ap, ◌∙◌, inl, inr, arith, ◌<◌}
use Rattle.std.specs.List.{flat_map, AllByRecursion}
use Rattle.std.specs.Prelude.{filter}
use Rattle.std.specs.Ordering.{is_eq, nat_cmp}
use Rattle.std.proofs.Math.Nat.{div-add-mod, add-mul-mod_self_left}
use Rattle.std.proofs.lemmas.Bool.{or_parts, cond-true, cond-false, cases_Bool, eqb-true, eqb-false, eq-eqb, ne_eqb, lt-ltb, cond_both}
use Rattle.fw_lemmas.proofs.Each.{each-one}
use Rattle.fw_lemmas.proofs.Orderings.{then_parts, nat_cmp-test}
use Rattle.fw_time.specs.Stamp.{Stamp, leq, same, in_domain}
use Rattle.fw_bag.specs.declared.rec.Rec.{Rec}
use Rattle.fw_bag.specs.Rec.{rec_cmp}
use Rattle.fw_bag.specs.Bag.{how_often}
use Rattle.fw_bag.specs.Keyed.{plus, value_sum, has_key, distinct_keys, sums_of}
use Rattle.fw_flow.specs.WholeBags.{Timed, timed_recs, timed_where, has_stamp, distinct_stamps, sums_at, totals_at, joint_bag}
use Rattle.fw_model.proofs.WeightLaws.{weigh, weigh-flat_map, weigh-map, weigh-same, weigh-equal, one, how_often-where, at_stamp}
use Rattle.fw_model.proofs.ArrivalLaws.{at_edge, together-agrees}
use Rattle.fw_model.proofs.DistinctLaws.{passing, same-swap}
use Rattle.fw_model.proofs.JoinLaws.{weigh-timed}
use Rattle.fw_model.proofs.StampLaws.{same-is, same-refl}
use Rattle.fw_time.specs.declared.stamp.Bounds.{Bounds}
use Rattle.fw_model.specs.Wholes.{part, IsLawfulWhole, AgreeWhere, MakesTheSame}
use Rattle.fw_model.proofs.OutputLaws.{list_any-filter, part-flat_map, part-timed, recs_where-part, together-part, each-timed, each-flat_map, each-together, At}
use Rattle.fw_time.proofs.StampLaws.{leq-refl}

-- ---- weights of recs

-- each rec is equally often in both
abbrev pub AreSameBags : List Rec → List Rec → Type 0
AreSameBags xs ys = (q : Rec) → how_often q xs ≡ how_often q ys

weigh-recs_timed : (w : Rec → ℕ) (rs : List Rec) → weigh (λ r. w r.rec) (timed_recs [] rs) ≡ weigh w rs
weigh-recs_timed w rs = weigh-map (λ r. w r.rec) (λ r. record { at = []; rec = r }) rs

one-recs : (t : Stamp) (q : Rec) (xs ys : List Rec) → AreSameBags xs ys → weigh (one t q) (timed_recs [] xs) ≡ weigh (one t q) (timed_recs [] ys)
one-recs t q xs ys k = weigh-timed t [] q xs ∙ ap (λ n. cond (same t []) n 0) (k q) ∙ sym (weigh-timed t [] q ys)

weigh-bags : (w : Rec → ℕ) (xs ys : List Rec) → AreSameBags xs ys → weigh w xs ≡ weigh w ys
weigh-bags w xs ys k =
    sym (weigh-recs_timed w xs) ∙ weigh-equal (λ r. w r.rec) (timed_recs [] xs) (timed_recs [] ys) (λ t q l. one-recs t q xs ys k) ∙ weigh-recs_timed w ys

-- ---- sums of values

-- the value of a rec with the key
abbrev valued : ℕ → Rec → ℕ
valued key r = cond (r.key == key) r.value 0

-- 1 for a rec with the key
abbrev keyed : ℕ → Rec → ℕ
keyed key r = cond (r.key == key) 1 0

add_mod : (a b : ℕ) → (a + b % 2 ^ 64) % 2 ^ 64 ≡ (a + b) % 2 ^ 64
add_mod a b =
    let m = 2 ^ 64 in
    let d = div-add-mod b m in
    let e : a + b ≡ (a + b % m) + m * (b / m) = omega arith in
    sym (ap (λ n. n % m) e ∙ add-mul-mod_self_left (a + b % m) m (b / m))

value_sum-weigh : (key : ℕ) (rs : List Rec) → value_sum key rs ≡ weigh (valued key) rs % 2 ^ 64
unfolding weigh
value_sum-weigh key [] = refl
value_sum-weigh key (r ∷ rs) = cases (r.key == key) (value_sum-weigh key rs)
  where
    cases : (b : Bool) → value_sum key rs ≡ weigh (valued key) rs % 2 ^ 64
        → cond b (plus r.value (value_sum key rs)) (value_sum key rs) ≡ (cond b r.value 0 + weigh (valued key) rs) % 2 ^ 64
    cases true h = ap (plus r.value) h ∙ add_mod r.value (weigh (valued key) rs)
    cases false h = let z : weigh (valued key) rs ≡ 0 + weigh (valued key) rs = omega arith in h ∙ ap (λ n. n % 2 ^ 64) z

pub value_sum-same : (key : ℕ) (xs ys : List Rec) → AreSameBags xs ys → value_sum key xs ≡ value_sum key ys
value_sum-same key xs ys k = value_sum-weigh key xs ∙ ap (λ n. n % 2 ^ 64) (weigh-bags (valued key) xs ys k) ∙ sym (value_sum-weigh key ys)

has_key-weigh : (key : ℕ) (rs : List Rec) → has_key key rs ≡ nat_lt 0 (weigh (keyed key) rs)
unfolding weigh
has_key-weigh key [] = refl
has_key-weigh key (r ∷ rs) = cases (r.key == key) (has_key-weigh key rs)
  where
    cases : (b : Bool) → has_key key rs ≡ nat_lt 0 (weigh (keyed key) rs) → (b || has_key key rs) ≡ nat_lt 0 (cond b 1 0 + weigh (keyed key) rs)
    cases true h = sym (lt-ltb 0 (1 + weigh (keyed key) rs) (omega arith))
    cases false h = let z : weigh (keyed key) rs ≡ 0 + weigh (keyed key) rs = omega arith in h ∙ ap (λ n. nat_lt 0 n) z

pub has_key-same : (key : ℕ) (xs ys : List Rec) → AreSameBags xs ys → has_key key xs ≡ has_key key ys
has_key-same key xs ys k = has_key-weigh key xs ∙ ap (λ n. nat_lt 0 n) (weigh-bags (keyed key) xs ys k) ∙ sym (has_key-weigh key ys)

-- ---- sums by key

keys-once : (k n : ℕ) (rs : List Rec) → weigh (at_edge k n) (distinct_keys rs) ≡ cond (has_key k rs) n 0
unfolding weigh
keys-once k n [] = refl
keys-once k n (r ∷ rs) =
    let h = keys-once k n rs in
    elim (cases_Bool (has_key r.key rs)) [
      | inl e ↦
          ap (λ b. weigh (at_edge k n) (cond b (distinct_keys rs) (r.key ∷ distinct_keys rs))) e ∙ h
          ∙ ap (λ b. cond b n 0) (elim (cases_Bool (r.key == k)) [
            | inl j ↦ sym (ap (λ i. has_key i rs) (eqb-true r.key k j)) ∙ e ∙ sym (ap (λ b. b || has_key k rs) j)
            | inr j ↦ sym (ap (λ b. b || has_key k rs) j)
          ])
      | inr e ↦
          ap (λ b. weigh (at_edge k n) (cond b (distinct_keys rs) (r.key ∷ distinct_keys rs))) e
          ∙ elim (cases_Bool (r.key == k)) [
            | inl j ↦
                let i = eqb-true r.key k j in
                let here : at_edge k n r.key ≡ n = cond-true (k == r.key) n 0 (eq-eqb k r.key (sym i)) in
                let none : cond (has_key k rs) n 0 ≡ 0 = ap (λ b. cond b n 0) (sym (ap (λ x. has_key x rs) i) ∙ e) in
                (omega (arith, here, none, h)) ∙ sym (ap (λ b. cond (b || has_key k rs) n 0) j)
            | inr j ↦
                let here : at_edge k n r.key ≡ 0 = cond-false (k == r.key) n 0 (ne_eqb k r.key (λ i. eqb-false r.key k j (sym i))) in
                (omega (arith, here, h)) ∙ sym (ap (λ b. cond (b || has_key k rs) n 0) j)
          ]
    ]

pub rec_cmp-test : (x y : Rec) → is_eq (rec_cmp x y) ≡ (x.key == y.key && x.value == y.value)
rec_cmp-test x y =
    then_parts (nat_cmp x.key y.key) (nat_cmp x.value y.value)
    ∙ ap (λ b. b && is_eq (nat_cmp x.value y.value)) (nat_cmp-test x.key y.key)
    ∙ ap (λ b. (x.key == y.key) && b) (nat_cmp-test x.value y.value)

sums-weigh : (x : Rec) (keys : List ℕ) (rs : List Rec) → how_often x (sums_of keys rs) ≡ weigh (at_edge x.key (cond (x.value == value_sum x.key rs) 1 0)) keys
unfolding weigh
sums-weigh x [] rs = refl
sums-weigh x (k ∷ keys) rs =
    ap (λ b. cond b (how_often x (sums_of keys rs) + 1) (how_often x (sums_of keys rs))) (rec_cmp-test x (record { key = k; value = value_sum k rs }))
    ∙ elim (cases_Bool (x.key == k)) [
      | inl e ↦
          let i = eqb-true x.key k e in
          ap (λ b. cond (b && x.value == value_sum k rs) (how_often x (sums_of keys rs) + 1) (how_often x (sums_of keys rs))) e
          ∙ ap (λ j. cond (x.value == value_sum j rs) (how_often x (sums_of keys rs) + 1) (how_often x (sums_of keys rs))) (sym i)
          ∙ one_more (x.value == value_sum x.key rs) (how_often x (sums_of keys rs))
          ∙ ap (λ n. cond (x.value == value_sum x.key rs) 1 0 + n) (sums-weigh x keys rs)
          ∙ sym (ap (λ b. cond b (cond (x.value == value_sum x.key rs) 1 0) 0 + weigh (at_edge x.key (cond (x.value == value_sum x.key rs) 1 0)) keys) e)
      | inr e ↦
          ap (λ b. cond (b && x.value == value_sum k rs) (how_often x (sums_of keys rs) + 1) (how_often x (sums_of keys rs))) e
          ∙ sums-weigh x keys rs ∙ omega arith
          ∙ sym (ap (λ b. cond b (cond (x.value == value_sum x.key rs) 1 0) 0 + weigh (at_edge x.key (cond (x.value == value_sum x.key rs) 1 0)) keys) e)
    ]
  where
    one_more : (b : Bool) (n : ℕ) → cond b (n + 1) n ≡ cond b 1 0 + n
    one_more true n = omega arith
    one_more false n = omega arith

-- a sum is there once for each key
pub sums-is : (x : Rec) (xs ys : List Rec) → how_often x (sums_of (distinct_keys xs) ys) ≡ cond (has_key x.key xs) (cond (x.value == value_sum x.key ys) 1 0) 0
sums-is x xs ys = sums-weigh x (distinct_keys xs) ys ∙ keys-once x.key (cond (x.value == value_sum x.key ys) 1 0) xs

pub sums-same : (x : Rec) (xs ys vs ws : List Rec) → AreSameBags xs vs → AreSameBags ys ws
    → how_often x (sums_of (distinct_keys xs) ys) ≡ how_often x (sums_of (distinct_keys vs) ws)
sums-same x xs ys vs ws f g =
    sums-is x xs ys
    ∙ ap (λ b. cond b (cond (x.value == value_sum x.key ys) 1 0) 0) (has_key-same x.key xs vs f)
    ∙ ap (λ n. cond (has_key x.key vs) (cond (x.value == n) 1 0) 0) (value_sum-same x.key ys ws g)
    ∙ sym (sums-is x vs ws)

-- ---- sums at stamps

stamps-once : (t : Stamp) (n : ℕ) (rs : List Timed) → weigh (λ u. cond (same t u) n 0) (distinct_stamps rs) ≡ cond (has_stamp t rs) n 0
unfolding weigh
stamps-once t n [] = refl
stamps-once t n (r ∷ rs) =
    let f : Stamp → ℕ = λ u. cond (same t u) n 0 in
    let h = stamps-once t n rs in
    elim (cases_Bool (has_stamp r.at rs)) [
      | inl e ↦
          ap (λ b. weigh f (cond b (distinct_stamps rs) (r.at ∷ distinct_stamps rs))) e ∙ h
          ∙ ap (λ b. cond b n 0) (elim (cases_Bool (same r.at t)) [
            | inl j ↦ sym (ap (λ i. has_stamp i rs) (same-is r.at t j)) ∙ e ∙ sym (ap (λ b. b || has_stamp t rs) j)
            | inr j ↦ sym (ap (λ b. b || has_stamp t rs) j)
          ])
      | inr e ↦
          ap (λ b. weigh f (cond b (distinct_stamps rs) (r.at ∷ distinct_stamps rs))) e
          ∙ elim (cases_Bool (same r.at t)) [
            | inl j ↦
                let i = same-is r.at t j in
                let here : f r.at ≡ n = ap f i ∙ cond-true (same t t) n 0 (same-refl t) in
                let none : cond (has_stamp t rs) n 0 ≡ 0 = ap (λ b. cond b n 0) (sym (ap (λ x. has_stamp x rs) i) ∙ e) in
                (omega (arith, here, none, h)) ∙ sym (ap (λ b. cond (b || has_stamp t rs) n 0) j)
            | inr j ↦
                let here : f r.at ≡ 0 = cond-false (same t r.at) n 0 (same-swap t r.at ∙ j) in
                (omega (arith, here, h)) ∙ sym (ap (λ b. cond (b || has_stamp t rs) n 0) j)
          ]
    ]

where-none : (t : Stamp) (rs : List Timed) → has_stamp t rs ≡ false → timed_where (same t) rs ≡ []
where-none t [] k = refl
where-none t (r ∷ rs) k =
    let a = or_parts (same r.at t) (has_stamp t rs) k in
    ap (λ b. map (λ (x : Timed). x.rec) (cond b (r ∷ filter (λ x. same t x.at) rs) (filter (λ x. same t x.at) rs))) (same-swap t r.at ∙ a.0)
    ∙ where-none t rs a.1

-- what is sent at each stamp that is there, by a word for each stamp that gives nothing where no rec is
stamped-is : (t : Stamp) (x : Rec) (f : Stamp → List Rec) (rs : List Timed) → (has_stamp t rs ≡ false → f t ≡ [])
    → weigh (one t x) (flat_map (λ u. timed_recs u (f u)) (distinct_stamps rs)) ≡ how_often x (f t)
stamped-is t x f rs z =
    weigh-flat_map (one t x) (λ u. timed_recs u (f u)) (distinct_stamps rs)
    ∙ weigh-same (λ u. weigh (one t x) (timed_recs u (f u))) (λ u. cond (same t u) (how_often x (f t)) 0) (distinct_stamps rs)
    (each-one (λ u. weigh (one t x) (timed_recs u (f u)) ≡ cond (same t u) (how_often x (f t)) 0) (distinct_stamps rs) each)
    ∙ stamps-once t (how_often x (f t)) rs
    ∙ elim (cases_Bool (has_stamp t rs)) [
      | inl e ↦ ap (λ b. cond b (how_often x (f t)) 0) e
      | inr e ↦ ap (λ b. cond b (how_often x (f t)) 0) e ∙ sym (ap (how_often x) (z e))
    ]
  where
    each : (u : Stamp) → weigh (one t x) (timed_recs u (f u)) ≡ cond (same t u) (how_often x (f t)) 0
    each u = weigh-timed t u x (f u) ∙ elim (cases_Bool (same t u)) [
      | inl e ↦ ap (λ v. cond (same t u) (how_often x (f v)) 0) (sym (same-is t u e))
      | inr e ↦ ap (λ b. cond b (how_often x (f u)) 0) e ∙ sym (ap (λ b. cond b (how_often x (f t)) 0) e)
    ]

pub sum-outputs : (t : Stamp) (x : Rec) (rs : List Timed)
    → weigh (one t x) (sums_at (distinct_stamps rs) rs) ≡ how_often x (sums_of (distinct_keys (timed_where (same t) rs)) (timed_where (same t) rs))
sum-outputs t x rs =
    stamped-is t x (λ u. sums_of (distinct_keys (timed_where (same u) rs)) (timed_where (same u) rs)) rs
    (λ e. ap (λ qs. sums_of (distinct_keys qs) (timed_where (same t) rs)) (where-none t rs e))

pub total-outputs : (t : Stamp) (x : Rec) (rs : List Timed)
    → weigh (one t x) (totals_at (distinct_stamps rs) rs) ≡ how_often x (sums_of (distinct_keys (timed_where (same t) rs)) (timed_where (λ s. leq s t) rs))
total-outputs t x rs =
    stamped-is t x (λ u. sums_of (distinct_keys (timed_where (same u) rs)) (timed_where (λ s. leq s u) rs)) rs
    (λ e. ap (λ qs. sums_of (distinct_keys qs) (timed_where (λ s. leq s t) rs)) (where-none t rs e))

-- how often a rec is among those at stamps that pass a test
pub how_often-passing : (test : Stamp → Bool) (q : Rec) (rs : List Timed) → how_often q (timed_where test rs) ≡ weigh (passing test q) rs
unfolding weigh
how_often-passing test q [] = refl
how_often-passing test q (r ∷ rs) = cases (test r.at) (how_often-passing test q rs)
  where
    one_more : (b : Bool) (n : ℕ) → cond b (n + 1) n ≡ cond b 1 0 + n
    one_more true n = omega arith
    one_more false n = omega arith

    cases : (b : Bool) → how_often q (timed_where test rs) ≡ weigh (passing test q) rs
        → how_often q (map (λ z. z.rec) (cond b (r ∷ filter (λ z. test z.at) rs) (filter (λ z. test z.at) rs))) ≡ cond (b && is_eq (rec_cmp q r.rec)) 1 0 + weigh (passing test q) rs
    cases true h = one_more (is_eq (rec_cmp q r.rec)) (how_often q (timed_where test rs)) ∙ ap (λ n. cond (is_eq (rec_cmp q r.rec)) 1 0 + n) h
    cases false h = h ∙ omega arith

-- ---- bags that agree

-- at the stamp the recs of both are the same
pub same_now : (t : Stamp) (xs ys : List Timed) → ((q : Rec) → weigh (one t q) xs ≡ weigh (one t q) ys) → AreSameBags (timed_where (same t) xs) (timed_where (same t) ys)
same_now t xs ys k q = how_often-where t q xs ∙ k q ∙ sym (how_often-where t q ys)

passing-stamp : (t : Stamp) (q : Rec) (u : Stamp) (r : Rec) → 0 < passing (λ s. leq s t) q (at_stamp u r) → leq u t ≡ true
passing-stamp t q u r l = elim (cases_Bool (leq u t)) [
  | inl e ↦ e
  | inr e ↦ let z : passing (λ s. leq s t) q (at_stamp u r) ≡ 0 = ap (λ b. cond (b && is_eq (rec_cmp q r)) 1 0) e in absurd (omega arith)
]

-- up to it
pub same_upto : (t : Stamp) (xs ys : List Timed) → AgreeWhere (λ s. leq s t) xs ys → AreSameBags (timed_where (λ s. leq s t) xs) (timed_where (λ s. leq s t) ys)
same_upto t xs ys k q =
    how_often-passing (λ s. leq s t) q xs
    ∙ weigh-equal (passing (λ s. leq s t) q) xs ys (λ u r l. k u r (passing-stamp t q u r l))
    ∙ sym (how_often-passing (λ s. leq s t) q ys)

-- ---- what is asked of what sums and totals send in all

each-stamp : (P : Stamp → Type 0) (rs : List Timed) → AllByRecursion (At P) rs → AllByRecursion P (distinct_stamps rs)
each-stamp P [] a = tt
each-stamp P (r ∷ rs) a =
    cond_both (has_stamp r.at rs) (distinct_stamps rs) (r.at ∷ distinct_stamps rs) (AllByRecursion P)
    (λ e. each-stamp P rs a.1) (λ e. (a.0, each-stamp P rs a.1))

sums-part : (t : Stamp) (ts : List Stamp) (rs : List Timed) → part (same t) (sums_at ts rs) ≡ part (same t) (sums_at (filter (same t) ts) (part (same t) rs))
sums-part t ts rs =
    let sums : List Rec → List Rec = λ qs. sums_of (distinct_keys qs) qs in
    part-flat_map (same t) (same t) (λ u. timed_recs u (sums (timed_where (same u) rs))) (λ u. timed_recs u (sums (timed_where (same u) (part (same t) rs))))
    (λ u. part-timed t u (sums (timed_where (same u) rs)) (sums (timed_where (same u) (part (same t) rs))) (λ e. ap sums (recs_where-part t u e rs))) ts

distinct_stamps-part : (t : Stamp) (rs : List Timed) → filter (same t) (distinct_stamps rs) ≡ distinct_stamps (part (same t) rs)
distinct_stamps-part t [] = refl
distinct_stamps-part t (r ∷ rs) =
    cond_both (has_stamp r.at rs) (distinct_stamps rs) (r.at ∷ distinct_stamps rs) (λ ts. filter (same t) ts ≡ distinct_stamps (part (same t) (r ∷ rs)))
    (λ a. step (distinct_stamps-part t rs) a)
    (λ a. other (distinct_stamps-part t rs) a)
  where
    whole : same t r.at ≡ true → has_stamp r.at (part (same t) rs) ≡ has_stamp r.at rs
    whole e = list_any-filter (λ (x : Timed). same x.at r.at) (λ (x : Timed). same t x.at) (λ x k. ap (same t) (same-is x.at r.at k) ∙ e) rs

    step : filter (same t) (distinct_stamps rs) ≡ distinct_stamps (part (same t) rs) → has_stamp r.at rs ≡ true
        → filter (same t) (distinct_stamps rs) ≡ distinct_stamps (part (same t) (r ∷ rs))
    step ih a =
        cond_both (same t r.at) (r ∷ part (same t) rs) (part (same t) rs) (λ ys. filter (same t) (distinct_stamps rs) ≡ distinct_stamps ys)
        (λ e. ih ∙ sym (cond-true (has_stamp r.at (part (same t) rs)) (distinct_stamps (part (same t) rs)) (r.at ∷ distinct_stamps (part (same t) rs)) (whole e ∙ a)))
        (λ e. ih)

    other : filter (same t) (distinct_stamps rs) ≡ distinct_stamps (part (same t) rs) → has_stamp r.at rs ≡ false
        → filter (same t) (r.at ∷ distinct_stamps rs) ≡ distinct_stamps (part (same t) (r ∷ rs))
    other ih a = elim (cases_Bool (same t r.at)) [
      | inl e ↦
          cond-true (same t r.at) (r.at ∷ filter (same t) (distinct_stamps rs)) (filter (same t) (distinct_stamps rs)) e
          ∙ ap (λ ts. r.at ∷ ts) ih
          ∙ sym (cond-false (has_stamp r.at (part (same t) rs)) (distinct_stamps (part (same t) rs)) (r.at ∷ distinct_stamps (part (same t) rs)) (whole e ∙ a))
          ∙ sym (ap distinct_stamps (cond-true (same t r.at) (r ∷ part (same t) rs) (part (same t) rs) e))
      | inr e ↦
          cond-false (same t r.at) (r.at ∷ filter (same t) (distinct_stamps rs)) (filter (same t) (distinct_stamps rs)) e
          ∙ ih
          ∙ sym (ap distinct_stamps (cond-false (same t r.at) (r ∷ part (same t) rs) (part (same t) rs) e))
    ]

sum-agrees : MakesTheSame (λ t s. same t s) (λ bags. sums_at (distinct_stamps (joint_bag bags)) (joint_bag bags))
sum-agrees t x bag cag ds k =
    let xs = joint_bag (map bag ds) in
    let ys = joint_bag (map cag ds) in
    let now = same_now t xs ys (λ q. together-agrees (same t) bag cag ds k t q (same-refl t)) in
    sum-outputs t x xs
    ∙ sums-same x (timed_where (same t) xs) (timed_where (same t) xs) (timed_where (same t) ys) (timed_where (same t) ys) now now
    ∙ sym (sum-outputs t x ys)

total-agrees : MakesTheSame (λ t s. leq s t) (λ bags. totals_at (distinct_stamps (joint_bag bags)) (joint_bag bags))
total-agrees t x bag cag ds k =
    let xs = joint_bag (map bag ds) in
    let ys = joint_bag (map cag ds) in
    let a = together-agrees (λ s. leq s t) bag cag ds k in
    total-outputs t x xs
    ∙ sums-same x (timed_where (same t) xs) (timed_where (λ s. leq s t) xs) (timed_where (same t) ys) (timed_where (λ s. leq s t) ys)
    (same_now t xs ys (λ q. a t q (leq-refl t))) (same_upto t xs ys a)
    ∙ sym (total-outputs t x ys)

pub each_sum : (bounds : Bounds) (alone at_once inner : Type 0) → (at_once → ⊥)
    → IsLawfulWhole bounds bounds (λ t s. same t s) alone at_once inner (λ batches bags. sums_at (distinct_stamps (joint_bag bags)) (joint_bag bags))
each_sum bounds alone at_once inner m = record {
  lands = λ batches bags l a.
      let P : Stamp → Type 0 = λ s. in_domain bounds s ≡ true in
      each-flat_map P (At P) _ (λ t i. each-timed P t i _) (distinct_stamps (joint_bag bags)) (each-stamp P (joint_bag bags) (each-together (At P) bags a));
  by_parts = λ k batches bags t.
      let rs = joint_bag bags in
      sums-part t (distinct_stamps rs) rs
      ∙ ap (λ ts. part (same t) (sums_at ts (part (same t) rs))) (distinct_stamps-part t rs)
      ∙ ap (λ qs. part (same t) (sums_at (distinct_stamps qs) qs)) (sym (together-part (same t) bags));
  fewer = λ k. absurd (m k);
  agrees = λ k batches t x bag cag ds f. sum-agrees t x bag cag ds f;
}

pub each_total : (bounds : Bounds) (alone at_once inner : Type 0) → (alone → ⊥) → (at_once → ⊥)
    → IsLawfulWhole bounds bounds (λ t s. leq s t) alone at_once inner (λ batches bags. totals_at (distinct_stamps (joint_bag bags)) (joint_bag bags))
each_total bounds alone at_once inner n m = record {
  lands = λ batches bags l a.
      let P : Stamp → Type 0 = λ s. in_domain bounds s ≡ true in
      each-flat_map P (At P) _ (λ t i. each-timed P t i _) (distinct_stamps (joint_bag bags)) (each-stamp P (joint_bag bags) (each-together (At P) bags a));
  by_parts = λ k batches bags t. absurd (n k);
  fewer = λ k. absurd (m k);
  agrees = λ k batches t x bag cag ds f. total-agrees t x bag cag ds f;
}

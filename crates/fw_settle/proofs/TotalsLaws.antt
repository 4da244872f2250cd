-- The totals of a node have a spelling: their keys rise.
use Rattle.std.proofs.Common.{◌≡◌, ℕ, suc, ◌+◌, ◌<◌, ◌≤◌, ◌==◌, Bool, true, false, cond, List, [], ◌∷◌, ◌++◌, refl, sym, ◌∙◌, ap, inl, inr, arith}
use Rattle.std.specs.Prelude.{nat_lt}
use Rattle.std.specs.List.{AllByRecursion}
use Rattle.std.specs.Option.{option_map_or}
use Rattle.std.specs.Ordering.{nat_cmp, is_eq, is_gt}
use Rattle.std.proofs.lemmas.Bool.{and_from, cases_lt, cases_eq, cond_both, eq-eqb, lt-ltb}
use Rattle.std.proofs.lemmas.Bool.Decides.{nat_tests}
use Rattle.fw_lemmas.proofs.Bools.{two_ways}
use Rattle.fw_lemmas.proofs.Each.{each-one, each-map}
use Rattle.fw_lemmas.proofs.Lists.{last_of}
use Rattle.fw_lemmas.proofs.Orderings.{gt_then}
use Rattle.fw_bag.specs.declared.rec.Rec.{Rec}
use Rattle.fw_bag.specs.Bag.{bag_sum, how_often}
use Rattle.fw_bag.specs.Keyed.{sorted_recs, value_sum, has_key, distinct_keys, sums_of}
use Rattle.fw_bag.specs.Rec.{rec_cmp, IsAscending}
use Rattle.fw_bag.proofs.BagLaws.{AllByRecursion-with_rec, IsAscending-bag_sum, how_often-bag_sum, how_often-here}
use Rattle.fw_flow.specs.Kind.{Kind}
use Rattle.fw_flow.specs.declared.kind.Kind.TheVariants as kind
use Rattle.fw_model.proofs.SumLaws.{rec_cmp-test, sums-is}
use Rattle.fw_node.specs.Past.{totals_kept, totals_changed}
use Rattle.fw_bytes.specs.Sound.{each_may_follow}
use Rattle.fw_record.specs.Sound.{may_follow_totals}

-- each key is at least the first number, and greater than those before it
abbrev Rise : ℕ → List Rec → Type 0
Rise n [] = Unit {0}
Rise n (r ∷ rs) = (n ≤ r.key) × Rise (suc r.key) rs

-- ---- one after the other

greater : (a b : ℕ) → b < a → is_gt (nat_cmp a b) ≡ true
greater a b l = grind (arith, nat_tests)

-- a rec that is not less than another and not the same has a greater key, where the values are those of the keys
key-above : (v : ℕ → ℕ) (x y : Rec) → x.value ≡ v x.key → y.value ≡ v y.key → is_gt (rec_cmp x y) ≡ false → is_eq (rec_cmp x y) ≡ false → x.key < y.key
key-above v x y of_x of_y not_gt not_eq = elim (cases_lt x.key y.key) [
  | inl l ↦ l
  | inr ge ↦ elim (cases_eq x.key y.key) [
    | inl same ↦
        absurd (two_ways (is_eq (rec_cmp x y))
        (rec_cmp-test x y ∙ and_from (x.key == y.key) (x.value == y.value) (eq-eqb x.key y.key same) (eq-eqb x.value y.value (of_x ∙ ap v same ∙ sym of_y))) not_eq)
    | inr other ↦
        let l : y.key < x.key = less y.key x.key ge (λ e. other (sym e)) in
        absurd (two_ways (is_gt (rec_cmp x y)) (gt_then (nat_cmp x.key y.key) (nat_cmp x.value y.value) (greater x.key y.key l)) not_gt)
  ]
]
  where
    less : (a b : ℕ) → a ≤ b → (a ≡ b → ⊥) → a < b
    less a b l n = elim (cases_lt a b) [ inl k ↦ k | inr k ↦ absurd (n (omega arith)) ]

none-there : (x : Rec) (rs : List Rec) → how_often x rs ≡ 0 → AllByRecursion (λ y. is_eq (rec_cmp x y) ≡ false) rs
none-there x [] e = tt
none-there x (y ∷ rs) e = by (is_eq (rec_cmp x y)) refl e (none-there x rs)
  where
    by : (b : Bool) → is_eq (rec_cmp x y) ≡ b → cond b (how_often x rs + 1) (how_often x rs) ≡ 0
        → (how_often x rs ≡ 0 → AllByRecursion (λ z. is_eq (rec_cmp x z) ≡ false) rs) → AllByRecursion (λ z. is_eq (rec_cmp x z) ≡ false) (y ∷ rs)
    by true k o rest = absurd (omega arith)
    by false k o rest = (k, rest o)

fewer : (q x : Rec) (rs : List Rec) → how_often q (x ∷ rs) ≤ 1 → how_often q rs ≤ 1
fewer q x rs = cond_both (is_eq (rec_cmp q x)) (how_often q rs + 1) (how_often q rs) (λ n. n ≤ 1 → how_often q rs ≤ 1) (λ e l. omega arith) (λ e l. l)

all-above : (v : ℕ → ℕ) (x : Rec) → x.value ≡ v x.key → (rs : List Rec) → AllByRecursion (λ y. is_gt (rec_cmp x y) ≡ false) rs → AllByRecursion (λ (y : Rec). y.value ≡ v y.key) rs
    → AllByRecursion (λ y. is_eq (rec_cmp x y) ≡ false) rs → AllByRecursion (λ (y : Rec). suc x.key ≤ y.key) rs
all-above v x of_x [] a b c = tt
all-above v x of_x (y ∷ rs) a b c = (key-above v x y of_x b.0 a.0 c.0, all-above v x of_x rs a.1 b.1 c.1)

keys-rise : (v : ℕ → ℕ) (rs : List Rec) → IsAscending rs → AllByRecursion (λ (x : Rec). x.value ≡ v x.key) rs → ((q : Rec) → how_often q rs ≤ 1)
    → (n : ℕ) → AllByRecursion (λ (x : Rec). n ≤ x.key) rs → Rise n rs
keys-rise v [] up values once n low = tt
keys-rise v (x ∷ rs) up values once n low =
    let same : is_eq (rec_cmp x x) ≡ true = rec_cmp-test x x ∙ and_from (x.key == x.key) (x.value == x.value) (eq-eqb x.key x.key refl) (eq-eqb x.value x.value refl) in
    let here = how_often-here x x rs same in
    let most = once x in
    let none : how_often x rs ≡ 0 = omega (arith, here, most) in
    (low.0, keys-rise v rs up.1 values.1 (λ q. fewer q x rs (once q)) (suc x.key) (all-above v x values.0 rs up.0 values.1 (none-there x rs none)))

-- ---- sums by key

each-sorted : (P : Rec → Type 0) (xs : List Rec) → AllByRecursion P xs → AllByRecursion P (bag_sum xs [])
each-sorted P [] a = tt
each-sorted P (x ∷ xs) a = AllByRecursion-with_rec P x (bag_sum xs []) a.0 (each-sorted P xs a.1)

at-most_one : (a b : Bool) → cond a (cond b 1 0) 0 ≤ 1
at-most_one true true = omega arith
at-most_one true false = omega arith
at-most_one false b = omega arith

sums-rise : (keys rs : List Rec) → Rise 0 (sorted_recs (sums_of (distinct_keys keys) rs))
sums-rise keys rs =
    let sums = sums_of (distinct_keys keys) rs in
    keys-rise (λ k. value_sum k rs) (sorted_recs sums) (IsAscending-bag_sum sums [] tt)
    (each-sorted (λ (x : Rec). x.value ≡ value_sum x.key rs) sums
    (each-map (λ (x : Rec). x.value ≡ value_sum x.key rs) (λ (k : ℕ). record { key = k; value = value_sum k rs }) (distinct_keys keys)
    (each-one (λ (k : ℕ). value_sum k rs ≡ value_sum k rs) (distinct_keys keys) (λ k. refl))))
    (λ q.
    let is = how_often-bag_sum q sums [] in
    let one = sums-is q keys rs in
    let most = at-most_one (has_key q.key keys) (q.value == value_sum q.key rs) in
    omega (arith, is, one, most))
    0 (each-one (λ (x : Rec). 0 ≤ x.key) (sorted_recs sums) (λ x. omega arith))

follow-last : (before : List Rec) (y : Rec) (rs : List Rec) → Rise (suc y.key) rs → each_may_follow may_follow_totals (before ++ y ∷ []) rs ≡ true
follow-last before y [] a = refl
follow-last before y (x ∷ rs) a =
    let next = ap (λ o. option_map_or (λ (last : Rec). nat_lt last.key x.key) o true) (last_of before y) ∙ lt-ltb y.key x.key a.0 in
    and_from (may_follow_totals (before ++ y ∷ []) x) (each_may_follow may_follow_totals ((before ++ y ∷ []) ++ x ∷ []) rs) next (follow-last (before ++ y ∷ []) x rs a.1)

rise-follow : (n : ℕ) (rs : List Rec) → Rise n rs → each_may_follow may_follow_totals [] rs ≡ true
rise-follow n [] a = refl
rise-follow n (x ∷ rs) a = and_from true (each_may_follow may_follow_totals (x ∷ []) rs) refl (follow-last [] x rs a.1)

-- the totals that a node of the kind keeps may stand one after the other
pub totals-follow : (k : Kind) (rs : List Rec) → each_may_follow may_follow_totals [] (totals_kept k rs) ≡ true
totals-follow kind.Total rs = rise-follow 0 (sorted_recs (sums_of (distinct_keys rs) rs)) (sums-rise rs rs)
totals-follow kind.Ledger rs = rise-follow 0 (sorted_recs (sums_of (distinct_keys rs) rs)) (sums-rise rs rs)
totals-follow k rs = refl

-- and so may those of the keys that changed
pub changed-follow : (k : Kind) (since all : List Rec) → each_may_follow may_follow_totals [] (totals_changed k since all) ≡ true
changed-follow kind.Total since all = rise-follow 0 (sorted_recs (sums_of (distinct_keys since) all)) (sums-rise since all)
changed-follow kind.Ledger since all = rise-follow 0 (sorted_recs (sums_of (distinct_keys since) all)) (sums-rise since all)
changed-follow k since all = refl

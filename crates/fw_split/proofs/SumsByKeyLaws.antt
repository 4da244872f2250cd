-- Sums and totals by key: of some keys they are those of their recs alone.
use Rattle.std.proofs.Common.{◌≡◌, ℕ, Bool, cond, ◌==◌, List, sym, ap, ◌∙◌, inl, inr}
use Rattle.std.proofs.lemmas.Bool.{cases_Bool}
use Rattle.fw_time.specs.Stamp.{Stamp, leq, same}
use Rattle.fw_bag.specs.declared.rec.Rec.{Rec}
use Rattle.fw_bag.specs.Bag.{how_often}
use Rattle.fw_bag.specs.Keyed.{value_sum, has_key, distinct_keys, sums_of}
use Rattle.fw_flow.specs.WholeBags.{Timed, timed_where, distinct_stamps, sums_at, totals_at}
use Rattle.fw_model.proofs.SumLaws.{sums-is, sum-outputs, total-outputs}
use Rattle.fw_model.proofs.WeightLaws.{weigh, one}
use Rattle.fw_split.proofs.KeyLaws.{keyed, keyed_recs, key-keyed, key-left, value-keyed, where-keyed}

sums-keyed : (test : ℕ → Bool) (x : Rec) (now all : List Rec)
    → how_often x (sums_of (distinct_keys (keyed_recs test now)) (keyed_recs test all)) ≡ cond (test x.key) (how_often x (sums_of (distinct_keys now) all)) 0
sums-keyed test x now all =
    let there : ℕ → Bool → ℕ = λ v b. cond b (cond (x.value == v) 1 0) 0 in
    sums-is x (keyed_recs test now) (keyed_recs test all)
    ∙ elim (cases_Bool (test x.key)) [
      | inl k ↦
          ap (there (value_sum x.key (keyed_recs test all))) (key-keyed test x.key now k)
          ∙ ap (λ v. there v (has_key x.key now)) (value-keyed test x.key all k)
          ∙ sym (sums-is x now all)
          ∙ sym (ap (λ b. cond b (how_often x (sums_of (distinct_keys now) all)) 0) k)
      | inr k ↦
          ap (there (value_sum x.key (keyed_recs test all))) (key-left test x.key now k)
          ∙ sym (ap (λ b. cond b (how_often x (sums_of (distinct_keys now) all)) 0) k)
    ]

-- the sums of the recs of some keys
pub sum-keyed : (test : ℕ → Bool) (t : Stamp) (x : Rec) (rs : List Timed)
    → weigh (one t x) (sums_at (distinct_stamps (keyed test rs)) (keyed test rs)) ≡ cond (test x.key) (weigh (one t x) (sums_at (distinct_stamps rs) rs)) 0
sum-keyed test t x rs =
    sum-outputs t x (keyed test rs)
    ∙ ap (λ qs. how_often x (sums_of (distinct_keys qs) qs)) (where-keyed (same t) test rs)
    ∙ sums-keyed test x (timed_where (same t) rs) (timed_where (same t) rs)
    ∙ ap (λ n. cond (test x.key) n 0) (sym (sum-outputs t x rs))

-- the totals of the recs of some keys
pub total-keyed : (test : ℕ → Bool) (t : Stamp) (x : Rec) (rs : List Timed)
    → weigh (one t x) (totals_at (distinct_stamps (keyed test rs)) (keyed test rs)) ≡ cond (test x.key) (weigh (one t x) (totals_at (distinct_stamps rs) rs)) 0
total-keyed test t x rs =
    let upto : Stamp → Bool = λ s. leq s t in
    total-outputs t x (keyed test rs)
    ∙ ap (λ qs. how_often x (sums_of (distinct_keys qs) (timed_where upto (keyed test rs)))) (where-keyed (same t) test rs)
    ∙ ap (λ qs. how_often x (sums_of (distinct_keys (keyed_recs test (timed_where (same t) rs))) qs)) (where-keyed upto test rs)
    ∙ sums-keyed test x (timed_where (same t) rs) (timed_where upto rs)
    ∙ ap (λ n. cond (test x.key) n 0) (sym (total-outputs t x rs))

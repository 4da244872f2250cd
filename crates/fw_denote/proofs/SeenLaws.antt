-- What a distinct finds among the timed recs that it has seen.
use Rattle.std.proofs.Common.{◌≡◌, ℕ, zero, suc, ◌+◌, ◌<◌, Bool, true, false, cond, List, [], ◌∷◌, reverse, refl, sym, ap, ◌∙◌, arith}
use Rattle.std.specs.Prelude.{◌||◌}
use Rattle.std.specs.List.{AllByRecursion, list_any}
use Rattle.std.specs.List.Sorted.{IsStrictlySortedBy}
use Rattle.std.specs.declared.cmp.Ordering.{Ordering}
use Rattle.std.specs.declared.cmp.Ordering.TheVariants.{Less, Equal, Greater}
use Rattle.std.specs.Ordering.{is_eq, ordering_reverse}
use Rattle.std.specs.BTreeSet.{BTreeSet, contains}
use Rattle.std.proofs.lemmas.Map.Keys.{sorted_head, sorted_tail}
use Rattle.fw_time.specs.Stamp.{Stamp}
use Rattle.fw_bag.specs.declared.rec.Rec.{Rec}
use Rattle.fw_flow.specs.WholeBags.{Timed, timed_cmp, in_order, is_among_timed, distinct_timed}
use Rattle.fw_model.proofs.TimedLaws.{timed_order}
use Rattle.fw_model.proofs.WeightLaws.{weigh, one, at_stamp}
use Rattle.fw_model.proofs.DistinctLaws.{sign, timed_cmp-test, among_timed-some, among_timed-none, distinct-outputs}
use Rattle.fw_denote.proofs.Counts.{one_bag, reversed-weigh}

-- the sign of the count is whether it is among them
sign-among : (r : Timed) (xs : List Timed) → sign (weigh (one r.at r.rec) xs) ≡ cond (is_among_timed r xs) 1 0
unfolding sign
sign-among r xs = by (is_among_timed r xs) refl
  where
    of_some : (n : ℕ) → 0 < n → sign n ≡ 1
    of_some zero l = absurd (omega arith)
    of_some (suc n) l = refl

    by : (b : Bool) → is_among_timed r xs ≡ b → sign (weigh (one r.at r.rec) xs) ≡ cond b 1 0
    by true e = of_some _ (among_timed-some r xs e)
    by false e = ap sign (among_timed-none r xs e)

-- whether a timed rec is among others does not depend on their order
pub seen_all : (seen : BTreeSet Timed) (rs : List Timed) → ((r : Timed) → contains timed_cmp seen r ≡ is_among_timed r (reverse rs))
    → (r : Timed) → contains timed_cmp seen r ≡ is_among_timed r rs
seen_all seen rs h r = h r ∙ by (is_among_timed r (reverse rs)) (is_among_timed r rs) refl refl
  where
    counts : weigh (one r.at r.rec) (reverse rs) ≡ weigh (one r.at r.rec) rs
    counts = reversed-weigh (one r.at r.rec) rs

    by : (a b : Bool) → is_among_timed r (reverse rs) ≡ a → is_among_timed r rs ≡ b → a ≡ b
    by true true e f = refl
    by false false e f = refl
    by true false e f = let x = among_timed-some r (reverse rs) e in let y = among_timed-none r rs f in let z = counts in absurd (omega arith)
    by false true e f = let x = among_timed-none r (reverse rs) e in let y = among_timed-some r rs f in let z = counts in absurd (omega arith)

same_either_way : (x r : Timed) → is_eq (timed_cmp x r) ≡ is_eq (timed_cmp r x)
same_either_way x r = ap is_eq (timed_order.antisymm x r) ∙ by (timed_cmp r x)
  where
    by : (o : Ordering) → is_eq (ordering_reverse o) ≡ is_eq o
    by Less = refl
    by Equal = refl
    by Greater = refl

-- one timed rec more was seen
pub seen_more : (x r : Timed) (xs : List Timed) (b : Bool) → b ≡ is_among_timed r xs → cond (is_eq (timed_cmp x r)) true b ≡ is_among_timed r (x ∷ xs)
seen_more x r xs b h = ap (λ a. cond a true b) (same_either_way x r) ∙ ap (λ c. cond (is_eq (timed_cmp r x)) true c) h ∙ by (is_eq (timed_cmp r x))
  where
    by : (a : Bool) → cond a true (is_among_timed r xs) ≡ (a || is_among_timed r xs)
    by true = refl
    by false = refl

above : (x y : Timed) (ys : List Timed) → timed_cmp x y ≡ Equal → AllByRecursion (λ z. timed_cmp y z ≡ Less) ys → list_any (λ z. is_eq (timed_cmp x z)) ys ≡ false
above x y [] e a = refl
above x y (z ∷ zs) e a = ap (λ o. is_eq o || list_any (λ u. is_eq (timed_cmp x u)) zs) (timed_order.congr x y z e ∙ a.0) ∙ above x y zs e a.1

-- in a list in which each is less than the later ones a timed rec is at most once
sorted-weigh : (t : Stamp) (q : Rec) (xs : List Timed) → IsStrictlySortedBy timed_cmp xs → weigh (one t q) xs ≡ cond (is_among_timed (at_stamp t q) xs) 1 0
unfolding weigh one
sorted-weigh t q [] s = refl
sorted-weigh t q (x ∷ xs) s =
    let ih = sorted-weigh t q xs (sorted_tail timed_cmp x xs s) in
    ap (λ b. cond b 1 0 + weigh (one t q) xs) (sym (timed_cmp-test (at_stamp t q) x))
    ∙ ap (λ n. cond (is_eq (timed_cmp (at_stamp t q) x)) 1 0 + n) ih
    ∙ by (timed_cmp (at_stamp t q) x) refl
  where
    by : (o : Ordering) → timed_cmp (at_stamp t q) x ≡ o
        → cond (is_eq o) 1 0 + cond (is_among_timed (at_stamp t q) xs) 1 0 ≡ cond (is_eq o || is_among_timed (at_stamp t q) xs) 1 0
    by Less e = omega arith
    by Greater e = omega arith
    by Equal e = ap (λ b. 1 + cond b 1 0) (above (at_stamp t q) x xs e (sorted_head timed_cmp x xs s))

-- the keys of a set of what was seen are what a distinct sends
pub seen_sent : (seen : BTreeSet Timed) (rs sent : List Timed) → IsStrictlySortedBy timed_cmp seen.keys
    → ((r : Timed) → contains timed_cmp seen r ≡ is_among_timed r rs) → sent ≡ seen.keys → in_order sent ≡ in_order (distinct_timed rs)
seen_sent seen rs sent s h e =
    one_bag sent (distinct_timed rs) (record {
      weighs = λ t q.
          ap (weigh (one t q)) e ∙ sorted-weigh t q seen.keys s
          ∙ ap (λ b. cond b 1 0) (h (at_stamp t q))
          ∙ sym (distinct-outputs t q rs ∙ sign-among (at_stamp t q) rs);
    })

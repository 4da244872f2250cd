-- What is of a part of a bag, in order; and that the parts of a bag are the bag.
use Rattle.std.proofs.Common.{◌≡◌, ℕ, zero, suc, ◌+◌, ◌<◌, ◌≤◌, ◌%◌, Bool, true, false, cond, ◌==◌, List, [], ◌∷◌, refl, sym, ap, ◌∙◌, inl, inr, arith}
use Rattle.std.specs.List.{flat_map, range_with_len}
use Rattle.std.proofs.Math.Nat.{mod-lt}
use Rattle.std.proofs.lemmas.Bool.{cases_Bool, eqb-true, eqb-false}
use Rattle.fw_time.specs.Stamp.{Stamp}
use Rattle.fw_bag.specs.declared.rec.Rec.{Rec}
use Rattle.fw_flow.specs.declared.key_part.KeyPart.{KeyPart}
use Rattle.fw_flow.specs.KeyParts.{is_of_part}
use Rattle.fw_flow.specs.WholeBags.{Timed, timed_cmp, in_order}
use Rattle.fw_model.proofs.AscentLaws.{copy_by}
use Rattle.fw_model.proofs.CarriedLaws.{one-kept, one-left}
use Rattle.fw_model.proofs.TimedCounts.{in_order-weigh}
use Rattle.fw_model.proofs.TimedLaws.{ascending-in_order, ascending-filter, how_often-weigh, same_from_how_often, in_order-ascending}
use Rattle.fw_model.proofs.WeightLaws.{weigh, weigh-append, weigh-map, weigh-equal, one}
use Rattle.fw_split.specs.Expansion.{parts_to, timed_of_part}
use Rattle.fw_split.specs.LawsOfSplitting.{PartsMakeTheBag}
use Rattle.fw_split.proofs.KeyLaws.{keyed}

-- bags that have each rec at each stamp equally often are one bag
pub one_bag : (xs ys : List Timed) → ((t : Stamp) (x : Rec) → weigh (one t x) xs ≡ weigh (one t x) ys) → in_order xs ≡ in_order ys
one_bag xs ys h =
    same_from_how_often (in_order xs) (in_order ys) (ascending-in_order xs) (ascending-in_order ys)
    (λ q. how_often-weigh q (in_order xs) ∙ in_order-weigh (copy_by timed_cmp q) xs
    ∙ weigh-equal (copy_by timed_cmp q) xs ys (λ t x some. h t x)
    ∙ sym (how_often-weigh q (in_order ys) ∙ in_order-weigh (copy_by timed_cmp q) ys))

-- how often a rec is among those of some keys
pub weigh-keyed : (test : ℕ → Bool) (t : Stamp) (x : Rec) (rs : List Timed) → weigh (one t x) (keyed test rs) ≡ cond (test x.key) (weigh (one t x) rs) 0
weigh-keyed test t x rs = elim (cases_Bool (test x.key)) [
  | inl k ↦ one-kept (λ r. test r.key) t x k rs ∙ sym (ap (λ b. cond b (weigh (one t x) rs) 0) k)
  | inr k ↦ one-left (λ r. test r.key) t x k rs ∙ sym (ap (λ b. cond b (weigh (one t x) rs) 0) k)
]

-- the recs of some keys, in order
pub keyed-in_order : (test : ℕ → Bool) (xs : List Timed) → keyed test (in_order xs) ≡ in_order (keyed test xs)
keyed-in_order test xs =
    sym (in_order-ascending (keyed test (in_order xs)) (ascending-filter (λ r. test r.rec.key) (in_order xs) (ascending-in_order xs)))
    ∙ one_bag (keyed test (in_order xs)) (keyed test xs) (λ t x. weigh-keyed test t x (in_order xs)
    ∙ ap (λ n. cond (test x.key) n 0) (in_order-weigh (one t x) xs) ∙ sym (weigh-keyed test t x xs))

-- a bag of the recs of some keys, by how often each is there
pub keyed-bag : (test : ℕ → Bool) (xs ys : List Timed) → ((t : Stamp) (x : Rec) → weigh (one t x) ys ≡ cond (test x.key) (weigh (one t x) xs) 0)
    → keyed test (in_order xs) ≡ in_order ys
keyed-bag test xs ys h = keyed-in_order test xs ∙ one_bag (keyed test xs) ys (λ t x. weigh-keyed test t x xs ∙ sym (h t x))

-- ---- the parts of a bag

found_none : (m w a n : ℕ) → m < a → weigh (λ i. cond (m == i) w 0) (range_with_len a n) ≡ 0
unfolding weigh
found_none m w a zero l = refl
found_none m w a (suc n) l =
    let here : cond (m == a) w 0 ≡ 0 = other (m == a) (λ e. let i = eqb-true m a e in omega arith) in
    let rest = found_none m w (a + 1) n (omega arith) in
    omega arith
  where
    other : (b : Bool) → (b ≡ true → ⊥) → cond b w 0 ≡ 0
    other true h = absurd (h refl)
    other false h = refl

-- of the numbers from a on, n of them, one is m where it is among them
found_once : (m w a n : ℕ) → a ≤ m → m < a + n → weigh (λ i. cond (m == i) w 0) (range_with_len a n) ≡ w
unfolding weigh
found_once m w a zero l u = absurd (omega arith)
found_once m w a (suc n) l u = elim (cases_Bool (m == a)) [
  | inl e ↦
      let i = eqb-true m a e in
      let here : cond (m == a) w 0 ≡ w = ap (λ b. cond b w 0) e in
      let rest = found_none m w (a + 1) n (omega arith) in
      omega arith
  | inr e ↦
      let ne = eqb-false m a e in
      let here : cond (m == a) w 0 ≡ 0 = ap (λ b. cond b w 0) e in
      let rest = found_once m w (a + 1) n (above a m l ne) (omega arith) in
      omega arith
]
  where
    above : (a m : ℕ) → a ≤ m → (m ≡ a → ⊥) → a + 1 ≤ m
    above a m l ne = grind arith

weigh-parts : (t : Stamp) (x : Rec) (rs : List Timed) (parts : List KeyPart)
    → weigh (one t x) (flat_map (λ part. timed_of_part part rs) parts) ≡ weigh (λ part. cond (is_of_part part x.key) (weigh (one t x) rs) 0) parts
unfolding weigh
weigh-parts t x rs [] = refl
weigh-parts t x rs (part ∷ parts) =
    let here = weigh-keyed (is_of_part part) t x rs in
    let rest = weigh-parts t x rs parts in
    let both = weigh-append (one t x) (timed_of_part part rs) (flat_map (λ p. timed_of_part p rs) parts) in
    omega arith

pub parts-make : PartsMakeTheBag
parts-make last rs =
    let n = last + 1 in
    one_bag (flat_map (λ part. timed_of_part part rs) (parts_to last)) rs
    (λ t x. weigh-parts t x rs (parts_to last)
    ∙ weigh-map (λ (part : KeyPart). cond (is_of_part part x.key) (weigh (one t x) rs) 0) (λ i. record { place = i; last = last }) (range_with_len 0 n)
    ∙ (let below : x.key % n < n = mod-lt x.key (some last) in found_once (x.key % n) (weigh (one t x) rs) 0 n (omega arith) (omega arith)))
  where
    some : (k : ℕ) → 0 < k + 1
    some k = omega arith

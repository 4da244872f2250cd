-- Totals by key, over timed recs in a line.
use Rattle.std.proofs.Common.{◌≡◌, ℕ, zero, suc, ◌+◌, ◌<◌, ◌≤◌, ◌==◌, Bool, true, false, cond, List, [], ◌∷◌, ◌++◌, length, reverse, take, get_or, map, Option, Some, None, refl, sym, ap, ◌∙◌, unwrap_or, arith}
use mathlib.Core.List.{reverse_aux}
use Rattle.std.specs.Prelude.{◌&&◌, ◌||◌, filter}
use Rattle.std.specs.List.{AllByRecursion}
use Rattle.std.specs.declared.cmp.Ordering.{Ordering}
use Rattle.std.specs.declared.cmp.Ordering.TheVariants.{Less, Equal, Greater}
use Rattle.std.specs.Ordering.{is_eq, is_gt, nat_cmp, ordering_then}
use Rattle.std.specs.BTreeMap.{BTreeMap, get}
use Rattle.std.proofs.lemmas.Bool.{and_parts, and_from, eqb-true, eq-eqb, cond-true}
use Rattle.std.proofs.lemmas.Bool.Decides.{nat_tests}
use Rattle.std.proofs.lemmas.List.{take_more, map-append}
use Rattle.fw_lemmas.proofs.Bools.{cond-one}
use Rattle.fw_lemmas.proofs.Each.{each-at}
use Rattle.fw_lemmas.proofs.Orderings.{nat_cmp-test}
use Rattle.fw_time.specs.Stamp.{Stamp, leq, same, stamp_cmp}
use Rattle.fw_time.proofs.StampLaws.{leq-refl}
use Rattle.fw_bag.specs.declared.rec.Rec.{Rec}
use Rattle.fw_bag.specs.Rec.{rec_cmp}
use Rattle.fw_bag.specs.Keyed.{plus, value_sum, has_key}
use Rattle.fw_flow.specs.Dataflow.{greatest_number}
use Rattle.fw_flow.specs.WholeBags.{Timed, timed_cmp, timed_where, in_order}
use Rattle.fw_model.proofs.StampLaws.{same-is, same-refl, in_line, line-leq}
use Rattle.fw_model.proofs.TimedLaws.{IsAscendingTimed}
use Rattle.fw_model.proofs.DependenceLaws.{ascending-from_in_order}
use Rattle.fw_model.proofs.DistinctLaws.{same-swap}
use Rattle.fw_model.proofs.SumLaws.{AreSameBags, has_key-same, value_sum-same, how_often-passing}
use Rattle.fw_model.proofs.WeightLaws.{how_often-where, one}
use Rattle.fw_denote.specs.declared.keyed.Slot.{Slot}
use Rattle.fw_denote.specs.Numbers.{slot_cmp, slot_of, is_there, total_at, HasNumbers, HasSlotSums, AreInLine, ComeBefore}
use Rattle.fw_denote.proofs.NumberLaws.{slot-test, slot-is, if-same}
use Rattle.fw_denote.proofs.Counts.{reversed-weigh}

-- the recs of timed recs
abbrev pub recs : List Timed → List Rec
recs rs = map (λ (r : Timed). r.rec) rs

-- ---- the totals of keys

total-more : (b : Bool) (n m : ℕ) (o : Option ℕ) → unwrap_or o 0 ≡ m → unwrap_or (cond b (Some n) o) 0 ≡ cond b n m
total-more true n m o h = refl
total-more false n m o h = h

pub totals_more : (old new : BTreeMap ℕ ℕ) (r : Timed) (n : ℕ) (rs : List Timed)
    → n ≡ plus r.rec.value (unwrap_or (get nat_cmp old r.rec.key) 0)
    → ((k : ℕ) → get nat_cmp new k ≡ cond (is_eq (nat_cmp r.rec.key k)) (Some n) (get nat_cmp old k))
    → HasSlotSums old rs → HasSlotSums new (r ∷ rs)
totals_more old new r n rs e u h = λ k.
    ap (λ o. unwrap_or o 0) (u k ∙ ap (λ b. cond b (Some n) (get nat_cmp old k)) (nat_cmp-test r.rec.key k))
    ∙ total-more (r.rec.key == k) n (value_sum k (recs rs)) (get nat_cmp old k) (h k)
    ∙ cond-one (r.rec.key == k) n (plus r.rec.value (value_sum k (recs rs))) (value_sum k (recs rs))
    (λ t. e ∙ ap (plus r.rec.value) (h r.rec.key) ∙ ap (λ i. plus r.rec.value (value_sum i (recs rs))) (eqb-true r.rec.key k t))

-- ---- the totals of slots

all-where : (t : Stamp) (rs : List Timed) → AllByRecursion (λ (x : Timed). leq x.at t ≡ true) rs → timed_where (λ u. leq u t) rs ≡ recs rs
all-where t [] a = refl
all-where t (r ∷ rs) a =
    ap (λ b. recs (cond b (r ∷ filter (λ (x : Timed). leq x.at t) rs) (filter (λ (x : Timed). leq x.at t) rs))) a.0
    ∙ ap (λ xs. r.rec ∷ xs) (all-where t rs a.1)

there-below : (s : Slot) (t : Stamp) (rs : List Timed) → AllByRecursion (λ (x : Timed). leq x.at t ≡ true) rs → is_there s rs ≡ true → leq s.at t ≡ true
there-below s t [] a h = cc
there-below s t (x ∷ xs) a h = by (there-below s t xs a.1) (same s.at x.at) refl h
  where
    by : (is_there s xs ≡ true → leq s.at t ≡ true) → (b : Bool) → same s.at x.at ≡ b
        → has_key s.key (recs (cond b (x ∷ filter (λ (y : Timed). same s.at y.at) xs) (filter (λ (y : Timed). same s.at y.at) xs))) ≡ true → leq s.at t ≡ true
    by ih true e k = ap (λ u. leq u t) (same-is s.at x.at e) ∙ a.0
    by ih false e k = ih k

-- what is found at a slot
abbrev found : Slot → List Rec → ℕ → Option ℕ
found s there n = cond (has_key s.key there) (Some n) None

-- a timed rec of another slot, where those before are at stamps at most its own, leaves the total of each slot that was there
other_total : (r : Timed) (rs : List Timed) (s : Slot) → ComeBefore rs r → (same s.at r.at && (r.rec.key == s.key)) ≡ false
    → is_there s rs ≡ true → total_at (r ∷ rs) s ≡ total_at rs s
other_total r rs s a n h = by (leq r.at s.at) refl
  where
    below : leq s.at r.at ≡ true
    below = there-below s r.at rs a.each h

    by : (b : Bool) → leq r.at s.at ≡ b
        → value_sum s.key (recs (cond b (r ∷ filter (λ (x : Timed). leq x.at s.at) rs) (filter (λ (x : Timed). leq x.at s.at) rs))) ≡ total_at rs s
    by false e = refl
    by true e =
        let i : same s.at r.at ≡ true = and_from (leq s.at r.at) (leq r.at s.at) below e in
        let k : (r.rec.key == s.key) ≡ false = sym (ap (λ b. b && (r.rec.key == s.key)) i) ∙ n in
        ap (λ b. cond b (plus r.rec.value (total_at rs s)) (total_at rs s)) k

slot-more : (r : Timed) (rs : List Timed) (s : Slot) → ComeBefore rs r → (b : Bool) → (same s.at r.at && (r.rec.key == s.key)) ≡ b
    → cond b (Some (plus r.rec.value (value_sum s.key (recs rs)))) (found s (timed_where (same s.at) rs) (total_at rs s))
    ≡ found s (timed_where (same s.at) (r ∷ rs)) (total_at (r ∷ rs) s)
slot-more r rs s a true e =
    let p = and_parts (same s.at r.at) (r.rec.key == s.key) e in
    let at : s.at ≡ r.at = same-is s.at r.at p.0 in
    let whole : timed_where (λ u. leq u s.at) (r ∷ rs) ≡ recs (r ∷ rs) =
    ap (λ t. timed_where (λ u. leq u t) (r ∷ rs)) at ∙ all-where r.at (r ∷ rs) (a.itself, a.each) in
    let sum : total_at (r ∷ rs) s ≡ plus r.rec.value (value_sum s.key (recs rs)) =
    ap (value_sum s.key) whole ∙ ap (λ b. cond b (plus r.rec.value (value_sum s.key (recs rs))) (value_sum s.key (recs rs))) p.1 in
    let there : is_there s (r ∷ rs) ≡ true =
    ap (λ b. has_key s.key (recs (cond b (r ∷ filter (λ (x : Timed). same s.at x.at) rs) (filter (λ (x : Timed). same s.at x.at) rs)))) p.0
    ∙ ap (λ b. b || is_there s rs) p.1 in
    sym (ap (λ b. cond b (Some (total_at (r ∷ rs) s)) None) there ∙ ap (λ n. Some n) sum)
slot-more r rs s a false e =
    let there : is_there s (r ∷ rs) ≡ is_there s rs = by (same s.at r.at) (r.rec.key == s.key) refl e in
    sym (ap (λ b. cond b (Some (total_at (r ∷ rs) s)) None) there
    ∙ if-same (is_there s rs) (total_at (r ∷ rs) s) (total_at rs s) None (λ h. other_total r rs s a e h))
  where
    by : (b c : Bool) → (r.rec.key == s.key) ≡ c → (b && c) ≡ false
        → has_key s.key (recs (cond b (r ∷ filter (λ (x : Timed). same s.at x.at) rs) (filter (λ (x : Timed). same s.at x.at) rs))) ≡ is_there s rs
    by false c f n = refl
    by true c f n = ap (λ d. d || is_there s rs) (f ∙ n)

-- maps in which the total of a timed rec's key was raised by its value, and is kept for its slot
pub slots_more : (totals : BTreeMap ℕ ℕ) (old new : BTreeMap Slot ℕ) (r : Timed) (n : ℕ) (rs : List Timed)
    → n ≡ plus r.rec.value (unwrap_or (get nat_cmp totals r.rec.key) 0)
    → ((s : Slot) → get slot_cmp new s ≡ cond (is_eq (slot_cmp (slot_of r) s)) (Some n) (get slot_cmp old s))
    → HasSlotSums totals rs → ComeBefore rs r → HasNumbers old (total_at rs) rs → HasNumbers new (total_at (r ∷ rs)) (r ∷ rs)
slots_more totals old new r n rs e u t a h = λ s.
    let k = slot_of r in
    let raised : n ≡ plus r.rec.value (value_sum r.rec.key (recs rs)) = e ∙ ap (plus r.rec.value) (t r.rec.key) in
    u s
    ∙ ap (λ b. cond b (Some n) (get slot_cmp old s)) (slot-test k s)
    ∙ if-same (same k.at s.at && (k.key == s.key)) n (plus r.rec.value (value_sum s.key (recs rs))) (get slot_cmp old s)
    (λ i. raised ∙ ap (λ (x : Slot). plus r.rec.value (value_sum x.key (recs rs))) (slot-is k s i))
    ∙ ap (λ b. cond (b && (r.rec.key == s.key)) (Some (plus r.rec.value (value_sum s.key (recs rs)))) (get slot_cmp old s)) (same-swap k.at s.at)
    ∙ ap (λ o. cond (same s.at r.at && (r.rec.key == s.key)) (Some (plus r.rec.value (value_sum s.key (recs rs)))) o) (h s)
    ∙ slot-more r rs s a (same s.at r.at && (r.rec.key == s.key)) refl

-- ---- what comes before in a line

number-upto : (m n : ℕ) → is_gt (ordering_then (nat_cmp m n) Equal) ≡ false → m ≤ n
number-upto m n h = grind (arith, nat_tests)

line-upto : (x y : Timed) → leq x.at (greatest_number ∷ []) ≡ true → leq y.at (greatest_number ∷ []) ≡ true
    → is_gt (timed_cmp x y) ≡ false → leq x.at y.at ≡ true
line-upto x y a b h =
    let i = in_line x.at greatest_number a in
    let j = in_line y.at greatest_number b in
    let g : is_gt (ordering_then (ordering_then (nat_cmp i.0 j.0) Equal) (rec_cmp x.rec y.rec)) ≡ false =
    sym (ap (λ s. is_gt (ordering_then (stamp_cmp s (j.0 ∷ [])) (rec_cmp x.rec y.rec))) i.1)
    ∙ sym (ap (λ s. is_gt (ordering_then (stamp_cmp x.at s) (rec_cmp x.rec y.rec))) j.1) ∙ h in
    ap (λ s. leq s y.at) i.1 ∙ ap (λ s. leq (i.0 ∷ []) s) j.1 ∙ line-leq i.0 j.0 (number-upto i.0 j.0 (first (ordering_then (nat_cmp i.0 j.0) Equal) (rec_cmp x.rec y.rec) g))
  where
    first : (o p : Ordering) → is_gt (ordering_then o p) ≡ false → is_gt o ≡ false
    first Less p h = refl
    first Equal p h = refl
    first Greater p h = h

each-turned : {X : Type 0} (P : X → Type 0) (xs ys : List X) → AllByRecursion P xs → AllByRecursion P ys → AllByRecursion P (reverse_aux xs ys)
each-turned P [] ys a b = b
each-turned P (x ∷ xs) ys a b = each-turned P xs (x ∷ ys) a.1 (a.0, b)

each-reversed : {X : Type 0} (P : X → Type 0) (xs : List X) → AllByRecursion P xs → AllByRecursion P (reverse xs)
each-reversed P xs a = each-turned P xs [] a tt

before-here : (rs : List Timed) (i : ℕ) (d : Timed) → i < length rs → IsAscendingTimed rs → AreInLine rs
    → AllByRecursion (λ (x : Timed). leq x.at (get_or rs i d).at ≡ true) (take i rs)
unfolding IsAscendingTimed
before-here [] i d l a b = absurd (omega arith)
before-here (r ∷ rs) zero d l a b = tt
before-here (r ∷ rs) (suc i) d l a b =
    (line-upto r (get_or rs i d) b.0 (each-at _ rs i d (omega arith) b.1) (each-at _ rs i d (omega arith) a.0), before-here rs i d (omega arith) a.1 b.1)

-- in a line those that a loop has come past come before the next one
pub come_before : (rs : List Timed) (i : ℕ) (d : Timed) → i < length rs → in_order rs ≡ rs → AreInLine rs → ComeBefore (reverse (take i rs)) (get_or rs i d)
come_before rs i d l o a = record {
  each = each-reversed _ (take i rs) (before-here rs i d l (ascending-from_in_order rs o) a);
  itself = leq-refl (get_or rs i d).at;
}

-- ---- from the end

pub totals_all : (m : BTreeMap Slot ℕ) (rs : List Timed) → HasNumbers m (total_at (reverse rs)) (reverse rs) → HasNumbers m (total_at rs) rs
totals_all m rs h = λ s.
    let there : AreSameBags (timed_where (same s.at) (reverse rs)) (timed_where (same s.at) rs) =
    λ q. how_often-where s.at q (reverse rs) ∙ reversed-weigh (one s.at q) rs ∙ sym (how_often-where s.at q rs) in
    let upto : AreSameBags (timed_where (λ t. leq t s.at) (reverse rs)) (timed_where (λ t. leq t s.at) rs) =
    λ q. how_often-passing (λ t. leq t s.at) q (reverse rs) ∙ reversed-weigh _ rs ∙ sym (how_often-passing (λ t. leq t s.at) q rs) in
    h s ∙ ap (λ b. cond b (Some (total_at (reverse rs) s)) None) (has_key-same s.key _ _ there)
    ∙ ap (λ n. cond (is_there s rs) (Some n) None) (value_sum-same s.key _ _ upto)

-- ---- running totals

-- a timed rec with the running total of its key
abbrev pub totalled : List Timed → Timed → Timed
totalled rs r = record { at = r.at; rec = record { key = r.rec.key; value = total_at rs (slot_of r) } }

pub is_there-here : (rs : List Timed) (i : ℕ) (d : Timed) → i < length rs → is_there (slot_of (get_or rs i d)) rs ≡ true
is_there-here [] i d l = absurd (omega arith)
is_there-here (r ∷ rs) zero d l =
    ap (λ b. has_key r.rec.key (recs (cond b (r ∷ filter (λ (x : Timed). same r.at x.at) rs) (filter (λ (x : Timed). same r.at x.at) rs)))) (same-refl r.at)
    ∙ ap (λ b. b || is_there (slot_of r) rs) (eq-eqb r.rec.key r.rec.key refl)
is_there-here (r ∷ rs) (suc i) d l = by (same (get_or rs i d).at r.at) (is_there-here rs i d (omega arith))
  where
    or_true : (b c : Bool) → c ≡ true → (b || c) ≡ true
    or_true true c h = refl
    or_true false c h = h

    by : (b : Bool) → is_there (slot_of (get_or rs i d)) rs ≡ true
        → has_key (get_or rs i d).rec.key (recs (cond b (r ∷ filter (λ (x : Timed). same (get_or rs i d).at x.at) rs) (filter (λ (x : Timed). same (get_or rs i d).at x.at) rs))) ≡ true
    by true h = or_true (r.rec.key == (get_or rs i d).rec.key) (is_there (slot_of (get_or rs i d)) rs) h
    by false h = h

pub running : (m : BTreeMap Slot ℕ) (rs : List Timed) (i : ℕ) (d : Timed) → i < length rs → HasNumbers m (total_at rs) rs
    → unwrap_or (get slot_cmp m (slot_of (get_or rs i d))) 0 ≡ total_at rs (slot_of (get_or rs i d))
running m rs i d l h =
    ap (λ o. unwrap_or o 0) (h (slot_of (get_or rs i d)) ∙ cond-true (is_there (slot_of (get_or rs i d)) rs) _ _ (is_there-here rs i d l))

-- one running total more
pub running_more : (m : BTreeMap Slot ℕ) (rs : List Timed) (i : ℕ) (x : Timed) (v : ℕ) (sent : List Timed) → i < length rs → x ≡ get_or rs i x
    → HasNumbers m (total_at rs) rs → v ≡ unwrap_or (get slot_cmp m (slot_of x)) 0 → sent ≡ map (totalled rs) (take i rs)
    → sent ++ record { at = x.at; rec = record { key = x.rec.key; value = v } } ∷ [] ≡ map (totalled rs) (take (i + 1) rs)
running_more m rs i x v sent l e h f g =
    let value : v ≡ total_at rs (slot_of (get_or rs i x)) = f ∙ ap (λ (r : Timed). unwrap_or (get slot_cmp m (slot_of r)) 0) e ∙ running m rs i x l h in
    ap (λ n. sent ++ record { at = x.at; rec = record { key = x.rec.key; value = n } } ∷ []) value
    ∙ ap (λ (r : Timed). sent ++ record { at = r.at; rec = record { key = r.rec.key; value = total_at rs (slot_of (get_or rs i x)) } } ∷ []) e
    ∙ ap (λ ys. ys ++ totalled rs (get_or rs i x) ∷ []) g
    ∙ sym (ap (map (totalled rs)) (take_more rs i x l) ∙ map-append (totalled rs) (take i rs) (get_or rs i x ∷ []))

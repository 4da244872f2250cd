-- The timed recs of one slot stand next to each other in a bag in order.
use Rattle.std.proofs.Common.{◌≡◌, ℕ, zero, suc, ◌+◌, ◌-◌, ◌<◌, ◌≤◌, ◌==◌, Bool, true, false, cond, List, [], ◌∷◌, length, take, drop, get_or, map, refl, sym, ap, subst, ◌∙◌, arith}
use Rattle.std.specs.Prelude.{◌&&◌, filter}
use Rattle.std.specs.List.Sorted.{IsPartitionedBy, IsPartitionPoint}
use Rattle.std.specs.declared.cmp.Ordering.{Ordering}
use Rattle.std.specs.declared.cmp.Ordering.TheVariants.{Less, Equal, Greater}
use Rattle.std.specs.Ordering.{is_eq, is_gt, nat_cmp, ordering_then}
use Rattle.std.proofs.lemmas.Cmp.{upto}
use Rattle.std.proofs.lemmas.List.{length-drop, get_or-drop, take_all}
use Rattle.std.proofs.lemmas.Bool.{true_from_ne_false}
use Rattle.fw_lemmas.proofs.Bools.{two_ways}
use Rattle.fw_lemmas.proofs.Each.{each-at}
use Rattle.fw_lemmas.proofs.Filters.{filter-none_at, filter-dropped}
use Rattle.fw_lemmas.proofs.Orderings.{tied}
use Rattle.fw_time.specs.Stamp.{same, stamp_cmp}
use Rattle.fw_bag.specs.declared.rec.Rec.{Rec}
use Rattle.fw_bag.specs.Keyed.{plus, joined_rec}
use Rattle.fw_flow.specs.WholeBags.{Timed, timed_cmp, timed_where, in_order, timed_recs}
use Rattle.fw_model.proofs.TimedLaws.{IsAscendingTimed, timed_cmp-refl}
use Rattle.fw_model.proofs.DependenceLaws.{ascending-from_in_order}
use Rattle.fw_denote.specs.declared.keyed.Slot.{Slot}
use Rattle.fw_denote.specs.Numbers.{slot_cmp, slot_of}
use Rattle.fw_denote.specs.Pairs.{pair_recs}
use Rattle.fw_denote.proofs.NumberLaws.{slot_order, slot-test, slot-is}

-- ---- lists in two parts

filter-taken : {X : Type 0} (p : X → Bool) (xs : List X) (i : ℕ) → ((k : ℕ) (d : X) → k < i → k < length xs → p (get_or xs k d) ≡ true)
    → ((k : ℕ) (d : X) → i ≤ k → k < length xs → p (get_or xs k d) ≡ false) → filter p xs ≡ take i xs
filter-taken p [] zero h n = refl
filter-taken p [] (suc i) h n = refl
filter-taken p (x ∷ xs) zero h n = filter-none_at p (x ∷ xs) (λ k d l. n k d (omega arith) l)
filter-taken p (x ∷ xs) (suc i) h n =
    ap (λ b. cond b (x ∷ filter p xs) (filter p xs)) (h 0 x (omega arith) (omega arith))
    ∙ ap (λ ys. x ∷ ys) (filter-taken p xs i (λ k d l m. h (suc k) d (omega arith) (omega arith)) (λ k d l m. n (suc k) d (omega arith) (omega arith)))

-- ---- the order by slots

pair-upto : (rs : List Timed) (i j : ℕ) (d : Timed) → i ≤ j → j < length rs → IsAscendingTimed rs → is_gt (timed_cmp (get_or rs i d) (get_or rs j d)) ≡ false
unfolding IsAscendingTimed
pair-upto [] i j d h l a = absurd (omega arith)
pair-upto (r ∷ rs) zero zero d h l a = ap is_gt (timed_cmp-refl r)
pair-upto (r ∷ rs) zero (suc j) d h l a = each-at _ rs j d (omega arith) a.0
pair-upto (r ∷ rs) (suc i) zero d h l a = absurd (omega arith)
pair-upto (r ∷ rs) (suc i) (suc j) d h l a = pair-upto rs i j d (omega arith) (omega arith) a.1

slots-upto : (o p q : Ordering) → is_gt (ordering_then o (ordering_then p q)) ≡ false → is_gt (ordering_then o p) ≡ false
slots-upto Less p q h = refl
slots-upto Equal Less q h = refl
slots-upto Equal Equal q h = refl
slots-upto Equal Greater q h = h
slots-upto Greater p q h = h

slot-upto : (rs : List Timed) (i j : ℕ) (d : Timed) → i ≤ j → j < length rs → IsAscendingTimed rs
    → is_gt (slot_cmp (slot_of (get_or rs i d)) (slot_of (get_or rs j d))) ≡ false
slot-upto rs i j d h l a =
    let x = get_or rs i d in
    let y = get_or rs j d in
    slots-upto (stamp_cmp x.at y.at) (nat_cmp x.rec.key y.rec.key) (nat_cmp x.rec.value y.rec.value) (pair-upto rs i j d h l a)

pub parted_below : (s : Slot) (rs : List Timed) → in_order rs ≡ rs → IsPartitionedBy (λ r. is_gt (slot_cmp s (slot_of r))) rs
parted_below s rs o = λ i j d h l e.
    true_from_ne_false (is_gt (slot_cmp s (slot_of (get_or rs i d))))
    (λ n. two_ways _ e (upto slot_order s (slot_of (get_or rs i d)) (slot_of (get_or rs j d)) n (slot-upto rs i j d h l (ascending-from_in_order rs o))))

-- what is neither above nor below
at_least : (s : Slot) (rs : List Timed) (from : ℕ) → ((k : ℕ) (d : Timed) → from ≤ k → k < length rs → is_gt (slot_cmp s (slot_of (get_or rs k d))) ≡ false)
    → (i : ℕ) (d : Timed) → i < length (drop from rs) → is_gt (slot_cmp s (slot_of (get_or (drop from rs) i d))) ≡ false
at_least s rs from h i d l =
    let n = length-drop from rs in
    ap (λ r. is_gt (slot_cmp s (slot_of r))) (get_or-drop from rs i d) ∙ h (from + i) d (omega arith) (omega arith)

pub parted_at : (s : Slot) (rs : List Timed) (from : ℕ) → in_order rs ≡ rs
    → ((k : ℕ) (d : Timed) → from ≤ k → k < length rs → is_gt (slot_cmp s (slot_of (get_or rs k d))) ≡ false)
    → IsPartitionedBy (λ r. is_eq (slot_cmp s (slot_of r))) (drop from rs)
parted_at s rs from o h = λ i j d l m e.
    let n = length-drop from rs in
    let x = slot_of (get_or (drop from rs) i d) in
    let y = slot_of (get_or (drop from rs) j d) in
    let y_is : y ≡ s = sym (slot-is s y (sym (slot-test s y) ∙ e)) in
    let below : is_gt (slot_cmp x y) ≡ false =
    ap (λ r. is_gt (slot_cmp (slot_of r) y)) (get_or-drop from rs i d)
    ∙ ap (λ r. is_gt (slot_cmp (slot_of (get_or rs (from + i) d)) (slot_of r))) (get_or-drop from rs j d)
    ∙ slot-upto rs (from + i) (from + j) d (omega arith) (omega arith) (ascending-from_in_order rs o) in
    ap is_eq (tied slot_order s x (at_least s rs from h i d (omega arith)) (ap (λ z. is_gt (slot_cmp x z)) (sym y_is) ∙ below))

-- what stands from a place on
pub rest_is : (rs : List Timed) (from : ℕ) → take (length rs - from) (drop from rs) ≡ drop from rs
rest_is rs from = take_all (length rs - from) (drop from rs) (let n = length-drop from rs in omega arith)

pub parted_rest : (s : Slot) (rs : List Timed) (from : ℕ) → in_order rs ≡ rs
    → ((k : ℕ) (d : Timed) → from ≤ k → k < length rs → is_gt (slot_cmp s (slot_of (get_or rs k d))) ≡ false)
    → IsPartitionedBy (λ r. is_eq (slot_cmp s (slot_of r))) (take (length rs - from) (drop from rs))
parted_rest s rs from o h = subst (λ (xs : List Timed). IsPartitionedBy (λ r. is_eq (slot_cmp s (slot_of r))) xs) (sym (rest_is rs from)) (parted_at s rs from o h)

-- the timed recs at a slot, as a select by stamp and key finds their recs
slot-recs : (s : Slot) (rs : List Timed)
    → filter (λ (r : Rec). s.key == r.key) (timed_where (same s.at) rs) ≡ map (λ (r : Timed). r.rec) (filter (λ (r : Timed). is_eq (slot_cmp s (slot_of r))) rs)
slot-recs s [] = refl
slot-recs s (r ∷ rs) =
    by (same s.at r.at) (s.key == r.rec.key) refl (slot-recs s rs)
    ∙ sym (ap (λ b. map (λ (x : Timed). x.rec) (cond b (r ∷ filter (λ (x : Timed). is_eq (slot_cmp s (slot_of x))) rs) (filter (λ (x : Timed). is_eq (slot_cmp s (slot_of x))) rs))) (slot-test s (slot_of r)))
  where
    by : (b c : Bool) → (s.key == r.rec.key) ≡ c
        → filter (λ (x : Rec). s.key == x.key) (timed_where (same s.at) rs) ≡ map (λ (x : Timed). x.rec) (filter (λ (x : Timed). is_eq (slot_cmp s (slot_of x))) rs)
        → filter (λ (x : Rec). s.key == x.key) (map (λ (x : Timed). x.rec) (cond b (r ∷ filter (λ (x : Timed). same s.at x.at) rs) (filter (λ (x : Timed). same s.at x.at) rs)))
        ≡ map (λ (x : Timed). x.rec) (cond (b && (s.key == r.rec.key)) (r ∷ filter (λ (x : Timed). is_eq (slot_cmp s (slot_of x))) rs) (filter (λ (x : Timed). is_eq (slot_cmp s (slot_of x))) rs))
    by false c e h = h
    by true true e h =
        ap (λ b. cond b (r.rec ∷ filter (λ (x : Rec). s.key == x.key) (timed_where (same s.at) rs)) (filter (λ (x : Rec). s.key == x.key) (timed_where (same s.at) rs))) e
        ∙ ap (λ xs. r.rec ∷ xs) h
        ∙ sym (ap (λ b. map (λ (x : Timed). x.rec) (cond b (r ∷ filter (λ (x : Timed). is_eq (slot_cmp s (slot_of x))) rs) (filter (λ (x : Timed). is_eq (slot_cmp s (slot_of x))) rs))) e)
    by true false e h =
        ap (λ b. cond b (r.rec ∷ filter (λ (x : Rec). s.key == x.key) (timed_where (same s.at) rs)) (filter (λ (x : Rec). s.key == x.key) (timed_where (same s.at) rs))) e
        ∙ h
        ∙ sym (ap (λ b. map (λ (x : Timed). x.rec) (cond b (r ∷ filter (λ (x : Timed). is_eq (slot_cmp s (slot_of x))) rs) (filter (λ (x : Timed). is_eq (slot_cmp s (slot_of x))) rs))) e)

gt_not_eq : (o : Ordering) → is_gt o ≡ true → is_eq o ≡ false
gt_not_eq Less h = refl
gt_not_eq Equal h = cc
gt_not_eq Greater h = refl

-- those of one slot, between two places
pub those_found : (s : Slot) (rs rest : List Timed) (from count : ℕ) → rest ≡ drop from rs
    → IsPartitionPoint (λ r. is_gt (slot_cmp s (slot_of r)) ≡ true) (λ r. is_gt (slot_cmp s (slot_of r)) ≡ false) rs from
    → IsPartitionPoint (λ r. is_eq (slot_cmp s (slot_of r)) ≡ true) (λ r. is_eq (slot_cmp s (slot_of r)) ≡ false) rest count
    → map (λ (r : Timed). r.rec) (take count rest) ≡ filter (λ (r : Rec). s.key == r.key) (timed_where (same s.at) rs)
those_found s rs rest from count e a b =
    let p : Timed → Bool = λ r. is_eq (slot_cmp s (slot_of r)) in
    sym (slot-recs s rs
    ∙ ap (map (λ (r : Timed). r.rec))
    (filter-dropped p rs from (λ k d l m. gt_not_eq _ (a.0 k d (omega arith) l))
    ∙ ap (filter p) (sym e)
    ∙ filter-taken p rest count (λ k d l m. b.0 k d (omega arith) l) (λ k d l m. b.1 k d l m)))

-- what a join sends for one more rec
pub pairs_more : (x : Timed) (ys rights : List Timed)
    → map (λ (r : Timed). r.rec) ys ≡ filter (λ (r : Rec). x.rec.key == r.key) (timed_where (same x.at) rights)
    → pair_recs x ys ≡ timed_recs x.at (joined_rec x.rec (timed_where (same x.at) rights))
pairs_more x ys rights e = turned ys ∙ ap (λ rs. timed_recs x.at (map pair rs)) e
  where
    pair : Rec → Rec
    pair r = record { key = x.rec.key; value = plus x.rec.value r.value }

    turned : (ys : List Timed) → pair_recs x ys ≡ timed_recs x.at (map pair (map (λ (r : Timed). r.rec) ys))
    turned [] = refl
    turned (y ∷ ys) = ap (λ zs. record { at = x.at; rec = record { key = x.rec.key; value = plus x.rec.value y.rec.value } } ∷ zs) (turned ys)

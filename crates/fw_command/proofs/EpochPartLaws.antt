-- In a bag in order the recs of an epoch stand together.
use Rattle.std.proofs.Common.{◌≡◌, ℕ, zero, suc, ◌+◌, ◌<◌, ◌≤◌, Bool, true, false, cond, List, [], ◌∷◌, ◌++◌, length, map, filter, take, drop, get_or, refl, sym, ap, arith, codes}
use Rattle.std.specs.Fmt.{decimal}
use Rattle.std.specs.List.{AllByRecursion}
use Rattle.std.specs.List.Sorted.{IsNonDecreasingBy, IsPartitionPoint}
use Rattle.std.specs.Ordering.{is_gt, nat_cmp, ordering_then}
use Rattle.std.specs.declared.cmp.Ordering.{Ordering}
use Rattle.std.specs.declared.cmp.Ordering.TheVariants.{Less, Equal, Greater}
use Rattle.std.specs.Cmp.Lexicographic.{slice_cmp}
use Rattle.std.proofs.Math.Dec.{leb}
use Rattle.std.proofs.lemmas.Bool.Decides.{nat_tests}
use Rattle.std.proofs.lemmas.Bool.{leb-true, leb-false}
use Rattle.fw_lemmas.proofs.Filters.{filter-none_at, filter-dropped}
use Rattle.fw_time.specs.Stamp.{Stamp, same, stamp_cmp}
use Rattle.fw_time.proofs.StampLaws.{same-is}
use Rattle.fw_bag.specs.declared.rec.Rec.{Rec}
use Rattle.fw_bag.specs.Rec.{rec_cmp}
use Rattle.fw_flow.specs.WholeBags.{Timed, timed_cmp, timed_where, in_order}
use Rattle.fw_model.proofs.TimedLaws.{IsAscendingTimed}
use Rattle.fw_model.proofs.DependenceLaws.{ascending-from_in_order}
use Rattle.fw_running.specs.EffectText.{recs_text}
use Rattle.fw_command.specs.DenotationText.{after_epoch, epoch_line}

-- ---- the order by epochs

first-upto : (x y : ℕ) (o : Ordering) → is_gt (ordering_then (nat_cmp x y) o) ≡ false → x ≤ y
first-upto x y o h = grind (arith, nat_tests)

stamp-upto : (s t : Stamp) → is_gt (stamp_cmp s t) ≡ false → after_epoch s ≤ after_epoch t
stamp-upto [] t h = omega arith
stamp-upto (x ∷ s) [] h = cc
stamp-upto (x ∷ s) (y ∷ t) h = let l = first-upto x y (slice_cmp nat_cmp s t) h in omega arith

not_gt-first : (o p : Ordering) → is_gt (ordering_then o p) ≡ false → is_gt o ≡ false
not_gt-first Less p h = refl
not_gt-first Equal p h = refl
not_gt-first Greater p h = h

timed-upto : (q r : Timed) → is_gt (timed_cmp q r) ≡ false → after_epoch q.at ≤ after_epoch r.at
timed-upto q r h = stamp-upto q.at r.at (not_gt-first (stamp_cmp q.at r.at) (rec_cmp q.rec r.rec) h)

first-least : (q : Timed) (rs : List Timed) (j : ℕ) (d : Timed) → j < length rs → AllByRecursion (λ r. is_gt (timed_cmp q r) ≡ false) rs
    → after_epoch q.at ≤ after_epoch (get_or rs j d).at
first-least q [] j d l a = absurd (omega arith)
first-least q (r ∷ rs) zero d l a = timed-upto q r a.0
first-least q (r ∷ rs) (suc j) d l a = first-least q rs j d (omega arith) a.1

epochs-ascend : (rs : List Timed) (i j : ℕ) (d : Timed) → IsAscendingTimed rs → i ≤ j → j < length rs → after_epoch (get_or rs i d).at ≤ after_epoch (get_or rs j d).at
unfolding IsAscendingTimed
epochs-ascend [] i j d a h l = absurd (omega arith)
epochs-ascend (r ∷ rs) zero zero d a h l = omega arith
epochs-ascend (r ∷ rs) zero (suc j) d a h l = first-least r rs j d (omega arith) a.0
epochs-ascend (r ∷ rs) (suc i) zero d a h l = absurd (omega arith)
epochs-ascend (r ∷ rs) (suc i) (suc j) d a h l = epochs-ascend rs i j d a.1 (omega arith) (omega arith)

-- the epochs of a bag in order ascend
pub bag_ascends : (bag : List Timed) → in_order bag ≡ bag → IsNonDecreasingBy (λ (r : Timed). after_epoch r.at) bag
bag_ascends bag o = λ i j d h l. epochs-ascend bag i j d (ascending-from_in_order bag o) h l

-- ---- a bag in two parts

-- where what is behind does not pass, the front has all that passes
filter-front : {X : Type 0} (p : X → Bool) (xs : List X) (i : ℕ) → ((k : ℕ) (d : X) → i ≤ k → k < length xs → p (get_or xs k d) ≡ false)
    → filter p (take i xs) ≡ filter p xs
filter-front p [] zero h = refl
filter-front p [] (suc i) h = refl
filter-front p (x ∷ xs) zero h = sym (filter-none_at p (x ∷ xs) (λ k d l. h k d (omega arith) l))
filter-front p (x ∷ xs) (suc i) h = ap (λ ys. cond (p x) (x ∷ ys) ys) (filter-front p xs i (λ k d l m. h (suc k) d (omega arith) (omega arith)))

-- a stamp with another number after its epoch is not the epoch
not_epoch : (x : ℕ) (t : Stamp) (b : Bool) → same (x ∷ []) t ≡ b → (after_epoch t ≡ x + 1 → ⊥) → b ≡ false
not_epoch x t false e n = refl
not_epoch x t true e n = absurd (n (ap after_epoch (sym (same-is (x ∷ []) t e))))

-- the timed recs stand at epochs up to one, and then at later ones
abbrev pub IsEpochsEnd : ℕ → List Timed → ℕ → Type 0
IsEpochsEnd x rs i = IsPartitionPoint (λ (r : Timed). leb (after_epoch r.at) (x + 1) ≡ true) (λ (r : Timed). leb (after_epoch r.at) (x + 1) ≡ false) rs i

-- the recs of the epoch stand before its end
pub recs_before : (x : ℕ) (rs : List Timed) (i : ℕ) → IsEpochsEnd x rs i → timed_where (same (x ∷ [])) (take i rs) ≡ timed_where (same (x ∷ [])) rs
recs_before x rs i p =
    ap (map (λ (r : Timed). r.rec))
    (filter-front (λ (r : Timed). same (x ∷ []) r.at) rs i
    (λ k d l m. not_epoch x (get_or rs k d).at _ refl (λ e. let n = leb-false (after_epoch (get_or rs k d).at) (x + 1) (p.1 k d l m) in absurd (omega arith))))

-- and those of each later epoch from there on
pub recs_later : (x y : ℕ) (rs : List Timed) (i : ℕ) → IsEpochsEnd x rs i → x < y → timed_where (same (y ∷ [])) (drop i rs) ≡ timed_where (same (y ∷ [])) rs
recs_later x y rs i p h =
    ap (map (λ (r : Timed). r.rec))
    (sym (filter-dropped (λ (r : Timed). same (y ∷ []) r.at) rs i
    (λ k d l m. not_epoch y (get_or rs k d).at _ refl (λ e. let n = leb-true (after_epoch (get_or rs k d).at) (x + 1) (p.0 k d (omega arith) l) in absurd (omega arith)))))

-- the line of an epoch is that of the part with its recs
pub part_line : (name : List ℕ) (bag part : List Timed) (x : ℕ) → timed_where (same (x ∷ [])) part ≡ timed_where (same (x ∷ [])) bag → epoch_line name part x ≡ epoch_line name bag x
part_line name bag part x e = ap (λ (rs : List Rec). codes "out " ++ name ++ codes " epoch " ++ decimal x ++ recs_text rs ++ codes "\n") e

-- Logged messages that were sorted may stand one after the other.
use Rattle.std.proofs.Common.{◌≡◌, suc, ◌+◌, true, false, List, [], ◌∷◌, ◌++◌, refl, sym, ap, subst, ◌∙◌, get_or, arith}
use Rattle.std.specs.Option.{option_map_or}
use Rattle.std.specs.Cmp.{IsTotalOrder, IsStrictWeakOrder}
use Rattle.std.specs.declared.cmp.Ordering.{Ordering}
use Rattle.std.specs.declared.cmp.Ordering.TheVariants.{Less, Equal, Greater}
use Rattle.std.specs.Ordering.{ordering_reverse, is_lt, is_le}
use Rattle.std.specs.List.Sorted.{IsSorted}
use Rattle.std.proofs.lemmas.Bool.{and_from}
use Rattle.std.proofs.lemmas.Cmp.{nat_cmp_total, nat_list_cmp_total, lists_total, on_total, then_total}
use Rattle.std.proofs.lemmas.List.Sorted.{ranks_by}
use Rattle.fw_lemmas.proofs.Lists.{last_of}
use Rattle.fw_bag.proofs.RecLaws.{rec_order}
use Rattle.fw_record.specs.declared.logged.Logged.{Logged}
use Rattle.fw_bytes.specs.Sound.{each_may_follow}
use Rattle.fw_record.specs.Sound.{logged_cmp, may_follow_logged}

pub logged_order : IsTotalOrder logged_cmp
logged_order =
    then_total (on_total (λ (m : Logged). m.edge) nat_cmp_total)
    (then_total (on_total (λ (m : Logged). m.message.at) nat_list_cmp_total)
    (then_total (on_total (λ (m : Logged). m.message.causes) (lists_total nat_list_cmp_total)) (on_total (λ (m : Logged). m.message.rec) rec_order)))

pub logged_ranks : IsStrictWeakOrder (λ x y. is_lt (logged_cmp x y))
logged_ranks = ranks_by logged_order (λ (m : Logged). m)

-- one message is at most another where that is not less
at_most : (o p : Ordering) → p ≡ ordering_reverse o → is_lt p ≡ false → is_le o ≡ true
at_most Less p e h = refl
at_most Equal p e h = refl
at_most Greater p e h = let k : true ≡ false = sym (ap is_lt e) ∙ h in cc

-- what is sorted after its first one
sorted-rest : (y : Logged) (xs : List Logged) → IsSorted logged_cmp (y ∷ xs) → IsSorted logged_cmp xs
sorted-rest y xs h k d low high =
    let e : suc k + 1 ≡ suc (k + 1) = omega arith in
    subst (λ i. is_lt (logged_cmp (get_or (y ∷ xs) i d) (get_or xs k d)) ≡ false) e (h (suc k) d (omega arith) (omega (arith, high)))

follow-last : (before : List Logged) (y : Logged) (xs : List Logged) → IsSorted logged_cmp (y ∷ xs) → each_may_follow may_follow_logged (before ++ y ∷ []) xs ≡ true
follow-last before y [] h = refl
follow-last before y (x ∷ xs) h =
    let first = at_most (logged_cmp y x) (logged_cmp x y) (logged_order.antisymm x y) (h 0 x (omega arith) (omega arith)) in
    let next = ap (λ o. option_map_or (λ last. is_le (logged_cmp last x)) o true) (last_of before y) ∙ first in
    and_from (may_follow_logged (before ++ y ∷ []) x) (each_may_follow may_follow_logged ((before ++ y ∷ []) ++ x ∷ []) xs) next
    (follow-last (before ++ y ∷ []) x xs (sorted-rest y (x ∷ xs) h))

-- sorted messages are in the order of a log
pub sorted_follow : (xs : List Logged) → IsSorted logged_cmp xs → each_may_follow may_follow_logged [] xs ≡ true
sorted_follow [] h = refl
sorted_follow (x ∷ xs) h = and_from true (each_may_follow may_follow_logged (x ∷ []) xs) refl (follow-last [] x xs h)

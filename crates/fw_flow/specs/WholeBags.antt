-- What a node sends in all, from the whole bags on its in-edges.
use Rattle.std.specs.Prelude.{ℕ, ◌+◌, Bool, nat_le, if◌then◌else◌, List, [], ◌∷◌, ◌++◌, map, Option, Some, None, option_to_list, filter}
use Rattle.std.specs.List.{flat_map, list_any}
use Rattle.std.specs.Ordering.{is_eq, is_le, ordering_then}
use Rattle.std.specs.declared.cmp.Ordering.{Ordering}
use Rattle.fw_time.specs.Stamp.{Stamp, leq, same, stamp_cmp}
use Rattle.fw_bag.specs.declared.rec.Rec.{Rec}
use Rattle.fw_bag.specs.Rec.{rec_cmp}
use Rattle.fw_bag.specs.Select.{selected_rec}
use Rattle.fw_bag.specs.Keyed.{joined_rec, value_sum, distinct_keys, sums_of}
use Rattle.fw_flow.specs.Kind.{Kind}
use Rattle.fw_flow.specs.declared.kind.Kind.TheVariants.{Input, OutputEpoch, OutputNumber, Select, Distinct, Join, Sum, Total, Sequence, Ledger}
use Rattle.fw_flow.specs.Dataflow.{System, Dataflow, kind_of, in_edges, batches_of, greatest_number, send_stamp_of_kind}

-- a rec at a stamp
pub record Timed : Type 0 where
  pub at : Stamp
  pub rec : Rec

-- timed recs are ordered by stamp, and then by rec
abbrev pub timed_cmp : Timed → Timed → Ordering
timed_cmp x y = ordering_then (stamp_cmp x.at y.at) (rec_cmp x.rec y.rec)

-- the list with one more in its place
abbrev pub with_timed : Timed → List Timed → List Timed
with_timed r [] = r ∷ []
with_timed r (x ∷ xs) = if is_le (timed_cmp r x) then r ∷ x ∷ xs else x ∷ with_timed r xs

-- the timed recs in ascending order: the one list of a bag
abbrev pub in_order : List Timed → List Timed
in_order [] = []
in_order (r ∷ rs) = with_timed r (in_order rs)

-- the recs whose stamp passes a test
abbrev pub timed_where : (Stamp → Bool) → List Timed → List Rec
timed_where test rs = map (λ r. r.rec) (filter (λ r. test r.at) rs)

-- these recs at one stamp
abbrev pub timed_recs : Stamp → List Rec → List Timed
timed_recs at rs = map (λ r. record { at = at; rec = r }) rs

-- these recs at a stamp, if there is one
abbrev pub timed_at_some : Option Stamp → List Rec → List Timed
timed_at_some None rs = []
timed_at_some (Some at) rs = timed_recs at rs

-- the batches at their epochs, counted from x
abbrev pub timed_batches : ℕ → List (List Rec) → List Timed
timed_batches x [] = []
timed_batches x (batch ∷ batches) = timed_recs (x ∷ []) batch ++ timed_batches (x + 1) batches

-- the recs that a node of the kind sends for one rec alone
abbrev pub recs_for_one : Kind → Rec → List Rec
recs_for_one (Select selection within) r = option_to_list (selected_rec selection r)
recs_for_one kind r = r ∷ []

-- each rec alone, at the stamp at which the kind sends it
abbrev pub one_by_one : Dataflow → Kind → List Timed → List Timed
one_by_one flow kind rs =
    flat_map (λ r. timed_at_some (send_stamp_of_kind flow kind r.at) (recs_for_one kind r.rec)) rs

-- whether the same rec is there at the same stamp
abbrev pub is_among_timed : Timed → List Timed → Bool
is_among_timed r xs = list_any (λ x. is_eq (timed_cmp r x)) xs

-- each rec once at each stamp
abbrev pub distinct_timed : List Timed → List Timed
distinct_timed [] = []
distinct_timed (r ∷ rs) = if is_among_timed r rs then distinct_timed rs else r ∷ distinct_timed rs

-- each rec of the first bag with each of the second of its stamp and key
abbrev pub joined_timed : List Timed → List Timed → List Timed
joined_timed xs ys = flat_map (λ r. timed_recs r.at (joined_rec r.rec (timed_where (same r.at) ys))) xs

-- the joins of the bags of two in-edges
abbrev pub joined_bags : List (List Timed) → List Timed
joined_bags (xs ∷ ys ∷ rest) = joined_timed xs ys
joined_bags bags = []

-- whether the stamp is among those of the recs
abbrev pub has_stamp : Stamp → List Timed → Bool
has_stamp t rs = list_any (λ r. same r.at t) rs

-- the stamps of the recs, each once
abbrev pub distinct_stamps : List Timed → List Stamp
distinct_stamps [] = []
distinct_stamps (r ∷ rs) = if has_stamp r.at rs then distinct_stamps rs else r.at ∷ distinct_stamps rs

-- at each of these stamps the sum of the values of each key that is there
abbrev pub sums_at : List Stamp → List Timed → List Timed
sums_at ts rs = flat_map (λ t. timed_recs t (sums_of (distinct_keys (timed_where (same t) rs)) (timed_where (same t) rs))) ts

-- at each of these stamps, for each key that is there, the sum of its values up to it
abbrev pub totals_at : List Stamp → List Timed → List Timed
totals_at ts rs =
    flat_map (λ t. timed_recs t (sums_of (distinct_keys (timed_where (same t) rs)) (timed_where (λ s. leq s t) rs))) ts

-- the recs at the numbers from n on, none past the greatest number
abbrev pub numbered_recs : ℕ → List Timed → List Timed
numbered_recs n [] = []
numbered_recs n (r ∷ rs) = if nat_le n greatest_number then record { at = n ∷ []; rec = r.rec } ∷ numbered_recs (n + 1) rs else []

-- for each of the recs the running total of its key
abbrev pub running_totals : List Timed → List Timed
running_totals rs =
    map (λ r. record { at = r.at; rec = record { key = r.rec.key; value = value_sum r.rec.key (timed_where (λ s. leq s r.at) rs) } }) rs

-- the bags one after another
abbrev pub joint_bag : List (List Timed) → List Timed
joint_bag bags = flat_map (λ xs. xs) bags

-- what a node of the kind sends in all, from the whole bags on its in-edges
abbrev pub outputs_of_kind : Dataflow → Kind → List (List Rec) → List (List Timed) → List Timed
outputs_of_kind flow Input batches bags = timed_batches 0 batches
outputs_of_kind flow OutputEpoch batches bags = []
outputs_of_kind flow OutputNumber batches bags = []
outputs_of_kind flow (Distinct within) batches bags = distinct_timed (joint_bag bags)
outputs_of_kind flow (Join within) batches bags = joined_bags bags
outputs_of_kind flow (Sum within) batches bags = sums_at (distinct_stamps (joint_bag bags)) (joint_bag bags)
outputs_of_kind flow Total batches bags = totals_at (distinct_stamps (joint_bag bags)) (joint_bag bags)
outputs_of_kind flow Sequence batches bags = numbered_recs 0 (in_order (joint_bag bags))
outputs_of_kind flow Ledger batches bags = running_totals (joint_bag bags)
outputs_of_kind flow kind batches bags = one_by_one flow kind (joint_bag bags)

-- what node p sends in all, as a bag in order, where these are the whole bags on the edges
abbrev pub outputs_of : System → (ℕ → List Timed) → ℕ → List Timed
outputs_of sys bags p =
    in_order (outputs_of_kind sys.flow (kind_of sys.flow p) (batches_of sys p) (map bags (in_edges sys.flow p)))

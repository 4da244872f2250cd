-- The lists of a root are read as they are spelled.
use Rattle.std.proofs.Common.{◌≡◌, ℕ, ◌^◌, ◌<◌, true, List, [], ◌++◌, Ok, refl, ap, subst, ◌∙◌, append_assoc}
use Rattle.std.specs.Prelude.{nat_le}
use Rattle.std.specs.Int.{w32, w64}
use Rattle.std.specs.List.{flat_map, AllZip}
use Rattle.std.proofs.lemmas.Bool.{leb-true, le-leb}
use Rattle.fw_time.specs.declared.stamp.Bounds.{Bounds}
use Rattle.fw_bytes.specs.Fields.{number_field, stamp_field, sent_count_of}
use Rattle.fw_bytes.specs.Spelling.{u32_bytes, u64_bytes, stamp_bytes, front_bytes, sent_count_bytes, sent_counts_bytes}
use Rattle.fw_bytes.specs.Sound.{IsStamp, IsSentCount, IsList}
use Rattle.fw_bytes.specs.Reading.{◌>>=◌}
use Rattle.fw_bytes.specs.Exact.{AreBytes, AreSplit, IsExactReading}
use Rattle.fw_bytes.proofs.PlaceLaws.{ReadsInside, inside_then}
use Rattle.fw_bytes.proofs.FieldLaws.{form32, form64, stamps, counts}
use Rattle.fw_bytes.proofs.PartLaws.{one_field, counted_whole, step, starts, ok_is}
use Rattle.fw_flow.specs.Dataflow.{Dataflow, node_ids, bounds_of}
use Rattle.fw_root.specs.declared.extent.Extent.{Extent}
use Rattle.fw_root.specs.declared.extent.Extent.TheVariants.{Any}
use Rattle.fw_root.specs.declared.of_flow.Role.TheVariants as role
use Rattle.fw_root.specs.declared.root.NodeFronts.{NodeFronts}
use Rattle.fw_root.specs.declared.root.NamedWrite.{NamedWrite}
use Rattle.fw_root.specs.Fields.{named_write_field, pending_at_field, owed_at_field}
use Rattle.fw_root.specs.OfFlow.{Given, nodes_as, limit_for, allows_size, low_extent, third_extent}
use Rattle.fw_root.specs.Spelling.{node_fronts_bytes, named_write_bytes, writes_bytes, ids_bytes, pending_at_bytes, pending_bytes, owed_at_bytes, owed_bytes}
use Rattle.fw_root.specs.Sound.{may_follow_outside, may_follow_writes, may_follow_others, may_follow_pending, may_follow_owed, may_follow_sends, IsNumberFor, IsFrontIn, AreNodeFronts, IsNamedWrite, IsPendingAt, IsOwedAt, IsId, AreCountsOfSequence}
use Rattle.fw_root.specs.Reading.{number_for, read_numbers, next_outside_of, read_front_in, read_node_fronts, read_fronts, next_sent_of, read_sends_of, read_sends, next_write_of, read_writes, next_other_of, read_others, next_pending_of, read_pending, next_owed_of, read_owed}
use Rattle.fw_root.proofs.ForLaws.{for_whole}
use Rattle.fw_root.proofs.FieldLaws.{writes_form, pending_form, owed_form}
use Rattle.fw_root.proofs.ExactLaws.{then_ok, kept_field, said_so, IsSizedList, sized_whole}

-- ---- numbers of nodes

number : (flow : Dataflow) (batches : Given) (p : ℕ) → IsExactReading (number_for flow batches p) u64_bytes (IsNumberFor flow batches p)
number flow batches p =
    said_so (number_for flow batches p) u64_bytes u64_bytes (λ n. (n < 2 ^ 64) × (nat_le n (limit_for flow batches p) ≡ true)) (IsNumberFor flow batches p)
    (kept_field (number_field w64) u64_bytes (λ n. n < 2 ^ 64) (λ n. nat_le n (limit_for flow batches p)) form64)
    (λ n f. record { small = f.0; within = leb-true n (limit_for flow batches p) f.1 })
    (λ n f. (f.small, le-leb n (limit_for flow batches p) f.within))
    (λ n f. refl)

pub numbers : (flow : Dataflow) (batches : Given) (nodes : List ℕ) → IsExactReading (read_numbers flow batches nodes) (flat_map u64_bytes) (AllZip (IsNumberFor flow batches) nodes)
numbers flow batches nodes = for_whole (number_for flow batches) u64_bytes (IsNumberFor flow batches) (number flow batches) nodes

-- ---- fronts

pub front_in : (bounds : Bounds) (extent : Extent) → IsExactReading (read_front_in bounds extent) front_bytes (IsFrontIn bounds extent)
unfolding read_front_in
front_in bounds extent =
    said_so (read_front_in bounds extent) front_bytes front_bytes (IsSizedList (2 ^ 32) (allows_size extent) IsStamp (may_follow_outside bounds extent)) (IsFrontIn bounds extent)
    (sized_whole (number_field w32) u32_bytes (2 ^ 32) form32 (allows_size extent) (next_outside_of bounds extent) stamp_bytes IsStamp (may_follow_outside bounds extent)
    (one_field stamp_field stamp_bytes IsStamp (may_follow_outside bounds extent) stamps))
    (λ f s. record { outside = s.parts; size = s.sized })
    (λ f s. record { parts = s.outside; sized = s.size })
    (λ f s. refl)

node_fronts_takes : (flow : Dataflow) (batches : Given) (injected : List ℕ) (p : ℕ) (bytes : List ℕ) (x : NodeFronts × List ℕ) → AreBytes bytes → read_node_fronts flow batches injected p bytes ≡ Ok x → AreSplit bytes (node_fronts_bytes x.0) x.1 × AreNodeFronts flow batches injected p x.0
unfolding read_node_fronts node_fronts_bytes
node_fronts_takes flow batches injected p bytes x fits e =
    step (front_in (bounds_of flow p) Any) bytes [] bytes (λ v0. read_front_in (bounds_of flow p) (low_extent flow batches injected p) v0.1 >>= (λ v1. read_front_in (bounds_of flow p) (third_extent flow p) v1.1 >>= (λ v2. Ok (record { settled = v0.0; low = v1.0; third = v2.0 }, v2.1)))) x (AreSplit bytes (node_fronts_bytes x.0) x.1 × AreNodeFronts flow batches injected p x.0) (starts bytes fits) e (λ s0 f0 t0 e0.
    step (front_in (bounds_of flow p) (low_extent flow batches injected p)) bytes (front_bytes s0.0) s0.1 (λ v1. read_front_in (bounds_of flow p) (third_extent flow p) v1.1 >>= (λ v2. Ok (record { settled = s0.0; low = v1.0; third = v2.0 }, v2.1))) x (AreSplit bytes (node_fronts_bytes x.0) x.1 × AreNodeFronts flow batches injected p x.0) t0 e0 (λ s1 f1 t1 e1.
    step (front_in (bounds_of flow p) (third_extent flow p)) bytes (front_bytes s0.0 ++ front_bytes s1.0) s1.1 (λ v2. Ok (record { settled = s0.0; low = s1.0; third = v2.0 }, v2.1)) x (AreSplit bytes (node_fronts_bytes x.0) x.1 × AreNodeFronts flow batches injected p x.0) t1 e1 (λ s2 f2 t2 e2.
    subst (λ (y : NodeFronts × List ℕ). AreSplit bytes (node_fronts_bytes y.0) y.1 × AreNodeFronts flow batches injected p y.0) (ok_is (record { settled = s0.0; low = s1.0; third = s2.0 }, s2.1) x e2) (t2, record { settled = f0; low = f1; third = f2 }))))

node_fronts_again : (flow : Dataflow) (batches : Given) (injected : List ℕ) (p : ℕ) (r : NodeFronts) (rest : List ℕ) → AreNodeFronts flow batches injected p r → read_node_fronts flow batches injected p (node_fronts_bytes r ++ rest) ≡ Ok (r, rest)
unfolding read_node_fronts node_fronts_bytes
node_fronts_again flow batches injected p r rest sound =
    ap (read_node_fronts flow batches injected p) (append_assoc (front_bytes r.settled ++ front_bytes r.low) (front_bytes r.third) rest
    ∙ append_assoc (front_bytes r.settled) (front_bytes r.low) (front_bytes r.third ++ rest))
    ∙ then_ok (read_front_in (bounds_of flow p) Any (front_bytes r.settled ++ (front_bytes r.low ++ (front_bytes r.third ++ rest)))) (λ v0. read_front_in (bounds_of flow p) (low_extent flow batches injected p) v0.1 >>= (λ v1. read_front_in (bounds_of flow p) (third_extent flow p) v1.1 >>= (λ v2. Ok (record { settled = v0.0; low = v1.0; third = v2.0 }, v2.1)))) (r.settled, (front_bytes r.low ++ (front_bytes r.third ++ rest))) (Ok (r, rest)) ((front_in (bounds_of flow p) Any).again (r.settled) (front_bytes r.low ++ (front_bytes r.third ++ rest)) sound.settled) (
    then_ok (read_front_in (bounds_of flow p) (low_extent flow batches injected p) (front_bytes r.low ++ (front_bytes r.third ++ rest))) (λ v1. read_front_in (bounds_of flow p) (third_extent flow p) v1.1 >>= (λ v2. Ok (record { settled = (r.settled); low = v1.0; third = v2.0 }, v2.1))) (r.low, (front_bytes r.third ++ rest)) (Ok (r, rest)) ((front_in (bounds_of flow p) (low_extent flow batches injected p)).again (r.low) (front_bytes r.third ++ rest) sound.low) (
    then_ok (read_front_in (bounds_of flow p) (third_extent flow p) (front_bytes r.third ++ rest)) (λ v2. Ok (record { settled = (r.settled); low = (r.low); third = v2.0 }, v2.1)) (r.third, rest) (Ok (r, rest)) ((front_in (bounds_of flow p) (third_extent flow p)).again (r.third) rest sound.third) (
    refl)))

node_fronts_inside : (flow : Dataflow) (batches : Given) (injected : List ℕ) (p : ℕ) → ReadsInside (read_node_fronts flow batches injected p)
unfolding read_node_fronts
node_fronts_inside flow batches injected p n bytes le =
    inside_then n (read_front_in (bounds_of flow p) Any bytes) (λ v0. read_front_in (bounds_of flow p) (low_extent flow batches injected p) v0.1 >>= (λ v1. read_front_in (bounds_of flow p) (third_extent flow p) v1.1 >>= (λ v2. Ok (record { settled = v0.0; low = v1.0; third = v2.0 }, v2.1)))) ((front_in (bounds_of flow p) Any).inside n bytes le) (λ s0 l0.
    inside_then n (read_front_in (bounds_of flow p) (low_extent flow batches injected p) s0.1) (λ v1. read_front_in (bounds_of flow p) (third_extent flow p) v1.1 >>= (λ v2. Ok (record { settled = s0.0; low = v1.0; third = v2.0 }, v2.1))) ((front_in (bounds_of flow p) (low_extent flow batches injected p)).inside n s0.1 l0) (λ s1 l1.
    inside_then n (read_front_in (bounds_of flow p) (third_extent flow p) s1.1) (λ v2. Ok (record { settled = s0.0; low = s1.0; third = v2.0 }, v2.1)) ((front_in (bounds_of flow p) (third_extent flow p)).inside n s1.1 l1) (λ s2 l2.
    l2)))

pub node_fronts : (flow : Dataflow) (batches : Given) (injected : List ℕ) (p : ℕ) → IsExactReading (read_node_fronts flow batches injected p) node_fronts_bytes (AreNodeFronts flow batches injected p)
node_fronts flow batches injected p = record { takes = node_fronts_takes flow batches injected p; again = node_fronts_again flow batches injected p; inside = node_fronts_inside flow batches injected p }

pub fronts : (flow : Dataflow) (batches : Given) (injected : List ℕ) → IsExactReading (read_fronts flow batches injected) (flat_map node_fronts_bytes) (AllZip (AreNodeFronts flow batches injected) (node_ids flow))
fronts flow batches injected = for_whole (read_node_fronts flow batches injected) node_fronts_bytes (AreNodeFronts flow batches injected) (node_fronts flow batches injected) (node_ids flow)

-- ---- lists with a count

pub sends_of : (flow : Dataflow) (p : ℕ) → IsExactReading (read_sends_of flow p) sent_counts_bytes (AreCountsOfSequence flow p)
unfolding read_sends_of
sends_of flow p =
    counted_whole (number_field w32) u32_bytes (2 ^ 32) form32 (next_sent_of flow p) sent_count_bytes IsSentCount (may_follow_sends flow p)
    (one_field sent_count_of sent_count_bytes IsSentCount (may_follow_sends flow p) counts) (read_sends_of flow p) (λ bytes. refl)

pub sends : (flow : Dataflow) → IsExactReading (read_sends flow) (flat_map sent_counts_bytes) (AllZip (AreCountsOfSequence flow) (nodes_as flow role.ByCount))
sends flow = for_whole (read_sends_of flow) sent_counts_bytes (AreCountsOfSequence flow) (sends_of flow) (nodes_as flow role.ByCount)

pub writes : (flow : Dataflow) (next_id : ℕ) → IsExactReading (read_writes flow next_id) writes_bytes (IsList (2 ^ 64) IsNamedWrite (may_follow_writes flow next_id))
unfolding read_writes
writes flow next_id =
    counted_whole (number_field w64) u64_bytes (2 ^ 64) form64 (next_write_of flow next_id) named_write_bytes IsNamedWrite (may_follow_writes flow next_id)
    (one_field named_write_field named_write_bytes IsNamedWrite (may_follow_writes flow next_id) writes_form) (read_writes flow next_id) (λ bytes. refl)

pub others : (next_id : ℕ) (ws : List NamedWrite) → IsExactReading (read_others next_id ws) ids_bytes (IsList (2 ^ 64) IsId (may_follow_others next_id ws))
unfolding read_others
others next_id ws =
    counted_whole (number_field w64) u64_bytes (2 ^ 64) form64 (next_other_of next_id ws) u64_bytes IsId (may_follow_others next_id ws)
    (one_field (number_field w64) u64_bytes IsId (may_follow_others next_id ws) form64) (read_others next_id ws) (λ bytes. refl)

pub pending : (flow : Dataflow) → IsExactReading (read_pending flow) pending_bytes (IsList (2 ^ 64) IsPendingAt (may_follow_pending flow))
unfolding read_pending
pending flow =
    counted_whole (number_field w64) u64_bytes (2 ^ 64) form64 (next_pending_of flow) pending_at_bytes IsPendingAt (may_follow_pending flow)
    (one_field pending_at_field pending_at_bytes IsPendingAt (may_follow_pending flow) pending_form) (read_pending flow) (λ bytes. refl)

pub owed : (flow : Dataflow) → IsExactReading (read_owed flow) owed_bytes (IsList (2 ^ 64) IsOwedAt (may_follow_owed flow))
unfolding read_owed
owed flow =
    counted_whole (number_field w64) u64_bytes (2 ^ 64) form64 (next_owed_of flow) owed_at_bytes IsOwedAt (may_follow_owed flow)
    (one_field owed_at_field owed_at_bytes IsOwedAt (may_follow_owed flow) owed_form) (read_owed flow) (λ bytes. refl)

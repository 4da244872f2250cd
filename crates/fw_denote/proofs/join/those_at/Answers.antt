use Rattle.std.proofs.Common.{List, rules}
use Rattle.std.specs.Ordering.{is_eq, is_gt}
use Rattle.std.proofs.lemmas.List.Sorted.{IsPartitionPoint-from_clause}
use Rattle.fw_flow.specs.WholeBags.{Timed}
use Rattle.fw_denote.specs.declared.keyed.Slot.{Slot}
use Rattle.fw_denote.specs.Numbers.{slot_cmp, slot_of}
use Rattle.fw_denote.proofs.JoinLaws.{parted_below, parted_rest, rest_is, those_found}
use Rattle.fw_denote.proofs.join.those_at.Goals as goal

pub returns : goal.returns
returns c =
    let s : Slot = c.args.slot.now in
    let rs : List Timed = c.args.rs.now in
    let above = IsPartitionPoint-from_clause (λ (r : Timed). is_gt (slot_cmp s (slot_of r))) _ _ c.partition_point-from.ensures.partitioned
    (parted_below s rs c.requires) (λ a r q k. search rules) in
    let at = IsPartitionPoint-from_clause (λ (r : Timed). is_eq (slot_cmp s (slot_of r))) _ _ c.partition_point-count.ensures.partitioned
    (parted_rest s rs c.partition_point-from.result c.requires (λ k d l m. above.1 k d l m)) (λ a r q k. search rules) in
    those_found s rs _ c.partition_point-from.result c.partition_point-count.result (rest_is rs c.partition_point-from.result) above at

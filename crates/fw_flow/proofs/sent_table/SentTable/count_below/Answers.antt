use Rattle.std.proofs.Common.{nat_lt, sym, subst, rules}
use Rattle.std.specs.List.Sorted.{IsNonDecreasingBy}
use Rattle.std.proofs.lemmas.List.Sorted.{IsPartitionPoint-from_clause, IsPartitionedBy-ltb}
use Rattle.fw_flow.specs.declared.sent_table.SentInEpoch.{SentInEpoch}
use Rattle.fw_flow.proofs.SentTableLaws.{entries-in_order, count-below}
use Rattle.fw_flow.proofs.sent_table.SentTable.count_below.Goals as goal

pub returns : goal.returns
returns c =
    let es = c.self.inside.entries.items in
    let limit = c.args.limit in
    let in_order = subst (IsNonDecreasingBy (λ (e : SentInEpoch). e.epoch)) (sym c.deref.ensures.value) (entries-in_order es c.self.invariant.in_order) in
    let parted = IsPartitionedBy-ltb (λ (e : SentInEpoch). e.epoch) c.deref.result.now limit in_order in
    let point =
    IsPartitionPoint-from_clause (λ (e : SentInEpoch). nat_lt e.epoch limit) _ _ c.partition_point-place.ensures.partitioned parted (λ a r q k. search rules) in
    count-below limit c.partition_point-place.result c.total_at.result es c.deref.result.now c.deref-2.result.now c.args.self.now c.deref.ensures.value
    c.deref-2.ensures.value c.self.view_is c.partition_point-place.ensures.bound point c.total_at.ensures

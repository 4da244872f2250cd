use Rattle.std.proofs.Common.{◌≡◌, ◌∙◌, ℕ, ◌<◌, ◌≤◌, nat_lt, true, false, take, drop, sym, subst, ap, rules, arith}
use Rattle.std.specs.List.{AllByRecursion}
use Rattle.std.specs.List.Sorted.{IsNonDecreasingBy, IsPartitionPoint}
use Rattle.std.proofs.lemmas.List.Sorted.{IsPartitionPoint-from_clause, IsPartitionedBy-ltb}
use Rattle.fw_flow.specs.declared.sent_table.SentInEpoch.{SentInEpoch}
use Rattle.fw_flow.specs.SentTable.{counts_of}
use Rattle.fw_flow.proofs.SentTableLaws.{entries-in_order, below-first, others-from}
use Rattle.fw_flow.proofs.sent_table.SentTable.first_from.Goals as goal

pub returns-clause-below : goal.returns-clause-below
returns-clause-below c =
    let limit = c.args.limit in
    let in_order = subst (IsNonDecreasingBy (λ (e : SentInEpoch). e.epoch)) (sym c.deref.ensures.value) (entries-in_order c.self.inside.entries.items c.self.invariant.in_order) in
    let point : IsPartitionPoint (λ (e : SentInEpoch). nat_lt e.epoch limit ≡ true) (λ (e : SentInEpoch). nat_lt e.epoch limit ≡ false) c.deref.result.now c.partition_point.result =
    IsPartitionPoint-from_clause (λ (e : SentInEpoch). nat_lt e.epoch limit) _ _ c.partition_point.ensures.partitioned
    (IsPartitionedBy-ltb (λ (e : SentInEpoch). e.epoch) c.deref.result.now limit in_order) (λ a r q k. search rules) in
    subst (λ t. AllByRecursion (λ (e : ℕ × ℕ). e.0 < limit) (take c.partition_point.result t)) (ap counts_of c.deref.ensures.value ∙ c.self.view_is)
    (below-first limit c.partition_point.result c.deref.result.now c.partition_point.ensures.bound (λ k d h. point.0 k d (omega arith) h))

pub returns-clause-from : goal.returns-clause-from
returns-clause-from c =
    let limit = c.args.limit in
    let in_order = subst (IsNonDecreasingBy (λ (e : SentInEpoch). e.epoch)) (sym c.deref.ensures.value) (entries-in_order c.self.inside.entries.items c.self.invariant.in_order) in
    let point : IsPartitionPoint (λ (e : SentInEpoch). nat_lt e.epoch limit ≡ true) (λ (e : SentInEpoch). nat_lt e.epoch limit ≡ false) c.deref.result.now c.partition_point.result =
    IsPartitionPoint-from_clause (λ (e : SentInEpoch). nat_lt e.epoch limit) _ _ c.partition_point.ensures.partitioned
    (IsPartitionedBy-ltb (λ (e : SentInEpoch). e.epoch) c.deref.result.now limit in_order) (λ a r q k. search rules) in
    subst (λ t. AllByRecursion (λ (e : ℕ × ℕ). limit ≤ e.0) (drop c.partition_point.result t)) (ap counts_of c.deref.ensures.value ∙ c.self.view_is)
    (others-from limit c.partition_point.result c.deref.result.now point.1)

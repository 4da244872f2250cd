use Rattle.std.proofs.Common.{◌≡◌, ◌<◌, ◌≤◌, nat_lt, true, false, rules, arith}
use Rattle.std.specs.List.Sorted.{IsPartitionPoint}
use Rattle.std.proofs.lemmas.List.Sorted.{IsPartitionPoint-from_clause}
use Rattle.std.proofs.lemmas.Bool.{ltb-true, ltb-false}
use Rattle.fw_keep.specs.declared.entry.Entry.{Entry}
use Rattle.fw_keep.proofs.EntryLaws.{below_first}
use Rattle.fw_keep.proofs.InFlightLaws.{each_first, each_other}
use Rattle.fw_keep.proofs.going.first_from.Goals as goal

pub returns-clause-below : goal.returns-clause-below
returns-clause-below c =
    let es = c.args.entries.now in
    let id = c.args.id in
    let n = c.partition_point.result in
    let parts : IsPartitionPoint (λ (e : Entry). nat_lt e.id c.args.id ≡ true) (λ (e : Entry). nat_lt e.id c.args.id ≡ false) c.args.entries.now c.partition_point.result =
    IsPartitionPoint-from_clause (λ (e : Entry). nat_lt e.id id) es n c.partition_point.ensures.partitioned (below_first es id c.requires) (λ a r f' called. search rules) in
    each_first (λ (e : Entry). e.id < id) n es (λ k d a b. ltb-true _ id (parts.0 k d (omega arith) a))

pub returns-clause-from : goal.returns-clause-from
returns-clause-from c =
    let es = c.args.entries.now in
    let id = c.args.id in
    let n = c.partition_point.result in
    let parts : IsPartitionPoint (λ (e : Entry). nat_lt e.id c.args.id ≡ true) (λ (e : Entry). nat_lt e.id c.args.id ≡ false) c.args.entries.now c.partition_point.result =
    IsPartitionPoint-from_clause (λ (e : Entry). nat_lt e.id id) es n c.partition_point.ensures.partitioned (below_first es id c.requires) (λ a r f' called. search rules) in
    each_other (λ (e : Entry). id ≤ e.id) n es (λ k d a b. ltb-false _ id (parts.1 k d a b))

use Rattle.std.proofs.Common.{rules}
use Rattle.std.proofs.lemmas.List.Sorted.{IsPartitionPoint-from_clause}
use Rattle.fw_keep.specs.declared.entry.Entry.{Entry}
use Rattle.fw_keep.proofs.InFlightLaws.{partitioned, upto_point}
use Rattle.fw_keep.proofs.persist.acknowledged.Goals as goal

pub returns : goal.returns
returns c =
    let es = c.args.entries.now in
    let n = c.partition_point.result in
    upto_point n es c.partition_point.ensures.bound
    (IsPartitionPoint-from_clause (λ (e : Entry). e.acknowledged) es n c.partition_point.ensures.partitioned
    (λ i j d le l h. partitioned c.requires.0 es c.requires.1.first c.requires.1.others i j d le l h) (λ a r f' called. search rules))

use Rattle.std.proofs.Common.{◌∷◌, take, arith}
use Rattle.std.proofs.lemmas.List.{take_all}
use Rattle.fw_policy.specs.Offering.{empty_record, records_by}
use Rattle.fw_policy.proofs.CodeLaws.{entries_more, entries_all}
use Rattle.fw_policy.proofs.offering.records.Goals as goal

pub loop-entry-preserved : goal.loop-entry-preserved
loop-entry-preserved c =
    entries_more c.args.bounds.now c.args.low.now c.args.node c.args.entries.now c.loop-entry.entry-index c.entry-item.result c.add_entry.new.records.items c.loop-entry-test.true c.entry-item.is
    (c.in_ok-add_entry.ensures (empty_record c.args.bounds.now ∷ records_by c.args.node (take c.loop-entry.entry-index c.args.entries.now)) c.loop-entry.invariant)

pub returns : goal.returns
returns c =
    entries_all c.args.bounds.now c.args.low.now c.args.node c.args.entries.now c.loop-entry.entry-index c.loop-entry.records.items
    (take_all c.loop-entry.entry-index c.args.entries.now (omega (arith, c.loop-entry-test.false, c.loop-entry.auto.entry-index-end))) c.loop-entry.invariant

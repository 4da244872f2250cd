use Rattle.std.proofs.Common.{[], map, ap, ◌∙◌, arith}
use Rattle.fw_keep.specs.Joined.{count_at_cause, counts_over, sends_of_record}
use Rattle.fw_keep.proofs.JoinedLaws.{counts_more, counts_last}
use Rattle.fw_keep.proofs.joined.joined_sends.Goals as goal

pub loop-record-preserved : goal.loop-record-preserved
loop-record-preserved c =
    counts_more sends_of_record c.args.under.now c.loop-record.record-index c.record-item.result c.loop-record.counts.entries c.put_counts.new.counts.entries
    c.loop-record-test.true c.record-item.is (c.in_ok-put_counts.ensures ∙ ap (counts_over c.loop-record.counts.entries) c.sends_of_record.ensures)
    ∙ c.loop-record.invariant

pub returns : goal.returns
returns c =
    c.of.ensures ∙ c.in_ok-counts_of.ensures
    ∙ ap (map count_at_cause) (counts_last sends_of_record c.args.under.now c.loop-record.record-index [] c.loop-record.counts.entries c.put_counts-2.new.counts.entries c.args.last.now
    (omega (arith, c.loop-record-test.false)) c.loop-record.invariant c.in_ok-put_counts-2.ensures)

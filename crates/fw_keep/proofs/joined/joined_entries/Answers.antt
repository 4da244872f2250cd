use Rattle.std.proofs.Common.{[], map, ap, ◌∙◌, arith}
use Rattle.fw_frontier.specs.declared.state.Entries.TheVariants.{Totals}
use Rattle.fw_keep.specs.Joined.{total_at_key, totals_over, totals_of_record}
use Rattle.fw_keep.proofs.JoinedLaws.{totals_more, totals_last}
use Rattle.fw_keep.proofs.joined.joined_entries.Goals as goal

pub loop-record-preserved : goal.loop-record-preserved
loop-record-preserved c =
    totals_more totals_of_record c.args.under.now c.loop-record.record-index c.record-item.result c.loop-record.totals.entries c.put_totals.new.totals.entries
    c.loop-record-test.true c.record-item.is (c.in_ok-put_totals.ensures ∙ ap (totals_over c.loop-record.totals.entries) c.totals_of_record.ensures)
    ∙ c.loop-record.invariant

pub returns : goal.returns
returns c =
    ap Totals (c.of.ensures ∙ c.in_ok-recs_of.ensures
    ∙ ap (map total_at_key) (totals_last totals_of_record c.args.under.now c.loop-record.record-index [] c.loop-record.totals.entries c.put_totals-2.new.totals.entries c.args.last.now
    (omega (arith, c.loop-record-test.false)) c.loop-record.invariant c.in_ok-put_totals-2.ensures))

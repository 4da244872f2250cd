use Rattle.std.proofs.Common.{◌∙◌}
use Rattle.fw_keep.proofs.JoinedLaws.{total-more}
use Rattle.fw_keep.proofs.joined.put_totals.Goals as goal

pub loop-rec-preserved : goal.loop-rec-preserved
loop-rec-preserved c =
    total-more c.args.recs.now c.loop-rec.rec-index _ c.loop-rec.totals.entries c.insert.new.self.entries c.loop-rec-test.true c.in_ok-insert.ensures.entries ∙ c.loop-rec.invariant

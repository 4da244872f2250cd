use Rattle.fw_progress.proofs.RestoreLaws.{added-next}
use Rattle.fw_progress.proofs.kept_stamps.KeptStamps.add_all.Goals as goal

pub loop-stamp-preserved : goal.loop-stamp-preserved
loop-stamp-preserved c =
    added-next c.args.stamps.now c.loop-stamp.stamp-index c.stamp-item.result c.args.self.now c.loop-stamp.self c.add.new.self c.loop-stamp-test.true c.stamp-item.is
    c.loop-stamp.invariant c.in_ok-add.ensures.value

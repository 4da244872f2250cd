use Rattle.fw_progress.proofs.CutCountLaws.{epochs-step}
use Rattle.fw_progress.proofs.cut.epochs_inside.Goals as goal

pub loop-stamp-preserved : goal.loop-stamp-preserved
loop-stamp-preserved c =
    epochs-step c.outside-outside.result.now c.loop-stamp.stamp-index c.stamp-item.result c.args.count c.loop-stamp.left c.until_epoch-left.result
    c.loop-stamp-test.true c.stamp-item.is c.loop-stamp.invariant c.until_epoch-left.ensures

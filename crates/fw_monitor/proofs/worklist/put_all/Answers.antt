use Rattle.fw_monitor.proofs.WorklistLaws.{put_next}
use Rattle.fw_monitor.proofs.worklist.put_all.Goals as goal

pub loop-inclusion-preserved : goal.loop-inclusion-preserved
loop-inclusion-preserved c =
    put_next c.args.flow.now c.args.inclusions.now c.loop-inclusion.inclusion-index c.inclusion-item.result c.args.waiting.now.items c.loop-inclusion.waiting.items c.put.new.waiting.items
    c.loop-inclusion-test.true c.inclusion-item.is c.loop-inclusion.invariant c.put.ensures

use Rattle.fw_progress.proofs.WorkLaws.{put_none, put_one}
use Rattle.fw_progress.proofs.worklist.Worklist.put_receivers.Goals as goal

pub loop-edge-init : goal.loop-edge-init
loop-edge-init c = put_none c.args.flow.now c.args.self.now

pub loop-edge-preserved : goal.loop-edge-preserved
loop-edge-preserved c =
    put_one c.args.flow.now c.out_edges-edges.result.now c.loop-edge.edge-index c.edge-item.result c.dst.result c.args.self.now c.loop-edge.self c.put.new.self
    c.loop-edge-test.true c.edge-item.is c.dst.ensures c.loop-edge.invariant c.in_ok-put.ensures

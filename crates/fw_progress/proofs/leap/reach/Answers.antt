use Rattle.std.proofs.Common.{arith}
use Rattle.fw_progress.proofs.LeapLaws.{one_reached, all_reached}
use Rattle.fw_progress.proofs.leap.reach.Goals as goal

pub loop-place-preserved : goal.loop-place-preserved
loop-place-preserved c =
    one_reached c.args.flow.now c.args.counts.now c.loop-place.place c.at-node.result c.args.fronts.now.items c.args.next.now c.loop-place.fronts.items c.reach_at.new.fronts.items
    c.args.work.now c.loop-place.work c.reach_at.new.work c.args.growths.now.items c.loop-place.growths.items c.reach_at.new.growths.items c.at-node.ensures
    (omega (arith, c.loop-place-test.true, c.nodes-place-end.ensures.count)) c.loop-place.invariant c.in_ok-reach_at.ensures.grown c.in_ok-reach_at.ensures.alone c.in_ok-reach_at.ensures.reached

pub returns : goal.returns
returns c =
    all_reached c.args.flow.now c.args.counts.now c.loop-place.place c.args.fronts.now.items c.args.next.now c.loop-place.fronts.items c.args.work.now c.loop-place.work
    c.args.growths.now.items c.loop-place.growths.items (omega (arith, c.loop-place-test.false, c.nodes-place-end.ensures.count)) c.loop-place.invariant

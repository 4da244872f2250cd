use Rattle.std.proofs.Common.{refl, arith}
use Rattle.fw_running.proofs.CountLaws.{greatest-none, greatest-more, greatest-all}
use Rattle.fw_flow.specs.Dataflow.{system_of}
use Rattle.fw_running.proofs.running.greatest_count.Goals as goal

pub loop-place-init : goal.loop-place-init
loop-place-init c = greatest-none (system_of c.args.flow.now c.args.batches.now)

pub loop-place-preserved : goal.loop-place-preserved
loop-place-preserved c =
    greatest-more c.args.flow.now c.args.batches.now c.loop-place.place c.loop-place.place c.count.result c.loop-place.greatest c.max-greatest.result
    (omega (arith, c.loop-place-test.true, c.nodes-place-end.ensures.count)) c.loop-place.invariant refl c.count.ensures c.max-greatest.ensures

pub returns : goal.returns
returns c =
    greatest-all c.args.flow.now c.args.batches.now c.loop-place.place c.loop-place.greatest
    (omega (arith, c.loop-place-test.false, c.nodes-place-end.ensures.count)) c.loop-place.invariant

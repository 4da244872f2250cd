use Rattle.std.proofs.Common.{◌≡◌, length, subst, arith}
use Rattle.fw_rollback.specs.Built.{AreQueuesBuilt}
use Rattle.fw_rollback.proofs.BuildLaws.{filled-none, filled-more}
use Rattle.fw_rollback.proofs.queueing.fill_queues.Goals as goal

pub loop-place-init : goal.loop-place-init
loop-place-init c = filled-none c.args.flow.now c.args.choice.now c.args.kept.now c.args.built.now c.args.queues.now c.requires.empty

pub loop-place-preserved : goal.loop-place-preserved
loop-place-preserved c =
    filled-more c.args.flow.now c.args.choice.now c.args.kept.now c.args.built.now c.loop-place.place c.at.result c.loop-place.queues c.fill_queue.new.queues
    c.at.ensures c.loop-place.invariant c.in_ok-fill_queue.ensures.filled c.fill_queue.ensures.others c.fill_queue.ensures.each

pub returns-clause-filled : goal.returns-clause-filled
returns-clause-filled c =
    let all : c.loop-place.place ≡ length c.args.flow.now.edges = omega (arith, c.loop-place-test.false, c.loop-place.auto.place-end, c.edges-edges.ensures) in
    subst (λ n. AreQueuesBuilt c.args.flow.now c.args.choice.now c.args.kept.now c.args.built.now n c.loop-place.queues) all c.loop-place.invariant.filled

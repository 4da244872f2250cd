use Rattle.std.proofs.Common.{◌≡◌, length, get_or, ◌∙◌, arith}
use Rattle.fw_rollback.specs.Edges.{nothing_there}
use Rattle.fw_rollback.specs.Built.{queue_put}
use Rattle.fw_rollback.proofs.PutLaws.{nothing_put, put_next, put_more, all_put}
use Rattle.fw_rollback.proofs.swap.put_queues.Goals as goal

pub loop-queue-init : goal.loop-queue-init
loop-queue-init c =
    nothing_put nothing_there (λ q. (queue_put c.args.flow.now c.args.choice.now) q (get_or c.args.queues.now q nothing_there) (get_or c.args.built q nothing_there)) c.args.built c.args.queues.now

pub put_queue-requires : goal.put_queue-requires
put_queue-requires c =
    let next = put_next nothing_there (λ q. (queue_put c.args.flow.now c.args.choice.now) q (get_or c.args.queues.now q nothing_there) (get_or c.args.built q nothing_there)) c.args.built c.args.queues.now c.loop-queue.rest c.pop.new.self c.loop-queue.queues c.in-Some.queue c.loop-queue.invariant c.in-Some.ensures.some in
    let place : c.at.result ≡ length c.pop.new.self = c.at.ensures ∙ c.len.ensures in
    omega (arith, next.1, place, c.requires.built, c.requires.each, c.loop-queue.invariant.each)

pub loop-queue-preserved : goal.loop-queue-preserved
loop-queue-preserved c =
    put_more nothing_there (queue_put c.args.flow.now c.args.choice.now) c.args.built c.args.queues.now c.loop-queue.rest c.pop.new.self c.loop-queue.queues c.put_queue.new.queues c.in-Some.queue c.at.result
    c.loop-queue.invariant c.in-Some.ensures.some (c.at.ensures ∙ c.len.ensures) c.put_queue.ensures.each c.put_queue.ensures.put c.put_queue.ensures.others

pub returns-clause-put : goal.returns-clause-put
returns-clause-put c = λ q l.
    all_put nothing_there (λ q. (queue_put c.args.flow.now c.args.choice.now) q (get_or c.args.queues.now q nothing_there) (get_or c.args.built q nothing_there)) c.args.built c.args.queues.now c.loop-queue.rest c.loop-queue.queues c.loop-queue.invariant c.in_default.ensures.none q (omega (arith, l, c.requires.built))

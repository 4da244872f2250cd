use Rattle.std.proofs.Common.{◌≡◌, length, get_or, ◌∙◌, arith}
use Rattle.fw_rollback.specs.Edges.{nothing_there}
use Rattle.fw_rollback.specs.Built.{log_put}
use Rattle.fw_rollback.proofs.PutLaws.{nothing_put, put_next, put_more, all_put}
use Rattle.fw_rollback.proofs.swap.put_logs.Goals as goal

pub loop-log-init : goal.loop-log-init
loop-log-init c =
    nothing_put nothing_there (λ q. (log_put c.args.flow.now c.args.choice.now) q (get_or c.args.logs.now q nothing_there) (get_or c.args.built q nothing_there)) c.args.built c.args.logs.now

pub put_log-requires : goal.put_log-requires
put_log-requires c =
    let next = put_next nothing_there (λ q. (log_put c.args.flow.now c.args.choice.now) q (get_or c.args.logs.now q nothing_there) (get_or c.args.built q nothing_there)) c.args.built c.args.logs.now c.loop-log.rest c.pop.new.self c.loop-log.logs c.in-Some.log c.loop-log.invariant c.in-Some.ensures.some in
    let place : c.at.result ≡ length c.pop.new.self = c.at.ensures ∙ c.len.ensures in
    omega (arith, next.1, place, c.requires.built, c.requires.each, c.loop-log.invariant.each)

pub loop-log-preserved : goal.loop-log-preserved
loop-log-preserved c =
    put_more nothing_there (log_put c.args.flow.now c.args.choice.now) c.args.built c.args.logs.now c.loop-log.rest c.pop.new.self c.loop-log.logs c.put_log.new.logs c.in-Some.log c.at.result
    c.loop-log.invariant c.in-Some.ensures.some (c.at.ensures ∙ c.len.ensures) c.put_log.ensures.each c.put_log.ensures.put c.put_log.ensures.others

pub returns-clause-put : goal.returns-clause-put
returns-clause-put c = λ q l.
    all_put nothing_there (λ q. (log_put c.args.flow.now c.args.choice.now) q (get_or c.args.logs.now q nothing_there) (get_or c.args.built q nothing_there)) c.args.built c.args.logs.now c.loop-log.rest c.loop-log.logs c.loop-log.invariant c.in_default.ensures.none q (omega (arith, l, c.requires.built))

use Rattle.fw_monitor.proofs.SentKeptLaws.{one_cause_at, sent_kept-more, sent_kept-none}
use Rattle.fw_monitor.proofs.lower.sent_kept.Goals as goal

pub loop-m-init : goal.loop-m-init
loop-m-init c =
    sent_kept-none c.args.from.now c.args.to.now c.args.edge c.args.front.now c.args.bound.now c.in_ok-left.left c.requires.front c.in_ok-left.ensures

pub without_sent-requires-clause-left : goal.without_sent-requires-clause-left
without_sent-requires-clause-left c = c.loop-m.invariant.canonical

pub without_sent-requires-clause-one_cause : goal.without_sent-requires-clause-one_cause
without_sent-requires-clause-one_cause c =
    one_cause_at c.args.edge c.args.sent.now c.loop-m.m-index c.m-item.result c.loop-m-test.true c.m-item.is c.requires.one_cause

pub loop-m-preserved : goal.loop-m-preserved
loop-m-preserved c =
    sent_kept-more c.args.from.now c.args.to.now c.args.edge c.args.front.now c.args.bound.now c.args.sent.now c.loop-m.m-index c.m-item.result
    c.loop-m.left c.in_ok-left-2.left c.loop-m-test.true c.m-item.is c.loop-m.invariant c.in_ok-left-2.ensures

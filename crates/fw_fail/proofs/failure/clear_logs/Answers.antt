use Rattle.std.proofs.Common.{subst}
use Rattle.std.proofs.lemmas.List.{take_all}
use Rattle.fw_fail.specs.Failing.{AreGone}
use Rattle.fw_fail.proofs.FailLaws.{gone_none, gone_more}
use Rattle.fw_fail.proofs.failure.clear_logs.Goals as goal

pub loop-edge-init : goal.loop-edge-init
loop-edge-init c = gone_none c.args.logs.now

pub loop-edge-preserved : goal.loop-edge-preserved
loop-edge-preserved c =
    gone_more c.args.edges.now c.loop-edge.edge-index c.edge-item.result c.args.logs.now c.loop-edge.logs c.clear_log.new.logs c.loop-edge-test.true c.edge-item.is
    c.loop-edge.invariant c.clear_log.ensures.one_each c.clear_log.ensures.here c.clear_log.ensures.others

pub returns : goal.returns
returns c =
    subst (λ es. AreGone es c.args.logs.now c.loop-edge.logs) (take_all c.loop-edge.edge-index c.args.edges.now c.loop-edge-test.false) c.loop-edge.invariant

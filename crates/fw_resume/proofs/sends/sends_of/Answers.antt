use Rattle.std.proofs.Common.{length, subst, arith}
use Rattle.std.proofs.lemmas.List.{take_all}
use Rattle.std.specs.List.{AllZip}
use Rattle.fw_resume.specs.Sends.{AreSendsTold}
use Rattle.fw_resume.proofs.SendLaws.{node_there, sends_next}
use Rattle.fw_resume.proofs.sends.sends_of.Goals as goal

pub sends_at-requires : goal.sends_at-requires
sends_at-requires c = node_there (length c.args.counts.now.sent.items) c.args.sequences.now c.loop-node.node-index c.node-item.result c.requires c.loop-node-test.true c.node-item.is

pub loop-node-preserved : goal.loop-node-preserved
loop-node-preserved c =
    sends_next c.args.counts.now c.args.sequences.now c.loop-node.node-index c.node-item.result c.loop-node.all.items c.push.new.self.items c.in_ok-sends_at.field-0
    c.loop-node-test.true c.node-item.is c.loop-node.invariant c.in_ok-sends_at.ensures c.in_ok-push.ensures.items

pub returns : goal.returns
returns c =
    subst (λ ds. AllZip (AreSendsTold c.args.counts.now) ds c.loop-node.all.items) (take_all c.loop-node.node-index c.args.sequences.now (omega (arith, c.loop-node-test.false))) c.loop-node.invariant

use Rattle.std.proofs.Common.{sym, ◌∙◌}
use Rattle.fw_schedule.proofs.MakingLaws.{passed_over, found_at, none_left}
use Rattle.fw_schedule.proofs.making.nodes_fault.Goals as goal

pub loop-node-preserved : goal.loop-node-preserved
loop-node-preserved c =
    passed_over c.args.flow.now c.args.nodes.now c.loop-node.node-index c.node-item.result c.loop-node-test.true c.node-item.is
    (sym c.node_fault.ensures ∙ c.in_default.is) c.loop-node.invariant

pub returns-in-Some : goal.returns-in-Some
returns-in-Some c =
    found_at c.args.flow.now c.args.nodes.now c.loop-node.node-index c.node-item.result c.in-Some.fault c.loop-node-test.true c.node-item.is
    (sym c.node_fault.ensures ∙ c.in-Some.is) c.loop-node.invariant

pub returns : goal.returns
returns c = none_left c.args.flow.now c.args.nodes.now c.loop-node.node-index c.loop-node-test.false c.loop-node.invariant

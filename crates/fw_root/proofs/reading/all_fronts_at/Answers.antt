use Rattle.std.proofs.Common.{[], arith}
use Rattle.std.proofs.lemmas.Result.{err_from_is_err_and}
use Rattle.fw_root.specs.Reading.{many_for, read_node_fronts}
use Rattle.fw_root.proofs.ForLaws.{for_goes_on, for_ends, for_is_done}
use Rattle.fw_root.proofs.reading.all_fronts_at.Goals as goal

pub returns-in_err-part : goal.returns-in_err-part
returns-in_err-part c =
    let p = err_from_is_err_and c.from_residual.result c.from_residual.ensures.1 in
    rw (p.1, p.2) (for_ends (read_node_fronts c.args.flow.now c.args.batches.now c.args.injected.now) c.in_err-part.field-0.0 c.args.nodes.now c.loop-node.node-index c.node-item.result c.loop-node.parts.items c.loop-node.rest.now (many_for (read_node_fronts c.args.flow.now c.args.batches.now c.args.injected.now) c.args.nodes.now [] c.args.bytes.now) (omega arith) c.node-item.is c.in_err-part.ensures c.loop-node.invariant)

pub loop-node-preserved : goal.loop-node-preserved
loop-node-preserved c =
    rw c.in_ok-push.ensures.items (for_goes_on (read_node_fronts c.args.flow.now c.args.batches.now c.args.injected.now) c.args.nodes.now c.loop-node.node-index c.node-item.result c.loop-node.parts.items c.loop-node.rest.now c.in_ok-part.part c.in_ok-part.after.now (many_for (read_node_fronts c.args.flow.now c.args.batches.now c.args.injected.now) c.args.nodes.now [] c.args.bytes.now) (omega arith) c.node-item.is c.in_ok-part.ensures c.loop-node.invariant)

pub returns : goal.returns
returns c = for_is_done (read_node_fronts c.args.flow.now c.args.batches.now c.args.injected.now) c.args.nodes.now c.loop-node.node-index c.loop-node.parts.items c.loop-node.rest.now (many_for (read_node_fronts c.args.flow.now c.args.batches.now c.args.injected.now) c.args.nodes.now [] c.args.bytes.now) (omega arith) c.loop-node.invariant

use Rattle.std.proofs.Common.{arith}
use Rattle.fw_flow.proofs.ExpandLaws.{split_found, split_missed, split_past}
use Rattle.fw_flow.proofs.expand.split_of.Goals as goal

pub returns-in-Some : goal.returns-in-Some
returns-in-Some c =
    split_found c.args.raw.now c.args.name.now c.loop-one.one-index c.in-Some.count c.one-item.result c.loop-one.invariant (omega arith) c.one-item.is c.in-Some.ensures

pub loop-one-preserved : goal.loop-one-preserved
loop-one-preserved c =
    split_missed c.args.raw.now c.args.name.now c.loop-one.one-index c.one-item.result c.loop-one.invariant (omega arith) c.one-item.is c.in-None.ensures

pub returns : goal.returns
returns c = split_past c.args.raw.now c.args.name.now c.loop-one.one-index c.loop-one.invariant (omega arith)

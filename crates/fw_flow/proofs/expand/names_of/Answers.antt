use Rattle.std.proofs.Common.{arith}
use Rattle.fw_flow.proofs.NewLaws.{names_taken}
use Rattle.fw_flow.proofs.expand.names_of.Goals as goal

pub loop-one-preserved : goal.loop-one-preserved
loop-one-preserved c =
    names_taken c.loop-one.names c.take.new.self c.args.declared.now c.loop-one.one-index c.one-item.result
    (record { loops = c.requires.loops; nodes = c.requires.nodes; edges = c.requires.edges })
    (omega arith) c.one-item.is c.loop-one.invariant c.in_ok-take.ensures

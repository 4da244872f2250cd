use Rattle.std.proofs.Common.{take}
use Rattle.fw_fail.proofs.FailLaws.{HaveFailed}
use Rattle.fw_fail.proofs.failure.fail.Given as goal

abbrev pub invariant-loop-node : goal.invariant-loop-node
invariant-loop-node l = HaveFailed (take l.node-index l.nodes) l.any l.fn.running l.running

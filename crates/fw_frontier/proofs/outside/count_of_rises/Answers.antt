use Rattle.std.proofs.Common.{arith}
use Rattle.fw_frontier.proofs.JoinLaws.{rises-past}
use Rattle.fw_frontier.proofs.outside.count_of_rises.Goals as goal

pub returns : goal.returns
returns c = omega (arith, c.loop-i.invariant.so_far, rises-past c.loop-i.i c.args.s.now c.args.p.now (omega arith))

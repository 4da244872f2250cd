use Rattle.std.proofs.Common.{take}
use Rattle.fw_fail.specs.Failing.{AreGone}
use Rattle.fw_fail.proofs.failure.clear_logs.Given as goal

abbrev pub invariant-loop-edge : goal.invariant-loop-edge
invariant-loop-edge l = AreGone (take l.edge-index l.edges) l.fn.logs l.logs

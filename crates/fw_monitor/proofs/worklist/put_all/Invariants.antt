use Rattle.std.proofs.Common.{take}
use Rattle.fw_monitor.specs.Worklist.{AreMadeToWait}
use Rattle.fw_monitor.proofs.worklist.put_all.Given as goal

abbrev pub invariant-loop-inclusion : goal.invariant-loop-inclusion
invariant-loop-inclusion l = AreMadeToWait l.flow (take l.inclusion-index l.inclusions) l.fn.waiting.items l.waiting.items

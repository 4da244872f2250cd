use Rattle.std.proofs.Common.{take}
use Rattle.fw_progress.specs.Growths.{ArePut}
use Rattle.fw_progress.proofs.worklist.Worklist.put_receivers.Given as goal

abbrev pub invariant-loop-edge : goal.invariant-loop-edge
invariant-loop-edge l = ArePut l.flow (take l.edge-index l.edges) l.fn.self l.self

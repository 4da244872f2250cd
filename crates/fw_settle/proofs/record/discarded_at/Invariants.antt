use Rattle.std.proofs.Common.{take}
use Rattle.std.specs.List.{AllZip}
use Rattle.fw_settle.specs.Checkpoints.{IsDiscarded, IsOfEdge}
use Rattle.fw_settle.proofs.record.discarded_at.Given as goal

abbrev pub invariant-loop-edge : goal.invariant-loop-edge
invariant-loop-edge l = AllZip (IsOfEdge (IsDiscarded l.running.flow l.running.traces l.front l.resends)) (take l.edge-index l.edge-items) l.discarded.items

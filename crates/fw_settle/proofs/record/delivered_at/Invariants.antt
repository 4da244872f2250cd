use Rattle.std.proofs.Common.{take}
use Rattle.std.specs.List.{AllZip}
use Rattle.fw_settle.specs.Checkpoints.{IsCoverDelivered, IsOfEdge}
use Rattle.fw_settle.proofs.record.delivered_at.Given as goal

abbrev pub invariant-loop-edge : goal.invariant-loop-edge
invariant-loop-edge l = AllZip (IsOfEdge (IsCoverDelivered l.running.flow l.running.traces l.front)) (take l.edge-index l.edge-items) l.delivered.items

use Rattle.std.proofs.Common.{take}
use Rattle.fw_resume.specs.Stamps.{AreDeliveredBack, AreOnEdges}
use Rattle.fw_resume.proofs.stamps.delivered_back.Given as goal

abbrev pub invariant-loop-edge : goal.invariant-loop-edge
invariant-loop-edge l = AreOnEdges (AreDeliveredBack l.flow l.recorded) (take l.edge-index l.edge-items) l.messages.items

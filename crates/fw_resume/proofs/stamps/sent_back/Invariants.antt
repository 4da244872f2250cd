use Rattle.std.proofs.Common.{take}
use Rattle.fw_resume.specs.Stamps.{AreOnEdges, AreSentBack}
use Rattle.fw_resume.proofs.stamps.sent_back.Given as goal

abbrev pub invariant-loop-edge : goal.invariant-loop-edge
invariant-loop-edge l = AreOnEdges (AreSentBack l.flow l.node l.recorded) (take l.edge-index l.edge-items) l.messages.items

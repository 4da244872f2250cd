use Rattle.std.proofs.Common.{take}
use Rattle.fw_resume.specs.Told.{ArePendingTold}
use Rattle.fw_resume.proofs.told.pending_told.Given as goal

abbrev pub invariant-loop-of_edge : goal.invariant-loop-of_edge
invariant-loop-of_edge l = ArePendingTold l.flow (take l.of_edge-index l.pending) l.tallies.items

use Rattle.fw_progress.proofs.LedLaws.{IsSpreading}
use Rattle.fw_progress.proofs.leap.mark_receivers.Given as goal

abbrev pub invariant-loop-edge : goal.invariant-loop-edge
invariant-loop-edge l = IsSpreading l.flow l.feedback l.fn.node l.edges l.edge-index l.fn.marks.items l.fn.found.items l.marks.items l.found.items

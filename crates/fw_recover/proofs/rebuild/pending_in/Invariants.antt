use Rattle.fw_edge.specs.Stamps.{counted_stamps}
use Rattle.fw_recover.proofs.CountedLaws.{IsCountedSoFar}
use Rattle.fw_recover.proofs.rebuild.pending_in.Given as goal

abbrev pub invariant-loop-at : goal.invariant-loop-at
invariant-loop-at l = IsCountedSoFar (counted_stamps l.queue.messages) l.at-iterator l.tally

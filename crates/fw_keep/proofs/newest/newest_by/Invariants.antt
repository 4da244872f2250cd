use Rattle.std.proofs.Common.{◌≡◌, length}
use Rattle.fw_keep.specs.Newest.{newest_by}
use Rattle.fw_keep.proofs.newest.newest_by.Given as goal

abbrev pub invariant-loop-entry : goal.invariant-loop-entry
invariant-loop-entry l = newest_by l.node l.rest ≡ newest_by l.node l.entries

abbrev pub decreases-loop-entry : goal.decreases-loop-entry
decreases-loop-entry l = length l.rest

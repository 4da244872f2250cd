use Rattle.std.proofs.Common.{◌≡◌, length}
use Rattle.fw_keep.specs.Newest.{whole_within}
use Rattle.fw_keep.proofs.newest.whole_within.Given as goal

abbrev pub invariant-loop-entry : goal.invariant-loop-entry
invariant-loop-entry l = whole_within l.node l.front l.rest ≡ whole_within l.node l.front l.entries

abbrev pub decreases-loop-entry : goal.decreases-loop-entry
decreases-loop-entry l = length l.rest

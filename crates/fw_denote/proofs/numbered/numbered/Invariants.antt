use Rattle.std.proofs.Common.{◌≡◌, ◌++◌, length}
use Rattle.fw_flow.specs.WholeBags.{numbered_recs}
use Rattle.fw_denote.proofs.numbered.numbered.Given as goal

abbrev pub invariant-loop-r : goal.invariant-loop-r
invariant-loop-r l = l.sent.items ++ numbered_recs l.number l.rest ≡ numbered_recs 0 l.rs

abbrev pub decreases-loop-r : goal.decreases-loop-r
decreases-loop-r l = length l.rest

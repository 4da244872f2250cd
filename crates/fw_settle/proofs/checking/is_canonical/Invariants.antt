use Rattle.std.proofs.Common.{◌↔◌, length}
use Rattle.fw_frontier.specs.Front.{IsCanonical}
use Rattle.fw_settle.proofs.checking.is_canonical.Given as goal

abbrev pub invariant-loop-first : goal.invariant-loop-first
invariant-loop-first l = IsCanonical l.domain l.rest ↔ IsCanonical l.domain l.front

abbrev pub decreases-loop-first : goal.decreases-loop-first
decreases-loop-first l = length l.rest

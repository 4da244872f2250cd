use Rattle.std.proofs.Common.{◌<◌, ℕ}
use Rattle.fw_progress.specs.Leap.{CanLeapAt}
use Rattle.fw_progress.proofs.leap.can_leap.Given as goal

abbrev pub invariant-loop-place : goal.invariant-loop-place
invariant-loop-place l = (p : ℕ) → p < l.place → CanLeapAt l.flow l.counts l.fronts l.next p

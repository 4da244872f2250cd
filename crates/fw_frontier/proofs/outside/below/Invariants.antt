use Rattle.std.proofs.Common.{◌≡◌}
use Rattle.fw_frontier.specs.Outside.{below_at}
use Rattle.fw_frontier.proofs.outside.below.Given as goal

abbrev pub invariant-loop-place : goal.invariant-loop-place
invariant-loop-place l = l.outside.items ≡ below_at l.s l.greatest l.place

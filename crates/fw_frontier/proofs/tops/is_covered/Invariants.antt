use Rattle.std.proofs.Common.{◌≡◌, drop}
use Rattle.fw_frontier.specs.Frontier.{some_above}
use Rattle.fw_frontier.proofs.tops.is_covered.Given as goal

abbrev pub invariant-loop-top : goal.invariant-loop-top
invariant-loop-top l = some_above (drop l.top-index l.tops) l.t ≡ some_above l.tops l.t

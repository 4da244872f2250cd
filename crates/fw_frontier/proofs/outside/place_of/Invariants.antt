use Rattle.std.proofs.Common.{◌≡◌, ◌+◌, drop}
use Rattle.fw_frontier.specs.Outside.{place_among}
use Rattle.fw_frontier.proofs.outside.place_of.Given as goal

abbrev pub invariant-loop-i : goal.invariant-loop-i
invariant-loop-i l = place_among l.s (drop l.i l.outside) + l.i ≡ place_among l.s l.outside

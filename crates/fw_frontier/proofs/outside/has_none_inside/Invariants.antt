use Rattle.std.proofs.Common.{◌≡◌, drop}
use Rattle.fw_frontier.specs.Front.{is_within}
use Rattle.fw_frontier.proofs.outside.has_none_inside.Given as goal

abbrev pub invariant-loop-s : goal.invariant-loop-s
invariant-loop-s l = is_within l.outside (drop l.s-index l.stamps) ≡ is_within l.outside l.stamps

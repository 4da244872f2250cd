use Rattle.std.proofs.Common.{◌≡◌, take}
use Rattle.fw_frontier.proofs.outside.copied.Given as goal

abbrev pub invariant-loop-s : goal.invariant-loop-s
invariant-loop-s l = l.copy.items ≡ take l.s-index l.stamps

use Rattle.std.proofs.Common.{◌≡◌, drop}
use Rattle.fw_frontier.specs.Front.{all_in_domain}
use Rattle.fw_frontier.proofs.outside.are_in_domain.Given as goal

abbrev pub invariant-loop-s : goal.invariant-loop-s
invariant-loop-s l = all_in_domain l.bounds (drop l.s-index l.stamps) ≡ all_in_domain l.bounds l.stamps

use Rattle.std.proofs.Common.{◌≡◌, filter, take}
use Rattle.fw_time.specs.Stamp.{in_domain}
use Rattle.fw_choose.proofs.viewing.those_of_domain.Given as goal

abbrev pub invariant-loop-stamp : goal.invariant-loop-stamp
invariant-loop-stamp l = l.all.items ≡ filter (in_domain l.domain) (take l.stamp-index l.stamps)

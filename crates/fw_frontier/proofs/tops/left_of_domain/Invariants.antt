use Rattle.std.proofs.Common.{◌≡◌, drop}
use Rattle.fw_frontier.specs.Tops.{tops_left, domain_tops}
use Rattle.fw_frontier.proofs.tops.left_of_domain.Given as goal

abbrev pub invariant-loop-o : goal.invariant-loop-o
invariant-loop-o l = tops_left (drop l.o-index l.outside) l.tops.items ≡ tops_left l.outside (domain_tops l.bounds)

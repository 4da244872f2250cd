use Rattle.std.proofs.Common.{◌≡◌, drop, []}
use Rattle.fw_frontier.specs.Tops.{with_all_left}
use Rattle.fw_frontier.proofs.tops.left_by.Given as goal

abbrev pub invariant-loop-t : goal.invariant-loop-t
invariant-loop-t l = with_all_left l.o (drop l.t-index l.tops) l.left.items ≡ with_all_left l.o l.tops []

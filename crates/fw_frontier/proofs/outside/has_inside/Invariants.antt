use Rattle.std.proofs.Common.{◌≡◌, drop}
use Rattle.fw_frontier.specs.Front.{inside}
use Rattle.fw_frontier.proofs.outside.has_inside.Given as goal

abbrev pub invariant-loop-o : goal.invariant-loop-o
invariant-loop-o l = inside (drop l.o-index l.outside) l.t ≡ inside l.outside l.t

use Rattle.std.proofs.Common.{◌≡◌}
use Rattle.fw_frontier.specs.Tops.{with_lowered}
use Rattle.fw_frontier.proofs.tops.put_lowered.Given as goal

abbrev pub invariant-loop-place : goal.invariant-loop-place
invariant-loop-place l = l.tops.items ≡ with_lowered l.o l.t l.place l.initial.tops.items

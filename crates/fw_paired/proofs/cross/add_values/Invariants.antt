use Rattle.std.proofs.Common.{◌≡◌, ◌++◌, take}
use Rattle.fw_frontier.specs.Front.{inside}
use Rattle.fw_paired.specs.Cross.{held_values}
use Rattle.fw_paired.proofs.cross.add_values.Given as goal

abbrev pub invariant-loop-value : goal.invariant-loop-value
invariant-loop-value l = l.recs.items ≡ l.initial.recs.items ++ held_values l.side l.key (inside l.f) (take l.value-index l.values)

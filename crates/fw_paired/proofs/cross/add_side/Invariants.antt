use Rattle.std.proofs.Common.{◌≡◌, ◌++◌}
use Rattle.fw_frontier.specs.Front.{inside}
use Rattle.fw_paired.specs.Cross.{held_entries}
use Rattle.fw_paired.proofs.cross.add_side.Given as goal

abbrev pub invariant-loop-key : goal.invariant-loop-key
invariant-loop-key l = l.recs.items ++ held_entries l.side (inside l.f) l.key-iterator ≡ l.initial.recs.items ++ held_entries l.side (inside l.f) l.values.entries

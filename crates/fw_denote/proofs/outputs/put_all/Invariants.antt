use Rattle.std.proofs.Common.{◌≡◌, ◌++◌, drop}
use Rattle.fw_denote.proofs.outputs.put_all.Given as goal

abbrev pub invariant-loop-r : goal.invariant-loop-r
invariant-loop-r l = l.rs.items ++ drop l.r-index l.more ≡ l.initial.rs.items ++ l.more

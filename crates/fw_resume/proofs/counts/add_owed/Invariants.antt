use Rattle.std.proofs.Common.{◌≡◌, ◌++◌, map, take}
use Rattle.fw_resume.specs.Counted.{owed_to}
use Rattle.fw_resume.proofs.counts.add_owed.Given as goal

abbrev pub invariant-loop-at : goal.invariant-loop-at
invariant-loop-at l = l.all.items ≡ l.initial.all.items ++ map (owed_to l.node) (take l.at-index l.entries)

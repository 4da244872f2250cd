use Rattle.std.proofs.Common.{◌≡◌, ◌++◌, map, take}
use Rattle.fw_resume.specs.Counted.{HaveSmallCounts, pending_on}
use Rattle.fw_resume.proofs.counts.add_pending.Given as goal

abbrev pub invariant-loop-at : goal.invariant-loop-at
invariant-loop-at l =
    (l.all.items ≡ l.initial.all.items ++ map (pending_on l.edge) (take l.at-index l.entries))
    × (HaveSmallCounts l.initial.all.items → HaveSmallCounts l.all.items)

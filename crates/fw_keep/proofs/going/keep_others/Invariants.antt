use Rattle.fw_keep.proofs.TakingLaws.{IsKeptSoFar}
use Rattle.fw_keep.proofs.going.keep_others.Given as goal

abbrev pub invariant-loop-place : goal.invariant-loop-place
invariant-loop-place g l = IsKeptSoFar (g.G.Going.goes l.going) l.from l.initial.entries.items l.entries.items l.kept l.place

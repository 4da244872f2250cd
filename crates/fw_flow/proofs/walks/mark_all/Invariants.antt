use Rattle.std.proofs.Common.{take}
use Rattle.fw_flow.specs.Walks.{AreMarked}
use Rattle.fw_flow.proofs.walks.mark_all.Given as goal

abbrev pub invariant-loop-place : goal.invariant-loop-place
invariant-loop-place l = AreMarked (take l.place-index l.places) l.initial.marks.items l.marks.items l.initial.to_visit.items l.to_visit.items

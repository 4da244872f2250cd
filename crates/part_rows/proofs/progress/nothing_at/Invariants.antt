use Rattle.std.proofs.Common.{◌≡◌, take}
use Rattle.fw_progress.specs.Progress.{stamps_of_recs}
use Rattle.part_rows.proofs.progress.nothing_at.Given as goal

abbrev pub invariant-loop-at : goal.invariant-loop-at
invariant-loop-at l = stamps_of_recs l.recs.items ≡ take l.at-index l.stamps

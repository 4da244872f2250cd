use Rattle.std.proofs.Common.{take}
use Rattle.fw_progress.specs.Progress.{stamps_of_part}
use Rattle.fw_progress.specs.Tally.{HasEachMore}
use Rattle.fw_progress.proofs.events.add_each.Given as goal

abbrev pub invariant-loop-one : goal.invariant-loop-one
invariant-loop-one l = HasEachMore (stamps_of_part l.part (take l.one-index l.sent)) l.fn.tally l.tally

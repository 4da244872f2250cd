use Rattle.std.proofs.Common.{[], ◌+◌, ◌*◌, length}
use Rattle.fw_progress.specs.Leap.{IsMarking, unmarked}
use Rattle.fw_progress.proofs.leap.led_to.Given as goal

abbrev pub invariant-find : goal.invariant-find
invariant-find l = IsMarking l.flow l.feedback l.marks.items l.found.items []

abbrev pub decreases-find : goal.decreases-find
decreases-find l = 2 * unmarked l.marks.items + length l.found.items

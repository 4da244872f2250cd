use Rattle.fw_disk.specs.FolderCalls.{calls_of}
use Rattle.fw_disk.specs.PowerLoss.{Disk, AtEachMoment}
use Rattle.fw_disk.specs.RunLines.{StandByLines}
use Rattle.fw_disk.specs.Survival.{IsOld}
use Rattle.fw_disk.specs.Told.{HasDigestsNoted}
use Rattle.fw_disk.proofs.claim.found.Given as goal

abbrev pub invariant-loop-name : goal.invariant-loop-name
invariant-loop-name g l =
    HasDigestsNoted l.heard.notes l.found.told
    × ((start : Disk) → AtEachMoment (IsOld start (calls_of l.fn.folder.calls)) (calls_of l.fn.folder.calls) (calls_of l.folder.calls))
    × StandByLines l.lines.told l.found.told

use Rattle.std.proofs.Common.{length, take}
use Rattle.fw_progress.specs.Progress.{stamps_on}
use Rattle.fw_progress.specs.Trace.{StandForManyMore}
use Rattle.fw_progress.proofs.OutLaws.{AreChanging}
use Rattle.fw_progress.proofs.traces.add_sent.Given as goal

abbrev pub invariant-loop-edge : goal.invariant-loop-edge
invariant-loop-edge l = AreChanging (λ e. StandForManyMore l.at (length (stamps_on l.flow e l.sent))) (take l.edge-index l.edges) l.fn.lists.items l.lists.items

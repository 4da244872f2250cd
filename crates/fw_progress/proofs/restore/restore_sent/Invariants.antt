use Rattle.std.proofs.Common.{take}
use Rattle.fw_progress.proofs.OutLaws.{AreChanging}
use Rattle.fw_progress.proofs.RestoreLaws.{are_causes}
use Rattle.fw_progress.proofs.restore.restore_sent.Given as goal

abbrev pub invariant-loop-edge : goal.invariant-loop-edge
invariant-loop-edge l = AreChanging (are_causes l.messages) (take l.edge-index l.edges) l.fn.lists.items l.lists.items

use Rattle.std.proofs.Common.{take}
use Rattle.fw_resume.specs.Told.{AreOwedTold}
use Rattle.fw_resume.proofs.told.owed_told.Given as goal

abbrev pub invariant-loop-of_node : goal.invariant-loop-of_node
invariant-loop-of_node l = AreOwedTold l.flow (take l.of_node-index l.owed) l.tallies.items

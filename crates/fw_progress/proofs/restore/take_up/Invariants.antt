use Rattle.std.proofs.Common.{take}
use Rattle.fw_progress.specs.StampData.{TakeUp}
use Rattle.fw_progress.proofs.restore.take_up.Given as goal

abbrev pub invariant-loop-message : goal.invariant-loop-message
invariant-loop-message l = TakeUp l.flow l.node (take l.message-index l.messages) l.fn.lists.items l.lists.items

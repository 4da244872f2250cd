use Rattle.std.proofs.Common.{◌≡◌, take}
use Rattle.fw_frontier.specs.Front.{inside}
use Rattle.fw_model.specs.Filtering.{messages_outside}
use Rattle.fw_edge.proofs.log.MsgLog.outside.Given as goal

abbrev pub invariant-loop-message : goal.invariant-loop-message
invariant-loop-message l = l.copies.items ≡ messages_outside (inside l.f) (take l.message-index l.message-items)

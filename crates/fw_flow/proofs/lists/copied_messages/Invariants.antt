use Rattle.std.proofs.Common.{◌≡◌, take}
use Rattle.fw_flow.proofs.lists.copied_messages.Given as goal

abbrev pub invariant-loop-message : goal.invariant-loop-message
invariant-loop-message l = l.copy.items ≡ take l.message-index l.messages

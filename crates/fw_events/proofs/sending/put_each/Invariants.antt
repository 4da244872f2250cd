use Rattle.std.proofs.Common.{◌≡◌, take}
use Rattle.fw_model.specs.Carried.{messages_of_part}
use Rattle.fw_model.specs.SortedMessages.{with_messages}
use Rattle.fw_events.specs.Outgoing.{outgoing_messages}
use Rattle.fw_events.proofs.sending.put_each.Given as goal

abbrev pub invariant-loop-one : goal.invariant-loop-one
invariant-loop-one l = l.queue.messages ≡ with_messages (messages_of_part l.part (take l.one-index (outgoing_messages l.outgoing))) l.fn.queue.messages

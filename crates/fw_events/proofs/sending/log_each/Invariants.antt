use Rattle.std.proofs.Common.{◌≡◌, take}
use Rattle.fw_frontier.specs.Front.{inside}
use Rattle.fw_model.specs.Carried.{messages_of_part}
use Rattle.fw_model.specs.Filtering.{messages_outside}
use Rattle.fw_model.specs.SortedMessages.{with_messages}
use Rattle.fw_events.specs.Outgoing.{outgoing_messages}
use Rattle.fw_events.proofs.sending.log_each.Given as goal

abbrev pub invariant-loop-one : goal.invariant-loop-one
invariant-loop-one l =
    l.log.messages ≡ with_messages (messages_outside (inside l.low) (messages_of_part l.part (take l.one-index (outgoing_messages l.outgoing)))) l.fn.log.messages

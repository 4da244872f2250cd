use Rattle.fw_events.specs.Outgoing.{outgoing_messages}
use Rattle.fw_events.proofs.SendLaws.{HasSentOn}
use Rattle.fw_events.proofs.sending.send_each.Given as goal

abbrev pub invariant-loop-place : goal.invariant-loop-place
invariant-loop-place l = HasSentOn l.fn.running l.node (outgoing_messages l.outgoing) l.place l.running

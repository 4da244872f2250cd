-- What goes to the out-edges of a node at an event, as messages.
use Rattle.std.specs.Prelude.{List}
use Rattle.fw_flow.specs.declared.event.Message.{Message}
use Rattle.fw_node.specs.Answers.{caused_by}
use Rattle.fw_events.specs.declared.outgoing.Outgoing.{Outgoing}

-- the messages, in order
abbrev pub outgoing_messages : Outgoing → List Message
outgoing_messages outgoing = caused_by outgoing.cause.now outgoing.recs.now

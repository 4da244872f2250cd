-- What a node sends, as recs at stamps.
use Rattle.std.specs.Prelude.{List, length, map}
use Rattle.fw_time.specs.Stamp.{Stamp}
use Rattle.fw_bag.specs.declared.rec.Rec.{Rec}
use Rattle.fw_bag.specs.Keyed.{sorted_recs}
use Rattle.fw_flow.specs.declared.event.Event.{Event}
use Rattle.fw_flow.specs.declared.event.Message.{Message}
use Rattle.fw_flow.specs.Kind.{Kind}
use Rattle.fw_flow.specs.declared.kind.Kind.TheVariants as kind
use Rattle.fw_flow.specs.NodeFunction.{recs_on_notification, numbered_messages, sequence_sent}
use Rattle.fw_numbered.specs.Numbers.{at_numbers}
use Rattle.fw_node.specs.Answers.{caused_by, sent_list, without_causes}
use Rattle.fw_node.specs.declared.sends.Sends.{Sends}
use Rattle.fw_node.specs.declared.sends.Sends.TheVariants.{AtOneStamp, Numbered}

-- what is sent, in order
abbrev pub sends_list : Sends → List (Stamp × Rec)
sends_list (AtOneStamp sent) = sent_list sent
sends_list (Numbered sent) = at_numbers sent.first sent.recs

-- what is sent, as messages of an event at this stamp
abbrev pub messages_of : Stamp → Sends → List Message
messages_of cause sends = caused_by cause (sends_list sends)

-- What a notification makes a node of the kind send, in ascending order, where these are its earlier events.
abbrev pub notice_sends : Kind → List Event → Stamp → List (Stamp × Rec)
notice_sends kind.Sequence before at =
    without_causes (numbered_messages (length (sequence_sent before)) at (recs_on_notification kind.Sequence before at))
notice_sends k before at = map (λ r. (at, r)) (sorted_recs (recs_on_notification k before at))

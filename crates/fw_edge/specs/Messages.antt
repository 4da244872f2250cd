-- What a queue and a log hold.
use Rattle.std.specs.Prelude.{◌≡◌, Bool, List, ◌++◌}
use Rattle.fw_flow.specs.declared.event.Message.{Message}
use Rattle.fw_model.specs.SortedMessages.{with_messages}

-- the messages in ascending order, and whether memory was refused
pub record MessagesState : Type 0 where
  pub messages : List Message
  pub refused : Bool

-- of a list of messages those that come after these were put in, and no others
pub record ArePutAfter (left messages old new : List Message) : Type 0 where
  pub put : List Message
  pub split : messages ≡ left ++ put
  pub there : new ≡ with_messages put old

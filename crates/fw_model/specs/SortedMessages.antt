-- Messages as bags: the one list of a bag is the ascending one.
use Rattle.std.specs.Prelude.{if◌then◌else◌, List, [], ◌∷◌}
use Rattle.std.specs.Ordering.{is_le}
use Rattle.fw_flow.specs.declared.event.Message.{Message}
use Rattle.fw_flow.specs.Message.{message_cmp}

-- the list with one more in its place
abbrev pub with_message : Message → List Message → List Message
with_message m [] = m ∷ []
with_message m (x ∷ xs) = if is_le (message_cmp m x) then m ∷ x ∷ xs else x ∷ with_message m xs

-- the messages in ascending order: the one list of a bag
abbrev pub sorted_messages : List Message → List Message
sorted_messages [] = []
sorted_messages (m ∷ ms) = with_message m (sorted_messages ms)

-- the second list with each message of the first put in its place
abbrev pub with_messages : List Message → List Message → List Message
with_messages [] ys = ys
with_messages (m ∷ ms) ys = with_message m (with_messages ms ys)

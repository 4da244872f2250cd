-- The order of messages, and lists of messages of which some are taken away.
use Rattle.std.specs.Prelude.{Bool, if◌then◌else◌, List, [], ◌∷◌}
use Rattle.std.specs.List.{list_any}
use Rattle.std.specs.declared.cmp.Ordering.{Ordering}
use Rattle.std.specs.Ordering.{is_eq, ordering_then}
use Rattle.std.specs.Cmp.Lexicographic.{slice_cmp}
use Rattle.fw_time.specs.Stamp.{stamp_cmp}
use Rattle.fw_bag.specs.Rec.{rec_cmp}
use Rattle.fw_flow.specs.declared.event.Message.{Message}

-- messages are ordered by stamp, rec and causes
abbrev pub message_cmp : Message → Message → Ordering
message_cmp a b = ordering_then (stamp_cmp a.at b.at) (ordering_then (rec_cmp a.rec b.rec) (slice_cmp stamp_cmp a.causes b.causes))

-- whether the message is among these
abbrev pub is_message_among : Message → List Message → Bool
is_message_among m xs = list_any (λ x. is_eq (message_cmp m x)) xs

-- the messages without the first that is this one
abbrev pub messages_without : Message → List Message → List Message
messages_without m [] = []
messages_without m (x ∷ xs) = if is_eq (message_cmp m x) then xs else x ∷ messages_without m xs

-- the messages less those of the second list, each as often as it stands there
abbrev pub messages_less : List Message → List Message → List Message
messages_less ms [] = ms
messages_less ms (d ∷ ds) = messages_without d (messages_less ms ds)

use Rattle.std.proofs.Common.{◌≡◌, ◌≤◌, length, take}
use Rattle.std.specs.Prelude.{vec_len, vec_capacity}
use Rattle.fw_frontier.specs.Front.{inside}
use Rattle.fw_model.specs.Filtering.{messages_from}
use Rattle.fw_edge.proofs.log.MsgLog.caused_in.Given as goal

-- there is room for a copy of each message that is left
abbrev pub invariant-loop-message : goal.invariant-loop-message
invariant-loop-message l =
    (l.copies.items ≡ messages_from (inside l.f) (take l.message-index l.message-items))
    × (vec_len l.copies ≤ l.message-index)
    × (length l.message-items ≤ vec_capacity l.copies)

-- What the events of nodes cover inside a frontier, and the stamps that stand for them.
use Rattle.std.specs.Prelude.{ℕ, zero, suc, ◌+◌, if◌then◌else◌, List, [], ◌∷◌, filter, Option, None, option_to_list}
use Rattle.std.specs.List.{flat_map}
use Rattle.fw_time.specs.Stamp.{Stamp, in_domain}
use Rattle.fw_frontier.specs.Frontier.{cover}
use Rattle.fw_frontier.specs.Front.{Front, inside, IsFrontOf}
use Rattle.fw_flow.specs.declared.event.Event.{Event}
use Rattle.fw_flow.specs.Dataflow.{System, Dataflow, kind_of, sender, receiver, bounds_of, send_stamp, is_sequence_kind, node_frontier}
use Rattle.fw_model.specs.Covers.{stamps_inside, stamps_from, notified_inside}
use Rattle.fw_model.specs.History.{delivered_messages, sent_messages}
use Rattle.fw_progress.specs.declared.traces.Traces.{Traces}
use Rattle.fw_progress.specs.Tally.{count_inside}
use Rattle.fw_progress.specs.Trace.{stamps_where_sent, counted_of}

-- the front is the cover of what was delivered on edge d inside a frontier of its receiver
abbrev pub CoversDelivered : System → List Event → ℕ → Front → Front → Type 0
CoversDelivered sys h d f front =
    IsFrontOf (bounds_of sys.flow (receiver sys.flow d)) front
    (cover (bounds_of sys.flow (receiver sys.flow d)) (stamps_inside (node_frontier sys.flow (receiver sys.flow d) f) (delivered_messages h d)))

-- the front is the cover of what node p was notified of inside a frontier
abbrev pub CoversNotified : System → List Event → ℕ → Front → Front → Type 0
CoversNotified sys h p f front = IsFrontOf (bounds_of sys.flow p) front (cover (bounds_of sys.flow p) (notified_inside p (node_frontier sys.flow p f) h))

-- the front is the cover of what was sent on edge e from inside a frontier of its sender
abbrev pub CoversSent : System → List Event → ℕ → Front → Front → Type 0
CoversSent sys h e f front =
    IsFrontOf (bounds_of sys.flow (receiver sys.flow e)) front
    (cover (bounds_of sys.flow (receiver sys.flow e)) (stamps_from (node_frontier sys.flow (sender sys.flow e) f) (sent_messages sys h e)))

-- ---- for the proofs

-- the last of so many numbers, if there is one
abbrev pub last_number : ℕ → List Stamp
last_number zero = []
last_number (suc n) = (n ∷ []) ∷ []

-- at which stamp an event of node p at a stamp sends; none where the stamp is not of its domain
abbrev pub sent_stamp_at : Dataflow → ℕ → Stamp → Option Stamp
sent_stamp_at flow p s = if in_domain (bounds_of flow p) s then send_stamp flow p s else None

-- at which stamps events at these send
abbrev pub send_stamps : Dataflow → ℕ → List Stamp → List Stamp
send_stamps flow p ss = flat_map (λ s. option_to_list (sent_stamp_at flow p s)) ss

-- the stamps that stand for those at which the sender of edge e sends there by its events inside a frontier
abbrev pub sent_inside : Dataflow → Traces → ℕ → Front → List Stamp
sent_inside flow traces e f =
    if is_sequence_kind (kind_of flow (sender flow e))
    then last_number ((counted_of traces (sender flow e)).inside + count_inside (inside f) (counted_of traces (sender flow e)).outside)
    else send_stamps flow (sender flow e) (filter (inside f) (stamps_where_sent traces e))

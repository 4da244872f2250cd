-- What a node sends: event by event, and in all from the whole bags on its in-edges.
use Rattle.std.specs.Prelude.{ℕ, ◌+◌, Bool, true, not, ◌&&◌, ◌==◌, nat_le, if◌then◌else◌, List, [], ◌∷◌, ◌++◌, length, Option, Some, None, option_to_list, slice_index_or, map}
use Rattle.std.specs.List.{flat_map}
use Rattle.fw_time.specs.Stamp.{Stamp, leq, same}
use Rattle.fw_bag.specs.declared.rec.Rec.{Rec}
use Rattle.fw_bag.specs.Select.{selected_rec}
use Rattle.fw_bag.specs.Keyed.{plus, sorted_recs, is_among, joined_rec, value_sum, distinct_keys, sums_of}
use Rattle.fw_flow.specs.declared.event.Event.{Event}
use Rattle.fw_flow.specs.declared.event.Event.TheVariants.{Inject, Deliver, Notify}
use Rattle.fw_flow.specs.declared.event.Message.{Message}
use Rattle.fw_flow.specs.Kind.{Kind}
use Rattle.fw_flow.specs.declared.kind.Kind.TheVariants.{Select, Concat, Distinct, Join, Sum, Enter, Feedback, Leave, Total, Sequence, Ledger, Regroup}
use Rattle.fw_flow.specs.Dataflow.{System, Dataflow, kind_of, receiver, batches_of, greatest_number, is_input_kind, send_stamp_of_kind}

-- the node of an event
abbrev pub event_node : Dataflow → Event → ℕ
event_node flow (Inject s x) = s
event_node flow (Deliver e m) = receiver flow e
event_node flow (Notify p t) = p

-- the stamp of an event
abbrev pub event_stamp : Event → Stamp
event_stamp (Inject s x) = x ∷ []
event_stamp (Deliver e m) = m.at
event_stamp (Notify p t) = t

-- the rec of a delivery that passes the test on its edge and stamp
abbrev pub rec_of_delivery : (ℕ → Stamp → Bool) → Event → List Rec
rec_of_delivery test (Inject s x) = []
rec_of_delivery test (Deliver e m) = if test e m.at then m.rec ∷ [] else []
rec_of_delivery test (Notify p t) = []

-- the recs of the deliveries among these events that pass a test on their edge and stamp
abbrev pub delivered_recs : (ℕ → Stamp → Bool) → List Event → List Rec
delivered_recs test vs = flat_map (rec_of_delivery test) vs

-- the recs that a delivery makes a node of the kind send, where these are its earlier events
abbrev pub recs_on_delivery : Kind → List Event → ℕ → Stamp → Rec → List Rec
recs_on_delivery (Select selection within) before e t r = option_to_list (selected_rec selection r)
recs_on_delivery (Concat within) before e t r = r ∷ []
recs_on_delivery (Enter l) before e t r = r ∷ []
recs_on_delivery (Feedback l) before e t r = r ∷ []
recs_on_delivery (Leave l) before e t r = r ∷ []
recs_on_delivery (Regroup n) before e t r = r ∷ []
recs_on_delivery (Distinct within) before e t r = if is_among r (delivered_recs (λ d s. same s t) before) then [] else r ∷ []
recs_on_delivery (Join within) before e t r = joined_rec r (delivered_recs (λ d s. not (d == e) && same s t) before)
recs_on_delivery Ledger before e t r =
    record { key = r.key; value = plus r.value (value_sum r.key (delivered_recs (λ d s. true) before)) } ∷ []
recs_on_delivery kind before e t r = []

-- the recs that a notification makes a node of the kind send, where these are its earlier events
abbrev pub recs_on_notification : Kind → List Event → Stamp → List Rec
recs_on_notification (Sum within) before t =
    let now = delivered_recs (λ d s. same s t) before in sums_of (distinct_keys now) now
recs_on_notification Total before t =
    sums_of (distinct_keys (delivered_recs (λ d s. same s t) before)) (delivered_recs (λ d s. leq s t) before)
recs_on_notification Sequence before t = sorted_recs (delivered_recs (λ d s. same s t) before)
recs_on_notification kind before t = []

-- the recs that an event makes its node send, where these are the node's earlier events
abbrev pub recs_on : System → Kind → List Event → Event → List Rec
recs_on sys kind before (Inject s x) = if is_input_kind kind then slice_index_or (batches_of sys s) x [] else []
recs_on sys kind before (Deliver e m) = recs_on_delivery kind before e m.at m.rec
recs_on sys kind before (Notify p t) = recs_on_notification kind before t

-- the recs as messages at one stamp, of one cause
abbrev pub messages_at : Stamp → Stamp → List Rec → List Message
messages_at at cause rs = map (λ r. record { at = at; rec = r; causes = cause ∷ [] }) rs

-- the recs as messages at the numbers from n on, none past the greatest number
abbrev pub numbered_messages : ℕ → Stamp → List Rec → List Message
numbered_messages n cause [] = []
numbered_messages n cause (r ∷ rs) =
    if nat_le n greatest_number then record { at = n ∷ []; rec = r; causes = cause ∷ [] } ∷ numbered_messages (n + 1) cause rs else []

-- the messages that a sequence sent in all, after these events, of which the latest comes first
abbrev pub sequence_sent : List Event → List Message
sequence_sent [] = []
sequence_sent (v ∷ before) =
    numbered_messages (length (sequence_sent before)) (event_stamp v) (recs_of_sequence v before) ++ sequence_sent before
  where
    recs_of_sequence : Event → List Event → List Rec
    recs_of_sequence (Inject s x) before = []
    recs_of_sequence (Deliver e m) before = []
    recs_of_sequence (Notify p t) before = recs_on_notification Sequence before t

-- the recs as messages at the stamp, if there is one
abbrev pub messages_at_some : Option Stamp → Stamp → List Rec → List Message
messages_at_some None cause rs = []
messages_at_some (Some at) cause rs = messages_at at cause rs

-- what an event makes a node of the kind send, where these are the node's earlier events, the latest first
abbrev pub sends_of_kind : System → Kind → List Event → Event → List Message
sends_of_kind sys Sequence before v =
    numbered_messages (length (sequence_sent before)) (event_stamp v) (recs_on sys Sequence before v)
sends_of_kind sys kind before v =
    messages_at_some (send_stamp_of_kind sys.flow kind (event_stamp v)) (event_stamp v) (recs_on sys kind before v)

-- what an event of node p sends, of which each out-edge carries some or all, where these are the earlier events of p, the latest first
unfoldable pub sends : System → ℕ → List Event → Event → List Message
sends sys p before v = sends_of_kind sys (kind_of sys.flow p) before v

-- what these events of node p send in all, where the latest event comes first
abbrev pub sent_by : System → ℕ → List Event → List Message
sent_by sys p [] = []
sent_by sys p (v ∷ before) = sends sys p before v ++ sent_by sys p before

-- From which events messages come, told by the stamps at which they were sent.
use Rattle.std.specs.Prelude.{◌≡◌, ◌↔◌, ℕ, ◌-◌, ◌*◌, ◌<◌, min, true, false, List, [], ◌∷◌, map, Some, length, slice_index_or}
use Rattle.std.specs.List.{AllByRecursion, Contains}
use Rattle.fw_time.specs.Stamp.{Stamp, leq, nest, outer, counter, in_domain}
use Rattle.fw_frontier.specs.Frontier.{Frontier, IsFrontier, cover}
use Rattle.fw_flow.specs.declared.choice.Counted.{Counted}
use Rattle.fw_flow.specs.declared.event.Event.{Event}
use Rattle.fw_flow.specs.declared.event.Message.{Message}
use Rattle.fw_flow.specs.Kind.{Kind}
use Rattle.fw_flow.specs.declared.kind.Kind.TheVariants.{Enter, Feedback, Leave, Regroup}
use Rattle.fw_flow.specs.Dataflow.{System, Dataflow, kind_of, sender, receiver, greatest_number, bounds_of, batches_of, send_stamp, is_input_kind, is_sequence_kind}
use Rattle.fw_flow.specs.NodeFunction.{event_stamp}
use Rattle.fw_flow.specs.Projection.{events_at}
use Rattle.fw_flow.specs.WellFormed.{IsWellFormed}
use Rattle.fw_model.specs.Sending.{is_single_kind}
use Rattle.fw_model.specs.Carried.{carried_recs}
use Rattle.fw_model.specs.EventStamps.{causes_in, StandForSent}
use Rattle.fw_model.specs.History.{AreEventsInDomain, IsLegal, injected_count, sent_messages}
use Rattle.fw_regain.specs.Greatest.{AreGreatestIn}

-- the least stamp of a node of the kind that sends at this one; of a sequence, which numbers what it sends, none is told
abbrev pub cause_told : Kind → Stamp → Stamp
cause_told (Enter l) u = outer u
cause_told (Feedback l) u = nest (outer u) (counter u - 1)
cause_told (Leave l) u = nest u 0
cause_told (Regroup n) u = map (λ x. min (x * n) greatest_number) u
cause_told kind u = u

-- a message on an edge at a stamp, with the cause that this tells
abbrev pub message_of_told : Dataflow → ℕ → Stamp → Counted
message_of_told flow e u = record { edge = e; at = u; causes = cause_told (kind_of flow (sender flow e)) u ∷ []; count = 1 }

-- where an event of node p sends at a stamp, the least stamp that does sends there, and is at most the event's
abbrev pub SendStampsTellCauses : Type 0
SendStampsTellCauses = (flow : Dataflow) (p : ℕ) (t u : Stamp) → IsWellFormed flow → p < length flow.nodes → is_sequence_kind (kind_of flow p) ≡ false
    → in_domain (bounds_of flow p) t ≡ true → send_stamp flow p t ≡ Some u
    → (send_stamp flow p (cause_told (kind_of flow p) u) ≡ Some u) × (leq (cause_told (kind_of flow p) u) t ≡ true)

-- The greatest stamps inside a frontier that is the cover of what was sent on an edge, each with the cause that it tells, stand for what
-- was sent, from each base that has the events of the sender.
abbrev pub GreatestSentStampsStandForSent : Type 0
GreatestSentStampsStandForSent = (sys : System) (h : List Event) (e : ℕ) (base f : Frontier) (tops : List Stamp) → IsWellFormed sys.flow
    → e < length sys.flow.edges → is_single_kind (kind_of sys.flow (sender sys.flow e)) ≡ true
    → IsFrontier (bounds_of sys.flow (sender sys.flow e)) base → AreEventsInDomain sys.flow h (sender sys.flow e)
    → AllByRecursion (λ v. base (event_stamp v) ≡ true) (events_at sys.flow (sender sys.flow e) h)
    → ((t : Stamp) → f t ≡ cover (bounds_of sys.flow (receiver sys.flow e)) (map (λ (m : Message). m.at) (sent_messages sys h e)) t)
    → AreGreatestIn (bounds_of sys.flow (receiver sys.flow e)) f tops
    → StandForSent true sys h (sender sys.flow e) base e (map (message_of_told sys.flow e) tops)

-- in a legal history the causes of what an input sent on an edge are the epochs that were injected and have a rec which this carries
abbrev pub InjectedBatchesSend : Type 0
InjectedBatchesSend = (sys : System) (h : List Event) (e : ℕ) → IsLegal sys h → is_input_kind (kind_of sys.flow (sender sys.flow e)) ≡ true
    → (t : Stamp) → Contains (causes_in (sent_messages sys h e)) t
    ↔ ((x : ℕ) × (t ≡ x ∷ []) × (x < injected_count (sender sys.flow e) h)
    × (0 < length (carried_recs sys.flow e (slice_index_or (batches_of sys (sender sys.flow e)) x []))))

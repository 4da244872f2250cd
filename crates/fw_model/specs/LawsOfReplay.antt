-- Laws of replay: what a part of a node's events sends, and that the logged events that are left send what is to be sent again.
use Rattle.std.specs.Prelude.{◌≡◌, ℕ, ◌<◌, Bool, true, false, not, ◌&&◌, ◌==◌, List, length, filter}
use Rattle.std.specs.List.{list_any}
use Rattle.fw_frontier.specs.Frontier.{Frontier, IsFrontier}
use Rattle.fw_frontier.specs.Front.{Front}
use Rattle.fw_flow.specs.declared.choice.Choice.{Choice}
use Rattle.fw_flow.specs.declared.choice.Cut.TheVariants.{At}
use Rattle.fw_flow.specs.declared.event.Event.{Event}
use Rattle.fw_flow.specs.declared.kind.Policy.TheVariants as policy
use Rattle.fw_flow.specs.declared.step.Step.{Step}
use Rattle.fw_flow.specs.Dataflow.{System, kind_of, policy_of, sender, bounds_of, node_frontier, HasEpochs}
use Rattle.fw_flow.specs.NodeFunction.{event_node, event_stamp, sent_by}
use Rattle.fw_flow.specs.Projection.{events_at}
use Rattle.fw_flow.specs.WellFormed.{IsWellFormed, IsWellFormedSystem, may_keep_nothing}
use Rattle.fw_model.specs.Carried.{carried}
use Rattle.fw_model.specs.History.{IsLegal, sent_messages}
use Rattle.fw_model.specs.Machine.{Machine, SerialEvent, Write, Written, logged_event, Stage, acknowledged, events, first_state}
use Rattle.fw_model.specs.Choice.{kept, cut_of, IsCandidate, IsLargest}
use Rattle.fw_model.specs.Steps.{Outcome, Run, is_given_up}
use Rattle.fw_model.specs.Filtering.{events_inside, messages_from, messages_outside}
use Rattle.fw_model.specs.Writes.{IsSamePart}
use Rattle.fw_model.specs.Resending.{at_receiver}

-- in two legal histories of a well-formed flow with epochs in which node p did the same inside a frontier of its domain, it
-- sent the same in all from there, on an out-edge or not
abbrev pub SamePartSendsTheSame : Type 0
SamePartSendsTheSame = (sys : System) (h k : List Event) → IsWellFormed sys.flow → HasEpochs sys → IsLegal sys h → IsLegal sys k
    → (p : ℕ) (f : Frontier) → IsFrontier (bounds_of sys.flow p) f → IsSamePart sys h k p f
    → messages_from f (sent_by sys p (events_at sys.flow p k)) ≡ messages_from f (sent_by sys p (events_at sys.flow p h))

-- Of events of a node whose kind may keep nothing, those at stamps that pass a test send by themselves what they send among
-- all: the messages all of whose causes pass. The events are any, in any order, and the test is any.
abbrev pub PassingEventsSendTheirPart : Type 0
PassingEventsSendTheirPart = (sys : System) (p : ℕ) → may_keep_nothing (kind_of sys.flow p) ≡ true → (test : Frontier) (vs : List Event)
    → sent_by sys p (events_inside test vs) ≡ messages_from test (sent_by sys p vs)

-- whether what is written logs the event of this serial, is acknowledged and was not collected
abbrev pub is_its_log : ℕ → Written → Stage → Bool
is_its_log serial (logged_event s) acknowledged = s == serial
is_its_log serial written far = false

-- whether an acknowledged write logs the event of this serial
abbrev pub has_log : ℕ → List Write → Bool
has_log serial writes = list_any (λ (write : Write). is_its_log serial write.written write.stage) writes

-- the events of node p inside f that acknowledged writes log, the latest first
abbrev pub replayed_events : System → Machine → ℕ → Frontier → List Event
replayed_events sys state p f =
    events (filter (λ (v : SerialEvent). event_node sys.flow v.event == p && f (event_stamp v.event) && has_log v.serial state.writes) state.history)

-- the stamps of node p at which what it logged is not given up
abbrev pub not_given_up : System → List Front → ℕ → Frontier
not_given_up sys low p t = not (is_given_up sys low p t)

-- in each state to which steps of a well-formed system lead from the first one, where the largest choice among what is kept
-- cuts a node that logs each event, the events inside its cut that acknowledged writes log are those at stamps that are not
-- given up (at a total, a sequence or a ledger nothing is)
abbrev pub ReplayedEventsAreThoseNotGivenUp : Type 0
ReplayedEventsAreThoseNotGivenUp = (sys : System) → IsWellFormedSystem sys → (steps : List Step) (outcomes : List Outcome) (last : Machine)
    → Run sys (first_state sys) steps outcomes last → (lost : ℕ → Bool) (choice : Choice) → IsLargest sys last (IsCandidate sys last lost kept) choice
    → (p : ℕ) (f : Front) → policy_of sys.flow p ≡ policy.Full → cut_of choice p ≡ At f
    → replayed_events sys last p (node_frontier sys.flow p f)
    ≡ events_inside (not_given_up sys last.low p) (events_inside (node_frontier sys.flow p f) (events_at sys.flow p (events last.history)))

-- in each state to which steps of a well-formed system lead from the first one, where the largest choice among what is kept
-- cuts a node that logs each event, the events inside its cut that acknowledged writes log send on each out-edge, outside
-- the receiver's low watermark, what all its events sent from inside the cut
abbrev pub ReplayedEventsSendTheSame : Type 0
ReplayedEventsSendTheSame = (sys : System) → IsWellFormedSystem sys → (steps : List Step) (outcomes : List Outcome) (last : Machine)
    → Run sys (first_state sys) steps outcomes last → (lost : ℕ → Bool) (choice : Choice) → IsLargest sys last (IsCandidate sys last lost kept) choice
    → (p : ℕ) (f : Front) → policy_of sys.flow p ≡ policy.Full → cut_of choice p ≡ At f → (e : ℕ) → e < length sys.flow.edges → sender sys.flow e ≡ p
    → messages_outside (at_receiver sys last.low e) (carried sys.flow e (sent_by sys p (replayed_events sys last p (node_frontier sys.flow p f))))
    ≡ messages_outside (at_receiver sys last.low e) (messages_from (node_frontier sys.flow p f) (sent_messages sys (events last.history) e))

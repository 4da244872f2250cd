-- Laws of filtering: what is left of a history of which each node keeps the events inside a frontier.
use Rattle.std.specs.Prelude.{◌≡◌, ℕ, Bool, false, List, []}
use Rattle.fw_time.specs.Stamp.{Stamp}
use Rattle.fw_frontier.specs.Frontier.{Frontier, Within}
use Rattle.fw_flow.specs.declared.choice.Cut.TheVariants.{Present}
use Rattle.fw_flow.specs.declared.event.Event.{Event}
use Rattle.fw_flow.specs.Dataflow.{System, Dataflow, policy_of, sender, receiver, HasEpochs}
use Rattle.fw_flow.specs.Projection.{phi}
use Rattle.fw_flow.specs.WellFormed.{IsWellFormed}
use Rattle.fw_model.specs.History.{IsLegal, sent_messages, delivered_messages, pending_messages}
use Rattle.fw_model.specs.Machine.{Machine, events}
use Rattle.fw_flow.specs.declared.choice.Choice.{Choice}
use Rattle.fw_flow.specs.Restoring.{can_resend}
use Rattle.fw_model.specs.Choice.{View, IsCandidate, IsConsistent, cut_of, kept_of, filtered_history, LiesInReceiver}
use Rattle.fw_model.specs.Settled.{IsFull, IsCutWithinSettled}
use Rattle.fw_model.specs.Filtering.{AreFrontiers, kept_events, messages_inside, messages_outside, messages_from, ComeFromKept, HaveKeptCauses, IsConsistentlyKept, MeetsInclusions}
use Rattle.fw_model.specs.Covers.{covers_in}

-- in a legal history of a well-formed flow with epochs, of which each node keeps the events inside a frontier, the kept
-- events alone send on each edge what they send among all: the messages whose causes are kept
abbrev pub KeptEventsSendTheSame : Type 0
KeptEventsSendTheSame = (sys : System) (h : List Event) (keep : ℕ → Frontier) → IsWellFormed sys.flow → HasEpochs sys
    → IsLegal sys h → AreFrontiers sys.flow keep → (e : ℕ)
    → sent_messages sys (kept_events sys.flow keep h) e ≡ messages_from (keep (sender sys.flow e)) (sent_messages sys h e)

-- in a legal history of a well-formed flow with epochs, of which each node keeps the events inside a frontier, the kept
-- events send from inside less than the sender keeps the same as all events
abbrev pub KeptEventsSendTheSameFromWithin : Type 0
KeptEventsSendTheSameFromWithin = (sys : System) (h : List Event) (keep : ℕ → Frontier) → IsWellFormed sys.flow → HasEpochs sys
    → IsLegal sys h → AreFrontiers sys.flow keep → (e : ℕ) (g : Frontier) → Within g (keep (sender sys.flow e))
    → messages_from g (sent_messages sys (kept_events sys.flow keep h) e) ≡ messages_from g (sent_messages sys h e)

-- in any history the kept events alone deliver on each edge the messages at stamps that the receiver keeps
abbrev pub KeptEventsDeliverTheSame : Type 0
KeptEventsDeliverTheSame = (flow : Dataflow) (h : List Event) (keep : ℕ → Frontier) (e : ℕ)
    → delivered_messages (kept_events flow keep h) e ≡ messages_inside (keep (receiver flow e)) (delivered_messages h e)

-- in a legal history of a well-formed flow with epochs, of which each node keeps the events inside a frontier, phi of what
-- lies within what the sender keeps is the same in the kept events alone
abbrev pub PhiOfKeptEvents : Type 0
PhiOfKeptEvents = (sys : System) (h : List Event) (keep : ℕ → Frontier) → IsWellFormed sys.flow → HasEpochs sys
    → IsLegal sys h → AreFrontiers sys.flow keep → (e : ℕ) (g : Frontier) → Within g (keep (sender sys.flow e)) → (u : Stamp)
    → phi sys (kept_events sys.flow keep h) e g u ≡ phi sys h e g u

-- in a legal history of a well-formed flow with epochs, of which each node keeps the events inside a frontier: if on each
-- edge what was delivered inside what the receiver keeps is inside phi of what the sender keeps, it has kept causes
abbrev pub KeptDeliveriesHaveKeptCauses : Type 0
KeptDeliveriesHaveKeptCauses = (sys : System) (h : List Event) (keep : ℕ → Frontier) → IsWellFormed sys.flow → HasEpochs sys
    → IsLegal sys h → AreFrontiers sys.flow keep → ComeFromKept sys h keep → HaveKeptCauses sys.flow h keep

-- the consistently kept events of a legal history of a well-formed flow with epochs are a legal history
abbrev pub KeptEventsAreLegal : Type 0
KeptEventsAreLegal = (sys : System) (h : List Event) (keep notice : ℕ → Frontier) → IsWellFormed sys.flow → HasEpochs sys
    → IsLegal sys h → IsConsistentlyKept sys h keep notice → IsLegal sys (kept_events sys.flow keep h)

-- a consistent choice of the restore candidates meets the inclusions
abbrev pub ConsistentMeetsInclusions : Type 0
ConsistentMeetsInclusions = (sys : System) (state : Machine) (lost : ℕ → Bool) (view : View) (choice : Choice)
    → IsConsistent sys state (IsCandidate sys state lost view) choice → MeetsInclusions sys state choice

-- a legal history of a well-formed flow with epochs, filtered by a choice that meets the inclusions, is legal
abbrev pub FilteredHistoryIsLegal : Type 0
FilteredHistoryIsLegal = (sys : System) (state : Machine) (choice : Choice) → IsWellFormed sys.flow → HasEpochs sys
    → IsLegal sys (events state.history) → MeetsInclusions sys state choice → IsLegal sys (events (filtered_history sys choice state.history))

-- in a legal history of a well-formed flow with epochs, of which each node keeps the events inside a frontier, and on each
-- edge what was delivered inside what the receiver keeps is inside phi of what the sender keeps: at stamps that the
-- receiver keeps, what is pending of the kept events is the part with kept causes of what was pending
abbrev pub PendingAtKeptStamps : Type 0
PendingAtKeptStamps = (sys : System) (h : List Event) (keep : ℕ → Frontier) → IsWellFormed sys.flow → HasEpochs sys
    → IsLegal sys h → AreFrontiers sys.flow keep → ComeFromKept sys h keep → (e : ℕ)
    → messages_inside (keep (receiver sys.flow e)) (pending_messages sys (kept_events sys.flow keep h) e)
    ≡ messages_inside (keep (receiver sys.flow e)) (messages_from (keep (sender sys.flow e)) (pending_messages sys h e))

-- in a legal history of a well-formed flow with epochs, of which each node keeps the events inside a frontier: at stamps
-- that the receiver does not keep, what is pending of the kept events is the part with kept causes of what was sent
abbrev pub PendingAtOtherStamps : Type 0
PendingAtOtherStamps = (sys : System) (h : List Event) (keep : ℕ → Frontier) → IsWellFormed sys.flow → HasEpochs sys
    → IsLegal sys h → AreFrontiers sys.flow keep → (e : ℕ)
    → messages_outside (keep (receiver sys.flow e)) (pending_messages sys (kept_events sys.flow keep h) e)
    ≡ messages_outside (keep (receiver sys.flow e)) (messages_from (keep (sender sys.flow e)) (sent_messages sys h e))

-- A legal history of a well-formed flow with epochs is filtered by a choice that meets the inclusions. For a receiver that
-- stays as it is, what is pending in the filtered history is the part with kept causes of what was pending.
abbrev pub PendingForPresent : Type 0
PendingForPresent = (sys : System) (state : Machine) (choice : Choice) → IsWellFormed sys.flow → HasEpochs sys
    → IsLegal sys (events state.history) → MeetsInclusions sys state choice → (e : ℕ)
    → cut_of choice (receiver sys.flow e) ≡ Present
    → pending_messages sys (events (filtered_history sys choice state.history)) e
    ≡ messages_from (kept_of sys.flow choice (sender sys.flow e)) (pending_messages sys (events state.history) e)

-- A legal history of a well-formed flow with epochs, full inside what is settled, is filtered by a choice that meets the
-- inclusions. For a receiver that is cut within what is settled, what is pending in the filtered history is the part with
-- kept causes of what was sent outside its cut.
abbrev pub PendingForCut : Type 0
PendingForCut = (sys : System) (state : Machine) (choice : Choice) → IsWellFormed sys.flow → HasEpochs sys
    → IsLegal sys (events state.history) → IsFull sys state → MeetsInclusions sys state choice → (e : ℕ)
    → IsCutWithinSettled sys state choice (receiver sys.flow e)
    → pending_messages sys (events (filtered_history sys choice state.history)) e
    ≡ messages_outside (kept_of sys.flow choice (receiver sys.flow e))
    (messages_from (kept_of sys.flow choice (sender sys.flow e)) (sent_messages sys (events state.history) e))

-- A legal history of a well-formed flow with epochs, full inside what is settled, is filtered by a choice that meets the
-- inclusions. For a receiver that is cut within what is settled nothing is pending from a sender whose policy cannot send
-- again, if what it sent inside its cut lies in what the receiver keeps.
abbrev pub NothingPendingWithoutLog : Type 0
NothingPendingWithoutLog = (sys : System) (state : Machine) (choice : Choice) → IsWellFormed sys.flow → HasEpochs sys
    → IsLegal sys (events state.history) → IsFull sys state → MeetsInclusions sys state choice → (e : ℕ)
    → IsCutWithinSettled sys state choice (receiver sys.flow e) → LiesInReceiver sys.flow (covers_in sys state) choice e
    → can_resend (policy_of sys.flow (sender sys.flow e)) ≡ false
    → pending_messages sys (events (filtered_history sys choice state.history)) e ≡ []

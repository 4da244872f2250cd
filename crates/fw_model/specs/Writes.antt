-- What writes hold: checkpoints, as they were asked, and logged events.
use Rattle.std.specs.Prelude.{◌≡◌, ℕ, Bool, true, false, not, List, [], ◌∷◌, ◌++◌}
use Rattle.std.specs.List.{AllByRecursion}
use Rattle.fw_frontier.specs.Front.{Front}
use Rattle.fw_frontier.specs.Frontier.{Frontier, Within}
use Rattle.fw_flow.specs.declared.choice.Cut.TheVariants.{At}
use Rattle.fw_flow.specs.declared.event.Event.{Event}
use Rattle.fw_flow.specs.declared.kind.Policy.{Policy}
use Rattle.fw_flow.specs.declared.kind.Policy.TheVariants as policy
use Rattle.fw_flow.specs.declared.step.Step.{Step}
use Rattle.fw_flow.specs.Dataflow.{System, sender, receiver, kind_of, node_frontier}
use Rattle.fw_flow.specs.NodeFunction.{event_stamp, event_node}
use Rattle.fw_flow.specs.Projection.{events_at}
use Rattle.fw_flow.specs.WellFormed.{may_keep_nothing}
use Rattle.fw_model.specs.Choice.{ever, is_counted}
use Rattle.fw_model.specs.Covers.{covers_in}
use Rattle.fw_model.specs.Filtering.{events_inside, messages_from}
use Rattle.fw_model.specs.History.{sent_messages, IsEnabled}
use Rattle.fw_model.specs.Machine.{events, Machine, Written, checkpoint, logged_event, Write, Stage, front_of, first_state, SerialEvent, collected}
use Rattle.fw_model.specs.Steps.{Run, Outcome, checkpoint_front, is_given_up}

-- whether the policy takes checkpoints, asked or of its own
abbrev pub takes_checkpoints : Policy → Bool
takes_checkpoints policy.Lazy = true
takes_checkpoints policy.Logged = true
takes_checkpoints policy.Eager = true
takes_checkpoints other = false

-- whether a write was collected
abbrev pub is_collected : Stage → Bool
is_collected collected = true
is_collected other = false

-- whether a write is still there: in flight, or acknowledged and not collected
abbrev pub not_collected : Write → Bool
not_collected write = not (is_collected write.stage)

-- Inside f node p did the same in two histories: the same events in the same order, which sent the same.
pub record IsSamePart (sys : System) (h k : List Event) (p : ℕ) (f : Frontier) : Type 0 where
  pub events : events_inside f (events_at sys.flow p k) ≡ events_inside f (events_at sys.flow p h)
  pub sent : (e : ℕ) → sender sys.flow e ≡ p → messages_from f (sent_messages sys k e) ≡ messages_from f (sent_messages sys h e)

-- Inside f node p did the same in the histories of two states, and the same counts there as delivered to it, as notified
-- of it, and as what it cannot send again.
pub record CountsTheSame (sys : System) (state next : Machine) (p : ℕ) (f : Front) : Type 0 where
  pub part : IsSamePart sys (events state.history) (events next.history) p (node_frontier sys.flow p f)
  pub delivered : (d : ℕ) → receiver sys.flow d ≡ p → (covers_in sys next).delivered d (At f) ≡ (covers_in sys state).delivered d (At f)
  pub notified : (covers_in sys next).notified p (At f) ≡ (covers_in sys state).notified p (At f)
  pub discarded : (e : ℕ) → sender sys.flow e ≡ p → (covers_in sys next).discarded e (At f) ≡ (covers_in sys state).discarded e (At f)

-- what is written of node p counts the same in two states, if it is a checkpoint
abbrev pub CountsWritten : System → Machine → Machine → ℕ → Written → Type 0
CountsWritten sys state next p (checkpoint f low) = CountsTheSame sys state next p f
CountsWritten sys state next p (logged_event serial) = Unit {0}

-- a frontier of node p lies within what is settled there, and within each checkpoint of the node among these writes
pub record Ascends (sys : System) (settled : List Front) (p : ℕ) (f : Front) (later : List Write) : Type 0 where
  pub within_settled : Within (node_frontier sys.flow p f) (node_frontier sys.flow p (front_of settled p))
  pub within_later : AllByRecursion (λ (write : Write). (g : Front) (low : List Front) → write.node ≡ p → write.written ≡ checkpoint g low
      → Within (node_frontier sys.flow p f) (node_frontier sys.flow p g)) later

-- A checkpoint of node p at f was asked in an earlier state of a run, in which f was settled and this was the low watermark,
-- and it counts in the last state as it did in that one.
pub record IsAsItWasAsked (sys : System) (last : Machine) (p : ℕ) (f : Front) (low : List Front) : Type 0 where
  pub steps : List Step
  pub outcomes : List Outcome
  pub asked : Machine
  pub run : Run sys (first_state sys) steps outcomes asked
  pub more : List Step
  pub also : List Outcome
  pub on : Run sys asked more also last
  pub settled : front_of asked.settled p ≡ f
  pub watermark : asked.low ≡ low
  pub same : CountsTheSame sys asked last p f

-- what is written of node p is as it was asked, if it is a checkpoint
abbrev pub IsWrittenAsAsked : System → Machine → ℕ → Written → Type 0
IsWrittenAsAsked sys last p (checkpoint f low) = IsAsItWasAsked sys last p f low
IsWrittenAsAsked sys last p (logged_event serial) = Unit {0}

-- no event of node p that may come next is inside what is written of it, if it is a checkpoint
abbrev pub NothingComesInside : System → Machine → ℕ → Written → Type 0
NothingComesInside sys state p (checkpoint f low) = (v : Event) → IsEnabled sys (events state.history) v → event_node sys.flow v ≡ p
    → node_frontier sys.flow p f (event_stamp v) ≡ false
NothingComesInside sys state p (logged_event serial) = Unit {0}

-- the watermark that is kept with what is written lies within this one at every node, if it is a checkpoint
abbrev pub IsKeptWithin : System → List Front → Written → Type 0
IsKeptWithin sys low (checkpoint f kept_low) =
    (p : ℕ) → Within (node_frontier sys.flow p (front_of kept_low p)) (node_frontier sys.flow p (front_of low p))
IsKeptWithin sys low (logged_event serial) = Unit {0}

-- Exactly one of these writes is such a one.
pub record HasOne (IsSuch : Write → Type 0) (writes : List Write) : Type 0 where
  pub earlier : List Write
  pub one : Write
  pub later : List Write
  pub there : writes ≡ earlier ++ one ∷ later
  pub is_such : IsSuch one
  pub none_earlier : AllByRecursion (λ write. IsSuch write → ⊥) earlier
  pub none_later : AllByRecursion (λ write. IsSuch write → ⊥) later

-- the write is a checkpoint of node p at f
abbrev pub IsCheckpointOf : ℕ → Front → Write → Type 0
IsCheckpointOf p f write = (write.node ≡ p) × (checkpoint_front write.written ≡ f ∷ [])

-- the write logs the event of this serial
abbrev pub LogsSerial : ℕ → Write → Type 0
LogsSerial serial write = write.written ≡ logged_event serial

-- Exactly one write logs the event of node p. It is the node's and was acknowledged, and it is collected only where what the
-- node logged at the event's stamp is given up.
pub record IsLoggedOnce (sys : System) (low : List Front) (p : ℕ) (v : SerialEvent) (writes : List Write) : Type 0 where
  pub only : HasOne (LogsSerial v.serial) writes
  pub node : only.one.node ≡ p
  pub acknowledged : is_counted ever only.one.stage ≡ true
  pub given_up : only.one.stage ≡ collected → is_given_up sys low p (event_stamp v.event) ≡ true

-- a logged event that was collected is one of a node whose kind may keep nothing: no total, sequence or ledger
abbrev pub MayKeepNothingIfCollected : System → Write → Type 0
MayKeepNothingIfCollected sys write =
    (serial : ℕ) → write.written ≡ logged_event serial → write.stage ≡ collected → may_keep_nothing (kind_of sys.flow write.node) ≡ true

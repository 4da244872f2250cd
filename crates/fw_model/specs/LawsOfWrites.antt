-- Laws of writes: which events are logged, by which writes and in what order, and that the newest checkpoint is kept.
use Rattle.std.specs.Prelude.{◌≡◌, ◌⊎◌, ℕ, ◌<◌, false, List, [], ◌∷◌, filter}
use Rattle.std.specs.List.{AllByRecursion, flat_map}
use Rattle.fw_frontier.specs.Front.{Front}
use Rattle.fw_flow.specs.declared.kind.Policy.TheVariants as policy
use Rattle.fw_flow.specs.declared.step.Step.{Step}
use Rattle.fw_flow.specs.Dataflow.{System, Dataflow, policy_of}
use Rattle.fw_flow.specs.NodeFunction.{event_node}
use Rattle.fw_flow.specs.WellFormed.{IsWellFormedSystem}
use Rattle.fw_model.specs.Machine.{Machine, SerialEvent, Write, Written, checkpoint, logged_event, first_state, is_failed}
use Rattle.fw_model.specs.Steps.{Outcome, Run, newest_checkpoint}
use Rattle.fw_model.specs.Writes.{HasOne, LogsSerial, not_collected}

-- an event of this serial is in the history, and is one of node p
abbrev pub HasEventOf : Dataflow → ℕ → ℕ → List SerialEvent → Type 0
HasEventOf flow p serial [] = ⊥
HasEventOf flow p serial (v ∷ h) = ((v.serial ≡ serial) × (event_node flow v.event ≡ p)) ⊎ HasEventOf flow p serial h

-- what is written of node p has its event in the history, if it logs one
abbrev pub HasItsEvent : Dataflow → List SerialEvent → ℕ → Written → Type 0
HasItsEvent flow h p (checkpoint f low) = Unit {0}
HasItsEvent flow h p (logged_event serial) = HasEventOf flow p serial h

-- the serial that is logged, if one is
abbrev pub serial_of : Written → List ℕ
serial_of (checkpoint f low) = []
serial_of (logged_event serial) = serial ∷ []

-- the serials that these writes log, in order of asking
abbrev pub logged_serials : List Write → List ℕ
logged_serials writes = flat_map (λ (write : Write). serial_of write.written) writes

-- each of the numbers is less than those that follow it
abbrev pub AreIncreasing : List ℕ → Type 0
AreIncreasing [] = Unit {0}
AreIncreasing (n ∷ ns) = AllByRecursion (λ m. n < m) ns × AreIncreasing ns

-- each event's serial is greater than those of the events before it, which stand after it
abbrev pub AreLatestFirst : List SerialEvent → Type 0
AreLatestFirst [] = Unit {0}
AreLatestFirst (v ∷ h) = AllByRecursion (λ (u : SerialEvent). u.serial < v.serial) h × AreLatestFirst h

-- Each write that logs a serial has an event of it in the history, at the write's node. The serials of these writes ascend
-- in order of asking, and those of the history in order of time.
pub record AreLoggedInOrder (sys : System) (state : Machine) : Type 0 where
  pub there : AllByRecursion (λ (write : Write). HasItsEvent sys.flow state.history write.node write.written) state.writes
  pub asked_in_order : AreIncreasing (logged_serials state.writes)
  pub latest_first : AreLatestFirst state.history

-- in each state to which steps of a well-formed system lead from the first one, the logged events are in the history, at
-- their nodes, and in order
abbrev pub LoggedEventsAreInOrder : Type 0
LoggedEventsAreInOrder = (sys : System) → IsWellFormedSystem sys → (steps : List Step) (outcomes : List Outcome) (last : Machine)
    → Run sys (first_state sys) steps outcomes last → AreLoggedInOrder sys last

-- exactly one write logs the event of this serial, and it is one of node p
abbrev pub IsLoggedFor : ℕ → ℕ → List Write → Type 0
IsLoggedFor p serial writes = (only : HasOne (LogsSerial serial) writes) × (only.one.node ≡ p)

-- in each state to which steps of a well-formed system lead from the first one, each event of a node that logs each event
-- and is not failed is logged by exactly one write, in flight, acknowledged or collected
abbrev pub LiveNodesLogEachEvent : Type 0
LiveNodesLogEachEvent = (sys : System) → IsWellFormedSystem sys → (steps : List Step) (outcomes : List Outcome) (last : Machine)
    → Run sys (first_state sys) steps outcomes last
    → (p : ℕ) → policy_of sys.flow p ≡ policy.Full → is_failed last p ≡ false
    → AllByRecursion (λ (v : SerialEvent). event_node sys.flow v.event ≡ p → IsLoggedFor p v.serial last.writes) last.history

-- in each state to which steps of a well-formed system lead from the first one, the newest checkpoint of each node is the
-- newest among those that were not collected, whatever stands for it where there is none
abbrev pub NewestCheckpointIsKept : Type 0
NewestCheckpointIsKept = (sys : System) → IsWellFormedSystem sys → (steps : List Step) (outcomes : List Outcome) (last : Machine)
    → Run sys (first_state sys) steps outcomes last
    → (p : ℕ) (f : Front) → newest_checkpoint p f last.writes ≡ newest_checkpoint p f (filter not_collected last.writes)

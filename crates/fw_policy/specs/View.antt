-- What an engine knows of a state of the machine, for what its nodes offer to a recovery.
use Rattle.std.specs.Prelude.{◌≡◌, ◌↔◌, ◌⊎◌, ℕ, suc, Bool, true, false, if◌then◌else◌, List, [], ◌∷◌, length, map}
use Rattle.std.specs.List.{AllByRecursion, AllZip, Contains, flat_map}
use Rattle.fw_time.specs.Stamp.{Stamp, leq}
use Rattle.fw_frontier.specs.Frontier.{Frontier}
use Rattle.fw_frontier.specs.Front.{Front}
use Rattle.fw_flow.specs.declared.choice.Stamps.{Stamps}
use Rattle.fw_flow.specs.declared.event.Message.{Message}
use Rattle.fw_flow.specs.Kind.{Kind}
use Rattle.fw_flow.specs.declared.kind.Kind.TheVariants.{Input, OutputEpoch, OutputNumber}
use Rattle.fw_flow.specs.declared.kind.Policy.TheVariants as policy
use Rattle.fw_flow.specs.declared.restoring.Restoring.{Restoring}
use Rattle.fw_flow.specs.declared.restoring.Restoring.TheVariants.{Batches, Events}
use Rattle.fw_flow.specs.Dataflow.{System, Dataflow, kind_of, policy_of, receiver, node_frontier, is_sequence_kind}
use Rattle.fw_flow.specs.NodeFunction.{event_node, event_stamp}
use Rattle.fw_flow.specs.Projection.{IsSentTable}
use Rattle.fw_flow.specs.Restoring.{way_of}
use Rattle.fw_flow.specs.WellFormed.{IsWellFormedSystem}
use Rattle.fw_model.specs.Choice.{IsLogged, kept, is_counted, logged_history}
use Rattle.fw_model.specs.Covers.{stamp_of_notice}
use Rattle.fw_model.specs.EventStamps.{AreStampsIf, AreStampsOf}
use Rattle.fw_model.specs.Floors.{IsFloor}
use Rattle.fw_model.specs.History.{injected_count, is_exhausted, delivered_messages}
use Rattle.fw_model.specs.Machine.{Machine, SerialEvent, Write, checkpoint, logged_event, events, front_of, is_failed, ack_count_of}
use Rattle.fw_model.specs.Machine.{Written as WrittenBy}
use Rattle.fw_model.specs.Offers.{stamps_on}
use Rattle.fw_model.specs.Reached.{IsReached}
use Rattle.fw_model.specs.Writes.{takes_checkpoints}
use Rattle.fw_policy.specs.Entries.{IsRecorded, uncollected}
use Rattle.fw_policy.specs.Shaped.{IsViewFor}
use Rattle.fw_policy.specs.declared.view.Border.{Border}
use Rattle.fw_policy.specs.declared.view.Border.TheVariants.{Inner, Source, Output}
use Rattle.fw_record.specs.Event.{stamp_of_event}
use Rattle.fw_keep.specs.declared.entry.Entry.{Entry}
use Rattle.fw_keep.specs.declared.entry.Written.{Written}
use Rattle.fw_keep.specs.declared.entry.Written.TheVariants as written
use Rattle.fw_policy.specs.declared.view.NodeView.{NodeView}

-- the base of a node above a floor, inside which its stamps may be thinned: what is settled where it takes checkpoints, and else the
-- floor
abbrev pub base_of : System → List Front → Machine → ℕ → Frontier
base_of sys floor state p =
    if takes_checkpoints (policy_of sys.flow p) then node_frontier sys.flow p (front_of state.settled p)
    else node_frontier sys.flow p (front_of floor p)

-- the event has this serial, is one of node p and is at stamp t
pub record IsEventAt (flow : Dataflow) (p serial : ℕ) (t : Stamp) (v : SerialEvent) : Type 0 where
  pub same_serial : v.serial ≡ serial
  pub node : event_node flow v.event ≡ p
  pub stamp : event_stamp v.event ≡ t

-- an event of node p at t was not logged
pub record IsUnlogged (sys : System) (state : Machine) (p : ℕ) (t : Stamp) : Type 0 where
  pub event : SerialEvent
  pub there : Contains state.history event
  pub is : IsEventAt sys.flow p event.serial t event
  pub not_logged : IsLogged event.serial state.writes → ⊥

-- node p failed, and an event of it at t was not logged
abbrev pub IsLostAt : System → Machine → ℕ → Stamp → Type 0
IsLostAt sys state p t = (is_failed state p ≡ true) × IsUnlogged sys state p t

-- what is told of stamps is among all of them, and has each that was logged and is outside a base
abbrev pub AreLogged : Frontier → List Stamp → List Stamp → List Stamp → Type 0
AreLogged base all logged told = AllByRecursion (Contains all) told × AllByRecursion (λ t. base t ≡ false → Contains told t) logged

-- The stamps are some at which something was delivered to node p, or it was notified: of those outside a base each that an acknowledged
-- write logs.
pub record AreStampsLogged (sys : System) (state : Machine) (p : ℕ) (base : Frontier) (stamps : Stamps) : Type 0 where
  pub delivered : (d : ℕ) → receiver sys.flow d ≡ p
      → AreLogged base (map (λ (m : Message). m.at) (delivered_messages (events state.history) d))
      (map (λ (m : Message). m.at) (delivered_messages (logged_history sys state p) d)) (stamps_on d stamps.delivered)
  pub notified : AreLogged base (flat_map (stamp_of_notice p) (events state.history))
      (flat_map (stamp_of_notice p) (logged_history sys state p)) stamps.notified

-- what is to be known of the stamps of node p above a floor, by the way in which it is restored, where it failed: of an input all, of a
-- node that logs its events those that are logged, and of another one no more than that it was notified of these
abbrev pub IsKnownOfFailed : System → List Front → Machine → ℕ → Stamps → Restoring → Type 0
IsKnownOfFailed sys floor state p stamps Batches = AreStampsOf sys (events state.history) p (base_of sys floor state p) stamps
IsKnownOfFailed sys floor state p stamps Events = AreStampsLogged sys state p (base_of sys floor state p) stamps
IsKnownOfFailed sys floor state p stamps way = AllByRecursion (Contains (flat_map (stamp_of_notice p) (events state.history))) stamps.notified

-- what is to be known of them of any node: all, where it did not fail
abbrev pub IsKnownOf : System → List Front → Machine → ℕ → Stamps → Bool → Type 0
IsKnownOf sys floor state p stamps true = IsKnownOfFailed sys floor state p stamps (way_of sys.flow p)
IsKnownOf sys floor state p stamps false = AreStampsOf sys (events state.history) p (base_of sys floor state p) stamps

-- some stamp of these is at or below t
abbrev pub HasAtOrBelow : (Stamp → Type 0) → Stamp → Type 0
HasAtOrBelow P t = (s : Stamp) × P s × (leq s t ≡ true)

-- of what is settled of node p the stamps tell which lies at or above one that was lost
abbrev pub KnowsLosses : System → Machine → ℕ → List Stamp → Type 0
KnowsLosses sys state p gone = (t : Stamp) → node_frontier sys.flow p (front_of state.settled p) t ≡ true
    → HasAtOrBelow (Contains gone) t ↔ HasAtOrBelow (IsLostAt sys state p) t

-- where a node of the kind meets what is outside
abbrev pub IsBorderOf : System → Machine → ℕ → Kind → Border → Type 0
IsBorderOf sys state p Input (Source injected exhausted) =
    (injected ≡ injected_count p (events state.history)) × (exhausted ≡ is_exhausted sys (events state.history) p)
IsBorderOf sys state p Input border = ⊥
IsBorderOf sys state p OutputEpoch (Output bound) = bound ≡ ack_count_of state p
IsBorderOf sys state p OutputEpoch border = ⊥
IsBorderOf sys state p OutputNumber (Output bound) = bound ≡ ack_count_of state p
IsBorderOf sys state p OutputNumber border = ⊥
IsBorderOf sys state p kind border = border ≡ Inner

-- an event of this serial is in the history: one of node p at stamp t
abbrev pub HasEventAt : Dataflow → ℕ → ℕ → Stamp → List SerialEvent → Type 0
HasEventAt flow p serial t [] = ⊥
HasEventAt flow p serial t (v ∷ h) = IsEventAt flow p serial t v ⊎ HasEventAt flow p serial t h

-- what is read of an entry of node p is what the write holds: of a checkpoint what it records of the events inside, of an event its stamp
abbrev pub ReadsAsWrite : System → Machine → ℕ → Written → WrittenBy → Type 0
ReadsAsWrite sys state p (written.Checkpoint recorded stamps sent) (checkpoint f low) = IsRecorded sys state p f recorded
ReadsAsWrite sys state p (written.Checkpoint recorded stamps sent) (logged_event serial) = ⊥
ReadsAsWrite sys state p (written.Event event) (checkpoint f low) = ⊥
ReadsAsWrite sys state p (written.Event event) (logged_event serial) = HasEventAt sys.flow p serial (stamp_of_event event) state.history

-- an entry is read as a write: it is acknowledged exactly where the write counts among those that are kept
pub record IsReadAs (sys : System) (state : Machine) (entry : Entry) (write : Write) : Type 0 where
  pub node : entry.node ≡ write.node
  pub acknowledged : entry.acknowledged ≡ is_counted kept write.stage
  pub holds : ReadsAsWrite sys state write.node entry.written write.written

-- one entry is read as each write, in order
abbrev pub AreReadAs : System → Machine → List Entry → List Write → Type 0
AreReadAs sys state entries writes = AllZip (IsReadAs sys state) entries writes

-- what is known of node p fits the dataflow, and is so in the state above a floor, where these nodes count as failed
pub record IsNodeViewOf (sys : System) (state : Machine) (lost : ℕ → Bool) (floor : List Front) (p : ℕ) (node : NodeView) : Type 0 where
  pub fits : IsViewFor sys.flow p node
  pub stamps : IsKnownOf sys floor state p node.stamps (lost p)
  pub table : is_sequence_kind (kind_of sys.flow p) ≡ true → IsSentTable sys (events state.history) p node.table
  pub settled : node.settled ≡ front_of state.settled p
  pub low : node.low ≡ front_of state.low p
  pub border : IsBorderOf sys state p (kind_of sys.flow p) node.border
  pub losses : policy_of sys.flow p ≡ policy.Full → KnowsLosses sys state p node.lost
  pub failed : node.failed ≡ lost p

-- the views are those of the nodes from p on
abbrev pub AreNodeViewsFrom : System → Machine → (ℕ → Bool) → List Front → ℕ → List NodeView → Type 0
AreNodeViewsFrom sys state lost floor p [] = Unit {0}
AreNodeViewsFrom sys state lost floor p (node ∷ view) = IsNodeViewOf sys state lost floor p node × AreNodeViewsFrom sys state lost floor (suc p) view

-- What is known is so above a floor in a state to which steps of a well-formed system lead, where these nodes count as failed: of each
-- node what its view says, and an entry for each write that was not collected, in order of asking.
pub record IsViewOf (sys : System) (state : Machine) (lost : ℕ → Bool) (floor : List Front) (view : List NodeView) (entries : List Entry) : Type 0 where
  pub well_formed : IsWellFormedSystem sys
  pub reached : IsReached sys state
  pub above : IsFloor sys state floor
  pub one_each : length view ≡ length sys.flow.nodes
  pub nodes : AreNodeViewsFrom sys state lost floor 0 view
  pub written : AreReadAs sys state entries (uncollected state)

-- of what happened at the nodes from p on, inside the base of each, none is missing in the views
abbrev pub AreWholeFrom : System → Machine → List Front → ℕ → List NodeView → Type 0
AreWholeFrom sys state floor p [] = Unit {0}
AreWholeFrom sys state floor p (node ∷ view) =
    AreStampsIf true sys (events state.history) p (base_of sys floor state p) node.stamps × AreWholeFrom sys state floor (suc p) view

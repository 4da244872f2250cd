-- The third frontier of a node that logs its events: with what is settled, and with the low watermark, it tells what the node offers once
-- it is failed.
use Rattle.std.specs.Prelude.{◌≡◌, ◌↔◌, ℕ, ◌<◌, Bool, true, false, not, ◌&&◌, ◌==◌, List, map, filter, length}
use Rattle.std.specs.List.{AllByRecursion, Contains, list_any}
use Rattle.fw_time.specs.Stamp.{Stamp, leq}
use Rattle.fw_frontier.specs.Frontier.{Frontier, Within}
use Rattle.fw_frontier.specs.Front.{Front, IsCanonical}
use Rattle.fw_flow.specs.declared.choice.Cut.TheVariants.{At}
use Rattle.fw_flow.specs.declared.restoring.Restoring.TheVariants.{Events}
use Rattle.fw_flow.specs.Dataflow.{System, bounds_of, node_frontier}
use Rattle.fw_flow.specs.NodeFunction.{event_node, event_stamp}
use Rattle.fw_flow.specs.Restoring.{way_of}
use Rattle.fw_flow.specs.WellFormed.{IsWellFormedSystem}
use Rattle.fw_model.specs.Choice.{kept, IsCandidate, is_serial_logged}
use Rattle.fw_model.specs.Machine.{Machine, SerialEvent, Write, logged_event, acknowledged, front_of}
use Rattle.fw_model.specs.Reached.{IsReached}
use Rattle.fw_regain.specs.Down.{down}

-- the stamps of the events of node p that none logs
abbrev pub stamps_not_logged : System → Machine → ℕ → List Stamp
stamps_not_logged sys state p =
    map (λ (v : SerialEvent). event_stamp v.event)
    (filter (λ (v : SerialEvent). event_node sys.flow v.event == p && not (is_serial_logged v.serial state.writes)) state.history)

-- the third frontier of node p: what is settled there, and neither at nor above the stamp of one of these
abbrev pub third_of : System → Machine → ℕ → Frontier
third_of sys state p t =
    node_frontier sys.flow p (front_of state.settled p) t && not (list_any (λ s. leq s t) (stamps_not_logged sys state p))

-- it is the same where every node is failed
abbrev pub ThirdStaysWhereAllAreDown : Type 0
ThirdStaysWhereAllAreDown = (sys : System) (state : Machine) (p : ℕ) (t : Stamp) → third_of sys (down sys state) p t ≡ third_of sys state p t

-- a node that logs its events offers the frontiers from the low watermark to its third one, and no others
abbrev pub ThirdFrontIsOffered : Type 0
ThirdFrontIsOffered = (sys : System) (state : Machine) (lost : ℕ → Bool) (p : ℕ) (f : Front) → way_of sys.flow p ≡ Events
    → IsCandidate sys state lost kept p (At f)
    ↔ (IsCanonical (bounds_of sys.flow p) f
    × Within (node_frontier sys.flow p (front_of state.low p)) (node_frontier sys.flow p f)
    × Within (node_frontier sys.flow p f) (third_of sys state p))

-- in each state to which steps of a well-formed system lead from the first one it holds the low watermark
abbrev pub ThirdHoldsLow : Type 0
ThirdHoldsLow = (sys : System) (state : Machine) (p : ℕ) → IsWellFormedSystem sys → IsReached sys state → p < length sys.flow.nodes
    → way_of sys.flow p ≡ Events → Within (node_frontier sys.flow p (front_of state.low p)) (third_of sys state p)

-- the event is logged by a write that is kept: one that was acknowledged, and not collected
pub record IsKeptLogged (serial : ℕ) (writes : List Write) : Type 0 where
  pub write : Write
  pub there : Contains writes write
  pub logs : write.written ≡ logged_event serial
  pub acknowledged : write.stage ≡ acknowledged

-- In each state to which steps of a well-formed system lead from the first one, an event of a node that logs its events, outside the low
-- watermark, is logged by a write that is kept, or by none that was acknowledged: of such events none was collected.
abbrev pub NothingOutsideLowIsCollected : Type 0
NothingOutsideLowIsCollected = (sys : System) (state : Machine) (p : ℕ) → IsWellFormedSystem sys → IsReached sys state
    → AllByRecursion (λ (v : SerialEvent). event_node sys.flow v.event ≡ p → node_frontier sys.flow p (front_of state.low p) (event_stamp v.event) ≡ false
    → is_serial_logged v.serial state.writes ≡ true → IsKeptLogged v.serial state.writes) state.history

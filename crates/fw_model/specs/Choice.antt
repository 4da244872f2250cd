-- Restore candidates, and which choice of them is consistent and which is largest.
use Rattle.std.specs.Prelude.{◌≡◌, ◌⊎◌, ℕ, ◌<◌, ◌≤◌, Bool, true, false, not, ◌&&◌, ◌||◌, ◌==◌, List, [], ◌∷◌, length, slice_index_or, filter}
use Rattle.std.specs.List.{list_any}
use Rattle.fw_time.specs.declared.stamp.Bounds.{Bounds}
use Rattle.fw_frontier.specs.Frontier.{Frontier, Within}
use Rattle.fw_frontier.specs.Front.{Front, IsCanonical}
use Rattle.fw_flow.specs.declared.choice.Choice.{Choice}
use Rattle.fw_flow.specs.declared.choice.Cut.{Cut}
use Rattle.fw_flow.specs.declared.choice.Cut.TheVariants.{Present, At}
use Rattle.fw_flow.specs.declared.restoring.Restoring.{Restoring}
use Rattle.fw_flow.specs.declared.restoring.Restoring.TheVariants.{Batches, Bound, Anything, Checkpoints, Events}
use Rattle.fw_flow.specs.Dataflow.{System, Dataflow, sender, receiver, bounds_of, node_frontier}
use Rattle.fw_flow.specs.Restoring.{way_of}
use Rattle.fw_flow.specs.NodeFunction.{event_node, event_stamp}
use Rattle.fw_flow.specs.declared.event.Event.{Event}
use Rattle.fw_model.specs.Covers.{Covers, covers_in, set_of}
use Rattle.fw_model.specs.History.{injected_count, is_exhausted}
use Rattle.fw_model.specs.Machine.{Machine, SerialEvent, Write, Written, checkpoint, logged_event, Stage, in_flight, acknowledged, collected, events, no_stamps, front_of, ack_count_of}

-- which writes count as candidates: those that are kept, or also those that were collected
pub data View : Type 0 where
  kept : View
  ever : View

-- whether a write counts in a view
abbrev pub is_counted : View → Stage → Bool
is_counted view in_flight = false
is_counted view acknowledged = true
is_counted kept collected = false
is_counted ever collected = true

-- the epochs below k, as a frontier
abbrev pub until : ℕ → Front
until k = (k ∷ []) ∷ []

-- a checkpoint of node p at f that counts in the view is among the writes
abbrev pub HasCheckpoint : View → ℕ → Front → List Write → Type 0
HasCheckpoint view p f [] = ⊥
HasCheckpoint view p f (write ∷ writes) = IsCheckpoint write.written ⊎ HasCheckpoint view p f writes
  where
    IsCheckpoint : Written → Type 0
    IsCheckpoint (checkpoint g low) = (write.node ≡ p) × (g ≡ f) × (is_counted view write.stage ≡ true)
    IsCheckpoint (logged_event serial) = ⊥

-- the event of this serial was logged by an acknowledged write, collected or not
abbrev pub IsLogged : ℕ → List Write → Type 0
IsLogged serial [] = ⊥
IsLogged serial (write ∷ writes) = NamesIt write.written ⊎ IsLogged serial writes
  where
    NamesIt : Written → Type 0
    NamesIt (checkpoint g low) = ⊥
    NamesIt (logged_event s) = (s ≡ serial) × (is_counted ever write.stage ≡ true)

-- whether what is written logs the event of this serial
abbrev pub logs_serial : ℕ → Written → Bool
logs_serial serial (checkpoint f low) = false
logs_serial serial (logged_event s) = s == serial

-- whether an acknowledged write logs it, collected or not
abbrev pub is_serial_logged : ℕ → List Write → Bool
is_serial_logged serial writes = list_any (λ (write : Write). logs_serial serial write.written && is_counted ever write.stage) writes

-- the history without the events of node p that no acknowledged write logs
abbrev pub logged_history : System → Machine → ℕ → List Event
logged_history sys state p =
    events (filter (λ (v : SerialEvent). not (event_node sys.flow v.event == p) || is_serial_logged v.serial state.writes) state.history)

-- each event of node p inside f is logged
abbrev pub AllLogged : System → ℕ → Frontier → List Write → List SerialEvent → Type 0
AllLogged sys p f writes [] = Unit {0}
AllLogged sys p f writes (v ∷ h) =
    (event_node sys.flow v.event ≡ p → f (event_stamp v.event) ≡ true → IsLogged v.serial writes) × AllLogged sys p f writes h

-- node p can be restored to f
abbrev pub IsRestorable : System → Machine → View → ℕ → Restoring → Front → Type 0
IsRestorable sys state view p Batches f =
    ((k : ℕ) × (k ≤ injected_count p (events state.history)) × (f ≡ until k))
    ⊎ ((is_exhausted sys (events state.history) p ≡ true) × (f ≡ []))
IsRestorable sys state view p Bound f =
    Within (node_frontier sys.flow p f) (node_frontier sys.flow p (front_of state.settled p))
    × Within (node_frontier sys.flow p f) (node_frontier sys.flow p (until (ack_count_of state p)))
IsRestorable sys state view p Anything f =
    Within (node_frontier sys.flow p f) (node_frontier sys.flow p (front_of state.settled p))
IsRestorable sys state view p Checkpoints f =
    (f ≡ no_stamps (bounds_of sys.flow p)) ⊎ HasCheckpoint view p f state.writes
IsRestorable sys state view p Events f =
    Within (node_frontier sys.flow p f) (node_frontier sys.flow p (front_of state.settled p))
    × AllLogged sys p (node_frontier sys.flow p f) state.writes state.history

-- only what contains the low watermark is offered among what is kept
abbrev pub HoldsLow : View → Frontier → Frontier → Type 0
HoldsLow kept low f = Within low f
HoldsLow ever low f = Unit {0}

-- Node p offers the cut, where these nodes count as failed: its state as it is unless it failed, and each frontier to
-- which it can be restored.
abbrev pub IsCandidate : System → Machine → (ℕ → Bool) → View → ℕ → Cut → Type 0
IsCandidate sys state lost view p Present = lost p ≡ false
IsCandidate sys state lost view p (At f) =
    IsCanonical (bounds_of sys.flow p) f
    × IsRestorable sys state view p (way_of sys.flow p) f
    × HoldsLow view (node_frontier sys.flow p (front_of state.low p)) (node_frontier sys.flow p f)

-- the cut of node p
abbrev pub cut_of : Choice → ℕ → Cut
cut_of choice p = slice_index_or choice.cuts p Present

-- the notification frontier of node p
abbrev pub notice_of : Dataflow → Choice → ℕ → Frontier
notice_of flow choice p = node_frontier flow p (front_of choice.notices p)

-- what node p keeps
abbrev pub kept_of : Dataflow → Choice → ℕ → Frontier
kept_of flow choice p = set_of flow p (cut_of choice p)

-- on edge d what was delivered inside the receiver's cut comes from what the sender keeps
abbrev pub ComesFromSender : Dataflow → Covers → Choice → ℕ → Type 0
ComesFromSender flow covers choice d =
    Within (covers.delivered d (cut_of choice (receiver flow d))) (covers.arrived d (kept_of flow choice (sender flow d)))

-- on edge e what was sent inside the sender's cut and can't be sent again lies in what the receiver keeps
abbrev pub LiesInReceiver : Dataflow → Covers → Choice → ℕ → Type 0
LiesInReceiver flow covers choice e = Within (covers.discarded e (cut_of choice (sender flow e))) (kept_of flow choice (receiver flow e))

-- what node p was notified of inside its cut lies in its notification frontier
abbrev pub HasItsNotices : Dataflow → Covers → Choice → ℕ → Type 0
HasItsNotices flow covers choice p = Within (covers.notified p (cut_of choice p)) (notice_of flow choice p)

-- the notification frontier of node p lies in what it keeps
abbrev pub IsNoticeKept : Dataflow → Choice → ℕ → Type 0
IsNoticeKept flow choice p = Within (notice_of flow choice p) (kept_of flow choice p)

-- on edge d the receiver's notification frontier comes from the sender's
abbrev pub NoticeComesFromSender : Dataflow → Covers → Choice → ℕ → Type 0
NoticeComesFromSender flow covers choice d =
    Within (notice_of flow choice (receiver flow d)) (covers.arrived d (notice_of flow choice (sender flow d)))

-- A choice from what is offered is consistent: it has a cut that is offered and a notification frontier for each node, and
-- meets the five inclusions at each edge and node.
pub record IsConsistentBy (flow : Dataflow) (covers : Covers) (offers : ℕ → Cut → Type 0) (choice : Choice) : Type 0 where
  pub one_cut_each : length choice.cuts ≡ length flow.nodes
  pub one_notice_each : length choice.notices ≡ length flow.nodes
  pub offered : (p : ℕ) → p < length flow.nodes → offers p (cut_of choice p)
  pub canonical : (p : ℕ) → p < length flow.nodes → IsCanonical (bounds_of flow p) (front_of choice.notices p)
  pub delivered : (d : ℕ) → d < length flow.edges → ComesFromSender flow covers choice d
  pub discarded : (e : ℕ) → e < length flow.edges → LiesInReceiver flow covers choice e
  pub notified : (p : ℕ) → p < length flow.nodes → HasItsNotices flow covers choice p
  pub own : (p : ℕ) → p < length flow.nodes → IsNoticeKept flow choice p
  pub notices : (d : ℕ) → d < length flow.edges → NoticeComesFromSender flow covers choice d

-- in a state of the machine a choice from what is offered is consistent
abbrev pub IsConsistent : System → Machine → (ℕ → Cut → Type 0) → Choice → Type 0
IsConsistent sys state offers choice = IsConsistentBy sys.flow (covers_in sys state) offers choice

-- a cut of node p lies within another: a state as it is lies above every other cut
abbrev pub IsCutWithin : Dataflow → ℕ → Cut → Cut → Type 0
IsCutWithin flow p cut Present = Unit {0}
IsCutWithin flow p Present (At g) = ⊥
IsCutWithin flow p (At f) (At g) = Within (node_frontier flow p f) (node_frontier flow p g)

-- a choice lies within another at every node
pub record IsChoiceWithin (flow : Dataflow) (smaller larger : Choice) : Type 0 where
  pub cuts : (p : ℕ) → p < length flow.nodes → IsCutWithin flow p (cut_of smaller p) (cut_of larger p)
  pub notices : (p : ℕ) → p < length flow.nodes → Within (notice_of flow smaller p) (notice_of flow larger p)

-- the choice is consistent, and each consistent choice lies within it
pub record IsLargestBy (flow : Dataflow) (covers : Covers) (offers : ℕ → Cut → Type 0) (choice : Choice) : Type 0 where
  pub consistent : IsConsistentBy flow covers offers choice
  pub largest : (other : Choice) → IsConsistentBy flow covers offers other → IsChoiceWithin flow other choice

-- in a state of the machine the choice is the largest consistent one
abbrev pub IsLargest : System → Machine → (ℕ → Cut → Type 0) → Choice → Type 0
IsLargest sys state offers choice = IsLargestBy sys.flow (covers_in sys state) offers choice

-- the history without the events outside the cut of their node
abbrev pub filtered_history : System → Choice → List SerialEvent → List SerialEvent
filtered_history sys choice h = filter (λ v. kept_of sys.flow choice (event_node sys.flow v.event) (event_stamp v.event)) h

-- what is offered where every node counts as failed: what acknowledged writes alone carry
abbrev pub offers_of_writes : System → Machine → ℕ → Cut → Type 0
offers_of_writes sys state = IsCandidate sys state (λ p. true) kept

-- the low watermark: the largest choice where every node counts as failed
abbrev pub IsWatermark : System → Machine → Choice → Type 0
IsWatermark sys state choice = IsLargest sys state (offers_of_writes sys state) choice

-- the frontier of a cut is canonical, if it has one
abbrev pub IsCanonicalCut : Bounds → Cut → Type 0
IsCanonicalCut bounds Present = Unit {0}
IsCanonicalCut bounds (At f) = IsCanonical bounds f

-- The choice is of the dataflow: it has one cut and one notification frontier for each node, and each frontier is canonical in its
-- node's domain.
pub record IsChoiceOf (flow : Dataflow) (choice : Choice) : Type 0 where
  pub one_cut_each : length choice.cuts ≡ length flow.nodes
  pub one_notice_each : length choice.notices ≡ length flow.nodes
  pub cuts : (p : ℕ) → p < length flow.nodes → IsCanonicalCut (bounds_of flow p) (cut_of choice p)
  pub notices : (p : ℕ) → p < length flow.nodes → IsCanonical (bounds_of flow p) (front_of choice.notices p)

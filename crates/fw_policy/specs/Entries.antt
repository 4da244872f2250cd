-- What the entries of a catalogue are of a state of the machine: one for each of its writes, in order.
use Rattle.std.specs.Prelude.{◌≡◌, ◌⊎◌, ℕ, ◌<◌, true, List, [], ◌∷◌, filter, length, Option, Some, None}
use Rattle.std.specs.List.{AllZip}
use Rattle.fw_frontier.specs.Front.{Front}
use Rattle.fw_flow.specs.declared.choice.Cut.TheVariants.{At}
use Rattle.fw_flow.specs.declared.choice.Recorded.{Recorded}
use Rattle.fw_flow.specs.declared.choice.Stamps.{Stamps}
use Rattle.fw_flow.specs.declared.event.Event.{Event as Happened}
use Rattle.fw_flow.specs.declared.event.Event.TheVariants as happened
use Rattle.fw_flow.specs.declared.event.Message.{Message}
use Rattle.fw_flow.specs.Dataflow.{System, Dataflow, sender, receiver, bounds_of, node_frontier}
use Rattle.fw_flow.specs.NodeFunction.{event_node, sent_by}
use Rattle.fw_flow.specs.Projection.{events_at}
use Rattle.fw_model.specs.Choice.{kept, is_counted}
use Rattle.fw_model.specs.Covers.{covers_in}
use Rattle.fw_model.specs.EventStamps.{AreStampsIf}
use Rattle.fw_model.specs.Filtering.{events_inside, messages_from}
use Rattle.fw_model.specs.Machine.{Machine, SerialEvent, Write, checkpoint, logged_event, events}
use Rattle.fw_model.specs.Machine.{Written as WrittenBy}
use Rattle.fw_model.specs.Offers.{IsRecordOf, front_of_edge}
use Rattle.fw_model.specs.Writes.{not_collected}
use Rattle.fw_record.specs.declared.record.Event.{Event}
use Rattle.fw_record.specs.declared.record.Event.TheVariants.{Deliver, Notify}
use Rattle.fw_keep.specs.declared.entry.Entry.{Entry}
use Rattle.fw_keep.specs.declared.entry.Written.{Written}
use Rattle.fw_keep.specs.declared.entry.Written.TheVariants as written

-- ---- checkpoints

-- A record holds what the machine counts of the events of node p inside f.
pub record IsRecorded (sys : System) (state : Machine) (p : ℕ) (f : Front) (r : Recorded) : Type 0 where
  pub front : r.front ≡ f
  pub of_flow : IsRecordOf sys.flow p r
  pub delivered : (d : ℕ) → d < length sys.flow.edges → receiver sys.flow d ≡ p
      → front_of_edge (bounds_of sys.flow p) d r.delivered ≡ (covers_in sys state).delivered d (At f)
  pub notified : node_frontier sys.flow p r.notified ≡ (covers_in sys state).notified p (At f)
  pub discarded : (e : ℕ) → e < length sys.flow.edges → sender sys.flow e ≡ p
      → front_of_edge (bounds_of sys.flow (receiver sys.flow e)) e r.discarded ≡ (covers_in sys state).discarded e (At f)

-- what a node's events sent in all
abbrev pub sent_by_node : System → List Happened → ℕ → List Message
sent_by_node sys h p = sent_by sys p (events_at sys.flow p h)

-- the events of a state inside the frontier f of node p
abbrev pub events_within : System → Machine → ℕ → Front → List Happened
events_within sys state p f = events_inside (node_frontier sys.flow p f) (events state.history)

-- how many messages node p's events inside f sent
abbrev pub count_within : System → Machine → ℕ → Front → ℕ
count_within sys state p f = length (messages_from (node_frontier sys.flow p f) (sent_by_node sys (events state.history) p))

-- What the entry of a checkpoint holds: what is recorded of the events inside f, stamps that stand for them, and how many messages
-- they sent.
pub record HoldsWithin (sys : System) (state : Machine) (p : ℕ) (f : Front) (held : Recorded) (where_they_are : Stamps) (count : ℕ) : Type 0 where
  pub recorded : IsRecorded sys state p f held
  pub stamps : AreStampsIf true sys (events_within sys state p f) p (node_frontier sys.flow p f) where_they_are
  pub sent : count ≡ count_within sys state p f

-- ---- events

-- what a record tells of an event; an input's are not written
abbrev pub told_of : Happened → Option Event
told_of (happened.Inject s x) = None
told_of (happened.Deliver e m) = Some (Deliver e m.at m.rec)
told_of (happened.Notify p t) = Some (Notify t)

-- the event has this serial, is one of node p, and is told so
pub record IsToldAs (flow : Dataflow) (p serial : ℕ) (event : Event) (v : SerialEvent) : Type 0 where
  pub same_serial : v.serial ≡ serial
  pub node : event_node flow v.event ≡ p
  pub told : told_of v.event ≡ Some event

-- an event of this serial is in the history: one of node p, told so
abbrev pub HasEventTold : Dataflow → ℕ → ℕ → Event → List SerialEvent → Type 0
HasEventTold flow p serial event [] = ⊥
HasEventTold flow p serial event (v ∷ h) = IsToldAs flow p serial event v ⊎ HasEventTold flow p serial event h

-- ---- entries

-- what an entry of node p holds is what the write does
abbrev pub HoldsWhatIsWritten : System → Machine → ℕ → Written → WrittenBy → Type 0
HoldsWhatIsWritten sys state p (written.Checkpoint recorded stamps sent) (checkpoint f low) = HoldsWithin sys state p f recorded stamps sent
HoldsWhatIsWritten sys state p (written.Checkpoint recorded stamps sent) (logged_event serial) = ⊥
HoldsWhatIsWritten sys state p (written.Event event) (checkpoint f low) = ⊥
HoldsWhatIsWritten sys state p (written.Event event) (logged_event serial) = HasEventTold sys.flow p serial event state.history

-- an entry has a base exactly where the write has one
abbrev pub HasBaseOf : Option ℕ → Option Front → Type 0
HasBaseOf None None = Unit {0}
HasBaseOf None (Some f) = ⊥
HasBaseOf (Some id) None = ⊥
HasBaseOf (Some id) (Some f) = Unit {0}

-- An entry stands for a write: it is acknowledged exactly where the write counts among those that are kept, and stands on as many
-- others.
pub record IsEntryOf (sys : System) (state : Machine) (entry : Entry) (write : Write) : Type 0 where
  pub node : entry.node ≡ write.node
  pub acknowledged : entry.acknowledged ≡ is_counted kept write.stage
  pub holds : HoldsWhatIsWritten sys state write.node entry.written write.written
  pub base : HasBaseOf entry.base write.base
  pub depth : entry.depth ≡ write.depth

-- one entry stands for each write, in order
abbrev pub AreEntriesOf : System → Machine → List Entry → List Write → Type 0
AreEntriesOf sys state entries writes = AllZip (IsEntryOf sys state) entries writes

-- the writes of a state that were not collected, in order of asking
abbrev pub uncollected : Machine → List Write
uncollected state = filter not_collected state.writes

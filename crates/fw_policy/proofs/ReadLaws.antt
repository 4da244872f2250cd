-- Entries that stand for writes are read as these.
use Rattle.std.proofs.Common.{◌≡◌, inl, inr, Some, ℕ, List, [], ◌∷◌, sym, ap}
use Rattle.fw_flow.specs.declared.event.Event.{Event as Happened}
use Rattle.fw_flow.specs.declared.event.Event.TheVariants as happened
use Rattle.fw_flow.specs.Dataflow.{System, Dataflow}
use Rattle.fw_flow.specs.NodeFunction.{event_stamp}
use Rattle.fw_model.specs.Machine.{Machine, SerialEvent, Write, checkpoint, logged_event, Written as WrittenBy}
use Rattle.fw_record.specs.declared.record.Event.{Event}
use Rattle.fw_record.specs.declared.record.Event.TheVariants.{Deliver, Notify}
use Rattle.fw_record.specs.Event.{stamp_of_event}
use Rattle.fw_keep.specs.declared.entry.Entry.{Entry}
use Rattle.fw_keep.specs.declared.entry.Written.{Written}
use Rattle.fw_keep.specs.declared.entry.Written.TheVariants as written
use Rattle.fw_policy.specs.Entries.{HasEventTold, HoldsWhatIsWritten, AreEntriesOf, told_of}
use Rattle.fw_policy.specs.View.{HasEventAt, ReadsAsWrite, AreReadAs}

-- an event is told with its stamp
pub told-stamp : (v : Happened) (event : Event) → told_of v ≡ Some event → stamp_of_event event ≡ event_stamp v
told-stamp (happened.Inject s x) event k = absurd cc
told-stamp (happened.Deliver e m) event k = let c : Deliver e m.at m.rec ≡ event = cc in ap stamp_of_event (sym c)
told-stamp (happened.Notify p t) event k = let c : Notify t ≡ event = cc in ap stamp_of_event (sym c)

event-told : (flow : Dataflow) (p s : ℕ) (event : Event) (h : List SerialEvent) → HasEventTold flow p s event h → HasEventAt flow p s (stamp_of_event event) h
event-told flow p s event [] a = absurd a
event-told flow p s event (v ∷ h) (inl a) = inl (record { same_serial = a.same_serial; node = a.node; stamp = sym (told-stamp v.event event a.told) })
event-told flow p s event (v ∷ h) (inr a) = inr (event-told flow p s event h a)

held-read : (sys : System) (state : Machine) (p : ℕ) (w : Written) (v : WrittenBy) → HoldsWhatIsWritten sys state p w v → ReadsAsWrite sys state p w v
held-read sys state p (written.Checkpoint r stamps sent) (checkpoint f low) h = h.recorded
held-read sys state p (written.Checkpoint r stamps sent) (logged_event s) h = absurd h
held-read sys state p (written.Event event) (checkpoint f low) h = absurd h
held-read sys state p (written.Event event) (logged_event s) h = event-told sys.flow p s event state.history h

pub entries-read : (sys : System) (state : Machine) (entries : List Entry) (writes : List Write) → AreEntriesOf sys state entries writes → AreReadAs sys state entries writes
entries-read sys state [] [] a = tt
entries-read sys state [] (write ∷ writes) a = absurd a
entries-read sys state (entry ∷ entries) [] a = absurd a
entries-read sys state (entry ∷ entries) (write ∷ writes) a = (
  record { node = (a.0).node; acknowledged = (a.0).acknowledged; holds = held-read sys state write.node entry.written write.written (a.0).holds },
  entries-read sys state entries writes a.1,
)

-- Events as a store keeps them.
use Rattle.std.specs.Prelude.{List, [], ◌∷◌, ◌++◌}
use Rattle.fw_time.specs.Stamp.{Stamp}
use Rattle.fw_flow.specs.declared.event.Event.{Event as Happened}
use Rattle.fw_flow.specs.declared.event.Event.TheVariants as happened
use Rattle.fw_record.specs.declared.record.Event.{Event}
use Rattle.fw_record.specs.declared.record.Event.TheVariants.{Deliver, Notify}
use Rattle.fw_record.specs.declared.record.Record.{Record}
use Rattle.fw_record.specs.declared.record.Record.TheVariants as tagged

-- the stamp at which an event happened
abbrev pub stamp_of_event : Event → Stamp
stamp_of_event (Deliver edge at rec) = at
stamp_of_event (Notify at) = at

-- the event of which a record is, if it is one of an event
abbrev pub event_of : Record → List Event
event_of (tagged.State c) = []
event_of (tagged.Event p event) = event ∷ []
event_of (tagged.Changes base c) = []

-- the events as they are logged, the earliest first, where these are the events, the latest first; injections are not logged
abbrev pub logged_events : List Happened → List Event
logged_events [] = []
logged_events (happened.Inject s x ∷ before) = logged_events before
logged_events (happened.Deliver e m ∷ before) = logged_events before ++ Deliver e m.at m.rec ∷ []
logged_events (happened.Notify p t ∷ before) = logged_events before ++ Notify t ∷ []

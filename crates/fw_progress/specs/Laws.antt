-- Laws of what is counted and traced, of which histories it is; and of how nodes settle in turn.
use Rattle.std.specs.Prelude.{◌≡◌, ℕ, ◌+◌, ◌<◌, ◌≤◌, ◌&&◌, Bool, true, false, List, [], ◌∷◌, length, map, slice_index_or, slice_set, Some, None}
use Rattle.std.specs.List.{Contains, flat_map}
use Rattle.fw_time.specs.Stamp.{Stamp}
use Rattle.fw_frontier.specs.Front.{Front}
use Rattle.fw_frontier.specs.Frontier.{Frontier}
use Rattle.fw_flow.specs.declared.event.Event.{Event}
use Rattle.fw_flow.specs.declared.event.Event.TheVariants.{Deliver, Notify}
use Rattle.fw_flow.specs.declared.event.Message.{Message}
use Rattle.fw_flow.specs.declared.kind.Kind.TheVariants.{Input}
use Rattle.fw_flow.specs.Dataflow.{Dataflow, System, kind_of, sender, receiver, node_frontier, HasEpochs}
use Rattle.fw_flow.specs.NodeFunction.{event_node, event_stamp}
use Rattle.fw_flow.specs.Projection.{events_at}
use Rattle.fw_flow.specs.WellFormed.{IsWellFormed}
use Rattle.fw_model.specs.Covers.{stamp_of_notice}
use Rattle.fw_model.specs.EventStamps.{causes_in, tells_sent}
use Rattle.fw_model.specs.Filtering.{AreFrontiers, kept_events}
use Rattle.fw_model.specs.History.{delivered_messages, sent_messages, is_owed_notice, IsComplete, IsLegal}
use Rattle.fw_model.specs.Machine.{Machine, events, family_of, AreCanonical}
use Rattle.fw_model.specs.Steps.{GrowsTo}
use Rattle.fw_progress.specs.declared.traces.Traces.{Traces}
use Rattle.fw_progress.specs.Settle.{is_growing, AreGrownBefore, IsGrownAt, SettlesMore, NoneGrows}
use Rattle.fw_progress.specs.Trace.{stamps_where_sent, counts_sent, IsTraceIf, IsTraceAmong, HasOutside, HasTraceOutside, KeepsLists, AreCutTo, HasDeliveredMore, HasNotifiedMore, HasSentMore}

-- the traces of a node are those of each history in which it has the same events
abbrev pub TracesAreOfTheNode : Type 0
TracesAreOfTheNode = (whole : Bool) (sys : System) (h k : List Event) (p : ℕ) (base : Frontier) (traces : Traces) → events_at sys.flow p k ≡ events_at sys.flow p h
    → IsTraceIf whole sys h p base traces → IsTraceIf whole sys k p base traces

-- What is known of a node's traces is known after a cut of it, of the events that each node keeps; and what they have of some events
-- outside a base, they have of those that are kept.
abbrev pub KnownStaysInsideCuts : Type 0
KnownStaysInsideCuts = (flow : Dataflow) (p : ℕ) (f : Front) (old new : Traces) → IsWellFormed flow → AreCutTo flow p f old new
    → (sys : System) (h : List Event) (keep : ℕ → Frontier) → sys.flow ≡ flow → HasEpochs sys → IsLegal sys h
    → AreFrontiers flow keep → keep p ≡ node_frontier flow p f → IsTraceAmong sys h p old
    → IsTraceAmong sys (kept_events flow keep h) p new
    × ((these : List Event) (base : Frontier) → HasTraceOutside flow these p base old → HasTraceOutside flow (kept_events flow keep these) p base new)

-- what is known of a node's traces stays known where its lists are what they were
abbrev pub KnownStaysWithLists : Type 0
KnownStaysWithLists = (flow : Dataflow) (p : ℕ) (old new : Traces) → KeepsLists flow p old new
    → ((sys : System) (h : List Event) → sys.flow ≡ flow → IsTraceAmong sys h p old → IsTraceAmong sys h p new)
    × ((these : List Event) (base : Frontier) → HasTraceOutside flow these p base old → HasTraceOutside flow these p base new)

-- where all of a node's events are known outside a base, and neither where it sent is asked nor how much, what is known is its trace
abbrev pub KnownIsTheTrace : Type 0
KnownIsTheTrace = (sys : System) (h these : List Event) (p : ℕ) (base : Frontier) (traces : Traces)
    → events_at sys.flow p these ≡ events_at sys.flow p h → tells_sent sys.flow p ≡ false → counts_sent sys.flow p ≡ false
    → IsTraceAmong sys h p traces → HasTraceOutside sys.flow these p base traces → IsTraceIf false sys h p base traces

-- In a legal history, where what is kept of an input is of what happened, and has of each out-edge each stamp outside a base at which it
-- sent there, it is its trace.
abbrev pub InputsAreKnown : Type 0
InputsAreKnown = (sys : System) (h : List Event) (p : ℕ) (base : Frontier) (traces : Traces) → IsWellFormed sys.flow → IsLegal sys h
    → p < length sys.flow.nodes → kind_of sys.flow p ≡ Input → IsTraceAmong sys h p traces
    → ((e : ℕ) → e < length sys.flow.edges → sender sys.flow e ≡ p → HasOutside base (causes_in (sent_messages sys h e)) (stamps_where_sent traces e))
    → IsTraceIf false sys h p base traces

-- Traces of no event are of each history. Where they are told of an event of a history, what is known of them is of that history, and they have of some events with this
-- one what they had of these; where they are not, they have it too, if it is inside the base.
pub record ToldIsKnown : Type 0 where
  pub none : (sys : System) (p : ℕ) (traces : Traces) → ((base : Frontier) → IsTraceIf false sys [] p base traces) → (h : List Event) → IsTraceAmong sys h p traces
  pub delivered : (e : ℕ) (m : Message) (old new : Traces) → HasDeliveredMore e m.at old new → (sys : System) (p : ℕ)
      → ((h : List Event) → (receiver sys.flow e ≡ p → Contains (map (λ (z : Message). z.at) (delivered_messages h e)) m.at)
      → IsTraceAmong sys h p old → IsTraceAmong sys h p new)
      × ((these : List Event) (base : Frontier) → HasTraceOutside sys.flow these p base old → HasTraceOutside sys.flow (Deliver e m ∷ these) p base new)
  pub notified : (q : ℕ) (t : Stamp) (old new : Traces) → HasNotifiedMore q t old new → (sys : System) (p : ℕ)
      → ((h : List Event) → (q ≡ p → Contains (flat_map (stamp_of_notice p) h) t) → IsTraceAmong sys h p old → IsTraceAmong sys h p new)
      × ((these : List Event) (base : Frontier) → HasTraceOutside sys.flow these p base old → HasTraceOutside sys.flow (Notify q t ∷ these) p base new)
  pub sent : (e : ℕ) (t : Stamp) (old new : Traces) → HasSentMore e t old new → (sys : System) (p : ℕ)
      → ((h : List Event) → (sender sys.flow e ≡ p → Contains (causes_in (sent_messages sys h e)) t) → IsTraceAmong sys h p old → IsTraceAmong sys h p new)
      × ((these : List Event) (base : Frontier) → HasTraceOutside sys.flow these p base old → HasTraceOutside sys.flow these p base new)
      × ((stamps : List Stamp) (base : Frontier) → HasOutside base stamps (stamps_where_sent old e) → HasOutside base (t ∷ stamps) (stamps_where_sent new e))
  pub passes : (flow : Dataflow) (v : Event) (these : List Event) (p : ℕ) (base : Frontier) (traces : Traces)
      → (event_node flow v ≡ p → base (event_stamp v) ≡ true) → HasTraceOutside flow these p base traces → HasTraceOutside flow (v ∷ these) p base traces

-- what a node is owed of the events that each node keeps is what it was owed, at the stamps that it keeps
abbrev pub OwedStaysInsideCuts : Type 0
OwedStaysInsideCuts = (sys : System) (h : List Event) (keep : ℕ → Frontier) (p : ℕ) (t : Stamp)
    → is_owed_notice sys (kept_events sys.flow keep h) p t ≡ (keep p t && is_owed_notice sys h p t)

-- before the first node none settled
abbrev pub NoneSettledAtFirst : Type 0
NoneSettledAtFirst = (flow : Dataflow) (failed : List Bool) (old kept : List Front) → AreGrownBefore flow failed old kept old 0

-- where none from one place up to a later one is to settle, as much is settled before the later one
abbrev pub OthersSettleNothing : Type 0
OthersSettleNothing = (flow : Dataflow) (failed : List Bool) (old kept new : List Front) (place later : ℕ) → place ≤ later → NoneGrows failed old kept place later
    → AreGrownBefore flow failed old kept new place → AreGrownBefore flow failed old kept new later

-- the next node that is to settle settles what it then settles alone
abbrev pub OneMoreSettles : Type 0
OneMoreSettles = (flow : Dataflow) (failed : List Bool) (old kept new : List Front) (place p : ℕ) (both : Front)
    → place ≤ p → p < length old → NoneGrows failed old kept place p → slice_index_or failed p false ≡ false → IsGrownAt flow new kept p (Some both)
    → AreGrownBefore flow failed old kept new place → AreGrownBefore flow failed old kept (slice_set new p both) (p + 1)

-- Once each node that was to settle did so, one after the other, settled grew to what is complete, if there was such a node. If there
-- was none, no more is complete than settled.
abbrev pub SettledInTurnIsSettled : Type 0
SettledInTurnIsSettled = (sys : System) (state : Machine) (failed : List Bool) (old kept new : List Front)
    → failed ≡ state.failed → old ≡ state.settled → length failed ≡ length sys.flow.nodes → length old ≡ length sys.flow.nodes
    → AreCanonical sys.flow old → AreCanonical sys.flow kept → IsComplete sys (events state.history) (family_of sys.flow kept)
    → AreGrownBefore sys.flow failed old kept new (length sys.flow.nodes)
    → ((p : ℕ) → p < length sys.flow.nodes → is_growing failed old kept p ≡ true → GrowsTo sys state (family_of sys.flow kept) new)
    × (NoneGrows failed old kept 0 (length sys.flow.nodes) → SettlesMore sys state None)

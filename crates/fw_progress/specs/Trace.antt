-- When traces stand for the events of a node.
use Rattle.std.specs.Prelude.{◌&&◌, ◌≡◌, ◌≢◌, ℕ, ◌<◌, Bool, true, false, List, [], ◌∷◌, ◌++◌, length, map, slice_index_or}
use Rattle.std.specs.List.{AllByRecursion, Contains, flat_map}
use Rattle.fw_time.specs.Stamp.{Stamp}
use Rattle.fw_bag.specs.declared.rec.Rec.{Rec}
use Rattle.fw_frontier.specs.Frontier.{Frontier, Within}
use Rattle.fw_frontier.specs.Front.{Front}
use Rattle.fw_flow.specs.declared.choice.Stamps.{Stamps}
use Rattle.fw_flow.specs.declared.event.Event.{Event}
use Rattle.fw_flow.specs.declared.event.Message.{Message}
use Rattle.fw_flow.specs.Dataflow.{System, Dataflow, kind_of, policy_of, sender, receiver, node_frontier, HasEpochs}
use Rattle.fw_flow.specs.NodeFunction.{event_stamp, sent_by}
use Rattle.fw_flow.specs.Projection.{events_at}
use Rattle.fw_model.specs.Sending.{is_single_kind}
use Rattle.fw_model.specs.Covers.{stamp_of_notice}
use Rattle.fw_model.specs.Alike.{StandForCauses}
use Rattle.fw_model.specs.EventStamps.{causes_in, base_of_sent, tells_sent, AreStampsIf}
use Rattle.fw_model.specs.Filtering.{AreFrontiers, kept_events}
use Rattle.fw_model.specs.History.{delivered_messages, sent_messages, AreEventsInDomain, IsLegal}
use Rattle.fw_model.specs.Thinned.{IsThinned, IsThinnedIf}
use Rattle.fw_model.specs.Writes.{takes_checkpoints}
use Rattle.fw_progress.specs.declared.sent_tally.SentTally.{SentTally}
use Rattle.fw_progress.specs.declared.traces.Traces.{Traces}
use Rattle.fw_progress.specs.History.{AreSameRecs, recs_sent}
use Rattle.fw_progress.specs.Progress.{ChangesAt, stamps_on}
use Rattle.fw_progress.specs.SentTally.{IsSentTally, CountsMore, IsCountedInAll, IsTallyCutTo}
use Rattle.fw_progress.specs.Traces.{ChangesInto, ChangesOut, ChangesEachOut, HasAdded, IsThinnedBy, StandsInside}

-- the stamps that are kept of what was delivered on an edge
abbrev pub delivered_on : Traces → ℕ → List Stamp
delivered_on traces d = slice_index_or traces.delivered.items d []

-- those of which a node was notified
abbrev pub stamps_notified : Traces → ℕ → List Stamp
stamps_notified traces p = slice_index_or traces.notified.items p []

-- those at which events of its sender sent something on an edge
abbrev pub stamps_where_sent : Traces → ℕ → List Stamp
stamps_where_sent traces e = slice_index_or traces.sent.items e []

-- a tally of nothing
abbrev pub no_tally : SentTally
no_tally = record { inside = 0; outside = [] }

-- how many messages a node sent
abbrev pub counted_of : Traces → ℕ → SentTally
counted_of traces p = slice_index_or traces.counted.items p no_tally

-- whether it is counted how many messages a node sent: where it takes checkpoints, which tell it
abbrev pub counts_sent : Dataflow → ℕ → Bool
counts_sent flow p = takes_checkpoints (policy_of flow p)

-- There is a list for each edge and node.
pub record HaveLists (flow : Dataflow) (traces : Traces) : Type 0 where
  pub delivered_each : length traces.delivered.items ≡ length flow.edges
  pub notified_each : length traces.notified.items ≡ length flow.nodes
  pub sent_each : length traces.sent.items ≡ length flow.edges
  pub counted_each : length traces.counted.items ≡ length flow.nodes

-- the same, unless memory was refused
abbrev pub AreTraces : Dataflow → Traces → Type 0
AreTraces flow traces = traces.refused ≡ false → HaveLists flow traces

-- The traces of node p are those of its events in a history, thinned inside a base: where something was delivered on its in-edges,
-- of what it was notified, where its events sent something on its out-edges, and how many messages they sent. Where perhaps
-- not the whole is asked, of the stamps inside the base some may be missing. Where a node sent that can send it again need not be told.
pub record IsTraceIf (whole : Bool) (sys : System) (h : List Event) (p : ℕ) (base : Frontier) (traces : Traces) : Type 0 where
  pub delivered : (d : ℕ) → d < length sys.flow.edges → receiver sys.flow d ≡ p
      → IsThinnedIf whole base (map (λ (m : Message). m.at) (delivered_messages h d)) (delivered_on traces d)
  pub notified : IsThinnedIf whole base (flat_map (stamp_of_notice p) h) (stamps_notified traces p)
  pub sent : (e : ℕ) → e < length sys.flow.edges → sender sys.flow e ≡ p → is_single_kind (kind_of sys.flow p) ≡ true
      → StandForCauses sys.flow p (whole && tells_sent sys.flow p) (base_of_sent sys.flow p base) (causes_in (sent_messages sys h e)) (stamps_where_sent traces e)
  pub counted : counts_sent sys.flow p ≡ true → IsSentTally base (sent_by sys p (events_at sys.flow p h)) (counted_of traces p)

-- the same, where the whole is asked of a node that takes checkpoints
abbrev pub IsTraceOf : System → List Event → ℕ → Frontier → Traces → Type 0
IsTraceOf sys h p base traces = IsTraceIf (takes_checkpoints (policy_of sys.flow p)) sys h p base traces

-- What is kept of node p's traces is of its events in a history; any of it may be missing.
pub record IsTraceAmong (sys : System) (h : List Event) (p : ℕ) (traces : Traces) : Type 0 where
  pub delivered : (d : ℕ) → d < length sys.flow.edges → receiver sys.flow d ≡ p
      → AllByRecursion (Contains (map (λ (m : Message). m.at) (delivered_messages h d))) (delivered_on traces d)
  pub notified : AllByRecursion (Contains (flat_map (stamp_of_notice p) h)) (stamps_notified traces p)
  pub sent : (e : ℕ) → e < length sys.flow.edges → sender sys.flow e ≡ p → is_single_kind (kind_of sys.flow p) ≡ true
      → AllByRecursion (Contains (causes_in (sent_messages sys h e))) (stamps_where_sent traces e)

-- the stamps outside a base are among these
abbrev pub HasOutside : Frontier → List Stamp → List Stamp → Type 0
HasOutside base stamps kept = AllByRecursion (λ t. base t ≡ false → Contains kept t) stamps

-- The traces of node p have what was delivered in these events, and of what it was notified, outside a base.
pub record HasTraceOutside (flow : Dataflow) (these : List Event) (p : ℕ) (base : Frontier) (traces : Traces) : Type 0 where
  pub delivered : (d : ℕ) → d < length flow.edges → receiver flow d ≡ p
      → HasOutside base (map (λ (m : Message). m.at) (delivered_messages these d)) (delivered_on traces d)
  pub notified : HasOutside base (flat_map (stamp_of_notice p) these) (stamps_notified traces p)

-- the traces of each node are so, thinned inside its base
abbrev pub AreTracesOf : System → List Event → (ℕ → Frontier) → Traces → Type 0
AreTracesOf sys h bases traces = (p : ℕ) → p < length sys.flow.nodes → IsTraceOf sys h p (bases p) traces

-- Those of node p are so, thinned inside a base that a frontier holds.
pub record IsTraceWithin (whole : Bool) (sys : System) (h : List Event) (p : ℕ) (f : Front) (traces : Traces) : Type 0 where
  pub base : Frontier
  pub within : Within base (node_frontier sys.flow p f)
  pub trace : IsTraceIf whole sys h p base traces

-- Of the other nodes the traces are what they were.
abbrev pub KeepsOthers : Dataflow → ℕ → Traces → Traces → Type 0
KeepsOthers flow p old new =
    (whole : Bool) (sys : System) (h : List Event) → sys.flow ≡ flow → (q : ℕ) → q ≢ p → (base : Frontier)
    → IsTraceIf whole sys h q base old → IsTraceIf whole sys h q base new

-- Of node p the lists of stamps are what they were.
pub record KeepsLists (flow : Dataflow) (p : ℕ) (old new : Traces) : Type 0 where
  pub delivered : (d : ℕ) → receiver flow d ≡ p → delivered_on new d ≡ delivered_on old d
  pub notified : stamps_notified new p ≡ stamps_notified old p
  pub sent : (e : ℕ) → sender flow e ≡ p → stamps_where_sent new e ≡ stamps_where_sent old e

-- traces follow an event at which its node sends these recs: they are those of the history that goes on with the event, where
-- they were those of the history before
abbrev pub TracesFollow : Dataflow → Event → List (Stamp × Rec) → Traces → Traces → Type 0
TracesFollow flow v sent old new =
    (whole : Bool) (sys : System) (h : List Event) → sys.flow ≡ flow → AreSameRecs (recs_sent sys h v) sent → (p : ℕ) (base : Frontier)
    → IsTraceIf whole sys h p base old → IsTraceIf whole sys (v ∷ h) p base new

-- The lists of node p are changed so, and those of the others are as they were.
pub record HaveChanged (flow : Dataflow) (p : ℕ) (R : List Stamp → List Stamp → Type 0) (T : SentTally → SentTally → Type 0) (old new : Traces) : Type 0 where
  pub delivered : ChangesInto flow p R old.delivered.items new.delivered.items
  pub notified : ChangesAt p [] R old.notified.items new.notified.items
  pub sent : ChangesOut flow p R old.sent.items new.sent.items
  pub counted : ChangesAt p no_tally T old.counted.items new.counted.items

-- the stamps that are kept of node p are thinned inside a frontier, and its messages inside are counted in all
abbrev pub AreThinnedAt : Dataflow → ℕ → Front → Traces → Traces → Type 0
AreThinnedAt flow p f old new = HaveChanged flow p (IsThinnedBy f) (IsCountedInAll f) old new

-- A larger base: the traces of node p are those of its events, thinned inside the frontier.
pub record AreSettledTo (flow : Dataflow) (p : ℕ) (f : Front) (old new : Traces) : Type 0 where
  pub here : (whole : Bool) (sys : System) (h : List Event) → sys.flow ≡ flow → AreEventsInDomain flow h p → IsTraceWithin whole sys h p f old
      → IsTraceIf whole sys h p (node_frontier flow p f) new
  pub others : KeepsOthers flow p old new

-- A cut to a frontier that holds the base: the lists of node p stand for what was inside, and its traces are those of its events in a
-- history of which each node keeps the events inside a frontier, node p those inside this one.
pub record AreCutTo (flow : Dataflow) (p : ℕ) (f : Front) (old new : Traces) : Type 0 where
  pub here : (whole : Bool) (sys : System) (h : List Event) (keep : ℕ → Frontier) → sys.flow ≡ flow → HasEpochs sys → IsLegal sys h
      → AreFrontiers flow keep → keep p ≡ node_frontier flow p f → (base : Frontier) → Within base (node_frontier flow p f)
      → IsTraceIf whole sys h p base old → IsTraceIf whole sys (kept_events flow keep h) p base new
  pub lists : HaveChanged flow p (StandsInside f) (IsTallyCutTo f) old new
  pub apart : (q : ℕ) → q ≢ p → KeepsLists flow q old new
  pub others : KeepsOthers flow p old new

-- each event of node p is at a stamp inside
abbrev pub AreEventsInside : Dataflow → List Event → ℕ → Frontier → Type 0
AreEventsInside flow h p f = AllByRecursion (λ v. f (event_stamp v) ≡ true) (events_at flow p h)

-- The traces of node p are those of each history for whose events these stamps stand, thinned inside a base that has all of them, and
-- by which it sent so many messages.
pub record AreRestoredTo (flow : Dataflow) (p : ℕ) (stamps : Stamps) (count : ℕ) (old new : Traces) : Type 0 where
  pub here : (whole : Bool) (sys : System) (h : List Event) (base : Frontier) → sys.flow ≡ flow → AreStampsIf whole sys h p base stamps
      → count ≡ length (sent_by sys p (events_at sys.flow p h)) → AreEventsInside sys.flow h p base → IsTraceIf whole sys h p base new
  pub apart : (q : ℕ) → q ≢ p → KeepsLists flow q old new
  pub others : KeepsOthers flow p old new

-- One stamp more is kept of what was delivered on edge e.
pub record HasDeliveredMore (e : ℕ) (at : Stamp) (old new : Traces) : Type 0 where
  pub delivered : ChangesAt e [] (HasAdded at) old.delivered.items new.delivered.items
  pub notified : new.notified.items ≡ old.notified.items
  pub sent : new.sent.items ≡ old.sent.items
  pub counted : new.counted.items ≡ old.counted.items

-- One stamp more is kept of those of which node p was notified.
pub record HasNotifiedMore (p : ℕ) (at : Stamp) (old new : Traces) : Type 0 where
  pub delivered : new.delivered.items ≡ old.delivered.items
  pub notified : ChangesAt p [] (HasAdded at) old.notified.items new.notified.items
  pub sent : new.sent.items ≡ old.sent.items
  pub counted : new.counted.items ≡ old.counted.items

-- One stamp more is kept of those at which something was sent on edge e.
pub record HasSentMore (e : ℕ) (at : Stamp) (old new : Traces) : Type 0 where
  pub delivered : new.delivered.items ≡ old.delivered.items
  pub notified : new.notified.items ≡ old.notified.items
  pub sent : ChangesAt e [] (HasAdded at) old.sent.items new.sent.items
  pub counted : new.counted.items ≡ old.counted.items

-- ---- for the proofs

-- what stood for a list of stamps stands for it with so many more, all the same one
abbrev pub StandForManyMore : Stamp → ℕ → List Stamp → List Stamp → Type 0
StandForManyMore at count old new =
    (base : Frontier) (all more : List Stamp) → length more ≡ count → AllByRecursion (λ s. s ≡ at) more → IsThinned base all old
    → IsThinned base (more ++ all) new

-- the same of the stamps at which node p sends, if it is of a single kind
abbrev pub SentMore : Dataflow → ℕ → Stamp → ℕ → List Stamp → List Stamp → Type 0
SentMore flow p at count old new = is_single_kind (kind_of flow p) ≡ true → StandForManyMore at count old new

-- so many messages are counted more, where they are counted
abbrev pub CountedMore : Dataflow → ℕ → Stamp → ℕ → SentTally → SentTally → Type 0
CountedMore flow p at count old new = counts_sent flow p ≡ true → CountsMore at count old new

-- An event of node p at a stamp sends these recs: on each of its out-edges those that the edge carries.
pub record HasSent (flow : Dataflow) (p : ℕ) (at : Stamp) (recs : List (Stamp × Rec)) (old new : Traces) : Type 0 where
  pub sent : ChangesEachOut flow p (λ e. SentMore flow p at (length (stamps_on flow e recs))) old.sent.items new.sent.items
  pub counted : ChangesAt p no_tally (CountedMore flow p at (length recs)) old.counted.items new.counted.items

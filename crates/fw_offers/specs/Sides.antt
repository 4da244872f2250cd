-- What a side is by what a node offers: in a record, and in a cut that is left.
use Rattle.std.specs.Prelude.{◌≡◌, ℕ, Bool, true, false, ◌&&◌, ◌==◌, if◌then◌else◌, List, [], ◌∷◌, Option, Some, None}
use Rattle.fw_time.specs.declared.stamp.Bounds.{Bounds}
use Rattle.fw_frontier.specs.Frontier.{Frontier, Within, nothing}
use Rattle.fw_frontier.specs.Front.{Front, frontier_of}
use Rattle.fw_flow.specs.declared.choice.Counted.{Counted}
use Rattle.fw_flow.specs.declared.choice.Cut.{Cut}
use Rattle.fw_flow.specs.declared.choice.OfEdge.{OfEdge}
use Rattle.fw_flow.specs.declared.choice.Recorded.{Recorded}
use Rattle.fw_flow.specs.declared.choice.Offer.{Offer}
use Rattle.fw_flow.specs.declared.choice.Offered.{Offered}
use Rattle.fw_flow.specs.declared.choice.Offered.TheVariants as form
use Rattle.fw_flow.specs.declared.restoring.Restoring.TheVariants.{Checkpoints}
use Rattle.fw_flow.specs.declared.side.Side.{Side}
use Rattle.fw_flow.specs.declared.side.Side.TheVariants.{Delivered, Discarded, Notified}
use Rattle.fw_flow.specs.Dataflow.{Dataflow}
use Rattle.fw_flow.specs.Projection.{all_inside}
use Rattle.fw_flow.specs.Restoring.{way_of}
use Rattle.fw_model.specs.Choice.{IsCutWithin}
use Rattle.fw_model.specs.Inclusions.{owner, side_bounds, left_of}
use Rattle.fw_model.specs.Offers.{IsOffered, records_of, record_at, recorded_delivered, recorded_discarded, recorded_notified, covers_of}

-- whether all is offered on top of a source's batches
abbrev pub has_all : Offered → Bool
has_all (form.Listed records) = false
has_all (form.Between least greatest) = false
has_all (form.Batches least greatest exhausted) = exhausted

-- the frontier that is listed for an edge
abbrev pub front_on_edge : ℕ → List OfEdge → Option Front
front_on_edge e [] = None
front_on_edge e (x ∷ xs) = if x.edge == e then Some x.front else front_on_edge e xs

-- what a record lists of a side
abbrev pub recorded_front : Side → Recorded → Option Front
recorded_front (Delivered d) r = front_on_edge d r.delivered
recorded_front (Discarded e) r = front_on_edge e r.discarded
recorded_front (Notified p) r = Some r.notified

-- the frontier, without stamps where there is none
abbrev pub front_or_nothing : Bounds → Option Front → Frontier
front_or_nothing bounds None = nothing
front_or_nothing bounds (Some f) = frontier_of bounds f

-- what a record holds of a side
abbrev pub recorded_left : Bounds → Side → Option Recorded → Frontier
recorded_left bounds (Delivered d) r = recorded_delivered bounds d r
recorded_left bounds (Discarded e) r = recorded_discarded bounds e r
recorded_left bounds (Notified p) r = recorded_notified bounds r

-- the record is the first one of the frontier, if the node is restored by its records
abbrev pub IsRecordAt : Dataflow → List Offer → ℕ → Front → Option Recorded → Type 0
IsRecordAt flow offers p f r = way_of flow p ≡ Checkpoints → r ≡ record_at f (records_of offers p)

-- a cut is offered, lies within another, and its side lies within a frontier
pub record IsLeft (flow : Dataflow) (offers : List Offer) (side : Side) (cut : Cut) (bound : Front) (x : Cut) : Type 0 where
  pub offered : IsOffered flow offers (owner flow side) x
  pub within : IsCutWithin flow (owner flow side) x cut
  pub passes : Within (left_of (covers_of flow offers) side x) (frontier_of (side_bounds flow side) bound)

-- if the message is on the edge, and all its causes are inside a frontier of the sender, then it is inside a bound
abbrev pub SentPasses : Bounds → Bounds → ℕ → Front → Front → Counted → Type 0
SentPasses from to e bound f m = (m.edge == e && all_inside (frontier_of from f) m.causes) ≡ true → frontier_of to bound m.at ≡ true

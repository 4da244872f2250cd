-- What a node offers to a recovery, by what is known of it and by the entries alone.
use Rattle.std.specs.Prelude.{◌≡◌, ℕ, suc, not, ◌&&◌, ◌==◌, if◌then◌else◌, List, [], ◌∷◌, ◌++◌, filter}
use Rattle.std.specs.List.{flat_map, list_any}
use Rattle.fw_time.specs.Stamp.{Stamp, leq}
use Rattle.fw_time.specs.declared.stamp.Bounds.{Bounds}
use Rattle.fw_frontier.specs.Frontier.{Frontier, meet}
use Rattle.fw_frontier.specs.Front.{Front, frontier_of, is_within, IsFrontOf}
use Rattle.fw_flow.specs.declared.choice.Offer.{Offer}
use Rattle.fw_flow.specs.declared.choice.Offered.{Offered}
use Rattle.fw_flow.specs.declared.choice.Offered.TheVariants as form
use Rattle.fw_flow.specs.declared.choice.Recorded.{Recorded}
use Rattle.fw_flow.specs.declared.restoring.Restoring.{Restoring}
use Rattle.fw_flow.specs.declared.restoring.Restoring.TheVariants.{Batches, Bound, Anything, Checkpoints, Events}
use Rattle.fw_flow.specs.Dataflow.{Dataflow, bounds_of}
use Rattle.fw_flow.specs.Restoring.{way_of}
use Rattle.fw_model.specs.Choice.{until}
use Rattle.fw_model.specs.Machine.{no_stamps}
use Rattle.fw_policy.specs.declared.view.Border.{Border}
use Rattle.fw_policy.specs.declared.view.Border.TheVariants.{Source, Output}
use Rattle.fw_record.specs.Event.{stamp_of_event}
use Rattle.fw_keep.specs.declared.entry.Entry.{Entry}
use Rattle.fw_keep.specs.Entry.{is_in_flight_of}
use Rattle.fw_policy.specs.declared.view.NodeView.{NodeView}
use Rattle.fw_keep.specs.declared.entry.Written.{Written}
use Rattle.fw_keep.specs.declared.entry.Written.TheVariants as written

-- the record that is written, if one is
abbrev pub record_in : Written → List Recorded
record_in (written.Checkpoint recorded stamps sent) = recorded ∷ []
record_in (written.Event event) = []

-- the record of an entry, if it is an acknowledged one of node p
abbrev pub record_by : ℕ → Entry → List Recorded
record_by p entry = if entry.node == p && entry.acknowledged then record_in entry.written else []

-- the records of the acknowledged entries of node p
abbrev pub records_by : ℕ → List Entry → List Recorded
records_by p entries = flat_map (record_by p) entries

-- a record of no stamps: nothing counts in it
abbrev pub empty_record : Bounds → Recorded
empty_record bounds = record { front = no_stamps bounds; notified = no_stamps bounds; delivered = []; discarded = [] }

-- those of these records that hold the low watermark
abbrev pub holding : Front → List Recorded → List Recorded
holding low rs = filter (λ r. is_within low r.front) rs

-- all from the low watermark to the frontier is offered
abbrev pub IsRange : Bounds → Front → Frontier → Offered → Type 0
IsRange bounds low f (form.Listed records) = ⊥
IsRange bounds low f (form.Between least greatest) = (least ≡ low) × IsFrontOf bounds greatest f
IsRange bounds low f (form.Batches least greatest exhausted) = ⊥

-- the stamp of the event that is written, if one is
abbrev pub stamp_of_written : Written → List Stamp
stamp_of_written (written.Checkpoint recorded stamps sent) = []
stamp_of_written (written.Event event) = stamp_of_event event ∷ []

-- the stamp of an event of node p that is not logged yet, but in flight, if the entry is one
abbrev pub unlogged_by : ℕ → Entry → List Stamp
unlogged_by p entry = if is_in_flight_of p entry then stamp_of_written entry.written else []

-- the stamps of the events of node p that are in flight, in order
abbrev pub stamps_in_flight : ℕ → List Entry → List Stamp
stamps_in_flight p entries = flat_map (unlogged_by p) entries

-- the stamps of events of node p that are not logged: those in flight, and those that were lost
abbrev pub unlogged_stamps : ℕ → List Entry → List Stamp → List Stamp
unlogged_stamps p entries lost = stamps_in_flight p entries ++ lost

-- what is inside, and at none of these stamps or above
abbrev pub below_all : List Stamp → Frontier → Frontier
below_all ss f t = f t && not (list_any (λ s. leq s t) ss)

-- what an input offers: what it injected, and all once there is no more; where the view does not tell that, no offer is one
-- of it
abbrev pub IsOfBatches : Front → Border → Offered → Type 0
IsOfBatches low (Source injected exhausted) offered = offered ≡ form.Batches low (until injected) exhausted
IsOfBatches low border offered = ⊥

-- what an output offers: what is settled and acknowledged; where the view does not tell that, no offer is one of it
abbrev pub IsOfBound : Bounds → Front → Front → Border → Offered → Type 0
IsOfBound bounds low settled (Output bound) offered =
    IsRange bounds low (meet (frontier_of bounds settled) (frontier_of bounds (until bound))) offered
IsOfBound bounds low settled border offered = ⊥

-- What node p offers, by the way in which it is restored: an input what it injected, an output what is settled and
-- acknowledged, a node that keeps nothing what is settled, one with checkpoints no stamps and what it acknowledged, and one
-- that logs its events what is settled and below no event that is not logged. All of it holds the low watermark.
abbrev pub OffersBy : Bounds → List Entry → ℕ → NodeView → Restoring → Offered → Type 0
OffersBy bounds entries p node Batches offered = IsOfBatches node.low node.border offered
OffersBy bounds entries p node Bound offered = IsOfBound bounds node.low node.settled node.border offered
OffersBy bounds entries p node Anything offered = IsRange bounds node.low (frontier_of bounds node.settled) offered
OffersBy bounds entries p node Checkpoints offered =
    offered ≡ form.Listed (holding node.low (empty_record bounds ∷ records_by p entries))
OffersBy bounds entries p node Events offered =
    IsRange bounds node.low (below_all (unlogged_stamps p entries node.lost) (frontier_of bounds node.settled)) offered

-- what node p offers, by what is known of it
pub record IsOfferBy (flow : Dataflow) (entries : List Entry) (p : ℕ) (node : NodeView) (offer : Offer) : Type 0 where
  pub present : offer.present ≡ not node.failed
  pub offered : OffersBy (bounds_of flow p) entries p node (way_of flow p) offer.offered
  pub stamps : offer.stamps ≡ node.stamps
  pub table : offer.table ≡ node.table

-- the offers are those of the nodes from p on
abbrev pub AreOffersBy : Dataflow → List Entry → ℕ → List NodeView → List Offer → Type 0
AreOffersBy flow entries p [] [] = Unit {0}
AreOffersBy flow entries p [] (offer ∷ offers) = ⊥
AreOffersBy flow entries p (node ∷ view) [] = ⊥
AreOffersBy flow entries p (node ∷ view) (offer ∷ offers) = IsOfferBy flow entries p node offer × AreOffersBy flow entries (suc p) view offers

-- For src/choices.rt: what nodes offer, as it is written there, is of the dataflow.
use Rattle.std.specs.Prelude.{◌≡◌, ℕ, ◌+◌, true, List, [], ◌∷◌}
use Rattle.std.specs.List.{AllByRecursion}
use Rattle.fw_time.specs.Stamp.{in_domain}
use Rattle.fw_flow.specs.declared.choice.Counted.{Counted}
use Rattle.fw_flow.specs.declared.choice.Offer.{Offer}
use Rattle.fw_flow.specs.declared.choice.Offered.{Offered}
use Rattle.fw_flow.specs.Dataflow.{Dataflow, receiver, bounds_of}
use Rattle.fw_model.specs.Offers.{listed_records, offered_range, HasOneCause, IsFormOf, IsRecordOf, IsRangeOf}
use Rattle.fw_flow.specs.Restoring.{way_of}

-- the frontiers are of node p
pub record IsOfferedBy (flow : Dataflow) (p : ℕ) (offered : Offered) : Type 0 where
  pub records : AllByRecursion (IsRecordOf flow p) (listed_records offered)
  pub ends : IsRangeOf (bounds_of flow p) (offered_range offered)
  pub way : IsFormOf (way_of flow p) offered

-- the message is at a stamp of its edge, and has one cause
abbrev pub IsMessageOf : Dataflow → Counted → Type 0
IsMessageOf flow m = (in_domain (bounds_of flow (receiver flow m.edge)) m.at ≡ true) × HasOneCause m

-- the offer is of node p
pub record IsOfferOf (flow : Dataflow) (p : ℕ) (offer : Offer) : Type 0 where
  pub offered : IsOfferedBy flow p offer.offered
  pub delivered : AllByRecursion (IsMessageOf flow) offer.stamps.delivered
  pub notified : AllByRecursion (λ t. in_domain (bounds_of flow p) t ≡ true) offer.stamps.notified
  pub sent : AllByRecursion (IsMessageOf flow) offer.stamps.sent

-- the offers are those of the nodes from p on
abbrev pub AreOffersFrom : Dataflow → ℕ → List Offer → Type 0
AreOffersFrom flow p [] = Unit {0}
AreOffersFrom flow p (offer ∷ offers) = IsOfferOf flow p offer × AreOffersFrom flow (p + 1) offers

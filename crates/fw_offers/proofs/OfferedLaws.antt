-- What is offered, and what is left of it, is canonical.
use Rattle.std.proofs.Common.{ℕ, List}
use Rattle.fw_flow.specs.declared.choice.Choice.{Choice}
use Rattle.fw_flow.specs.declared.choice.Cut.{Cut}
use Rattle.fw_flow.specs.declared.choice.Cut.TheVariants.{Present, At}
use Rattle.fw_flow.specs.declared.choice.Offer.{Offer}
use Rattle.fw_flow.specs.declared.side.Inclusion.{Inclusion}
use Rattle.fw_flow.specs.declared.side.Inclusion.TheVariants.{OfCut, OfNote}
use Rattle.fw_flow.specs.Dataflow.{Dataflow, bounds_of}
use Rattle.fw_model.specs.Choice.{IsCanonicalCut}
use Rattle.fw_model.specs.Inclusions.{node_of}
use Rattle.fw_model.specs.Lowerings.{IsValueLeft}
use Rattle.fw_model.specs.Offers.{IsOffered, covers_of}

-- a cut that is offered is canonical
pub offered-canonical : (flow : Dataflow) (offers : List Offer) (p : ℕ) (cut : Cut) → IsOffered flow offers p cut → IsCanonicalCut (bounds_of flow p) cut
offered-canonical flow offers p Present o = tt
offered-canonical flow offers p (At f) o = o.0

pub left-canonical : (flow : Dataflow) (offers : List Offer) (choice : Choice) (i : Inclusion) (x : Cut) → IsValueLeft flow (covers_of flow offers) (IsOffered flow offers) choice i x → IsCanonicalCut (bounds_of flow (node_of flow i)) x
left-canonical flow offers choice (OfCut side) Present l = tt
left-canonical flow offers choice (OfCut side) (At f) l = l.offered.0
left-canonical flow offers choice (OfNote limit) Present l = tt
left-canonical flow offers choice (OfNote limit) (At f) l = l.canonical

-- What a descent finds that ends where no cut is left.
use Rattle.std.specs.Prelude.{◌≡◌, ℕ, ◌<◌, ◌≤◌, List, [], ◌∷◌, ◌++◌, length}
use Rattle.std.specs.List.{AllByRecursion}
use Rattle.fw_flow.specs.declared.choice.Choice.{Choice}
use Rattle.fw_flow.specs.declared.choice.Cut.{Cut}
use Rattle.fw_flow.specs.declared.choice.Offer.{Offer}
use Rattle.fw_flow.specs.declared.side.Inclusion.{Inclusion}
use Rattle.fw_flow.specs.declared.side.Inclusion.TheVariants.{OfCut}
use Rattle.fw_flow.specs.declared.side.Side.{Side}
use Rattle.fw_flow.specs.declared.trail.Lowering.{Lowering}
use Rattle.fw_flow.specs.Dataflow.{Dataflow}
use Rattle.fw_model.specs.Certificates.{IsBeginning, IsTrailBy}
use Rattle.fw_model.specs.Choice.{IsLargestBy, cut_of}
use Rattle.fw_model.specs.Covers.{Covers}
use Rattle.fw_model.specs.Inclusions.{Holds, IsSideOfFlow, inclusions_to, node_of}
use Rattle.fw_model.specs.Lowerings.{IsCutLeft, IsFirstFailing, IsGreatestLeft, Leads, lowering_of}
use Rattle.fw_model.specs.Offers.{IsOffered, covers_of}
use Rattle.fw_monitor.specs.Descent.{EnclosesConsistent}
use Rattle.fw_monitor.specs.Tests.{IsLowering}
use Rattle.fw_monitor.specs.Worklist.{after}
use Rattle.fw_monitor.specs.declared.finding.Finding.{Finding}
use Rattle.fw_monitor.specs.declared.finding.Finding.TheVariants as found
use Rattle.fw_monitor.specs.declared.finding.Mended.{Mended}
use Rattle.fw_monitor.specs.declared.finding.Mended.TheVariants as mended

-- a choice was found: it is the largest, and this is the trail to it
pub record IsLargestFound (flow : Dataflow) (offers : List Offer) (trail : List Lowering) (choice : Choice) : Type 0 where
  pub largest : IsLargestBy flow (covers_of flow offers) (IsOffered flow offers) choice
  pub leads : IsTrailBy flow (covers_of flow offers) (IsOffered flow offers) trail choice

-- The descent ends where no cut is left: its lowerings lead from the beginning to values at which what this side says of its node's cut is
-- the first inclusion that does not hold, and no cut is left for it.
pub record IsFirstDeadEnd (flow : Dataflow) (covers : Covers) (offers : ℕ → Cut → Type 0) (trail : List Lowering) (side : Side) : Type 0 where
  pub start : Choice
  pub begins : IsBeginning flow offers start
  pub end : Choice
  pub leads : Leads flow covers offers start trail end
  pub of_flow : IsSideOfFlow flow side
  pub first : IsFirstFailing flow covers end (OfCut side)
  pub none : (x : Cut) → IsCutLeft flow covers offers end side x → ⊥

-- what is found: the largest choice; or where the descent ends without one
abbrev pub IsFound : Dataflow → List Offer → Finding → Type 0
IsFound flow offers (found.Largest descent) = IsLargestFound flow offers descent.trail descent.choice
IsFound flow offers (found.NoneLeft trail side) = IsFirstDeadEnd flow (covers_of flow offers) (IsOffered flow offers) trail side

-- ---- for the proofs of src/finding.rt

-- values within which each consistent choice lies, and each cut is offered
pub record IsOfOffers (flow : Dataflow) (offers : List Offer) (choice : Choice) : Type 0 where
  pub encloses : EnclosesConsistent flow offers choice
  pub offered : (p : ℕ) → p < length flow.nodes → IsOffered flow offers p (cut_of choice p)

-- a value was lowered to the greatest that is left, and the trail tells it
pub record IsLoweredTo (flow : Dataflow) (offers : List Offer) (i : Inclusion) (trail more : List Lowering) (old new : Choice) : Type 0 where
  pub to : Cut
  pub lowering : IsLowering flow offers i old new to
  pub greatest : IsGreatestLeft flow (covers_of flow offers) (IsOffered flow offers) old i to
  pub told : more ≡ trail ++ lowering_of flow i to ∷ []

-- no cut is left for the side
pub record IsNoneLeftFor (flow : Dataflow) (offers : List Offer) (choice : Choice) (side : Side) : Type 0 where
  pub of_flow : IsSideOfFlow flow side
  pub none : (x : Cut) → IsCutLeft flow (covers_of flow offers) (IsOffered flow offers) choice side x → ⊥

-- an inclusion holds, and all stays; or a value was lowered; or no cut is left for the side that it is of, and all stays
abbrev pub IsMended : Dataflow → List Offer → Inclusion → List Lowering → List Lowering → Choice → Choice → Mended → Type 0
IsMended flow offers i trail more old new mended.Holds = (more ≡ trail) × (new ≡ old) × Holds flow (covers_of flow offers) old i
IsMended flow offers i trail more old new mended.Lowered = IsLoweredTo flow offers i trail more old new
IsMended flow offers i trail more old new (mended.NoneLeft side) = (more ≡ trail) × (i ≡ OfCut side) × IsNoneLeftFor flow offers old side

-- the place where the inclusions of a node begin, which is no later than that of this inclusion and those of what a lowering by it can break
pub record IsBackFrom (flow : Dataflow) (i : Inclusion) (place : ℕ) : Type 0 where
  pub node : ℕ
  pub own : node ≤ node_of flow i
  pub each : AllByRecursion (λ j. node ≤ node_of flow j) (after flow i)
  pub begins : place ≡ length (inclusions_to flow node)

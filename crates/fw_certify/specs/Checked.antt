-- What a checker finds: of the beginning, of an entry, and of a certificate.
use Rattle.std.specs.Prelude.{◌≡◌, ◌⊎◌, ℕ, ◌+◌, ◌≤◌, Bool, true, false, List, [], ◌∷◌, length, take, slice_get, Some}
use Rattle.std.specs.List.{AllByRecursion}
use Rattle.fw_time.specs.Stamp.{Stamp}
use Rattle.fw_time.specs.declared.stamp.Bounds.{Bounds}
use Rattle.fw_frontier.specs.Frontier.{Within, cover}
use Rattle.fw_frontier.specs.Front.{Front, inside, frontier_of, IsCanonical, IsFrontOf}
use Rattle.fw_flow.specs.declared.choice.Choice.{Choice}
use Rattle.fw_flow.specs.declared.choice.Cut.{Cut}
use Rattle.fw_flow.specs.declared.choice.Cut.TheVariants.{Present, At}
use Rattle.fw_flow.specs.declared.choice.Offer.{Offer}
use Rattle.fw_flow.specs.declared.choice.Offered.{Offered}
use Rattle.fw_flow.specs.declared.choice.Offered.TheVariants as form
use Rattle.fw_flow.specs.declared.side.Side.{Side}
use Rattle.fw_flow.specs.declared.side.Side.TheVariants.{Delivered, Discarded, Notified}
use Rattle.fw_flow.specs.declared.side.Limit.TheVariants.{Own, Note}
use Rattle.fw_flow.specs.declared.side.Inclusion.{Inclusion}
use Rattle.fw_flow.specs.declared.side.Inclusion.TheVariants.{OfCut, OfNote}
use Rattle.fw_flow.specs.declared.trail.Cause.{Cause}
use Rattle.fw_flow.specs.declared.trail.Cause.TheVariants as cause
use Rattle.fw_flow.specs.declared.trail.Lowering.{Lowering}
use Rattle.fw_flow.specs.Dataflow.{Dataflow, bounds_of, node_frontier}
use Rattle.fw_model.specs.Choice.{IsCanonicalCut, IsCutWithin}
use Rattle.fw_model.specs.Covers.{Covers}
use Rattle.fw_model.specs.Offers.{AreOffersOf, IsOffered, IsOfferedFront, covers_of, offered_by}
use Rattle.fw_model.specs.Inclusions.{owner, side_bounds, left_of, Holds, IsSideOfFlow, inclusions}
use Rattle.fw_model.specs.Lowerings.{IsGreatestLeft, IsRightLowering, LeadRight, with_value}
use Rattle.fw_model.specs.Certificates.{IsBeginning, IsCertificate}
use Rattle.fw_offers.specs.Sides.{IsLeft}
use Rattle.fw_certify.specs.declared.checker.Verdict.{Verdict}
use Rattle.fw_certify.specs.declared.checker.Verdict.TheVariants.{Yes, No}

-- ---- the verdict

-- so many of the first lowerings are right, and the next one is not, or these are all and the end is wrong
pub record IsRightUpTo (flow : Dataflow) (covers : Covers) (offers : ℕ → Cut → Type 0) (ls : List Lowering) (choice : Choice) (at : ℕ) : Type 0 where
  pub first : at ≤ length ls
  pub start : Choice
  pub begins : IsBeginning flow offers start
  pub mid : Choice
  pub leads : LeadRight flow covers offers start (take at ls) mid
  pub wrong : (l : Lowering) (next : Choice) → slice_get ls at ≡ Some l → IsRightLowering flow covers offers mid l next → ⊥
  pub end : at ≡ length ls → (mid ≡ choice) × AllByRecursion (Holds flow covers mid) (inclusions flow) → ⊥

-- what a verdict says: yes, the lowerings are a certificate of the choice; or the first of them that is wrong, 0 where there is no beginning
abbrev pub IsVerdict : Dataflow → Covers → (ℕ → Cut → Type 0) → List Lowering → Choice → Verdict → Type 0
IsVerdict flow covers offers ls choice Yes = IsCertificate flow covers offers ls choice
IsVerdict flow covers offers ls choice (No at) =
    IsRightUpTo flow covers offers ls choice at ⊎ ((at ≡ 0) × ((start : Choice) → IsBeginning flow offers start → ⊥))

-- how many stamps a frontier has just outside
abbrev pub outside_count : Cut → ℕ
outside_count Present = 0
outside_count (At f) = length f

-- how many tests of other cuts a lowering to this one can ask for: one for each record, or one for each stamp just outside
abbrev pub other_tests : Offered → Cut → ℕ
other_tests (form.Listed records) to = length records
other_tests (form.Between least greatest) to = outside_count to
other_tests (form.Batches least greatest exhausted) to = outside_count to

-- how many tests the lowerings of a certificate can ask for, at most: each three, and those of other cuts
abbrev pub tests_of : List Offer → List Lowering → ℕ
tests_of offers [] = 0
tests_of offers (l ∷ ls) = 3 + other_tests (offered_by offers l.node) l.to + tests_of offers ls

-- ---- for the proofs of src/begin.rt

-- the frontiers that are listed, and the ends of a range, are canonical
abbrev pub AreCanonicalFronts : Bounds → Offered → Type 0
AreCanonicalFronts bounds (form.Listed records) = AllByRecursion (λ r. IsCanonical bounds r.front) records
AreCanonicalFronts bounds (form.Between least greatest) = IsCanonical bounds least × IsCanonical bounds greatest
AreCanonicalFronts bounds (form.Batches least greatest exhausted) = IsCanonical bounds least × IsCanonical bounds greatest

-- the frontier is offered, and each that is offered lies within it
pub record IsGreatestFront (bounds : Bounds) (offered : Offered) (f : Front) : Type 0 where
  pub canonical : IsCanonical bounds f
  pub is_one : IsOfferedFront bounds offered f
  pub greatest : (g : Front) → IsCanonical bounds g → IsOfferedFront bounds offered g → Within (frontier_of bounds g) (frontier_of bounds f)

-- ---- for the proofs of src/entry.rt

-- the inclusion that a cause says of a node
abbrev pub said_inclusion : ℕ → Cause → Inclusion
said_inclusion p (cause.Delivered d) = OfCut (Delivered d)
said_inclusion p (cause.Discarded e) = OfCut (Discarded e)
said_inclusion p cause.Notified = OfCut (Notified p)
said_inclusion p cause.Own = OfNote (Own p)
said_inclusion p (cause.Note d) = OfNote (Note d)

-- an entry was judged at a choice: it is right, and the next choice has it; or it is wrong
pub record IsJudged (flow : Dataflow) (offers : List Offer) (l : Lowering) (old new : Choice) (right : Bool) : Type 0 where
  pub taken : right ≡ true → IsRightLowering flow (covers_of flow offers) (IsOffered flow offers) old l new
  pub refused : right ≡ false → (next : Choice) → IsRightLowering flow (covers_of flow offers) (IsOffered flow offers) old l next → ⊥

-- a value was judged: it is the greatest that is left, and the next choice has it; or it is not
pub record IsValueJudged (flow : Dataflow) (offers : List Offer) (i : Inclusion) (to : Cut) (old new : Choice) (right : Bool) : Type 0 where
  pub taken : right ≡ true → IsGreatestLeft flow (covers_of flow offers) (IsOffered flow offers) old i to × (new ≡ with_value flow old i to)
  pub refused : right ≡ false → IsGreatestLeft flow (covers_of flow offers) (IsOffered flow offers) old i to → ⊥

-- ---- for the proofs of src/left.rt

-- a cut is to be lowered for a side: the offers and the side are of the dataflow, the cut and the bound of the side's domains
pub record IsToLower (flow : Dataflow) (offers : List Offer) (side : Side) (from : Cut) (bound : Front) : Type 0 where
  pub offers_fit : AreOffersOf flow offers
  pub there : IsSideOfFlow flow side
  pub canonical : IsCanonicalCut (bounds_of flow (owner flow side)) from
  pub bound_fits : IsCanonical (side_bounds flow side) bound

-- each frontier that is left lies within this one
abbrev pub HoldsEachLeft : Dataflow → List Offer → Side → Cut → Front → Front → Type 0
HoldsEachLeft flow offers side old bound f =
    (g : Front) → IsLeft flow offers side old bound (At g) → Within (node_frontier flow (owner flow side) g) (node_frontier flow (owner flow side) f)

-- the cut is left, and each that is left lies within it
pub record IsGreatestOfLeft (flow : Dataflow) (offers : List Offer) (side : Side) (old : Cut) (bound : Front) (x : Cut) : Type 0 where
  pub left : IsLeft flow offers side old bound x
  pub greatest : (y : Cut) → IsLeft flow offers side old bound y → IsCutWithin flow (owner flow side) y x

-- some cut is left
abbrev pub IsAnyLeft : Dataflow → List Offer → Side → Cut → Front → Type 0
IsAnyLeft flow offers side old bound = (x : Cut) × IsLeft flow offers side old bound x

-- a frontier lies within f, if it lies within the old cut and the side in it within the bound
abbrev pub IsHeld : Dataflow → List Offer → Side → Cut → Front → Front → Front → Type 0
IsHeld flow offers side old bound f g =
    IsCutWithin flow (owner flow side) (At g) old
    → Within (left_of (covers_of flow offers) side (At g)) (frontier_of (side_bounds flow side) bound)
    → Within (node_frontier flow (owner flow side) g) (node_frontier flow (owner flow side) f)

-- whether a stamp is inside a cut
abbrev pub cut_inside : Cut → Stamp → Bool
cut_inside Present t = true
cut_inside (At f) t = inside f t

-- A stamp is outside the old cut or the greatest frontier, or the side in the frontier of all stamps up to it is not within the
-- bound.
abbrev pub IsBroken : Dataflow → List Offer → Side → Cut → Front → Front → Stamp → Type 0
IsBroken flow offers side old greatest bound o =
    cut_inside old o ≡ true → inside greatest o ≡ true
    → (x : Front) → IsFrontOf (bounds_of flow (owner flow side)) x (cover (bounds_of flow (owner flow side)) (o ∷ []))
    → Within (left_of (covers_of flow offers) side (At x)) (frontier_of (side_bounds flow side) bound) → ⊥

-- ---- for the proofs of src/judge.rt and src/ends.rt

-- a frontier lies within two others, and what lies within both lies within it
pub record IsMeetOf (b : Bounds) (one other f : Front) : Type 0 where
  pub first : Within (frontier_of b f) (frontier_of b one)
  pub second : Within (frontier_of b f) (frontier_of b other)
  pub greatest : (g : Front) → IsCanonical b g → Within (frontier_of b g) (frontier_of b one) → Within (frontier_of b g) (frontier_of b other)
      → Within (frontier_of b g) (frontier_of b f)

-- the three inclusions of an edge hold
abbrev pub HoldOnEdge : Dataflow → List Offer → Choice → ℕ → Type 0
HoldOnEdge flow offers choice d =
    Holds flow (covers_of flow offers) choice (OfCut (Delivered d)) × Holds flow (covers_of flow offers) choice (OfCut (Discarded d))
    × Holds flow (covers_of flow offers) choice (OfNote (Note d))

-- the two inclusions of a node alone hold
abbrev pub HoldAtNode : Dataflow → List Offer → Choice → ℕ → Type 0
HoldAtNode flow offers choice p =
    Holds flow (covers_of flow offers) choice (OfCut (Notified p)) × Holds flow (covers_of flow offers) choice (OfNote (Own p))

-- ---- for the proofs of src/checker.rt

-- these lowerings are right from a beginning on, and lead to a choice
pub record AreRightSoFar (flow : Dataflow) (covers : Covers) (offers : ℕ → Cut → Type 0) (ls : List Lowering) (choice : Choice) : Type 0 where
  pub start : Choice
  pub begins : IsBeginning flow offers start
  pub leads : LeadRight flow covers offers start ls choice

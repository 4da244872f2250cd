-- What the commands find of what the nodes of a flow offer, and what they print.
use Rattle.std.specs.Prelude.{◌≡◌, ◌⊎◌, ℕ, ◌<◌, ◌≤◌, ◌==◌, List, [], ◌++◌, length, take, slice_get, if◌then◌else◌, Option, Some, None, codes}
use Rattle.std.specs.Fmt.{decimal}
use Rattle.fw_flow.specs.declared.choice.Choice.{Choice}
use Rattle.fw_flow.specs.declared.choice.Cut.{Cut}
use Rattle.fw_flow.specs.declared.choice.Offer.{Offer}
use Rattle.fw_flow.specs.declared.side.Side.{Side}
use Rattle.fw_flow.specs.declared.side.Side.TheVariants as side
use Rattle.fw_flow.specs.declared.side.Inclusion.TheVariants.{OfCut}
use Rattle.fw_flow.specs.declared.trail.Cause.{Cause}
use Rattle.fw_flow.specs.declared.trail.Cause.TheVariants as cause
use Rattle.fw_flow.specs.declared.trail.Lowering.{Lowering}
use Rattle.fw_flow.specs.Dataflow.{Dataflow, node_at, receiver, sender}
use Rattle.fw_model.specs.Certificates.{IsBeginning, IsCertificate, IsDeadEnd, IsTrailBy}
use Rattle.fw_model.specs.Choice.{IsConsistentBy, IsLargestBy}
use Rattle.fw_model.specs.Inclusions.{owner}
use Rattle.fw_model.specs.Lowerings.{IsRightLowering, LeadRight, cause_of}
use Rattle.fw_model.specs.Offers.{IsOffered, covers_of}
use Rattle.fw_monitor.specs.Finding.{IsFirstDeadEnd}
use Rattle.fw_certify.specs.CertificateText.{cause_text, certificate_line, certificate_text, down_lines}
use Rattle.fw_running.specs.EffectText.{cut_lines}
use Rattle.fw_offers_text.specs.declared.claim.Claim.{Claim}
use Rattle.fw_offers_text.specs.declared.claim.Ending.{Ending}
use Rattle.fw_offers_text.specs.declared.claim.Ending.TheVariants.{Largest, NoneLeft}
use Rattle.fw_choosing.specs.declared.status.ChoosingStatus.{ChoosingStatus}
use Rattle.fw_choosing.specs.declared.status.ChoosingStatus.TheVariants.{Done, NoChoice, NotShown}

-- ---- what is found

-- node p offers no cut
abbrev pub IsBare : Dataflow → List Offer → ℕ → Type 0
IsBare flow offers p = (x : Cut) → IsOffered flow offers p x → ⊥

-- no choice of what is offered is consistent
abbrev pub IsNoneConsistent : Dataflow → List Offer → Type 0
IsNoneConsistent flow offers = (choice : Choice) → IsConsistentBy flow (covers_of flow offers) (IsOffered flow offers) choice → ⊥

-- the lowerings are right, and lead to values at which no cut of the node is left for what the cause says of it
pub record IsDeadEndFor (flow : Dataflow) (offers : List Offer) (ls : List Lowering) (p : ℕ) (by : Cause) : Type 0 where
  pub side : Side
  pub node : p ≡ owner flow side
  pub cause : by ≡ cause_of (OfCut side)
  pub dead_end : IsDeadEnd flow (covers_of flow offers) (IsOffered flow offers) ls side

-- No cut of the node is left: by a cause behind these lowerings; or it offers none, and there are no lowerings.
abbrev pub IsNoneLeftAt : Dataflow → List Offer → List Lowering → ℕ → Option Cause → Type 0
IsNoneLeftAt flow offers ls p None = (ls ≡ []) × (p < length flow.nodes) × IsBare flow offers p
IsNoneLeftAt flow offers ls p (Some by) = IsDeadEndFor flow offers ls p by

-- the descent ends at the node: what this cause says of its cut is the first inclusion that does not hold behind the lowerings, and no cut
-- is left for it
pub record IsFirstDeadEndFor (flow : Dataflow) (offers : List Offer) (ls : List Lowering) (p : ℕ) (by : Cause) : Type 0 where
  pub side : Side
  pub node : p ≡ owner flow side
  pub cause : by ≡ cause_of (OfCut side)
  pub dead_end : IsFirstDeadEnd flow (covers_of flow offers) (IsOffered flow offers) ls side

-- Where no choice is found: at the end of the descent; or at the first node that offers no cut, and there are no lowerings.
abbrev pub IsNoneFoundAt : Dataflow → List Offer → List Lowering → ℕ → Option Cause → Type 0
IsNoneFoundAt flow offers ls p None = (ls ≡ []) × (p < length flow.nodes) × IsBare flow offers p × ((q : ℕ) → q < p → IsBare flow offers q → ⊥)
IsNoneFoundAt flow offers ls p (Some by) = IsFirstDeadEndFor flow offers ls p by

-- ---- what `choose` prints

-- the lines of a choice's cuts, of the lowerings that lead to it, and of their number
abbrev pub choice_text : Dataflow → List Lowering → List Cut → List ℕ
choice_text flow ls in_order = cut_lines flow in_order ++ certificate_text flow ls

-- `none NODE by CAUSE`, or `none NODE`
abbrev pub none_line : Dataflow → ℕ → Option Cause → List ℕ
none_line flow p None = codes "none " ++ (node_at flow p).name ++ codes "\n"
none_line flow p (Some by) = codes "none " ++ (node_at flow p).name ++ codes " by " ++ cause_text flow by ++ codes "\n"

-- `certificate NUMBER none`
abbrev pub none_count_line : ℕ → List ℕ
none_count_line count = codes "certificate " ++ decimal count ++ codes " none\n"

-- the lines of lowerings, that of the node of which no cut is left, and that of the number of the lowerings
abbrev pub none_text : Dataflow → List Lowering → ℕ → Option Cause → List ℕ
none_text flow ls p by = down_lines flow ls ++ none_line flow p by ++ none_count_line (length ls)

-- the text of the largest choice and of the trail to it
pub record IsChosenText (flow : Dataflow) (offers : List Offer) (text : List ℕ) : Type 0 where
  pub choice : Choice
  pub trail : List Lowering
  pub largest : IsLargestBy flow (covers_of flow offers) (IsOffered flow offers) choice
  pub leads : IsTrailBy flow (covers_of flow offers) (IsOffered flow offers) trail choice
  pub printed : text ≡ choice_text flow trail choice.cuts

-- no choice is consistent, and this text shows where none was found
pub record IsNoChoiceText (flow : Dataflow) (offers : List Offer) (text : List ℕ) : Type 0 where
  pub lowerings : List Lowering
  pub node : ℕ
  pub by : Option Cause
  pub found : IsNoneFoundAt flow offers lowerings node by
  pub none_left : IsNoneLeftAt flow offers lowerings node by
  pub none : IsNoneConsistent flow offers
  pub printed : text ≡ none_text flow lowerings node by

-- what `choose` prints of what the nodes offer, by the status with which it ends
abbrev pub IsChoiceAnswer : Dataflow → List Offer → List ℕ → ChoosingStatus → Type 0
IsChoiceAnswer flow offers text Done = IsChosenText flow offers text
IsChoiceAnswer flow offers text NoChoice = IsNoChoiceText flow offers text
IsChoiceAnswer flow offers text status = ⊥

-- ---- what `verify` prints

-- the cuts are those of a choice of which the lowerings are a certificate; or no cut of the node is left
abbrev pub IsRightEnding : Dataflow → List Offer → List Lowering → Ending → Type 0
IsRightEnding flow offers ls (Largest in_order) =
    (choice : Choice) × (choice.cuts ≡ in_order) × IsCertificate flow (covers_of flow offers) (IsOffered flow offers) ls choice
IsRightEnding flow offers ls (NoneLeft node by) = IsNoneLeftAt flow offers ls node by

-- what a certificate claims is right
abbrev pub IsClaimRight : Dataflow → List Offer → Claim → Type 0
IsClaimRight flow offers claim = IsRightEnding flow offers claim.lowerings claim.ending

-- so the cuts are those of the largest choice; or no choice is consistent
abbrev pub IsTrueEnding : Dataflow → List Offer → Ending → Type 0
IsTrueEnding flow offers (Largest in_order) =
    (choice : Choice) × (choice.cuts ≡ in_order) × IsLargestBy flow (covers_of flow offers) (IsOffered flow offers) choice
IsTrueEnding flow offers (NoneLeft node by) = IsNoneConsistent flow offers

-- so many of the first lowerings are right, and the next one is not, if there is one
pub record AreRightUntil (flow : Dataflow) (offers : List Offer) (ls : List Lowering) (at : ℕ) : Type 0 where
  pub first : at ≤ length ls
  pub start : Choice
  pub begins : IsBeginning flow (IsOffered flow offers) start
  pub mid : Choice
  pub leads : LeadRight flow (covers_of flow offers) (IsOffered flow offers) start (take at ls) mid
  pub wrong : (l : Lowering) (next : Choice) → slice_get ls at ≡ Some l
      → IsRightLowering flow (covers_of flow offers) (IsOffered flow offers) mid l next → ⊥

-- the place of what is wrong: of the first lowering that is not right, or their number; and 0 where there is nothing to begin from
abbrev pub IsPlaceOfWrong : Dataflow → List Offer → List Lowering → ℕ → Type 0
IsPlaceOfWrong flow offers ls at =
    AreRightUntil flow offers ls at ⊎ ((at ≡ 0) × ((start : Choice) → IsBeginning flow (IsOffered flow offers) start → ⊥))

-- `certificate NUMBER yes` of a choice, `certificate NUMBER none` where none is consistent
abbrev pub shown_line : ℕ → Ending → List ℕ
shown_line count (Largest in_order) = certificate_line count
shown_line count (NoneLeft node by) = none_count_line count

-- `certificate NUMBER no at PLACE`
abbrev pub wrong_line : ℕ → ℕ → List ℕ
wrong_line count at = codes "certificate " ++ decimal count ++ codes " no at " ++ decimal at ++ codes "\n"

-- the claim is right, and so true, and this line says it
pub record IsShownText (flow : Dataflow) (offers : List Offer) (claim : Claim) (text : List ℕ) : Type 0 where
  pub right : IsClaimRight flow offers claim
  pub so : IsTrueEnding flow offers claim.ending
  pub printed : text ≡ shown_line (length claim.lowerings) claim.ending

-- the claim is not right, and this line says where
pub record IsNotShownText (flow : Dataflow) (offers : List Offer) (claim : Claim) (text : List ℕ) : Type 0 where
  pub wrong : IsClaimRight flow offers claim → ⊥
  pub at : ℕ
  pub place : IsPlaceOfWrong flow offers claim.lowerings at
  pub printed : text ≡ wrong_line (length claim.lowerings) at

-- what `verify` prints of a claim, by the status with which it ends
abbrev pub IsVerifyAnswer : Dataflow → List Offer → Claim → List ℕ → ChoosingStatus → Type 0
IsVerifyAnswer flow offers claim text Done = IsShownText flow offers claim text
IsVerifyAnswer flow offers claim text NotShown = IsNotShownText flow offers claim text
IsVerifyAnswer flow offers claim text status = ⊥

-- ---- for the proofs of src/verify.rt

-- the side of node p's cut that a cause says, if it says one
abbrev pub side_for : Dataflow → ℕ → Cause → Option Side
side_for flow p (cause.Delivered d) = if receiver flow d == p then Some (side.Delivered d) else None
side_for flow p (cause.Discarded e) = if sender flow e == p then Some (side.Discarded e) else None
side_for flow p cause.Notified = Some (side.Notified p)
side_for flow p cause.Own = None
side_for flow p (cause.Note d) = None

-- For the proofs of src/checker.rt: where the entries of a certificate lead.
use Rattle.std.specs.Prelude.{◌≡◌, ℕ, ◌<◌, List, length, take, slice_get, Some}
use Rattle.fw_flow.specs.declared.choice.Choice.{Choice}
use Rattle.fw_flow.specs.declared.choice.Cut.{Cut}
use Rattle.fw_flow.specs.declared.choice.Offer.{Offer}
use Rattle.fw_flow.specs.declared.side.Side.{Side}
use Rattle.fw_flow.specs.declared.trail.Lowering.{Lowering}
use Rattle.fw_flow.specs.Dataflow.{Dataflow}
use Rattle.fw_model.specs.Choice.{IsChoiceOf}
use Rattle.fw_model.specs.Offers.{IsOffered, covers_of}
use Rattle.fw_model.specs.Lowerings.{choice_of, IsCutLeft, IsRightLowering}
use Rattle.fw_model.specs.Certificates.{IsBeginning}
use Rattle.fw_certify.specs.Checked.{AreRightSoFar}
use Rattle.fw_certify.specs.declared.checker.Followed.{Followed}
use Rattle.fw_certify.specs.declared.checker.Followed.TheVariants.{Nowhere, Wrong, Through}

-- so many of the first lowerings are right, and the next one is not
pub record IsWrongAt (flow : Dataflow) (offers : List Offer) (ls : List Lowering) (at : ℕ) : Type 0 where
  pub before : at < length ls
  pub mid : Choice
  pub right : AreRightSoFar flow (covers_of flow offers) (IsOffered flow offers) (take at ls) mid
  pub wrong : (l : Lowering) (next : Choice) → slice_get ls at ≡ Some l → IsRightLowering flow (covers_of flow offers) (IsOffered flow offers) mid l next → ⊥

-- there is no beginning; or an entry is wrong; or all are right, and lead to values of the dataflow
abbrev pub IsFollowed : Dataflow → List Offer → List Lowering → Followed → Type 0
IsFollowed flow offers ls Nowhere = (start : Choice) → IsBeginning flow (IsOffered flow offers) start → ⊥
IsFollowed flow offers ls (Wrong at) = IsWrongAt flow offers ls at
IsFollowed flow offers ls (Through values) =
    AreRightSoFar flow (covers_of flow offers) (IsOffered flow offers) ls (choice_of values.cuts.items values.notices.items)
    × IsChoiceOf flow (choice_of values.cuts.items values.notices.items)

-- no cut is left for a side
abbrev pub IsNoneLeft : Dataflow → List Offer → Side → Choice → Type 0
IsNoneLeft flow offers side choice = (x : Cut) → IsCutLeft flow (covers_of flow offers) (IsOffered flow offers) choice side x → ⊥

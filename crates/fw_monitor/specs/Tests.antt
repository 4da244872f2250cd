-- For the proofs of src/descent.rt: one test of an inclusion, and what the descent keeps.
use Rattle.std.specs.Prelude.{◌≡◌, ℕ, ◌+◌, ◌<◌, ◌≤◌, Bool, false, List, ◌∷◌, ◌++◌, length, Option, Some, None}
use Rattle.std.specs.List.{AllByRecursion}
use Rattle.fw_flow.specs.declared.choice.Choice.{Choice}
use Rattle.fw_flow.specs.declared.choice.Cut.{Cut}
use Rattle.fw_flow.specs.declared.choice.Offer.{Offer}
use Rattle.fw_flow.specs.declared.trail.Lowering.{Lowering}
use Rattle.fw_flow.specs.Dataflow.{Dataflow}
use Rattle.fw_model.specs.Inclusions.{IsInclusionOf, node_of, Holds, inclusions}
use Rattle.fw_model.specs.Lowerings.{IsGreatestLeft, with_value, Leads}
use Rattle.fw_flow.specs.declared.side.Inclusion.{Inclusion}
use Rattle.fw_monitor.specs.Descent.{weight, HasConsistent, EnclosesConsistent}
use Rattle.fw_monitor.specs.Worklist.{inclusion_count, waits, count}
use Rattle.fw_monitor.specs.Trail.{IsStart, tests_after}
use Rattle.fw_model.specs.Offers.{IsOffered, covers_of}

-- a value was lowered: by an inclusion that fails, to the greatest that is left, if there is a consistent choice
pub record IsLowering (flow : Dataflow) (offers : List Offer) (i : Inclusion) (old new : Choice) (to : Cut) : Type 0 where
  pub encloses : EnclosesConsistent flow offers new
  pub fewer : weight flow new < weight flow old
  pub fails : Holds flow (covers_of flow offers) old i → ⊥
  pub with_it : new ≡ with_value flow old i to
  pub greatest : HasConsistent flow offers → IsGreatestLeft flow (covers_of flow offers) (IsOffered flow offers) old i to

-- the inclusion holds, if there is a consistent choice, and all stays; or else a value was lowered
abbrev pub IsTested : Dataflow → List Offer → Inclusion → Choice → Choice → Option Cut → Type 0
IsTested flow offers i old new None = (new ≡ old) × (HasConsistent flow offers → Holds flow (covers_of flow offers) old i)
IsTested flow offers i old new (Some to) = IsLowering flow offers i old new to

-- what the descent keeps: what does not wait holds, if there is a consistent choice; the trail so far leads to the choice; each
-- step was one that waited; and what does not wait took a step
pub record IsGoing (flow : Dataflow) (offers : List Offer) (choice : Choice) (trail : List Lowering) (waiting : List Bool) (before steps : ℕ) : Type 0 where
  pub encloses : EnclosesConsistent flow offers choice
  pub one_each : length waiting ≡ inclusion_count flow
  pub settled : HasConsistent flow offers → (i : Inclusion) → IsInclusionOf flow i → waits flow waiting i ≡ false
      → Holds flow (covers_of flow offers) choice i
  pub start : Choice
  pub starts : IsStart flow offers start
  pub leads : HasConsistent flow offers → Leads flow (covers_of flow offers) (IsOffered flow offers) start trail choice
  pub spent : steps + count waiting ≤ before + inclusion_count flow + tests_after flow trail
  pub tested : before + inclusion_count flow ≤ steps + count waiting

-- the inclusion is the first that may wait
pub record IsFirstWaiting (flow : Dataflow) (waiting : List Bool) (i : Inclusion) : Type 0 where
  pub earlier : List Inclusion
  pub later : List Inclusion
  pub place : inclusions flow ≡ earlier ++ i ∷ later
  pub done : AllByRecursion (λ j. waits flow waiting j ≡ false) earlier

-- one test of an inclusion, if it waits; where a value was lowered, none of a node before this one waits anew
pub record IsOneTest (flow : Dataflow) (offers : List Offer) (i : Inclusion) (old new : Choice) (trail more : List Lowering)
    (waiting left : List Bool) (steps next : ℕ) (lowered : Option ℕ) : Type 0 where
  pub going : (before : ℕ) → IsGoing flow offers old trail waiting before steps → IsGoing flow offers new more left before next
  pub same : lowered ≡ None → new ≡ old
  pub taken : lowered ≡ None → waits flow left i ≡ false
  pub rest : lowered ≡ None → (j : Inclusion) → waits flow waiting j ≡ false → waits flow left j ≡ false
  pub fewer : (p : ℕ) → lowered ≡ Some p → weight flow new < weight flow old
  pub back : (p : ℕ) → lowered ≡ Some p → p ≤ node_of flow i
  pub none_before : (p : ℕ) → lowered ≡ Some p → (j : Inclusion) → IsInclusionOf flow j → node_of flow j < p → waits flow waiting j ≡ false
      → waits flow left j ≡ false

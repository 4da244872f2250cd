-- Certificates: lowerings that show that a choice is the largest, in any order; and the trail of a descent, which is one.
use Rattle.std.specs.Prelude.{◌≡◌, ℕ, ◌<◌, List, length}
use Rattle.std.specs.List.{AllByRecursion}
use Rattle.fw_frontier.specs.Front.{IsFrontOf}
use Rattle.fw_flow.specs.declared.choice.Choice.{Choice}
use Rattle.fw_flow.specs.declared.choice.Cut.{Cut}
use Rattle.fw_flow.specs.declared.side.Side.{Side}
use Rattle.fw_flow.specs.declared.trail.Lowering.{Lowering}
use Rattle.fw_flow.specs.Dataflow.{Dataflow, bounds_of}
use Rattle.fw_model.specs.Machine.{front_of}
use Rattle.fw_model.specs.Covers.{Covers, set_of}
use Rattle.fw_model.specs.Choice.{cut_of, IsCutWithin}
use Rattle.fw_model.specs.Inclusions.{Holds, IsSideOfFlow, inclusions}
use Rattle.fw_model.specs.Lowerings.{IsCutLeft, LeadRight, Leads}

-- a node's greatest cut: it is offered, and each that is offered lies within it
pub record IsGreatestOffered (flow : Dataflow) (offers : ℕ → Cut → Type 0) (p : ℕ) (cut : Cut) : Type 0 where
  pub offered : offers p cut
  pub greatest : (x : Cut) → offers p x → IsCutWithin flow p x cut

-- the values that all lowerings start from: the greatest cut of each node, and all that it keeps
pub record IsBeginning (flow : Dataflow) (offers : ℕ → Cut → Type 0) (choice : Choice) : Type 0 where
  pub one_cut_each : length choice.cuts ≡ length flow.nodes
  pub one_notice_each : length choice.notices ≡ length flow.nodes
  pub cuts : (p : ℕ) → p < length flow.nodes → IsGreatestOffered flow offers p (cut_of choice p)
  pub notices : (p : ℕ) → p < length flow.nodes → IsFrontOf (bounds_of flow p) (front_of choice.notices p) (set_of flow p (cut_of choice p))

-- the lowerings are a certificate of the choice: right from the beginning on, they lead to it, and there each inclusion holds
pub record IsCertificate (flow : Dataflow) (covers : Covers) (offers : ℕ → Cut → Type 0) (ls : List Lowering) (end : Choice) : Type 0 where
  pub start : Choice
  pub begins : IsBeginning flow offers start
  pub leads : LeadRight flow covers offers start ls end
  pub ends : AllByRecursion (Holds flow covers end) (inclusions flow)

-- the lowerings are right from the beginning on, and lead to values at which no cut is left for a side
pub record IsDeadEnd (flow : Dataflow) (covers : Covers) (offers : ℕ → Cut → Type 0) (ls : List Lowering) (side : Side) : Type 0 where
  pub start : Choice
  pub begins : IsBeginning flow offers start
  pub end : Choice
  pub leads : LeadRight flow covers offers start ls end
  pub of_flow : IsSideOfFlow flow side
  pub none : (x : Cut) → IsCutLeft flow covers offers end side x → ⊥

-- the trail of the descent from what is offered, by what counts: it leads from the beginning to a choice at which each inclusion
-- holds
pub record IsTrailBy (flow : Dataflow) (covers : Covers) (offers : ℕ → Cut → Type 0) (trail : List Lowering) (end : Choice) : Type 0 where
  pub start : Choice
  pub begins : IsBeginning flow offers start
  pub leads : Leads flow covers offers start trail end
  pub ends : AllByRecursion (Holds flow covers end) (inclusions flow)

-- What views and entries are of a dataflow, whatever they tell.
use Rattle.std.specs.Prelude.{◌≡◌, ℕ, suc, ◌≤◌, true, List, [], ◌∷◌}
use Rattle.std.specs.List.{AllByRecursion}
use Rattle.fw_time.specs.Stamp.{in_domain}
use Rattle.fw_frontier.specs.Front.{IsCanonical}
use Rattle.fw_flow.specs.Kind.{Kind}
use Rattle.fw_flow.specs.declared.kind.Kind.TheVariants.{Input, OutputEpoch, OutputNumber}
use Rattle.fw_flow.specs.Dataflow.{Dataflow, kind_of, bounds_of, greatest_number}
use Rattle.fw_model.specs.Offers.{AreAtEdgeStamps, HasOneCause, IsRecordOf}
use Rattle.fw_policy.specs.declared.view.Border.{Border}
use Rattle.fw_policy.specs.declared.view.Border.TheVariants.{Source, Output}
use Rattle.fw_record.specs.Event.{stamp_of_event}
use Rattle.fw_record.specs.OfNode.{AreOfDomain}
use Rattle.fw_keep.specs.declared.entry.Entry.{Entry}
use Rattle.fw_policy.specs.declared.view.NodeView.{NodeView}
use Rattle.fw_keep.specs.declared.entry.Written.{Written}
use Rattle.fw_keep.specs.declared.entry.Written.TheVariants as written

-- what is written is of node p: a checkpoint has a frontier and covers of the domains, and an event a stamp
abbrev pub IsWrittenOf : Dataflow → ℕ → Written → Type 0
IsWrittenOf flow p (written.Checkpoint recorded stamps sent) = IsRecordOf flow p recorded
IsWrittenOf flow p (written.Event event) = in_domain (bounds_of flow p) (stamp_of_event event) ≡ true

-- The border fits the kind: an input's tells how many batches were injected, which are not too many, and an output's how many stamps
-- were acknowledged. Of any other kind the border plays no part.
abbrev pub FitsKind : Kind → Border → Type 0
FitsKind Input (Source injected exhausted) = injected ≤ greatest_number
FitsKind Input border = ⊥
FitsKind OutputEpoch (Output bound) = Unit {0}
FitsKind OutputEpoch border = ⊥
FitsKind OutputNumber (Output bound) = Unit {0}
FitsKind OutputNumber border = ⊥
FitsKind kind border = Unit {0}

-- The view is of node p: its frontiers and stamps are of the domains, its border fits the kind, and each message that an input sent
-- has one cause.
pub record IsViewFor (flow : Dataflow) (p : ℕ) (node : NodeView) : Type 0 where
  pub settled : IsCanonical (bounds_of flow p) node.settled
  pub low : IsCanonical (bounds_of flow p) node.low
  pub border : FitsKind (kind_of flow p) node.border
  pub lost : AreOfDomain flow p node.lost
  pub delivered : AreAtEdgeStamps flow node.stamps.delivered
  pub notified : AreOfDomain flow p node.stamps.notified
  pub sent : AreAtEdgeStamps flow node.stamps.sent
  pub of_batches : kind_of flow p ≡ Input → AllByRecursion HasOneCause node.stamps.sent

-- the views are of the nodes from p on
abbrev pub AreViewsFrom : Dataflow → ℕ → List NodeView → Type 0
AreViewsFrom flow p [] = Unit {0}
AreViewsFrom flow p (node ∷ view) = IsViewFor flow p node × AreViewsFrom flow (suc p) view

-- The views are of the nodes of the dataflow, and what each entry holds is of its node.
pub record FitsFlow (flow : Dataflow) (view : List NodeView) (entries : List Entry) : Type 0 where
  pub views : AreViewsFrom flow 0 view
  pub written : AllByRecursion (λ (entry : Entry). IsWrittenOf flow entry.node entry.written) entries

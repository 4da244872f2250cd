-- Unions of frontiers, of cuts and of choices.
use Rattle.std.specs.Prelude.{◌≡◌, ℕ, ◌<◌, true, length}
use Rattle.fw_time.specs.Stamp.{Stamp}
use Rattle.fw_frontier.specs.Front.{IsFrontOf}
use Rattle.fw_frontier.specs.Frontier.{Frontier, Within, join}
use Rattle.fw_flow.specs.declared.choice.Choice.{Choice}
use Rattle.fw_flow.specs.declared.choice.Cut.{Cut}
use Rattle.fw_flow.specs.declared.choice.Cut.TheVariants.{At, Present}
use Rattle.fw_flow.specs.Dataflow.{bounds_of, System, node_frontier}
use Rattle.fw_model.specs.Choice.{notice_of, cut_of}
use Rattle.fw_model.specs.Machine.{front_of}

-- what is inside some frontier of a family of frontiers
pub record IsUnion (family : ℕ → Frontier) (f : Frontier) : Type 0 where
  pub each_within : (i : ℕ) → Within (family i) f
  pub from_one : (t : Stamp) → f t ≡ true → (i : ℕ) × (family i t ≡ true)

-- a cut of node p is the union of two: its state as it is where one of them is, else what is inside one of them
abbrev pub IsUnionOfCuts : System → ℕ → Cut → Cut → Cut → Type 0
IsUnionOfCuts sys p Present other union = union ≡ Present
IsUnionOfCuts sys p (At f) Present union = union ≡ Present
IsUnionOfCuts sys p (At f) (At g) Present = ⊥
IsUnionOfCuts sys p (At f) (At g) (At u) =
    IsFrontOf (bounds_of sys.flow p) u (join (node_frontier sys.flow p f) (node_frontier sys.flow p g))

-- a choice is the union of two at every node
pub record IsUnionOfChoices (sys : System) (one other union : Choice) : Type 0 where
  pub one_cut_each : length union.cuts ≡ length sys.flow.nodes
  pub one_notice_each : length union.notices ≡ length sys.flow.nodes
  pub cuts : (p : ℕ) → p < length sys.flow.nodes → IsUnionOfCuts sys p (cut_of one p) (cut_of other p) (cut_of union p)
  pub notices : (p : ℕ) → p < length sys.flow.nodes
      → IsFrontOf (bounds_of sys.flow p) (front_of union.notices p) (join (notice_of sys.flow one p) (notice_of sys.flow other p))

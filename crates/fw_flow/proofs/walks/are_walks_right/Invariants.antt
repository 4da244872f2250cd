use Rattle.std.proofs.Common.{ℕ, ◌<◌}
use Rattle.fw_flow.specs.Dataflow.{Dataflow}
use Rattle.fw_flow.specs.Depths.{ReturningPath}
use Rattle.fw_flow.specs.Walks.{IsMadeOf}
use Rattle.fw_flow.proofs.walks.are_walks_right.Given as goal

abbrev pub invariant-loop-depth : goal.invariant-loop-depth
invariant-loop-depth l = (flow : Dataflow) → IsMadeOf flow l.loops l.nodes l.links → (depth : ℕ) → depth < l.depth → ReturningPath flow depth → ⊥

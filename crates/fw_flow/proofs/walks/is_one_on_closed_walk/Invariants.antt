use Rattle.std.proofs.Common.{◌≡◌, ℕ, ◌<◌}
use Rattle.fw_flow.specs.Depths.{listed_depth}
use Rattle.fw_flow.specs.Walks.{Path, graph_of}
use Rattle.fw_flow.proofs.walks.is_one_on_closed_walk.Given as goal

abbrev pub invariant-loop-place : goal.invariant-loop-place
invariant-loop-place l = (p : ℕ) → p < l.place → listed_depth l.depths p ≡ l.depth → Path (graph_of l.links) p p → ⊥

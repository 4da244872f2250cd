use Rattle.std.proofs.Common.{◌&&◌, take}
use Rattle.std.specs.List.{list_all}
use Rattle.fw_frontier.specs.Front.{IsFrontOf}
use Rattle.fw_flow.specs.Dataflow.{bounds_of}
use Rattle.fw_progress.specs.Counts.{clear_by, unpending_by}
use Rattle.fw_progress.proofs.target.quiet.Given as goal

abbrev pub invariant-loop-edge : goal.invariant-loop-edge
invariant-loop-edge l = IsFrontOf (bounds_of l.flow l.fn.node) l.left
    (λ t. clear_by l.flow l.counts l.fn.node t && list_all (λ e. unpending_by l.flow l.counts e t) (take l.edge-index l.edges))

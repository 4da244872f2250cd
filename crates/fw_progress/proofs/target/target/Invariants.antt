use Rattle.std.proofs.Common.{◌&&◌, take}
use Rattle.std.specs.List.{list_all}
use Rattle.fw_frontier.specs.Front.{IsFrontOf}
use Rattle.fw_flow.specs.Dataflow.{sender, bounds_of}
use Rattle.fw_model.specs.Machine.{family_of}
use Rattle.fw_progress.specs.Counts.{quiet_by, projected_by}
use Rattle.fw_progress.proofs.target.target.Given as goal

abbrev pub invariant-loop-edge : goal.invariant-loop-edge
invariant-loop-edge l = IsFrontOf (bounds_of l.flow l.fn.node) l.left
    (λ t. quiet_by l.flow l.counts l.fn.node t && list_all (λ e. projected_by l.flow l.counts e (family_of l.flow l.fronts (sender l.flow e)) t) (take l.edge-index l.edges))

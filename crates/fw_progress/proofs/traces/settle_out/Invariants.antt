use Rattle.std.proofs.Common.{take}
use Rattle.fw_progress.specs.Traces.{IsThinnedBy}
use Rattle.fw_progress.proofs.OutLaws.{AreChanging}
use Rattle.fw_progress.proofs.traces.settle_out.Given as goal

abbrev pub invariant-loop-edge : goal.invariant-loop-edge
invariant-loop-edge l = AreChanging (λ e. IsThinnedBy l.base) (take l.edge-index l.edges) l.fn.lists.items l.lists.items

use Rattle.std.proofs.Common.{take}
use Rattle.fw_progress.specs.Traces.{IsThinnedBy}
use Rattle.fw_progress.proofs.IntoLaws.{IsChanging}
use Rattle.fw_progress.proofs.traces.settle_into.Given as goal

abbrev pub invariant-loop-edge : goal.invariant-loop-edge
invariant-loop-edge l = IsChanging (IsThinnedBy l.base) (take l.edge-index l.edges) l.fn.lists.items l.lists.items

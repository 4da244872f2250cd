use Rattle.std.proofs.Common.{take}
use Rattle.fw_progress.specs.Traces.{StandsInside}
use Rattle.fw_progress.proofs.IntoLaws.{IsChanging}
use Rattle.fw_progress.proofs.traces.cut_into.Given as goal

abbrev pub invariant-loop-edge : goal.invariant-loop-edge
invariant-loop-edge l = IsChanging (StandsInside l.f) (take l.edge-index l.edges) l.fn.lists.items l.lists.items

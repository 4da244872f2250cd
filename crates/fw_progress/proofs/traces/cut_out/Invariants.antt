use Rattle.std.proofs.Common.{take}
use Rattle.fw_progress.specs.Traces.{StandsInside}
use Rattle.fw_progress.proofs.OutLaws.{AreChanging}
use Rattle.fw_progress.proofs.traces.cut_out.Given as goal

abbrev pub invariant-loop-edge : goal.invariant-loop-edge
invariant-loop-edge l = AreChanging (λ e. StandsInside l.f) (take l.edge-index l.edges) l.fn.lists.items l.lists.items

use Rattle.std.proofs.Common.{take}
use Rattle.std.specs.List.{AllByRecursion}
use Rattle.fw_flow.specs.declared.choice.OfEdge.{OfEdge}
use Rattle.fw_bytes.specs.Spelling.{IsCountable}
use Rattle.fw_settle.proofs.checking.are_countable.Given as goal

abbrev pub invariant-loop-of_edge : goal.invariant-loop-of_edge
invariant-loop-of_edge l = AllByRecursion (λ (e : OfEdge). IsCountable e.front) (take l.of_edge-index l.fronts)

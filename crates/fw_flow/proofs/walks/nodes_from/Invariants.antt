use Rattle.std.proofs.Common.{◌+◌, length}
use Rattle.fw_flow.specs.Walks.{unmarked_count}
use Rattle.fw_flow.proofs.Marks.{IsVisited}
use Rattle.fw_flow.proofs.walks.nodes_from.Given as goal

abbrev pub invariant-loop-place : goal.invariant-loop-place
invariant-loop-place l = IsVisited l.onward l.node l.marks.items l.to_visit.items

abbrev pub decreases-loop-place : goal.decreases-loop-place
decreases-loop-place l = unmarked_count l.marks.items + length l.to_visit.items

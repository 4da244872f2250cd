use Rattle.std.proofs.Common.{Option, None, length, get_or}
use Rattle.fw_node.specs.declared.node.Node.{Node}
use Rattle.fw_rollback.specs.Built.{table_after}
use Rattle.fw_rollback.proofs.PutLaws.{HasPut}
use Rattle.fw_rollback.proofs.swap.put_tables.Given as goal

abbrev pub invariant-loop-table : goal.invariant-loop-table
invariant-loop-table l =
    let none : Option Node = None in
    HasPut none (λ q. table_after l.choice q (get_or l.initial.tables q none) (get_or l.initial.rest q none)) l.initial.rest l.initial.tables l.rest l.tables

abbrev pub decreases-loop-table : goal.decreases-loop-table
decreases-loop-table l = length l.rest

use Rattle.fw_rollback.proofs.OfNodeLaws.{of_nodes-first}
use Rattle.fw_rollback.proofs.parts.Parts.new.Goals as goal

pub returns-clause-nodes : goal.returns-clause-nodes
returns-clause-nodes c = of_nodes-first c.args.flow.now c.in_ok-tables_of.field-0 c.in_ok-tables_of.ensures.first

use Rattle.std.proofs.Common.{Some, subst}
use Rattle.fw_flow.specs.declared.restoring.Restoring.{Restoring}
use Rattle.fw_rollback.specs.Restored.{IsBuilt}
use Rattle.fw_rollback.proofs.built.build_node.Goals as goal

pub returns-in_ok-new-in-Anything-clause-built : goal.returns-in_ok-new-in-Anything-clause-built
returns-in_ok-new-in-Anything-clause-built c =
    subst
    (λ (way : Restoring). IsBuilt c.args.flow.now c.args.low.now c.args.node c.args.front.now c.args.records.now way (Some c.in_ok-new-in-Anything.field-0) c.args.logs.now)
    c.in-Anything.ensures (c.in_ok-new-in-Anything.ensures.table, c.requires.empty)

use Rattle.fw_rollback.proofs.BuildLaws.{built-put}
use Rattle.fw_rollback.proofs.built.build_at.Goals as goal

pub returns-in_ok-table-in-Some-clause-built : goal.returns-in_ok-table-in-Some-clause-built
returns-in_ok-table-in-Some-clause-built c = λ f cut.
    built-put c.args.flow.now c.args.choice.now c.args.low.now c.args.node c.in-Some.front.now f _ c.of.result.now c.in_ok-table-in-Some.table c.args.tables.now c.set.new.self
    c.build_node.new.logs c.in-Some.ensures cut c.of.ensures c.requires.there c.set.ensures c.in_ok-table-in-Some.ensures.built

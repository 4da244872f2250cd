use Rattle.std.proofs.Common.{refl, sym, ◌∙◌}
use Rattle.fw_settle.proofs.TableLaws.{settles-if, stays-if}
use Rattle.fw_settle.specs.Settling.{settles_when_asked}
use Rattle.fw_settle.proofs.tables.settle_when_asked.Goals as goal

pub returns-then-not-settles_when_asked-clause-settled : goal.returns-then-not-settles_when_asked-clause-settled
returns-then-not-settles_when_asked-clause-settled c =
    let running = c.args.running.now in
    stays-if (settles_when_asked running.flow c.args.node) c.args.node c.args.front.now running running
    (sym c.settles_when_asked.ensures ∙ c.if-not-settles_when_asked.true) refl

pub returns-clause-settled : goal.returns-clause-settled
returns-clause-settled c =
    let running = c.args.running.now in
    settles-if c.settle_table.result (settles_when_asked running.flow c.args.node) c.args.node c.args.front.now running c.settle_table.new.running
    (sym c.settles_when_asked.ensures ∙ c.if-not-settles_when_asked.false) c.settle_table.ensures.settled

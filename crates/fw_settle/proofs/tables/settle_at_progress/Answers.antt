use Rattle.std.proofs.Common.{not, refl, sym, ap, ◌∙◌}
use Rattle.fw_settle.proofs.TableLaws.{settles-if, stays-if}
use Rattle.fw_settle.specs.Settling.{settles_when_asked}
use Rattle.fw_settle.proofs.tables.settle_at_progress.Goals as goal

pub returns-then-settles_when_asked-clause-settled : goal.returns-then-settles_when_asked-clause-settled
returns-then-settles_when_asked-clause-settled c =
    let running = c.args.running.now in
    stays-if (not (settles_when_asked running.flow c.args.node)) c.args.node c.args.front.now running running
    (ap not (sym c.settles_when_asked.ensures ∙ c.if-settles_when_asked.true)) refl

pub returns-clause-settled : goal.returns-clause-settled
returns-clause-settled c =
    let running = c.args.running.now in
    settles-if c.settle_table.result (not (settles_when_asked running.flow c.args.node)) c.args.node c.args.front.now running c.settle_table.new.running
    (ap not (sym c.settles_when_asked.ensures ∙ c.if-settles_when_asked.false)) c.settle_table.ensures.settled

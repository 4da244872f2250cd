use Rattle.std.proofs.Common.{refl}
use Rattle.fw_running.specs.Kept.{with_tables}
use Rattle.fw_events.proofs.TakenShapes.{shaped-table}
use Rattle.fw_events.proofs.notification.table_hears.Goals as goal

pub returns-clause-shaped : goal.returns-clause-shaped
returns-clause-shaped c =
    let old = c.args.running.now in
    let s = c.requires.shaped in
    shaped-table old (with_tables c.take_notice.new.tables old) c.args.node s refl c.take_notice.ensures.each c.take_notice.ensures.others
    (c.take_notice.ensures.of_node old.flow (s.tables c.args.node c.requires.there))

pub returns-clause-takes : goal.returns-clause-takes
returns-clause-takes c = c.take_notice.ensures.takes c.args.running.now.flow

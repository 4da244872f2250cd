use Rattle.std.proofs.Common.{◌<◌, length, refl, subst, sym}
use Rattle.fw_running.specs.Kept.{with_tables}
use Rattle.fw_events.proofs.TakenShapes.{shaped-table}
use Rattle.fw_events.proofs.delivery.table_takes.Goals as goal

pub returns-clause-shaped : goal.returns-clause-shaped
returns-clause-shaped c =
    let old = c.args.running.now in
    let s = c.requires.shaped in
    let l : c.args.node < length old.flow.nodes =
    subst (λ p. p < length old.flow.nodes) (sym c.requires.receiver) (s.well_formed.receivers_declared c.args.edge c.requires.there) in
    shaped-table old (with_tables c.take_rec.new.tables old) c.args.node s refl c.take_rec.ensures.each c.take_rec.ensures.others
    (c.take_rec.ensures.of_node old.flow (s.tables c.args.node l))

pub returns-clause-takes : goal.returns-clause-takes
returns-clause-takes c = λ m at rec. c.take_rec.ensures.takes c.args.running.now.flow m at rec

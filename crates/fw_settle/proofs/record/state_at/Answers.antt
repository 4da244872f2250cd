use Rattle.fw_running.specs.Kept.{table_of}
use Rattle.fw_settle.proofs.RecordLaws.{table-fits}
use Rattle.fw_settle.proofs.record.state_at.Goals as goal

pub totals_at-requires : goal.totals_at-requires
totals_at-requires c =
    let running = c.args.running.now in
    record {
      table = table-fits running.flow c.args.node c.args.front.now (table_of running c.args.node) (c.requires.shaped.tables c.args.node c.requires.there) c.requires.front;
    }

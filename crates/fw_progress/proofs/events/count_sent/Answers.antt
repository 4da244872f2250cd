use Rattle.std.proofs.Common.{arith}
use Rattle.fw_progress.proofs.EventLaws.{sent_kept}
use Rattle.fw_progress.proofs.events.count_sent.Goals as goal

pub returns-else-takes : goal.returns-else-takes
returns-else-takes c =
    let at = c.place.ensures in
    sent_kept c.args.sent.now.items c.args.node c.place.result c.index_mut-table.result.now c.args.epoch c.args.count c.takes.result at (omega (arith, c.requires, at))
    c.index_mut-table.ensures.value c.takes.ensures c.if-takes.false

use Rattle.std.proofs.Common.{◌<◌, ◌^◌, length, arith}
use Rattle.std.specs.Option.{option_copied}
use Rattle.fw_settle.specs.Checkpoints.{told_log}
use Rattle.fw_settle.proofs.RecordLaws.{log-made}
use Rattle.fw_settle.proofs.record.log_at.Goals as goal

pub returns : goal.returns
returns c =
    let running = c.args.running.now in
    let all = c.in_ok-logged_at.field-0 in
    let few : length all.items < 2 ^ 64 = omega (arith, all.ok) in
    log-made running.flow (told_log running (option_copied c.args.since) c.args.front.now) c.args.node all.items c.sorted.result c.in_ok-logged_at.ensures.all
    c.in_ok-logged_at.ensures.small few c.sorted.ensures.same c.sorted.ensures.in_order

use Rattle.std.proofs.Common.{rules}
use Rattle.fw_bytes.proofs.WriteLaws.{plain_count}
use Rattle.fw_bytes.proofs.writing.put_sent.Goals as goal

pub returns-in-Some : goal.returns-in-Some
returns-in-Some c = rw (plain_count c.args.sent.now c.in-Some.coord c.in-Some.ensures) (search rules)

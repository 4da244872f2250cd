use Rattle.std.proofs.Common.{rules}
use Rattle.fw_record.proofs.WriteLaws.{plain_logged}
use Rattle.fw_record.proofs.writing.put_logged.Goals as goal

pub returns-in-Some-Some : goal.returns-in-Some-Some
returns-in-Some-Some c =
    rw (plain_logged c.args.logged.now c.in-Some-Some.at c.in-Some-Some.cause c.in-Some-Some.ensures c.in-Some-Some.ensures') (search rules)

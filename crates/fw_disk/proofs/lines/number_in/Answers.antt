use Rattle.fw_disk.proofs.TextLaws.{number_read, number_refused}
use Rattle.fw_disk.proofs.lines.number_in.Goals as goal

pub returns-in-Ok-clause-found : goal.returns-in-Ok-clause-found
returns-in-Ok-clause-found c id fits e = number_read id _ c.args.text.now fits e c.in-Ok.ensures.value.0

pub returns-in-Err-clause-found : goal.returns-in-Err-clause-found
returns-in-Err-clause-found c id fits e = number_refused id c.args.text.now fits e c.in-Err.ensures.value.0

use Rattle.fw_collect.proofs.CollectLaws.{logs_hold_what_is_outside}
use Rattle.fw_collect.proofs.laws.logs_hold_what_is_outside.Goals as goal

pub returns : goal.returns
returns c = logs_hold_what_is_outside

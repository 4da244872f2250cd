use Rattle.fw_collect.proofs.CollectLaws.{inputs_hold_what_is_outside}
use Rattle.fw_collect.proofs.laws.inputs_hold_what_is_outside.Goals as goal

pub returns : goal.returns
returns c = inputs_hold_what_is_outside

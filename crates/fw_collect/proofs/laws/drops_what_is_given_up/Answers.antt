use Rattle.fw_collect.proofs.CollectLaws.{drops_what_is_given_up}
use Rattle.fw_collect.proofs.laws.drops_what_is_given_up.Goals as goal

pub returns : goal.returns
returns c = drops_what_is_given_up

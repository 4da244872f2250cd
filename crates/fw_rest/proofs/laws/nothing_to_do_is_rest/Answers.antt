use Rattle.fw_rest.proofs.IdleLaws.{nothing_to_do-rest}
use Rattle.fw_rest.proofs.laws.nothing_to_do_is_rest.Goals as goal

pub returns : goal.returns
returns c = nothing_to_do-rest

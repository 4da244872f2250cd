use Rattle.fw_rest.proofs.WaitingLaws.{nothing-waits}
use Rattle.fw_rest.proofs.laws.nothing_waits_at_rest.Goals as goal

pub returns : goal.returns
returns c = nothing-waits

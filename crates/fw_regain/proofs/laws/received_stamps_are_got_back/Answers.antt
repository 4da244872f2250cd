use Rattle.fw_regain.proofs.GotBackLaws.{received-back}
use Rattle.fw_regain.proofs.laws.received_stamps_are_got_back.Goals as goal

pub returns : goal.returns
returns c = received-back

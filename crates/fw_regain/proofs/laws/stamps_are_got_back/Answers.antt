use Rattle.fw_regain.proofs.GotBackLaws.{got-back}
use Rattle.fw_regain.proofs.laws.stamps_are_got_back.Goals as goal

pub returns : goal.returns
returns c = got-back

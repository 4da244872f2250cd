use Rattle.fw_regain.proofs.CauseLaws.{greatest_sent-stand}
use Rattle.fw_regain.proofs.laws.greatest_sent_stamps_stand_for_sent.Goals as goal

pub returns : goal.returns
returns c = greatest_sent-stand

use Rattle.fw_regain.proofs.CauseLaws.{send_stamps-tell}
use Rattle.fw_regain.proofs.laws.send_stamps_tell_causes.Goals as goal

pub returns : goal.returns
returns c = send_stamps-tell

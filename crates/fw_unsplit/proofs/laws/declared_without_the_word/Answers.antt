use Rattle.fw_unsplit.proofs.SameLaws.{declared-plain}
use Rattle.fw_unsplit.proofs.laws.declared_without_the_word.Goals as goal

pub returns : goal.returns
returns c = declared-plain

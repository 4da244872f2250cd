use Rattle.fw_unsplit.proofs.SameLaws.{accepted-plain}
use Rattle.fw_unsplit.proofs.laws.accepted_without_the_word.Goals as goal

pub returns : goal.returns
returns c = accepted-plain

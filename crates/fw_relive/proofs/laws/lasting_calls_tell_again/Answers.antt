use Rattle.fw_relive.proofs.NextLaws.{calls-tell-again}
use Rattle.fw_relive.proofs.laws.lasting_calls_tell_again.Goals as goal

pub returns : goal.returns
returns c = calls-tell-again

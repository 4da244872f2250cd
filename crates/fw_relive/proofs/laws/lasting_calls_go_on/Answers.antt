use Rattle.fw_relive.proofs.NextLaws.{calls-go-on}
use Rattle.fw_relive.proofs.laws.lasting_calls_go_on.Goals as goal

pub returns : goal.returns
returns c = calls-go-on

use Rattle.fw_run.specs.HeldCalls.{known_of_views}
use Rattle.fw_run.proofs.HeldCallLaws.{calls-one_run}
use Rattle.fw_run.proofs.laws.calls_of_any_are_one_run.Goals as goal

pub returns : goal.returns
returns c = calls-one_run known_of_views

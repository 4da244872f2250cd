use Rattle.fw_run.proofs.TellingMoreLaws.{explain-is_run}
use Rattle.fw_run.proofs.laws.explain_is_run.Goals as goal

pub returns : goal.returns
returns c = explain-is_run

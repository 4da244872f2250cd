use Rattle.fw_run.proofs.TellingMoreLaws.{explain-prints}
use Rattle.fw_run.proofs.laws.explain_prints_reasons.Goals as goal

pub returns : goal.returns
returns c = explain-prints

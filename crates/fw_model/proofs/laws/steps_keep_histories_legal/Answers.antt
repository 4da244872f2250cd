use Rattle.fw_model.proofs.RecoveryLaws.{steps-keep_legal}
use Rattle.fw_model.proofs.laws.steps_keep_histories_legal.Goals as goal

pub returns : goal.returns
returns c = steps-keep_legal

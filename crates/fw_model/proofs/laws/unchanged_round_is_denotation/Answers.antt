use Rattle.fw_model.proofs.DenotationLaws.{unchanged_round}
use Rattle.fw_model.proofs.laws.unchanged_round_is_denotation.Goals as goal

pub returns : goal.returns
returns c = unchanged_round

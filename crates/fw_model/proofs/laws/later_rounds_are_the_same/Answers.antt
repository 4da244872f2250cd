use Rattle.fw_model.proofs.DenotationLaws.{later_rounds}
use Rattle.fw_model.proofs.laws.later_rounds_are_the_same.Goals as goal

pub returns : goal.returns
returns c = later_rounds

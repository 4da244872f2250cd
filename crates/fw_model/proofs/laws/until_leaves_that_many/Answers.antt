use Rattle.fw_model.proofs.InjectionLaws.{until-leaves}
use Rattle.fw_model.proofs.laws.until_leaves_that_many.Goals as goal

pub returns : goal.returns
returns c = until-leaves

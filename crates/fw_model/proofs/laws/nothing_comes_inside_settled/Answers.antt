use Rattle.fw_model.proofs.NothingInsideLaws.{settled-nothing_inside}
use Rattle.fw_model.proofs.laws.nothing_comes_inside_settled.Goals as goal

pub returns : goal.returns
returns c = settled-nothing_inside

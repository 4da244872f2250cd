use Rattle.fw_model.proofs.ChoosingLaws.{kept-is_ever}
use Rattle.fw_model.proofs.laws.largest_of_kept_is_largest_of_ever.Goals as goal

pub returns : goal.returns
returns c = kept-is_ever

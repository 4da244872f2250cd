use Rattle.fw_model.proofs.KeptLaws.{kept-causes}
use Rattle.fw_model.proofs.laws.kept_deliveries_have_kept_causes.Goals as goal

pub returns : goal.returns
returns c = kept-causes

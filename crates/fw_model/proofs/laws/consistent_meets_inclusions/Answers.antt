use Rattle.fw_model.proofs.FilteredLaws.{consistent-meets}
use Rattle.fw_model.proofs.laws.consistent_meets_inclusions.Goals as goal

pub returns : goal.returns
returns c = consistent-meets

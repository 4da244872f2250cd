use Rattle.fw_came.proofs.CameLaws.{read-back}
use Rattle.fw_came.proofs.laws.batches_are_read_back.Goals as goal

pub returns : goal.returns
returns c = read-back

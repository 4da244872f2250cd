use Rattle.fw_came.proofs.CameLaws.{read-spelled}
use Rattle.fw_came.proofs.laws.read_batches_are_spelled.Goals as goal

pub returns : goal.returns
returns c = read-spelled

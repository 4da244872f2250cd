use Rattle.fw_collect.proofs.CollectLaws.{drops_batches_of_inputs}
use Rattle.fw_collect.proofs.laws.drops_batches_of_inputs.Goals as goal

pub returns : goal.returns
returns c = drops_batches_of_inputs

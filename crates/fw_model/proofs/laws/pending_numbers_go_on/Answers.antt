use Rattle.fw_model.proofs.PendingNumberLaws.{numbers-go_on}
use Rattle.fw_model.proofs.laws.pending_numbers_go_on.Goals as goal

pub returns : goal.returns
returns c = numbers-go_on

use Rattle.fw_model.proofs.LegalLaws.{only_inputs_inject}
use Rattle.fw_model.proofs.laws.only_inputs_inject.Goals as goal

pub returns : goal.returns
returns c = only_inputs_inject

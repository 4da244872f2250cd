use Rattle.fw_regain.proofs.CauseLaws.{injected-send}
use Rattle.fw_regain.proofs.laws.injected_batches_send.Goals as goal

pub returns : goal.returns
returns c = injected-send

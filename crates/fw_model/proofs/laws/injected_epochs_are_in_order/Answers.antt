use Rattle.fw_model.proofs.InjectionLaws.{epochs-in_order}
use Rattle.fw_model.proofs.laws.injected_epochs_are_in_order.Goals as goal

pub returns : goal.returns
returns c = epochs-in_order

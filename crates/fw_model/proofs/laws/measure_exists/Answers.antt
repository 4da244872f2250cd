use Rattle.fw_model.proofs.MeasureLaws.{measure-exists}
use Rattle.fw_model.proofs.laws.measure_exists.Goals as goal

pub returns : goal.returns
returns c = measure-exists

use Rattle.fw_rest.proofs.InFlightLaws.{few_in_flight}
use Rattle.fw_rest.proofs.laws.few_are_in_flight.Goals as goal

pub returns : goal.returns
returns c = few_in_flight

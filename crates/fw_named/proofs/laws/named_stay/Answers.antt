use Rattle.fw_named.proofs.NamedLaws.{named-stay}
use Rattle.fw_named.proofs.laws.named_stay.Goals as goal

pub returns : goal.returns
returns c = named-stay

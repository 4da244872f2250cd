use Rattle.fw_named.proofs.NamedLaws.{named-there}
use Rattle.fw_named.proofs.laws.named_are_there.Goals as goal

pub returns : goal.returns
returns c = named-there

use Rattle.fw_lasting.proofs.KeepLaws.{roots-kept}
use Rattle.fw_lasting.proofs.laws.put_roots_are_kept.Goals as goal

pub returns : goal.returns
returns c = roots-kept

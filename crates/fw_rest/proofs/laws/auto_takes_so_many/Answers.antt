use Rattle.fw_rest.proofs.LoweringLaws.{auto-takes}
use Rattle.fw_rest.proofs.laws.auto_takes_so_many.Goals as goal

pub returns : goal.returns
returns c = auto-takes

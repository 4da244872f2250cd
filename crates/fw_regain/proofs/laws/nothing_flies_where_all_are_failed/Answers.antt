use Rattle.fw_regain.proofs.DownLaws.{flies-nothing}
use Rattle.fw_regain.proofs.laws.nothing_flies_where_all_are_failed.Goals as goal

pub returns : goal.returns
returns c = flies-nothing

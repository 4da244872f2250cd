use Rattle.fw_relive.proofs.NextLaws.{empty-may_begin}
use Rattle.fw_relive.proofs.laws.empty_stores_may_begin.Goals as goal

pub returns : goal.returns
returns c = empty-may_begin

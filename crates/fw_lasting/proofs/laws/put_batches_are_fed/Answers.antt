use Rattle.fw_lasting.proofs.HoldLaws.{put-fed}
use Rattle.fw_lasting.proofs.laws.put_batches_are_fed.Goals as goal

pub returns : goal.returns
returns c = put-fed

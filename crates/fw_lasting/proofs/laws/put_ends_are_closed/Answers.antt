use Rattle.fw_lasting.proofs.HoldLaws.{put-closed}
use Rattle.fw_lasting.proofs.laws.put_ends_are_closed.Goals as goal

pub returns : goal.returns
returns c = put-closed

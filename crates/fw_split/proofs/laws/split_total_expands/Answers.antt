use Rattle.fw_split.proofs.SplitTotalLaws.{split_total-expands}
use Rattle.fw_split.proofs.laws.split_total_expands.Goals as goal

pub returns : goal.returns
returns c = split_total-expands

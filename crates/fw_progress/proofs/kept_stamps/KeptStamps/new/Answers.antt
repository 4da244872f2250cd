use Rattle.fw_progress.proofs.KeptLaws.{sorted-none}
use Rattle.fw_progress.proofs.kept_stamps.KeptStamps.new.Goals as goal

pub invariant_of-result : goal.invariant_of-result
invariant_of-result c = sorted-none c.new.result.items c.new.ensures.items

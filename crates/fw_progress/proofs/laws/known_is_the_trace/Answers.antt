use Rattle.fw_progress.proofs.AmongLaws.{known-trace}
use Rattle.fw_progress.proofs.laws.known_is_the_trace.Goals as goal

pub returns : goal.returns
returns c = known-trace

use Rattle.fw_fetched.proofs.ReadsLaws.{recovery_reads_what_is_fetched}
use Rattle.fw_fetched.proofs.laws.recovery_reads_what_is_fetched.Goals as goal

pub returns : goal.returns
returns c = recovery_reads_what_is_fetched

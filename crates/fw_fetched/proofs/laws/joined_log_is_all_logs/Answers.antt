use Rattle.fw_fetched.proofs.FetchedLaws.{joined_log_is_all_logs}
use Rattle.fw_fetched.proofs.laws.joined_log_is_all_logs.Goals as goal

pub returns : goal.returns
returns c = joined_log_is_all_logs

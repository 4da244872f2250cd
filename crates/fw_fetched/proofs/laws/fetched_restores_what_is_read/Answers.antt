use Rattle.fw_fetched.proofs.FetchedLaws.{fetched_restores_what_is_read}
use Rattle.fw_fetched.proofs.laws.fetched_restores_what_is_read.Goals as goal

pub returns : goal.returns
returns c = fetched_restores_what_is_read

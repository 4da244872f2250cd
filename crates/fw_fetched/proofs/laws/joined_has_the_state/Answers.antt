use Rattle.fw_fetched.proofs.FetchedLaws.{joined_has_the_state}
use Rattle.fw_fetched.proofs.laws.joined_has_the_state.Goals as goal

pub returns : goal.returns
returns c = joined_has_the_state

use Rattle.fw_fetched.proofs.FetchedLaws.{fetched_restores_the_chain}
use Rattle.fw_fetched.proofs.laws.fetched_restores_the_chain.Goals as goal

pub returns : goal.returns
returns c = fetched_restores_the_chain

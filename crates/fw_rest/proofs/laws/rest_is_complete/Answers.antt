use Rattle.fw_rest.proofs.RestLaws.{rest-complete}
use Rattle.fw_rest.proofs.laws.rest_is_complete.Goals as goal

pub returns : goal.returns
returns c = rest-complete

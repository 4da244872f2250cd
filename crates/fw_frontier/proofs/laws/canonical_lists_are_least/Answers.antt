use Rattle.fw_frontier.proofs.LeastLaws.{canonical-least_itself, least-canonical}
use Rattle.fw_frontier.proofs.laws.canonical_lists_are_least.Goals as goal

pub returns-clause-least : goal.returns-clause-least
returns-clause-least c = canonical-least_itself

pub returns-clause-canonical : goal.returns-clause-canonical
returns-clause-canonical c = least-canonical

use Rattle.fw_frontier.proofs.NamesLaws.{names-same}
use Rattle.fw_frontier.proofs.laws.one_list_names_a_frontier.Goals as goal

pub returns : goal.returns
returns c = names-same

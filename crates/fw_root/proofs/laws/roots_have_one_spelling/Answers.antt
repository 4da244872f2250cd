use Rattle.fw_root.proofs.RootLaws.{root_again, one_spelling_lem}
use Rattle.fw_root.proofs.laws.roots_have_one_spelling.Goals as goal

pub returns-clause-read_again : goal.returns-clause-read_again
returns-clause-read_again c = root_again

pub returns-clause-same : goal.returns-clause-same
returns-clause-same c = one_spelling_lem

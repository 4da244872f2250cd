use Rattle.fw_record.proofs.RecordLaws.{whole_again, one_spelling_lem}
use Rattle.fw_record.proofs.laws.one_spelling.Goals as goal

pub returns-clause-read_again : goal.returns-clause-read_again
returns-clause-read_again c = whole_again

pub returns-clause-same : goal.returns-clause-same
returns-clause-same c = one_spelling_lem

use Rattle.fw_bytes.proofs.FieldLaws.{counts}
use Rattle.fw_bytes.proofs.ListLaws.{sends}
use Rattle.fw_bytes.proofs.laws.counts_are_read_as_spelled.Goals as goal

pub returns-clause-one : goal.returns-clause-one
returns-clause-one c = counts

pub returns-clause-all : goal.returns-clause-all
returns-clause-all c = sends

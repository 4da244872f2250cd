use Rattle.fw_bytes.proofs.FieldLaws.{stamps}
use Rattle.fw_bytes.proofs.ListLaws.{front}
use Rattle.fw_bytes.proofs.laws.fronts_are_read_as_spelled.Goals as goal

pub returns-clause-stamps : goal.returns-clause-stamps
returns-clause-stamps c = stamps

pub returns-clause-fronts : goal.returns-clause-fronts
returns-clause-fronts c = front

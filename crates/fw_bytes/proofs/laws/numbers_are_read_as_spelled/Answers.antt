use Rattle.fw_bytes.proofs.FieldLaws.{form8, form16, form32, form64}
use Rattle.fw_bytes.proofs.laws.numbers_are_read_as_spelled.Goals as goal

pub returns-clause-one : goal.returns-clause-one
returns-clause-one c = form8

pub returns-clause-two : goal.returns-clause-two
returns-clause-two c = form16

pub returns-clause-four : goal.returns-clause-four
returns-clause-four c = form32

pub returns-clause-eight : goal.returns-clause-eight
returns-clause-eight c = form64

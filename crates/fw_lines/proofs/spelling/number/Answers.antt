use Rattle.std.proofs.Common.{sym}
use Rattle.fw_lines.proofs.NumberLaws.{digits_from_numeral}
use Rattle.fw_lines.proofs.spelling.number.Goals as goal

pub value_of-requires : goal.value_of-requires
value_of-requires c = digits_from_numeral c.args.word.now (sym c.if-not-is_numeral.ensures)

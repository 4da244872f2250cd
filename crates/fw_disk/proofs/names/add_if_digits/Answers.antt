use Rattle.std.proofs.Common.{sym, ◌∙◌}
use Rattle.fw_disk.proofs.NameLaws.{digit_name_text}
use Rattle.fw_disk.proofs.names.add_if_digits.Goals as goal

pub returns-in_default : goal.returns-in_default
returns-in_default c = absurd (c.in_default.ensures.cases.0 (digit_name_text c.args.name.now (sym c.has_digits_alone.ensures ∙ c.if-not-has_digits_alone.false)))

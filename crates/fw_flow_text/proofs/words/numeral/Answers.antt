use Rattle.std.proofs.Common.{sym, ap, ◌∙◌, inl, inr}
use Rattle.fw_flow_text.proofs.Reading.{value_in}
use Rattle.fw_flow_text.proofs.ReadingLaws.{value_is_decimal, no_decimal}
use Rattle.fw_flow_text.proofs.words.numeral.Goals as goal

pub returns-in-Value : goal.returns-in-Value
returns-in-Value c = value_is_decimal c.args.word.now c.in-Value.value (sym c.number.ensures ∙ c.in-Value.is)

pub returns-in-TooLarge : goal.returns-in-TooLarge
returns-in-TooLarge c = elim c.in-TooLarge.is [
  | inl e ↦ no_decimal c.args.word.now (ap value_in (sym c.number.ensures ∙ e))
  | inr e ↦ no_decimal c.args.word.now (ap value_in (sym c.number.ensures ∙ e))
]

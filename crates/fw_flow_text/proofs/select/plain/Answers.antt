use Rattle.fw_flow_text.proofs.FoundLaws.{no_value}
use Rattle.fw_flow_text.proofs.select.plain.Goals as goal

pub returns-in_err-number : goal.returns-in_err-number
returns-in_err-number c = rw c.from_residual.ensures (no_value c.args.word.now c.in_err-number.ensures)

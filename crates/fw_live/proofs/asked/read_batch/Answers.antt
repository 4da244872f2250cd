use Rattle.std.proofs.Common.{◌≡◌, Some, subst, sym}
use Rattle.fw_lines.specs.Faults.{IfRefused}
use Rattle.fw_lines.specs.Inputs.{AreRefusedInputs, inputs_line_fault}
use Rattle.fw_lines.specs.Lines.{words_at}
use Rattle.fw_live.proofs.ReadingLaws.{refused-alone, refused-as}
use Rattle.fw_live.proofs.asked.read_batch.Goals as goal

pub returns-in-Err-Refused : goal.returns-in-Err-Refused
returns-in-Err-Refused c =
    let refusal = c.in-Err-Refused.refusal in
    rw (c.in-Err-Refused.field-0-is) (refused-as c.args.sources.now (words_at c.args.line.now c.args.words.now) refusal.code
    (subst (λ w. inputs_line_fault c.args.sources.now 0 w ≡ Some refusal.code) (sym c.requires.said)
    (refused-alone c.args.line.now c.args.sources.now refusal c.requires.one c.requires.short
    (subst (IfRefused (AreRefusedInputs c.args.line.now c.args.sources.now)) c.in-Err-Refused.field-0-is c.in-Err-Refused.ensures.answer))))

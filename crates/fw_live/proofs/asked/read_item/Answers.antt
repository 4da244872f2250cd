use Rattle.std.proofs.Common.{subst}
use Rattle.fw_lines.specs.Faults.{IfRefused}
use Rattle.fw_schedule.specs.Grammar.{IsRefusedSchedule}
use Rattle.fw_lines.specs.Lines.{said_by}
use Rattle.fw_live.proofs.ReadingLaws.{items-alone, read-item, refused-item, told-rule}
use Rattle.fw_live.proofs.asked.read_item.Goals as goal

pub returns-in-Ok : goal.returns-in-Ok
returns-in-Ok c =
    let alone = items-alone c.args.line.now c.args.flow.now c.in-Ok.items c.requires.one c.in-Ok.ensures.answer in
    read-item c.args.flow.now (said_by c.args.line.now) c.in-Ok.items alone.0 alone.1

pub returns-in-Err-Refused : goal.returns-in-Err-Refused
returns-in-Err-Refused c =
    told-rule c.args.flow.now (said_by c.args.line.now) c.in-Err-Refused.refusal.code
    (refused-item c.args.line.now c.args.flow.now c.in-Err-Refused.refusal c.requires.one c.requires.short
    (subst (IfRefused (IsRefusedSchedule c.args.line.now c.args.flow.now)) c.in-Err-Refused.field-0-is c.in-Err-Refused.ensures.answer))

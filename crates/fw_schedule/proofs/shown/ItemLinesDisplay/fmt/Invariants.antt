use Rattle.std.proofs.Common.{take}
use Rattle.std.specs.Fmt.{HasWritten, IsPlainFormatter}
use Rattle.fw_schedule.specs.ItemText.{schedule_text}
use Rattle.fw_schedule.proofs.shown.ItemLinesDisplay.fmt.Given as goal

abbrev pub invariant-loop-item : goal.invariant-loop-item
invariant-loop-item g l =
    IsPlainFormatter l.initial.f → HasWritten g.W.Write.write_str_gives l.initial.f (schedule_text l.self.flow.now (take l.item-index l.self.items.now)) l.f

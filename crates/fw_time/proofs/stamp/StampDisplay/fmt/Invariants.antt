use Rattle.std.proofs.Common.{take}
use Rattle.std.specs.Fmt.{HasWritten, IsPlainFormatter}
use Rattle.fw_time.specs.StampText.{dots_text}
use Rattle.fw_time.proofs.stamp.StampDisplay.fmt.Given as goal

abbrev pub invariant-loop-coord : goal.invariant-loop-coord
invariant-loop-coord g l =
    IsPlainFormatter l.initial.f → HasWritten g.W.Write.write_str_gives l.initial.f (dots_text (take l.coord-index l.rest)) l.f

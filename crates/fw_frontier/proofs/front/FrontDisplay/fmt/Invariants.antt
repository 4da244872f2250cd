use Rattle.std.proofs.Common.{take}
use Rattle.std.specs.Fmt.{HasWritten, IsPlainFormatter}
use Rattle.fw_frontier.specs.FrontText.{spaces_text}
use Rattle.fw_frontier.proofs.front.FrontDisplay.fmt.Given as goal

abbrev pub invariant-loop-o : goal.invariant-loop-o
invariant-loop-o g l =
    IsPlainFormatter l.initial.f → HasWritten g.W.Write.write_str_gives l.initial.f (spaces_text (take l.o-index l.stamps)) l.f

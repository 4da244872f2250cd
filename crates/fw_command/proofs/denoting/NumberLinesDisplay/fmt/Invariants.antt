use Rattle.std.specs.Fmt.{HasWritten, IsPlainFormatter}
use Rattle.std.proofs.Common.{take}
use Rattle.std.specs.List.{flat_map}
use Rattle.fw_command.specs.DenotationText.{number_line}
use Rattle.fw_command.proofs.denoting.NumberLinesDisplay.fmt.Given as goal

-- the lines so far were written
abbrev pub invariant-loop-timed : goal.invariant-loop-timed
invariant-loop-timed g l =
    IsPlainFormatter l.initial.f → HasWritten g.W.Write.write_str_gives l.initial.f (flat_map (number_line l.self.name.now) (take l.timed-index l.self.bag.now)) l.f

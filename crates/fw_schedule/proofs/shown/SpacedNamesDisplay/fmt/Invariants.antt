use Rattle.std.proofs.Common.{take}
use Rattle.std.specs.Fmt.{HasWritten, IsPlainFormatter}
use Rattle.fw_schedule.specs.ItemText.{names_text}
use Rattle.fw_schedule.proofs.shown.SpacedNamesDisplay.fmt.Given as goal

abbrev pub invariant-loop-node : goal.invariant-loop-node
invariant-loop-node g l =
    IsPlainFormatter l.initial.f → HasWritten g.W.Write.write_str_gives l.initial.f (names_text l.self.flow.now (take l.node-index l.self.nodes.now)) l.f

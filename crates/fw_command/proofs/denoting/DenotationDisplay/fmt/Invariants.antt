use Rattle.std.specs.Fmt.{HasWritten, IsPlainFormatter}
use Rattle.std.specs.List.{flat_map, range_with_len}
use Rattle.fw_flow.specs.Dataflow.{system_of}
use Rattle.fw_denote.specs.Holding.{family_on}
use Rattle.fw_command.specs.DenotationText.{node_text}
use Rattle.fw_command.proofs.denoting.DenotationDisplay.fmt.Given as goal

-- the lines so far were written
abbrev pub invariant-loop-place : goal.invariant-loop-place
invariant-loop-place g l =
    IsPlainFormatter l.initial.f → HasWritten g.W.Write.write_str_gives l.initial.f (flat_map (node_text (system_of l.self.fed.now.flow l.self.fed.now.batches) (family_on l.self.family.now)) (range_with_len 0 l.place)) l.f

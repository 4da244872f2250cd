use Rattle.std.proofs.Common.{get_or}
use Rattle.std.specs.Fmt.{HasWritten, IsPlainFormatter}
use Rattle.std.specs.List.{flat_map, range_with_len}
use Rattle.fw_flow.specs.Dataflow.{node_at}
use Rattle.fw_flow.specs.declared.choice.Cut.TheVariants.{Present}
use Rattle.fw_running.specs.EffectText.{cut_line}
use Rattle.fw_running.proofs.shown.CutLinesDisplay.fmt.Given as goal

abbrev pub invariant-loop-place : goal.invariant-loop-place
invariant-loop-place g l =
    IsPlainFormatter l.initial.f → HasWritten g.W.Write.write_str_gives l.initial.f
    (flat_map (λ p. cut_line (node_at l.self.flow.now p).name (get_or l.self.cuts.now p Present)) (range_with_len 0 l.place)) l.f

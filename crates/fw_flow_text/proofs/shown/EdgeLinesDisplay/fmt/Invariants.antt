use Rattle.std.specs.Fmt.{HasWritten, IsPlainFormatter}
use Rattle.std.specs.List.{flat_map, range_with_len}
use Rattle.fw_flow_text.specs.FlowText.{edge_line_of}
use Rattle.fw_flow_text.proofs.shown.EdgeLinesDisplay.fmt.Given as goal

abbrev pub invariant-loop-place : goal.invariant-loop-place
invariant-loop-place g l =
    IsPlainFormatter l.initial.f → HasWritten g.W.Write.write_str_gives l.initial.f (flat_map (edge_line_of l.self.flow.now) (range_with_len 0 l.place)) l.f

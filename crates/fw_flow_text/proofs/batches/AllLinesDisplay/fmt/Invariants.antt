use Rattle.std.specs.Fmt.{HasWritten, IsPlainFormatter}
use Rattle.std.specs.List.{flat_map, range_with_len}
use Rattle.fw_flow_text.specs.BatchesText.{lines_of_node}
use Rattle.fw_flow_text.proofs.batches.AllLinesDisplay.fmt.Given as goal

abbrev pub invariant-loop-place : goal.invariant-loop-place
invariant-loop-place g l =
    IsPlainFormatter l.initial.f → HasWritten g.W.Write.write_str_gives l.initial.f
    (flat_map (lines_of_node l.self.flow.now l.self.batches.now) (range_with_len 0 l.place)) l.f

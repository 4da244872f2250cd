use Rattle.std.proofs.Common.{◌++◌, sym, ◌∙◌, ap, rules}
use Rattle.std.proofs.Output.{has_written_of_eq, has_written_append}
use Rattle.std.specs.List.{flat_map, range_with_len}
use Rattle.fw_lemmas.proofs.Lists.{joined_more}
use Rattle.fw_flow_text.specs.FlowText.{node_line_of}
use Rattle.fw_flow_text.proofs.shown.NodeLinesDisplay.fmt.Goals as goal

pub loop-place-preserved : goal.loop-place-preserved
loop-place-preserved g c = λ p.
    let make = node_line_of c.args.self.now.flow.now in
    let place = c.loop-place.place in
    let before = flat_map make (range_with_len 0 place) in
    has_written_of_eq _ _ _ _ _ (ap (λ q. before ++ make q) c.at.ensures ∙ sym (joined_more make place)) (has_written_append _ _ _ _ _ _ (c.loop-place.invariant p) (search rules))

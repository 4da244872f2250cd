use Rattle.std.proofs.Common.{unwrap_or, ◌∙◌, ap, arith, rules}
use Rattle.std.specs.Prelude.{option_copied}
use Rattle.std.proofs.Output.{has_written_of_eq, has_written_append}
use Rattle.fw_flow.specs.Dataflow.{node_at}
use Rattle.fw_flow.specs.declared.choice.Cut.TheVariants.{Present}
use Rattle.fw_running.specs.EffectText.{low_line}
use Rattle.fw_running.proofs.ShownLines.{line_more}
use Rattle.fw_running.proofs.shown.LowLinesDisplay.fmt.Goals as goal

pub loop-place-preserved : goal.loop-place-preserved
loop-place-preserved g c = λ p.
    let flow = c.args.self.now.flow.now in
    let line = line_more low_line flow c.args.self.now.cuts.now c.loop-place.place c.node_name.result.now (unwrap_or (option_copied c.get.result) Present)
    (c.node_name.ensures ∙ ap (λ p. (node_at flow p).name) c.at.ensures) (c.get.ensures.lookup.4 (omega arith) Present) in
    has_written_of_eq _ _ _ _ _ line (has_written_append _ _ _ _ _ _ (c.loop-place.invariant p) (search rules))

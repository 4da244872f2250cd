use Rattle.std.proofs.Common.{◌∙◌, sym, ap, subst, arith, ◌++◌}
use Rattle.std.specs.Prelude.{IsNone}
use Rattle.fw_flow.specs.Dataflow.{node_at}
use Rattle.fw_lines.specs.Sources.{node_named}
use Rattle.fw_flow.proofs.SourceLaws.{name_is_new, sources_more}
use Rattle.fw_flow.specs.Sources.{source_named_at}
use Rattle.fw_flow.proofs.flow.Flow.source_names.Goals as goal

pub with_source-requires-clause-new : goal.with_source-requires-clause-new
with_source-requires-clause-new c =
    let flow = c.args.self.now in
    let place = c.loop-place.place in
    subst (λ t. IsNone (node_named t (node_at flow place).name)) (sym c.loop-place.invariant) (name_is_new flow place c.names_are_distinct.ensures.nodes (omega (arith, c.loop-place-test.true, c.nodes-place-end.ensures.count)))

pub loop-place-preserved : goal.loop-place-preserved
loop-place-preserved c =
    let flow = c.args.self.now in
    let place = c.loop-place.place in
    c.in_ok-sources.ensures ∙ ap (λ t. t ++ source_named_at flow place) c.loop-place.invariant ∙ sym (sources_more flow place)

use Rattle.std.proofs.Common.{◌∙◌, List, length, ap}
use Rattle.fw_flow.specs.Dataflow.{batches_of_nodes}
use Rattle.fw_border.specs.Sources.{SourceState, unused_source}
use Rattle.fw_resume.proofs.StartLaws.{batches-length, length-map'}
use Rattle.fw_resume.proofs.parts.parts_of.Goals as goal

pub start_sources-requires-clause-one_each : goal.start_sources-requires-clause-one_each
start_sources-requires-clause-one_each c =
    let flow = c.args.flow.now in
    let batches = c.args.batches.now in
    ap (λ (xs : List SourceState). length xs) c.in_ok-sources.ensures ∙ length-map' unused_source (batches_of_nodes flow batches) ∙ batches-length flow batches

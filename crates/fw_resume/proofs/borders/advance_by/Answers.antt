use Rattle.std.proofs.Common.{◌∙◌, List, ap}
use Rattle.fw_border.specs.Sources.{SourceState, advanced, with_source}
use Rattle.fw_resume.proofs.BorderLaws.{advanced_more, advanced_none}
use Rattle.fw_resume.proofs.borders.advance_by.Goals as goal

pub loop-batch-init : goal.loop-batch-init
loop-batch-init c = advanced_none c.args.sources.now c.args.node

pub loop-batch-preserved : goal.loop-batch-preserved
loop-batch-preserved c =
    c.advance.ensures ∙ ap (λ (xs : List SourceState). with_source advanced xs c.args.node) c.loop-batch.invariant
    ∙ advanced_more c.loop-batch._batch c.args.sources.now c.args.node c.requires

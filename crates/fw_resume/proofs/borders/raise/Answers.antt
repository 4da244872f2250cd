use Rattle.std.proofs.Common.{◌≡◌, ◌∙◌, List, ap, arith}
use Rattle.fw_border.specs.Outputs.{OutputState, OutputsState, acknowledged, output_at, with_output}
use Rattle.fw_resume.proofs.BorderLaws.{acknowledged_more, acknowledged_none, bound_there}
use Rattle.fw_resume.proofs.borders.raise.Goals as goal

pub loop-stamp-init : goal.loop-stamp-init
loop-stamp-init c = acknowledged_none c.args.outputs.now c.args.node

pub acknowledge-recs-requires : goal.acknowledge-recs-requires
acknowledge-recs-requires c =
    let now : (output_at c.loop-stamp.outputs.outputs c.args.node).bound ≡ c.loop-stamp._stamp =
    ap (λ (x : OutputsState). (output_at x.outputs c.args.node).bound) c.loop-stamp.invariant
    ∙ bound_there c.loop-stamp._stamp c.args.outputs.now.outputs c.args.node c.requires.there c.requires.none in
    omega (arith, now, c.loop-stamp-test.true, c.ranges.bound.fits)

pub loop-stamp-preserved : goal.loop-stamp-preserved
loop-stamp-preserved c =
    c.acknowledge-recs.ensures.left
    ∙ ap (λ (x : OutputsState). record x { outputs = with_output acknowledged x.outputs c.args.node }) c.loop-stamp.invariant
    ∙ ap (λ (os : List OutputState). record c.args.outputs.now { outputs = os }) (acknowledged_more c.loop-stamp._stamp c.args.outputs.now.outputs c.args.node c.requires.there)

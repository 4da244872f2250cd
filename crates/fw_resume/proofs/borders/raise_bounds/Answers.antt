use Rattle.std.proofs.Common.{◌∙◌, ℕ, length, ap, subst, arith, Option}
use Rattle.std.specs.Prelude.{unwrap_or}
use Rattle.fw_border.specs.Outputs.{OutputsState, new_output, with_output}
use Rattle.fw_resume.specs.Borders.{acknowledged_by}
use Rattle.fw_resume.proofs.BorderLaws.{AreChangedUpTo, changed_none, changed_more, raised_all, raising}
use Rattle.fw_resume.proofs.borders.raise_bounds.Goals as goal

pub loop-place-init : goal.loop-place-init
loop-place-init c = changed_none new_output (raising c.args.nodes.now c.args.bounds.now) c.args.outputs.now.outputs

pub loop-place-preserved : goal.loop-place-preserved
loop-place-preserved c =
    let nodes = c.args.nodes.now in
    let bounds = c.args.bounds.now in
    let mid = c.loop-place.outputs.outputs in
    changed_more new_output (raising nodes bounds) c.loop-place.place c.args.outputs.now.outputs mid c.raise.new.outputs.outputs
    (omega (arith, c.loop-place-test.true, c.nodes-place-end.ensures.count, c.requires.one_each)) c.loop-place.invariant
    (ap (λ (x : OutputsState). x.outputs) c.raise.ensures
    ∙ ap (λ b. with_output (acknowledged_by b) mid c.at-node.result) (c.unwrap_or-bound.ensures ∙ ap (λ (o : Option ℕ). unwrap_or o 0) c.number_of.ensures)
    ∙ ap (λ n. with_output (raising nodes bounds n) mid n) c.at-node.ensures)

pub returns : goal.returns
returns c =
    let bounds = c.args.bounds.now in
    raised_all c.args.nodes.now bounds (length c.args.flow.now.nodes) c.args.outputs.now.outputs c.loop-place.outputs.outputs
    (subst (λ k. AreChangedUpTo new_output (raising c.args.nodes.now bounds) k c.args.outputs.now.outputs c.loop-place.outputs.outputs)
    (omega (arith, c.loop-place-test.false, c.loop-place.auto.place-end, c.nodes-place-end.ensures.count)) c.loop-place.invariant)

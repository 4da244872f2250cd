use Rattle.std.proofs.Common.{◌≡◌, ℕ, refl, subst, arith}
use Rattle.fw_border.specs.Outputs.{with_output}
use Rattle.fw_model.specs.Choice.{cut_of}
use Rattle.fw_rollback.specs.Restored.{output_after}
use Rattle.fw_rollback.proofs.SwapLaws.{outputs-more}
use Rattle.fw_rollback.proofs.swap.clear_outputs.Goals as goal

pub loop-place-init : goal.loop-place-init
loop-place-init c = record { done = λ s l. absurd (omega arith); rest = λ s l. refl; refused = refl; each = refl }

pub loop-place-preserved : goal.loop-place-preserved
loop-place-preserved c =
    let choice = c.args.choice.now in
    let P : ℕ → Type 0 = λ n.
    c.clear_output.new.outputs ≡ record c.loop-place.outputs { outputs = with_output (output_after (cut_of choice n)) c.loop-place.outputs.outputs n } in
    outputs-more choice c.loop-place.place c.args.outputs.now c.loop-place.outputs c.clear_output.new.outputs c.loop-place.invariant
    (subst P c.at.ensures c.clear_output.ensures)

pub returns-clause-cleared : goal.returns-clause-cleared
returns-clause-cleared c = λ s l. c.loop-place.invariant.done s (omega (arith, l, c.loop-place-test.false, c.loop-place.auto.place-end, c.nodes-place-end.ensures.count))

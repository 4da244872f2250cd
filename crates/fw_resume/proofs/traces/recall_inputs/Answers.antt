use Rattle.std.proofs.Common.{◌≡◌, ◌<◌, length, get_or, map, refl, subst, ap, ◌∙◌, arith}
use Rattle.fw_lemmas.proofs.Lists.{read_at}
use Rattle.fw_lines.specs.Batches.{batches_at}
use Rattle.fw_resume.specs.Recalled.{HaveRecalled, recalls_of_inputs}
use Rattle.fw_resume.proofs.RecallLaws.{input-next}
use Rattle.fw_resume.proofs.traces.recall_inputs.Goals as goal

pub loop-place-preserved : goal.loop-place-preserved
loop-place-preserved c =
    let o = c.in_ok-recall_input.ensures in
    let there : c.loop-place.place < length c.args.low.now = grind arith in (
      o.ready,
      input-next c.args.flow.now c.args.batches.now c.args.injected.now c.args.low.now c.loop-place.place c.at-node.result c.index-low-place.result (map (λ b. b.recs) c.of.result.now)
          (get_or c.args.injected.now c.loop-place.place 0) c.args.traces.now c.loop-place.traces c.recall_input.new.traces c.at-node.ensures
          (c.of.ensures ∙ ap (batches_at c.args.batches.now) (c.place.ensures ∙ c.at-node.ensures))
          (read_at c.args.low.now c.loop-place.place c.loop-place.place c.index-low-place.result _ refl there c.index-low-place.is) refl c.loop-place.invariant.1 o.recalled,
    )

pub returns-clause-recalled : goal.returns-clause-recalled
returns-clause-recalled c =
    let end : c.loop-place.place ≡ length c.args.flow.now.nodes = grind arith in
    subst (λ n. HaveRecalled (recalls_of_inputs c.args.flow.now c.args.batches.now c.args.injected.now c.args.low.now n) c.args.traces.now c.loop-place.traces) end
    c.loop-place.invariant.1

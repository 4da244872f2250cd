use Rattle.std.proofs.Common.{sym, ap, subst, ◌∙◌}
use Rattle.std.proofs.lemmas.List.{take_all}
use Rattle.fw_keep.specs.Stored.{IsStored}
use Rattle.fw_running.specs.declared.running.Running.{Running}
use Rattle.fw_running.specs.Drawn.{supply}
use Rattle.fw_running.proofs.StepLaws.{inner-refused, ok-unfaulted}
use Rattle.fw_fail.proofs.FailLaws.{HaveFailed, failed_none, next_more, fail-takes}
use Rattle.fw_fail.proofs.failure.fail.Goals as goal

pub loop-node-init : goal.loop-node-init
loop-node-init c = failed_none c.args.running.now c.requires.shaped

pub fail_if_live-requires : goal.fail_if_live-requires
fail_if_live-requires c = c.loop-node.invariant.shaped.one_each

pub loop-node-preserved : goal.loop-node-preserved
loop-node-preserved c =
    next_more c.args.nodes.now c.loop-node.node-index c.node-item.result c.loop-node.any c.in_ok-any.field-0 c.args.running.now c.loop-node.running c.fail_if_live.new.running
    c.loop-node-test.true c.node-item.is c.loop-node.invariant c.in_ok-any.ensures.ok

pub returns-in_err-any-clause-answers : goal.returns-in_err-any-clause-answers
returns-in_err-any-clause-answers c =
    let h = c.loop-node.invariant in
    inner-refused (λ records held. subst (λ (r : Running). IsStored r.parts.keep records) (sym c.in_err-any.ensures.err) (h.stored records held))
    (ap (λ (r : Running). r.flow) c.in_err-any.ensures.err ∙ h.flow) c.from_residual.ensures.1

pub returns-clause-answers : goal.returns-clause-answers
returns-clause-answers c =
    let nodes = c.args.nodes.now in
    let failed = subst (λ ps. HaveFailed ps c.loop-node.any c.args.running.now c.loop-node.running) (take_all c.loop-node.node-index nodes c.loop-node-test.false) c.loop-node.invariant in
    record {
      shaped = failed.shaped;
      stored = failed.stored;
      flow = failed.flow;
      takes = fail-takes nodes c.loop-node.any c.args.running.now c.loop-node.running c.silent_if.result failed c.silent_if.ensures;
      unfaulted = ok-unfaulted;
      undamaged = tt;
    }

pub returns-in_err-any-clause-draws : goal.returns-in_err-any-clause-draws
returns-in_err-any-clause-draws c = ap (λ (r : Running). supply r.parts.keep) c.in_err-any.ensures.err ∙ c.loop-node.invariant.drawn

pub returns-clause-draws : goal.returns-clause-draws
returns-clause-draws c = c.loop-node.invariant.drawn

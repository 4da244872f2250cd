use Rattle.std.proofs.Common.{ℕ, Option, ap, subst, ◌∙◌}
use Rattle.fw_running.specs.declared.running.Running.{Running}
use Rattle.fw_running.specs.Places.{IsFirstPlace}
use Rattle.fw_running.specs.Ready.{CanInject}
use Rattle.fw_engine.proofs.SearchLaws.{searched, searched_none, same-injectable, input_taken, ready-again, holds_if, fails_if}
use Rattle.fw_engine.proofs.auto.first_injecting.Goals as goal

pub returns-then-may_inject-clause-first : goal.returns-then-may_inject-clause-first
returns-then-may_inject-clause-first c =
    let old = c.args.running.now in
    let running = c.loop-node.running in
    searched (CanInject old) (CanInject running) running.ready.inputs c.in-Some.node
    (same-injectable old running (record old.ready { inputs = running.ready.inputs }) c.loop-node.invariant.others) c.loop-node.invariant.shaped.ready.inputs
    (holds_if c.may_inject.result (CanInject running c.in-Some.node) c.if-may_inject.true c.may_inject.ensures)
    (subst (λ (found : Option ℕ). IsFirstPlace running.ready.inputs found) c.in-Some.is c.first_input.ensures)

pub returns-clause-first : goal.returns-clause-first
returns-clause-first c =
    let old = c.args.running.now in
    let running = c.loop-node.running in
    searched_none (CanInject old) (CanInject running) running.ready.inputs
    (same-injectable old running (record old.ready { inputs = running.ready.inputs }) c.loop-node.invariant.others) c.loop-node.invariant.shaped.ready.inputs
    (subst (λ (found : Option ℕ). IsFirstPlace running.ready.inputs found) c.in_default.is c.first_input.ensures)

pub loop-node-preserved : goal.loop-node-preserved
loop-node-preserved c =
    let old = c.args.running.now in
    let running = c.loop-node.running in
    let ready = c.take_input.new.self in
    let o = c.in-Some.node in
    record {
      others = ready-again old running (record old.ready { inputs = running.ready.inputs }) ready (record old.ready { inputs = ready.inputs }) c.loop-node.invariant.others
          (c.take_input.ensures.others ∙ ap (λ (r : Running). record r.ready { inputs = ready.inputs }) c.loop-node.invariant.others);
      shaped = input_taken running ready o c.loop-node.invariant.shaped
          (fails_if c.may_inject.result (CanInject running o) c.if-may_inject.false c.may_inject.ensures) c.take_input.ensures.others c.take_input.ensures.taken;
    }

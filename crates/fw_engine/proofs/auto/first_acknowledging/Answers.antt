use Rattle.std.proofs.Common.{ℕ, Option, sym, ap, subst, ◌∙◌}
use Rattle.fw_running.specs.declared.running.Running.{Running}
use Rattle.fw_running.specs.Places.{IsFirstPlace}
use Rattle.fw_running.specs.Ready.{CanAcknowledge}
use Rattle.fw_engine.proofs.SearchLaws.{searched, searched_none, same-acknowledgeable, output_taken, ready-again, holds_for, fails_for}
use Rattle.fw_engine.proofs.auto.first_acknowledging.Goals as goal

pub returns-then-is_some-clause-first : goal.returns-then-is_some-clause-first
returns-then-is_some-clause-first c =
    let old = c.args.running.now in
    let running = c.loop-node.running in
    searched (CanAcknowledge old) (CanAcknowledge running) running.ready.outputs c.in-Some.node
    (same-acknowledgeable old running (record old.ready { outputs = running.ready.outputs }) c.loop-node.invariant.others) c.loop-node.invariant.shaped.ready.outputs
    (holds_for c.next_acknowledged.result (CanAcknowledge running c.in-Some.node) (sym c.is_some.ensures ∙ c.if-is_some.true) c.next_acknowledged.ensures.can)
    (subst (λ (found : Option ℕ). IsFirstPlace running.ready.outputs found) c.in-Some.is c.first_output.ensures)

pub returns-clause-first : goal.returns-clause-first
returns-clause-first c =
    let old = c.args.running.now in
    let running = c.loop-node.running in
    searched_none (CanAcknowledge old) (CanAcknowledge running) running.ready.outputs
    (same-acknowledgeable old running (record old.ready { outputs = running.ready.outputs }) c.loop-node.invariant.others) c.loop-node.invariant.shaped.ready.outputs
    (subst (λ (found : Option ℕ). IsFirstPlace running.ready.outputs found) c.in_default.is c.first_output.ensures)

pub loop-node-preserved : goal.loop-node-preserved
loop-node-preserved c =
    let old = c.args.running.now in
    let running = c.loop-node.running in
    let ready = c.take_output.new.self in
    let o = c.in-Some.node in
    record {
      others = ready-again old running (record old.ready { outputs = running.ready.outputs }) ready (record old.ready { outputs = ready.outputs }) c.loop-node.invariant.others
          (c.take_output.ensures.others ∙ ap (λ (r : Running). record r.ready { outputs = ready.outputs }) c.loop-node.invariant.others);
      shaped = output_taken running ready o c.loop-node.invariant.shaped
          (fails_for c.next_acknowledged.result (CanAcknowledge running o → ⊥) (sym c.is_some.ensures ∙ c.if-is_some.false) c.next_acknowledged.ensures.none) c.take_output.ensures.others c.take_output.ensures.taken;
    }

use Rattle.std.proofs.Common.{ℕ, Option, ap, subst, ◌∙◌}
use Rattle.fw_running.specs.declared.running.Running.{Running}
use Rattle.fw_running.specs.Places.{IsFirstPlace}
use Rattle.fw_running.specs.Ready.{CanDeliver}
use Rattle.fw_engine.proofs.SearchLaws.{searched, searched_none, same-deliverable, edge_taken, ready-again, holds_if, fails_if}
use Rattle.fw_engine.proofs.auto.first_deliverable.Goals as goal

pub returns-then-can_deliver-clause-first : goal.returns-then-can_deliver-clause-first
returns-then-can_deliver-clause-first c =
    let old = c.args.running.now in
    let running = c.loop-edge.running in
    searched (CanDeliver old) (CanDeliver running) running.ready.edges c.in-Some.edge
    (same-deliverable old running (record old.ready { edges = running.ready.edges }) c.loop-edge.invariant.others) c.loop-edge.invariant.shaped.ready.edges
    (holds_if c.can_deliver.result (CanDeliver running c.in-Some.edge) c.if-can_deliver.true c.can_deliver.ensures)
    (subst (λ (found : Option ℕ). IsFirstPlace running.ready.edges found) c.in-Some.is c.first_edge.ensures)

pub returns-clause-first : goal.returns-clause-first
returns-clause-first c =
    let old = c.args.running.now in
    let running = c.loop-edge.running in
    searched_none (CanDeliver old) (CanDeliver running) running.ready.edges
    (same-deliverable old running (record old.ready { edges = running.ready.edges }) c.loop-edge.invariant.others) c.loop-edge.invariant.shaped.ready.edges
    (subst (λ (found : Option ℕ). IsFirstPlace running.ready.edges found) c.in_default.is c.first_edge.ensures)

pub loop-edge-preserved : goal.loop-edge-preserved
loop-edge-preserved c =
    let old = c.args.running.now in
    let running = c.loop-edge.running in
    let ready = c.take_edge.new.self in
    let o = c.in-Some.edge in
    record {
      others = ready-again old running (record old.ready { edges = running.ready.edges }) ready (record old.ready { edges = ready.edges }) c.loop-edge.invariant.others
          (c.take_edge.ensures.others ∙ ap (λ (r : Running). record r.ready { edges = ready.edges }) c.loop-edge.invariant.others);
      shaped = edge_taken running ready o c.loop-edge.invariant.shaped
          (fails_if c.can_deliver.result (CanDeliver running o) c.if-can_deliver.false c.can_deliver.ensures) c.take_edge.ensures.others c.take_edge.ensures.taken;
    }

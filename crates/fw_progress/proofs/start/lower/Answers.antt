use Rattle.std.proofs.Common.{subst}
use Rattle.std.proofs.lemmas.Bool.{both_ways}
use Rattle.std.proofs.lemmas.Result.{IfOk-weaker}
use Rattle.fw_frontier.specs.Frontier.{Within}
use Rattle.fw_frontier.specs.Front.{IsFrontOf}
use Rattle.fw_flow.specs.Dataflow.{bounds_of, node_frontier}
use Rattle.fw_model.specs.Machine.{family_of}
use Rattle.fw_progress.specs.Counts.{target_by}
use Rattle.fw_progress.proofs.StartLaws.{stays, falls-to}
use Rattle.fw_progress.proofs.start.lower.Goals as goal

pub returns : goal.returns
returns c =
    let flow = c.args.flow.now in
    let counts = c.args.counts.now in
    let p = c.args.node in
    let fronts = c.args.fronts.now.items in
    let f = c.in_ok-front.front in
    let can = subst (λ xs. IsFrontOf (bounds_of flow p) f (target_by flow counts (family_of flow xs) p)) c.deref.ensures.value c.in_ok-front.ensures in
    let more = subst (λ xs. Within (family_of flow xs p) (node_frontier flow p f) → ⊥) c.deref-2.ensures.value (λ w. both_ways c.lies_within.result c.if-lies_within.false (c.lies_within.ensures.1 w)) in
    IfOk-weaker c.shrink.result _ _
    (λ u s. falls-to flow counts fronts c.shrink.new.fronts.items p f c.args.work.now c.shrink.new.work can more s)
    c.shrink.ensures

pub returns-then-lies_within : goal.returns-then-lies_within
returns-then-lies_within c =
    let flow = c.args.flow.now in
    let counts = c.args.counts.now in
    let p = c.args.node in
    let f = c.in_ok-front.front in
    let can = subst (λ xs. IsFrontOf (bounds_of flow p) f (target_by flow counts (family_of flow xs) p)) c.deref.ensures.value c.in_ok-front.ensures in
    let within = subst (λ xs. Within (family_of flow xs p) (node_frontier flow p f)) c.deref-2.ensures.value (c.lies_within.ensures.0 c.if-lies_within.true) in
    stays flow counts c.args.fronts.now.items p f c.args.work.now can within

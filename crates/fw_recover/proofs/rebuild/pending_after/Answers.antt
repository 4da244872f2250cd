use Rattle.std.proofs.Common.{◌≡◌, [], ◌∷◌, ◌++◌, length, length-append, ap, subst, arith}
use Rattle.fw_time.specs.Stamp.{Stamp}
use Rattle.fw_flow.specs.Dataflow.{bounds_of, receiver}
use Rattle.fw_progress.specs.History.{count_at}
use Rattle.fw_progress.specs.Tally.{times_in, IsTallyOf}
use Rattle.fw_rollback.specs.Edges.{on_edge}
use Rattle.fw_recover.proofs.CutProgressLaws.{each-pushed}
use Rattle.fw_recover.proofs.rebuild.pending_after.Goals as goal

pub loop-place-preserved : goal.loop-place-preserved
loop-place-preserved c =
    let flow = c.args.flow.now in
    let queues = c.args.queues.now in
    let n = c.loop-place.place in
    let old = c.loop-place.pending.items in
    let new = c.push.new.self.items in
    let tally = c.in_ok-pending_on.field-0 in
    let items : new ≡ old ++ tally ∷ [] = c.in_ok-push.ensures.items in
    let long = ap length items in
    let longer = length-append old (tally ∷ []) in
    record {
      one_each = omega (arith, long, longer, c.loop-place.invariant.one_each);
      tallies = each-pushed [] (λ e x. IsTallyOf (bounds_of flow (receiver flow e)) x) n old new tally c.loop-place.invariant.one_each items c.loop-place.invariant.tallies
          (subst (λ e. IsTallyOf (bounds_of flow (receiver flow e)) tally) c.at.ensures
          (c.in_ok-pending_on.ensures.domain (bounds_of flow (receiver flow c.at.result)) (c.requires c.at.result)));
      counted = each-pushed [] (λ e x. (t : Stamp) → times_in t x ≡ count_at t (on_edge queues e).messages) n old new tally c.loop-place.invariant.one_each items
          c.loop-place.invariant.counted
          (subst (λ e. (t : Stamp) → times_in t tally ≡ count_at t (on_edge queues e).messages) c.at.ensures c.in_ok-pending_on.ensures.counted);
    }

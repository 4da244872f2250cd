use Rattle.std.proofs.Common.{◌≡◌, false, [], subst}
use Rattle.fw_progress.specs.Progress.{ChangesAt}
use Rattle.fw_progress.specs.StampData.{AreTheSame, AreDelivered, AreCausesOnEdges}
use Rattle.fw_progress.specs.Trace.{no_tally}
use Rattle.fw_progress.proofs.RestoreLaws.{told-restored}
use Rattle.fw_progress.proofs.traces.Traces.restore.Goals as goal

pub returns-clause-restored : goal.returns-clause-restored
returns-clause-restored c =
    let flow = c.args.flow.now in
    let p = c.args.node in
    let old = c.args.self.now in
    told-restored flow p c.args.stamps.now c.args.sent old
    (record { delivered = c.restore_delivered.new.lists; notified = c.restore_notified.new.lists; sent = c.restore_sent.new.lists; counted = c.restore_count.new.tallies; refused = false })
    (record {
      delivered = subst (λ ms. AreDelivered flow p ms old.delivered.items c.restore_delivered.new.lists.items) c.as_slice.ensures c.in_ok-restore_delivered.ensures;
      notified = subst (λ n. ChangesAt n [] (λ x y. AreTheSame c.args.stamps.now.notified y) old.notified.items c.restore_notified.new.lists.items) c.place-place.ensures
          (subst (λ ss. ChangesAt c.place-place.result [] (λ x y. AreTheSame ss y) old.notified.items c.restore_notified.new.lists.items) c.as_slice-2.ensures c.in_ok-restore_notified.ensures);
      sent = subst (λ ms. AreCausesOnEdges flow p ms old.sent.items c.restore_sent.new.lists.items) c.as_slice-3.ensures c.in_ok-restore_sent.ensures;
      counted = subst (λ n. ChangesAt n no_tally (λ x y. y ≡ record { inside = c.args.sent; outside = [] }) old.counted.items c.restore_count.new.tallies.items) c.place-place.ensures
          c.restore_count.ensures;
    })

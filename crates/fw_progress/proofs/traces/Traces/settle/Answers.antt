use Rattle.std.proofs.Common.{false, [], subst}
use Rattle.fw_progress.specs.Progress.{ChangesAt}
use Rattle.fw_progress.specs.SentTally.{IsCountedInAll}
use Rattle.fw_progress.specs.Trace.{no_tally}
use Rattle.fw_progress.specs.Traces.{IsThinnedBy}
use Rattle.fw_progress.proofs.CutTraceLaws.{thinned-traces}
use Rattle.fw_progress.proofs.traces.Traces.settle.Goals as goal

pub returns-clause-thinned : goal.returns-clause-thinned
returns-clause-thinned c =
    let f = c.args.base.now in
    let old = c.args.self.now in
    record {
      delivered = c.in_ok-settle_into.ensures;
      notified = subst (λ n. ChangesAt n [] (IsThinnedBy f) old.notified.items c.settle_at.new.lists.items) c.place.ensures c.in_ok-settle_at.ensures;
      sent = c.in_ok-settle_out.ensures;
      counted = subst (λ n. ChangesAt n no_tally (IsCountedInAll f) old.counted.items c.settle_tally.new.tallies.items) c.place-2.ensures c.in_ok-settle_tally.ensures;
    }

pub returns-clause-settled : goal.returns-clause-settled
returns-clause-settled c =
    thinned-traces c.args.flow.now c.args.node c.args.base.now c.args.self.now
    (record { delivered = c.settle_into.new.lists; notified = c.settle_at.new.lists; sent = c.settle_out.new.lists; counted = c.settle_tally.new.tallies; refused = false })
    (returns-clause-thinned c)

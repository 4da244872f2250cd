use Rattle.std.proofs.Common.{[], subst}
use Rattle.fw_progress.specs.Progress.{ChangesAt}
use Rattle.fw_progress.specs.SentTally.{IsTallyCutTo}
use Rattle.fw_progress.specs.Trace.{no_tally}
use Rattle.fw_progress.specs.Traces.{StandsInside}
use Rattle.fw_progress.proofs.CutTraceLaws.{cut-traces}
use Rattle.fw_progress.proofs.traces.Traces.keep_inside.Goals as goal

pub returns-clause-cut : goal.returns-clause-cut
returns-clause-cut c = λ k.
    let f = c.args.f.now in
    let old = c.args.self.now in
    cut-traces c.args.flow.now c.args.node f old
    (record { delivered = c.cut_into.new.lists; notified = c.cut_at.new.lists; sent = c.cut_out.new.lists; counted = c.cut_tally.new.tallies; refused = old.refused })
    c.flow_is_well_formed.ensures
    (record {
      delivered = c.cut_into.ensures;
      notified = subst (λ n. ChangesAt n [] (StandsInside f) old.notified.items c.cut_at.new.lists.items) c.place.ensures c.cut_at.ensures;
      sent = c.cut_out.ensures;
      counted = subst (λ n. ChangesAt n no_tally (IsTallyCutTo f) old.counted.items c.cut_tally.new.tallies.items) c.place-2.ensures c.cut_tally.ensures;
    })

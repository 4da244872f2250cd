use Rattle.std.proofs.Common.{ap, ◌∙◌}
use Rattle.fw_bag.specs.Arrivals.{recs_of}
use Rattle.fw_totals.specs.Totals.{written}
use Rattle.fw_totals.proofs.ledger.Ledger.take_changes.Goals as goal

pub returns-clause-ok : goal.returns-clause-ok
returns-clause-ok c = λ inside after came all in' in'' times over r.
    record {
      table = c.in_ok-take_changes.ensures inside after came all in' in'' times over r.table;
      running = λ q.
          c.in_ok-write.ensures.totals (recs_of all) over.sums q
          ∙ ap (λ o. written (recs_of all) c.args.totals.now o q) (r.running q)
          ∙ over.found q;
    }

use Rattle.std.proofs.Common.{sym, ap, ◌∙◌}
use Rattle.fw_bag.specs.Arrivals.{recs_of}
use Rattle.fw_table.specs.Sums.{sum_at}
use Rattle.fw_bag.proofs.ArrivalLaws.{all_inside}
use Rattle.fw_totals.specs.Totals.{written}
use Rattle.fw_totals.proofs.total.Total.take_changes.Goals as goal

pub returns-clause-ok : goal.returns-clause-ok
returns-clause-ok c = λ inside after came all in' in'' times over r.
    record {
      table = c.in_ok-take_changes.ensures inside after came all in' in'' times over r.table;
      running = λ q.
          c.in_ok-write.ensures.totals (recs_of all) over.sums q
          ∙ ap (λ o. written (recs_of all) c.args.totals.now o q) (r.running q ∙ ap (sum_at q) (all_inside inside came in'))
          ∙ over.found q ∙ sym (ap (sum_at q) (all_inside after all in''));
    }

use Rattle.std.proofs.Common.{List, sym, ap, ◌∙◌, subst}
use Rattle.fw_bag.specs.Arrivals.{Arrival, recs_of}
use Rattle.fw_table.specs.Content.{IsTable}
use Rattle.fw_table.specs.Sums.{sum_at}
use Rattle.fw_bag.proofs.ArrivalLaws.{none_outside, all_inside}
use Rattle.fw_totals.specs.Settling.{holds_sums}
use Rattle.fw_totals.specs.Totals.{written}
use Rattle.fw_totals.proofs.settling.Settling.take_changes.Goals as goal

pub returns : goal.returns
returns g c = λ inside after came all in' in'' times over r.
    let table = c.args.self.now.by_time in
    let P : List Arrival → Type 0 = λ xs. IsTable g.T.Ord.cmp g.T.Time.coords holds_sums table xs in
    record {
      outside = subst P (sym (none_outside after all in'')) (subst P (none_outside inside came in') r.outside);
      totals = λ q.
          c.in_ok-write.ensures.totals (recs_of all) over.sums q
          ∙ ap (λ o. written (recs_of all) c.args.totals.now o q) (r.totals q ∙ ap (sum_at q) (all_inside inside came in'))
          ∙ over.found q
          ∙ sym (ap (sum_at q) (all_inside after all in''));
      times = times;
    }

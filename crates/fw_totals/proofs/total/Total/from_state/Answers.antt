use Rattle.std.proofs.Common.{List, sym, subst}
use Rattle.fw_bag.specs.declared.rec.Rec.{Rec}
use Rattle.fw_bag.specs.Arrivals.{recs_of}
use Rattle.fw_bag.proofs.ArrivalLaws.{all_inside}
use Rattle.fw_totals.specs.Totals.{HasTotals}
use Rattle.fw_totals.proofs.total.Total.from_state.Goals as goal

pub returns-clause-table : goal.returns-clause-table
returns-clause-table c = λ inside came in' times e.
    let Q : List Rec → Type 0 = λ rs. HasTotals c.in_ok-running.running rs in
    record {
      table = c.in_ok-table.ensures inside came in' times e;
      running = subst Q (sym (all_inside inside came in')) (c.in_ok-running.ensures (recs_of came) e);
    }

use Rattle.fw_bag.specs.Arrivals.{recs_of}
use Rattle.fw_totals.proofs.ledger.Ledger.from_state.Goals as goal

pub returns-clause-table : goal.returns-clause-table
returns-clause-table c = λ inside came in' times e.
    record {
      table = c.in_ok-table.ensures inside came in' times e;
      running = c.in_ok-running.ensures (recs_of came) e;
    }

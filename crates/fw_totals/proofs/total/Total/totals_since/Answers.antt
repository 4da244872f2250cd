use Rattle.fw_totals.proofs.total.Total.totals_since.Goals as goal

pub returns-clause-totals : goal.returns-clause-totals
returns-clause-totals c = λ inside after taken came agree sub r. c.totals_since.ensures inside after came (λ t. agree t.0) sub r.table

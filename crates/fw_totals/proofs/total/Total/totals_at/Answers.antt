use Rattle.fw_totals.proofs.total.Total.totals_at.Goals as goal

pub returns-clause-totals : goal.returns-clause-totals
returns-clause-totals c = λ inside after taken came agree sub r. c.totals_at.ensures inside after came (λ t. agree t.0) sub r.table

use Rattle.fw_totals.proofs.ledger.Ledger.totals_since.Goals as goal

pub returns-clause-totals : goal.returns-clause-totals
returns-clause-totals c = λ inside after came agree sub r. c.totals_since.ensures inside after came (λ t. agree t.0) sub r.table

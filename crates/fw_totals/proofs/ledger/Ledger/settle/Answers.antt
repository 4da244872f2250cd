use Rattle.std.proofs.Common.{true}
use Rattle.fw_lemmas.proofs.Results.{on_err}
use Rattle.fw_totals.specs.Ledger.{IsLedger}
use Rattle.fw_totals.proofs.ledger.Ledger.settle.Goals as goal

pub returns-clause-ok : goal.returns-clause-ok
returns-clause-ok c = λ inside after came agree sub r.
    record { table = c.in_ok-settle.ensures.ok inside after came (λ t. agree t.0) sub r.table; running = r.running }

pub returns-in_err-settle-clause-err : goal.returns-in_err-settle-clause-err
returns-in_err-settle-clause-err c = λ inside came r.
    let h : IsLedger inside (record { table = c.settle.new.self; running = c.args.self.now.running; alloc = c.args.self.now.alloc; refused = true }) came = record { table = c.in_err-settle.ensures.err inside came r.table; running = r.running } in on_err _ _ h

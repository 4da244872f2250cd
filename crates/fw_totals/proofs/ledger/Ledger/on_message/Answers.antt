use Rattle.std.proofs.Common.{true, ℕ, [], ◌∷◌, ap, ◌∙◌, unwrap_or}
use Rattle.fw_lemmas.proofs.Results.{on_err}
use Rattle.fw_bag.specs.Keyed.{plus}
use Rattle.fw_time.specs.declared.time.SeqNo.{SeqNo}
use Rattle.fw_bag.specs.Arrivals.{recs_of}
use Rattle.fw_table.specs.declared.sent.Sent.{Sent}
use Rattle.fw_table.proofs.SumLaws.{sum_or_zero}
use Rattle.fw_totals.specs.Ledger.{IsLedger}
use Rattle.fw_totals.proofs.NoticeLaws.{totals_more}
use Rattle.fw_totals.proofs.ledger.Ledger.on_message.Goals as goal

pub returns-in_err-put-clause-err : goal.returns-in_err-put-clause-err
returns-in_err-put-clause-err c = λ inside came r.
    let h : IsLedger inside (record { table = c.put.new.self; running = c.place_at.new.totals; alloc = c.args.self.now.alloc; refused = true }) came = record { table = c.in_err-put.ensures.err inside came r.table; running = λ q. c.place_at.ensures.same q ∙ r.running q } in on_err _ _ h

pub returns-clause-ok : goal.returns-clause-ok
returns-clause-ok c = λ inside came out r.
    let value = ap (plus c.args.rec.value) (c.in_ok-total.ensures.total ∙ ap (λ o. unwrap_or o 0) (r.running c.args.rec.key) ∙ sum_or_zero c.args.rec.key (recs_of came)) in
    record {
      table = c.in_ok-put.ensures.ok inside came out r.table;
      running = totals_more c.place_at.new.totals c.insert.new.self c.args.rec _ (recs_of came) (λ q. c.place_at.ensures.same q ∙ r.running q) value
          c.in_ok-insert.ensures.updates.0;
    }

pub returns-clause-sent : goal.returns-clause-sent
returns-clause-sent c = λ inside came r.
    let value = ap (plus c.args.rec.value) (c.in_ok-total.ensures.total ∙ ap (λ o. unwrap_or o 0) (r.running c.args.rec.key) ∙ sum_or_zero c.args.rec.key (recs_of came)) in
    let R : ℕ → Sent SeqNo = λ v. record { at = c.args.t; recs = record { key = c.args.rec.key; value = v } ∷ [] } in
    c.of.ensures ∙ ap R value

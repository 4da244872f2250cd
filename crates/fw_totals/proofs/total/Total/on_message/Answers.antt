use Rattle.std.proofs.Common.{true, cond, List, ◌∷◌, sym, ap, subst}
use Rattle.fw_lemmas.proofs.Results.{on_err}
use Rattle.fw_bag.specs.declared.rec.Rec.{Rec}
use Rattle.fw_bag.specs.Arrivals.{recs_where}
use Rattle.fw_totals.specs.Totals.{HasTotals}
use Rattle.fw_totals.specs.Total.{IsTotal}
use Rattle.fw_totals.proofs.total.Total.on_message.Goals as goal

pub returns-clause-ok : goal.returns-clause-ok
returns-clause-ok c = λ inside taken came out new r.
    let rs : List Rec = recs_where (λ a. taken a.at) came in
    let Q : List Rec → Type 0 = λ xs. HasTotals c.args.self.now.running xs in
    record {
      table = c.in_ok-put.ensures.ok inside came out r.table;
      running = subst Q (sym (ap (λ b. cond b (c.args.rec ∷ rs) rs) new)) r.running;
    }

pub returns-in_err-put-clause-err : goal.returns-in_err-put-clause-err
returns-in_err-put-clause-err c = λ inside taken came r.
    let h : IsTotal inside taken (record { table = c.put.new.self; running = c.args.self.now.running; alloc = c.args.self.now.alloc; refused = true }) came = record { table = c.in_err-put.ensures.err inside came r.table; running = r.running } in on_err _ _ h

use Rattle.std.proofs.Common.{cond, not, List, ◌∷◌, refl, sym, ap, subst}
use Rattle.std.proofs.lemmas.Result.{on_ok_weaker, on_err_weaker}
use Rattle.fw_bag.specs.declared.rec.Rec.{Rec}
use Rattle.fw_bag.specs.Arrivals.{Arrival, recs_where, arrivals_inside}
use Rattle.fw_table.specs.Content.{IsTable}
use Rattle.fw_totals.specs.Totals.{HasTotals}
use Rattle.fw_totals.specs.Settling.{holds_sums}
use Rattle.fw_totals.proofs.settling.Settling.put.Goals as goal

pub returns-clause-ok : goal.returns-clause-ok
returns-clause-ok g c = λ inside came out r.
    let a : Arrival = record { side = c.args.side; at = g.T.Time.coords c.args.t; rec = c.args.rec } in
    let kept : List Arrival = arrivals_inside (λ s. not (inside s)) came in
    let settled : List Rec = recs_where (λ b. inside b.at) came in
    let P : List Arrival → Type 0 = λ xs. IsTable g.T.Ord.cmp g.T.Time.coords holds_sums c.put_at.new.contents xs in
    let Q : List Rec → Type 0 = λ rs. HasTotals c.args.self.now.settled rs in
    on_ok_weaker c.put_at.result
    (λ h. record {
      outside = subst P (sym (ap (λ b. cond (not b) (a ∷ kept) kept) out)) h;
      totals = subst Q (sym (ap (λ b. cond b (c.args.rec ∷ settled) settled) out)) r.totals;
      times = ((c.args.t, refl), r.times);
    })
    (c.put_at.ensures.ok kept r.outside)

pub returns-clause-err : goal.returns-clause-err
returns-clause-err g c = λ inside came r.
    on_err_weaker c.put_at.result (λ h. record { outside = h; totals = r.totals; times = r.times })
    (c.put_at.ensures.err (arrivals_inside (λ s. not (inside s)) came) r.outside)

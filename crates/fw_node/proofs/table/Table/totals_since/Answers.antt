use Rattle.std.proofs.Common.{◌≡◌, ◌&&◌, not, Bool, IfOk}
use Rattle.fw_time.specs.Stamp.{Stamp as StampList}
use Rattle.fw_frontier.specs.Front.{inside}
use Rattle.fw_bag.specs.Arrivals.{recs_inside}
use Rattle.fw_node.specs.Past.{totals_changed, is_taken}
use Rattle.fw_node.proofs.TableCases.{of_ledger, of_total, of_variant}
use Rattle.fw_node.proofs.table.Table.totals_since.Goals as goal

pub returns-in_ok-epochs_inside-in-Total : goal.returns-in_ok-epochs_inside-in-Total
returns-in_ok-epochs_inside-in-Total c = λ flow k past r sub.
    let f : StampList → Bool = inside c.args.f.now in
    of_total flow past (λ x. IfOk c.totals_since.result (λ totals. totals ≡ totals_changed x (recs_inside (λ s. f s && not (past.settled s)) past.came) (recs_inside f past.came)))
    c.in-Total.table k (of_variant flow k past c.in-Total.is r)
    (λ h. c.totals_since.ensures.totals past.settled f (is_taken past) past.came c.in_ok-epochs_inside-in-Total.ensures sub h)

pub returns-in_ok-epochs_inside-in-Ledger : goal.returns-in_ok-epochs_inside-in-Ledger
returns-in_ok-epochs_inside-in-Ledger c = λ flow k past r sub.
    let f : StampList → Bool = inside c.args.f.now in
    of_ledger flow past (λ x. IfOk c.totals_since-in-Ledger.result (λ totals. totals ≡ totals_changed x (recs_inside (λ s. f s && not (past.settled s)) past.came) (recs_inside f past.came)))
    c.in-Ledger.table k (of_variant flow k past c.in-Ledger.is r)
    (λ h. c.totals_since-in-Ledger.ensures.totals past.settled f past.came c.in_ok-epochs_inside-in-Ledger.ensures sub h)

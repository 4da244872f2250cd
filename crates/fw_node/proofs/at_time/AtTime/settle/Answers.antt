use Rattle.std.proofs.Common.{not, subst}
use Rattle.fw_frontier.specs.Front.{inside}
use Rattle.fw_bag.specs.Arrivals.{arrivals_inside}
use Rattle.std.proofs.Common.{ap, sym, List, ℕ, Bool}
use Rattle.fw_node.specs.declared.at_time.AtTime.{AtTime}
use Rattle.fw_node.specs.declared.at_time.AtTime.TheVariants as table
use Rattle.fw_node.specs.TimedTable.{IsTimedTable}
use Rattle.fw_node.proofs.KindCases.{of_join, two_inside}
use Rattle.fw_node.proofs.at_time.AtTime.settle.Goals as goal

pub returns-in_ok-from_front-in-Join-clause-ok : goal.returns-in_ok-from_front-in-Join-clause-ok
returns-in_ok-from_front-in-Join-clause-ok g c = λ k came r.
    let Q : AtTime g.row.T.Denot → Type 0 = λ s. IsTimedTable g.T.Ord.cmp g.T.Time.coords s k came in
    let kept : List ℕ → Bool = λ s. not (inside c.args.f.now s) in
    of_join g.T.Ord.cmp g.T.Time.coords came
    (λ x. IsTimedTable g.T.Ord.cmp g.T.Time.coords (table.Join c.settle-in-Join.new.self) x (arrivals_inside kept came))
    c.in-Join.table k (subst Q c.in-Join.is r)
    (λ w h. (c.settle-in-Join.ensures.table kept came (λ t. ap not (sym (c.in_ok-from_front-in-Join.ensures t))) h.0, two_inside kept came h.1))

use Rattle.std.proofs.Common.{Bool, not, List, ap, ◌∙◌, subst}
use Rattle.fw_bag.specs.Arrivals.{Arrival, arrivals_inside}
use Rattle.fw_table.specs.Content.{IsTable}
use Rattle.fw_totals.specs.Gathered.{gathered}
use Rattle.fw_totals.specs.Settling.{holds_sums}
use Rattle.fw_bag.proofs.ArrivalLaws.{outside_twice}
use Rattle.fw_totals.proofs.GatherLaws.{settles}
use Rattle.fw_totals.proofs.settling.Settling.settle.Goals as goal

pub returns-clause-ok : goal.returns-clause-ok
returns-clause-ok g c = λ inside after came agree sub r.
    let table = c.args.self.now.by_time in
    let I : g.row.T.Denot → Bool = g.T.Frontier.Frontier.inside c.args.f.now in
    let P : List Arrival → Type 0 = λ xs. IsTable g.T.Ord.cmp g.T.Time.coords holds_sums c.keep_outside.new.contents xs in
    record {
      outside = subst P (outside_twice inside after sub came)
          (c.keep_outside.ensures (λ s. not (after s)) (arrivals_inside (λ s. not (inside s)) came) (λ t. ap not (agree t)) r.outside);
      totals = λ q. c.in_ok-take_all.ensures.totals q ∙ ap (λ o. gathered I q o table.entries) (c.make_rooms.ensures.same q)
          ∙ settles g.T.Ord.cmp g.T.Time.coords g.met.T.Time.told_apart I inside after agree sub table came c.take_all.ensures.ordered r.outside
          c.args.self.now.settled r.totals r.times q;
      times = r.times;
    }

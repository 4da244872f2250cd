use Rattle.std.proofs.Common.{Bool, List, ap, ◌∙◌}
use Rattle.fw_bag.specs.declared.rec.Rec.{Rec}
use Rattle.fw_bag.specs.Arrivals.{recs_inside}
use Rattle.fw_totals.specs.Gathered.{gathered}
use Rattle.fw_totals.proofs.GatherLaws.{settles}
use Rattle.fw_totals.proofs.settling.Settling.totals_at.Goals as goal

pub returns : goal.returns
returns g c = λ inside after came agree sub r.
    let table = c.args.self.now.by_time in
    let I : g.row.T.Denot → Bool = g.T.Frontier.Frontier.inside c.args.f.now in
    let rs : List Rec = recs_inside inside came in
    let copy = c.in_ok-totals.ensures rs (c.deref.ensures.value ∙ c.in_ok-settled.ensures rs r.totals) in
    c.of.ensures ∙ c.in_ok-recs.ensures (recs_inside after came)
    (λ q. c.in_ok-take_all.ensures.totals q
    ∙ ap (λ o. gathered I q o table.entries) (c.make_rooms.ensures.same q)
    ∙ settles g.T.Ord.cmp g.T.Time.coords g.met.T.Time.told_apart I inside after agree sub table came c.take_all.ensures.ordered r.outside
    c.in_ok-totals.totals copy r.times q)

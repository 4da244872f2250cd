use Rattle.std.proofs.Common.{◌≡◌, ℕ, Bool, List, None, ap, ◌∙◌}
use Rattle.std.specs.Map.{lookup}
use Rattle.std.specs.Ordering.{nat_cmp}
use Rattle.std.specs.BTreeMap.{is_at}
use Rattle.fw_bag.specs.declared.rec.Rec.{Rec}
use Rattle.fw_bag.specs.Arrivals.{recs_inside}
use Rattle.fw_totals.specs.Totals.{total_in, found}
use Rattle.fw_totals.proofs.GatherLaws.{settles}
use Rattle.fw_totals.proofs.SinceLaws.{gathers_between, shown_since}
use Rattle.fw_totals.proofs.settling.Settling.totals_between.Goals as goal

pub returns : goal.returns
returns g c = λ inside before after came at_g within at_f sub r.
    let table = c.args.self.now.by_time in
    let G : g.row.T.Denot → Bool = g.T.Frontier.Frontier.inside c.args.g.now in
    let F : g.row.T.Denot → Bool = g.T.Frontier.Frontier.inside c.args.f.now in
    let rs : List Rec = recs_inside inside came in
    let copy = c.in_ok-totals.ensures rs (c.deref.ensures.value ∙ c.in_ok-settled.ensures rs r.totals) in
    let empty : (q : ℕ) → found c.new-later.result q ≡ None = λ q. ap (λ es. total_in (lookup (is_at (nat_cmp q)) es)) c.new-later.ensures.empty in
    c.of.ensures ∙ c.in_ok-recs.ensures.recs
    ∙ shown_since before after sub came c.take_all.new.totals c.take_since.new.totals
    (λ q. c.in_ok-take_all.ensures.totals q
    ∙ settles g.T.Ord.cmp g.T.Time.coords g.met.T.Time.told_apart G inside before at_g within table came c.take_all.ensures.ordered r.outside
    c.in_ok-totals.totals copy r.times q)
    (λ q. c.in_ok-take_since.ensures q
    ∙ gathers_between g.T.Ord.cmp g.T.Time.coords g.met.T.Time.told_apart G F inside before after at_g at_f within table came c.take_all.ensures.ordered r.outside
    c.new-later.result empty r.times q) c.added.ensures.ordered

use Rattle.std.proofs.Common.{◌≡◌, ℕ, Bool, None, ap, ◌∙◌}
use Rattle.std.specs.Ordering.{nat_cmp}
use Rattle.std.specs.Map.{lookup}
use Rattle.std.specs.BTreeMap.{is_at}
use Rattle.fw_totals.specs.Gathered.{gathered}
use Rattle.fw_totals.specs.Totals.{total_in, found}
use Rattle.fw_totals.proofs.SinceLaws.{gathers_since, shown_since}
use Rattle.fw_totals.proofs.settling.Settling.totals_since.Goals as goal

pub returns : goal.returns
returns g c = λ inside after came agree sub r.
    let table = c.args.self.now.by_time in
    let I : g.row.T.Denot → Bool = g.T.Frontier.Frontier.inside c.args.f.now in
    let empty : (q : ℕ) → found c.new-changed.result q ≡ None = λ q. ap (λ es. total_in (lookup (is_at (nat_cmp q)) es)) c.new-changed.ensures.empty in
    c.of.ensures ∙ c.in_ok-recs.ensures.recs
    ∙ shown_since inside after sub came c.args.self.now.settled c.take_all.new.totals r.totals
    (λ q. c.in_ok-take_all.ensures.totals q
    ∙ ap (λ o. gathered I q o table.entries) (c.make_rooms.ensures.same q)
    ∙ gathers_since g.T.Ord.cmp g.T.Time.coords g.met.T.Time.told_apart I inside after agree table came c.take_all.ensures.ordered r.outside
    c.new-changed.result empty r.times q) c.added.ensures.ordered

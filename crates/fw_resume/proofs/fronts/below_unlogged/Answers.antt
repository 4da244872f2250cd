use Rattle.std.proofs.Common.{◌≡◌, true, List, sym, subst, ◌∙◌}
use Rattle.std.specs.Prelude.{IfOk}
use Rattle.std.specs.List.{AllByRecursion}
use Rattle.fw_time.specs.Stamp.{Stamp, in_domain}
use Rattle.fw_frontier.specs.Front.{IsFrontOf, frontier_of}
use Rattle.fw_policy.specs.Offering.{below_all}
use Rattle.fw_resume.proofs.fronts.below_unlogged.Goals as goal

pub returns : goal.returns
returns c = λ b k d.
    let stamps = c.deref.ensures.value ∙ c.in_ok-stamps.ensures in
    subst (λ (ss : List Stamp). IfOk c.cut_below.result (λ f. IsFrontOf b f (below_all ss (frontier_of b c.args.settled.now)))) stamps
    (c.cut_below.ensures b k (subst (λ (ss : List Stamp). AllByRecursion (λ s. in_domain b s ≡ true) ss) (sym stamps) d))

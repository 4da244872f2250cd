use Rattle.std.proofs.Common.{◌≡◌, ◌∙◌, ap, subst, rules}
use Rattle.fw_time.specs.declared.stamp.Bounds.{Bounds}
use Rattle.fw_frontier.specs.Front.{frontier_of}
use Rattle.fw_flow.specs.Dataflow.{bounds_of}
use Rattle.fw_regain.specs.Greatest.{AreGreatestIn}
use Rattle.fw_resume.proofs.StampLaws.{greatest_listed}
use Rattle.fw_resume.proofs.stamps.greatest_on.Goals as goal

pub returns-then-eq : goal.returns-then-eq
returns-then-eq c =
    let flow = c.args.flow.now in
    let e = c.args.edge in
    let tops = c.in_ok-tops.tops.items in
    let x = c.cover-item.result in
    let b : Bounds = c.domain-bounds.result in
    let is : x.edge ≡ e = search rules in
    greatest_listed flow e c.args.covers.now c.loop-cover.cover-index x tops c.loop-cover-test.true c.cover-item.is is c.loop-cover.invariant
    (subst (λ (d : Bounds). AreGreatestIn d (frontier_of d x.front) tops) (c.domain-bounds.ensures ∙ ap (λ q. bounds_of flow q) c.dst.ensures)
    (record { covering = c.in_ok-tops.ensures.cover; of_domain = c.in_ok-tops.ensures.domain; greatest = c.in_ok-tops.ensures.greatest }))

use Rattle.std.proofs.lemmas.Result.{IfOk-weaker}
use Rattle.std.proofs.lemmas.Bool.{both_ways}
use Rattle.fw_model.specs.Lowerings.{choice_of}
use Rattle.fw_certify.proofs.ends.hold_on_edge.Goals as goal

pub returns-then-not-branch-clause-hold : goal.returns-then-not-branch-clause-hold
returns-then-not-branch-clause-hold g c =
    let flow = c.args.flow.now in
    let offers = c.args.offers.now in
    let choice = choice_of c.args.values.now.cuts.items c.args.values.now.notices.items in
    ((λ h. absurd (cc)), (λ all. absurd (both_ways c.in_ok-holds.field-0 c.if-not-branch.true (c.in_ok-holds.ensures.holds.1 all.0))))

pub returns-then-not-branch-2-clause-hold : goal.returns-then-not-branch-2-clause-hold
returns-then-not-branch-2-clause-hold g c =
    let flow = c.args.flow.now in
    let offers = c.args.offers.now in
    let choice = choice_of c.args.values.now.cuts.items c.args.values.now.notices.items in
    ((λ h. absurd (cc)), (λ all. absurd (both_ways c.in_ok-holds-2.field-0 c.if-not-branch-2.true (c.in_ok-holds-2.ensures.holds.1 all.1))))

pub returns-clause-hold : goal.returns-clause-hold
returns-clause-hold g c =
    let flow = c.args.flow.now in
    let offers = c.args.offers.now in
    let choice = choice_of c.args.values.now.cuts.items c.args.values.now.notices.items in
    IfOk-weaker c.holds-3.result _ _
    (λ b h. ((λ e. (c.in_ok-holds.ensures.holds.0 c.if-not-branch.false, c.in_ok-holds-2.ensures.holds.0 c.if-not-branch-2.false, h.0 e)), (λ all. h.1 all.2)))
    c.holds-3.ensures.holds

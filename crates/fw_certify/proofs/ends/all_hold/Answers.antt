use Rattle.std.proofs.Common.{arith}
use Rattle.std.proofs.lemmas.Result.{IfOk-weaker}
use Rattle.fw_model.specs.Lowerings.{choice_of}
use Rattle.fw_certify.proofs.FollowLaws.{at_node-holds, each-holds, on_edge-holds}
use Rattle.std.proofs.lemmas.Bool.{both_ways}
use Rattle.fw_certify.proofs.ends.all_hold.Goals as goal

pub returns-then-not-branch-clause-hold : goal.returns-then-not-branch-clause-hold
returns-then-not-branch-clause-hold g c =
    let flow = c.args.flow.now in
    let offers = c.args.offers.now in
    let choice = choice_of c.args.values.now.cuts.items c.args.values.now.notices.items in
    ((λ h. absurd (cc)), (λ all. absurd (both_ways c.in_ok-hold_on_edges.field-0 c.if-not-branch.true (c.in_ok-hold_on_edges.ensures.hold.1 (λ d l. on_edge-holds flow offers choice d c.flow_is_well_formed.ensures all l)))))

pub returns-clause-hold : goal.returns-clause-hold
returns-clause-hold g c =
    let flow = c.args.flow.now in
    let offers = c.args.offers.now in
    let choice = choice_of c.args.values.now.cuts.items c.args.values.now.notices.items in
    IfOk-weaker c.hold_at_nodes.result _ _
    (λ b h. (
      (λ e. each-holds flow offers choice c.flow_is_well_formed.ensures (c.in_ok-hold_on_edges.ensures.hold.0 c.if-not-branch.false) (h.0 e)),
      (λ all. h.1 (λ p l. at_node-holds flow offers choice p c.flow_is_well_formed.ensures all l)),
    ))
    c.hold_at_nodes.ensures.hold

pub returns-clause-bound : goal.returns-clause-bound
returns-clause-bound g c =
    let flow = c.args.flow.now in
    let offers = c.args.offers.now in
    let choice = choice_of c.args.values.now.cuts.items c.args.values.now.notices.items in
    let before = c.in_ok-hold_on_edges.ensures.bound in
    IfOk-weaker c.hold_at_nodes.result _ _ (λ b h. omega (arith, before)) c.hold_at_nodes.ensures.bound

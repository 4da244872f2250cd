use Rattle.std.proofs.Common.{refl, subst, sym, arith}
use Rattle.std.proofs.lemmas.Bool.{both_ways}
use borrow.Author.Count.{below_more}
use Rattle.fw_model.specs.Lowerings.{choice_of}
use Rattle.fw_certify.specs.Checked.{HoldAtNode}
use Rattle.fw_certify.proofs.ends.hold_at_nodes.Goals as goal

pub returns-then-not-branch-clause-hold : goal.returns-then-not-branch-clause-hold
returns-then-not-branch-clause-hold g c =
    let flow = c.args.flow.now in
    let offers = c.args.offers.now in
    let choice = choice_of c.args.values.now.cuts.items c.args.values.now.notices.items in
    ((λ h. absurd (cc)), (λ all. absurd (both_ways c.in_ok-hold_at_node.field-0 c.if-not-branch.true (c.in_ok-hold_at_node.ensures.hold.1 (subst (HoldAtNode flow offers choice) (sym c.at-node.ensures) (all c.loop-place.place (omega arith)))))))

pub loop-place-preserved : goal.loop-place-preserved
loop-place-preserved g c =
    let flow = c.args.flow.now in
    let offers = c.args.offers.now in
    let choice = choice_of c.args.values.now.cuts.items c.args.values.now.notices.items in
    let before = c.loop-place.invariant.spent in
    let now = c.in_ok-hold_at_node.ensures.bound in
    record {
      hold = below_more (HoldAtNode flow offers choice) c.loop-place.place c.loop-place.invariant.hold (subst (HoldAtNode flow offers choice) c.at-node.ensures (c.in_ok-hold_at_node.ensures.hold.0 c.if-not-branch.false));
      spent = omega arith;
    }

pub returns-clause-hold : goal.returns-clause-hold
returns-clause-hold g c =
    let flow = c.args.flow.now in
    let offers = c.args.offers.now in
    let choice = choice_of c.args.values.now.cuts.items c.args.values.now.notices.items in
    ((λ h d l. c.loop-place.invariant.hold d (omega arith)), (λ all. refl))

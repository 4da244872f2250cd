use Rattle.std.proofs.Common.{refl, subst, sym, arith}
use Rattle.std.proofs.lemmas.Bool.{both_ways}
use borrow.Author.Count.{below_more}
use Rattle.fw_model.specs.Lowerings.{choice_of}
use Rattle.fw_certify.specs.Checked.{HoldOnEdge}
use Rattle.fw_certify.proofs.ends.hold_on_edges.Goals as goal

pub returns-then-not-branch-clause-hold : goal.returns-then-not-branch-clause-hold
returns-then-not-branch-clause-hold g c =
    let flow = c.args.flow.now in
    let offers = c.args.offers.now in
    let choice = choice_of c.args.values.now.cuts.items c.args.values.now.notices.items in
    ((λ h. absurd (cc)), (λ all. absurd (both_ways c.in_ok-hold_on_edge.field-0 c.if-not-branch.true (c.in_ok-hold_on_edge.ensures.hold.1 (subst (HoldOnEdge flow offers choice) (sym c.at-edge.ensures) (all c.loop-place.place (omega arith)))))))

pub loop-place-preserved : goal.loop-place-preserved
loop-place-preserved g c =
    let flow = c.args.flow.now in
    let offers = c.args.offers.now in
    let choice = choice_of c.args.values.now.cuts.items c.args.values.now.notices.items in
    let before = c.loop-place.invariant.spent in
    let now = c.in_ok-hold_on_edge.ensures.bound in
    record {
      hold = below_more (HoldOnEdge flow offers choice) c.loop-place.place c.loop-place.invariant.hold (subst (HoldOnEdge flow offers choice) c.at-edge.ensures (c.in_ok-hold_on_edge.ensures.hold.0 c.if-not-branch.false));
      spent = omega arith;
    }

pub returns-clause-hold : goal.returns-clause-hold
returns-clause-hold g c =
    let flow = c.args.flow.now in
    let offers = c.args.offers.now in
    let choice = choice_of c.args.values.now.cuts.items c.args.values.now.notices.items in
    ((λ h d l. c.loop-place.invariant.hold d (omega arith)), (λ all. refl))

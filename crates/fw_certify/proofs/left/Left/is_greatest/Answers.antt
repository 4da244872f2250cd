use Rattle.std.proofs.Common.{ap, arith}
use Rattle.std.proofs.lemmas.Result.{IfOk-weaker}
use Rattle.fw_model.specs.Inclusions.{owner}
use Rattle.fw_model.specs.Offers.{offered_by}
use Rattle.fw_certify.specs.Checked.{other_tests}
use Rattle.fw_certify.proofs.CodeLaws.{front-is_greatest, left-at, not_left-greatest, present-is_greatest}
use Rattle.fw_certify.proofs.left.Left.is_greatest.Goals as goal

pub returns-then-not-branch-clause-greatest : goal.returns-then-not-branch-clause-greatest
returns-then-not-branch-clause-greatest g c =
    let flow = c.args.self.now.flow.now in
    let offers = c.args.self.now.offers.now in
    let side = c.args.self.now.side in
    let from = c.args.self.now.from.now in
    let bound = c.args.self.now.bound.now in
    not_left-greatest flow offers side from bound c.args.to.now c.in_ok-has.field-0 c.if-not-branch.true c.in_ok-has.ensures.left

pub returns-in-Present-clause-greatest : goal.returns-in-Present-clause-greatest
returns-in-Present-clause-greatest g c =
    let flow = c.args.self.now.flow.now in
    let offers = c.args.self.now.offers.now in
    let side = c.args.self.now.side in
    let from = c.args.self.now.from.now in
    let bound = c.args.self.now.bound.now in
    present-is_greatest flow offers side from bound c.args.to.now c.in_ok-has.field-0 c.in-Present.is c.if-not-branch.false c.in_ok-has.ensures.left

pub lie_within-requires-clause-one : goal.lie_within-requires-clause-one
lie_within-requires-clause-one g c =
    let flow = c.args.self.now.flow.now in
    let offers = c.args.self.now.offers.now in
    let side = c.args.self.now.side in
    let from = c.args.self.now.from.now in
    let bound = c.args.self.now.bound.now in
    left-at flow offers side from bound c.in-At.front c.args.to.now c.in_ok-has.field-0 c.in-At.is c.if-not-branch.false c.in_ok-has.ensures.left

pub returns-in-At-clause-greatest : goal.returns-in-At-clause-greatest
returns-in-At-clause-greatest g c =
    let flow = c.args.self.now.flow.now in
    let offers = c.args.self.now.offers.now in
    let side = c.args.self.now.side in
    let from = c.args.self.now.from.now in
    let bound = c.args.self.now.bound.now in
    IfOk-weaker c.lie_within.result _ _
    (λ b h. front-is_greatest flow offers side from bound c.in-At.front c.args.to.now c.in_ok-has.field-0 b c.in-At.is c.if-not-branch.false c.in_ok-has.ensures.left c.requires.fails h)
    c.lie_within.ensures.each

pub returns-in-At-clause-bound : goal.returns-in-At-clause-bound
returns-in-At-clause-bound g c =
    let flow = c.args.self.now.flow.now in
    let offers = c.args.self.now.offers.now in
    let side = c.args.self.now.side in
    let from = c.args.self.now.from.now in
    let bound = c.args.self.now.bound.now in
    let same = ap (other_tests (offered_by offers (owner flow side))) c.in-At.is in
    let before = c.in_ok-has.ensures.bound in
    IfOk-weaker c.lie_within.result _ _ (λ b h. omega (arith, same, before)) c.lie_within.ensures.bound

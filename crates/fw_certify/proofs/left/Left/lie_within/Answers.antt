use Rattle.std.proofs.Common.{length, ap, arith, refl}
use Rattle.std.proofs.lemmas.Result.{IfOk-weaker}
use Rattle.std.proofs.lemmas.Bool.{both_ways}
use Rattle.fw_flow.specs.declared.choice.Cut.TheVariants.{At}
use Rattle.fw_flow.specs.declared.choice.Offered.TheVariants as form
use Rattle.fw_certify.specs.Checked.{other_tests}
use Rattle.fw_certify.proofs.LeftLaws.{all-held, between-held, batches-held}
use Rattle.fw_certify.proofs.CodeLaws.{all-is_beyond, both-are, listed-fronts, node-offers, offered-here, records-are_held}
use Rattle.fw_certify.proofs.left.Left.lie_within.Goals as goal

pub offered_by-requires : goal.offered_by-requires
offered_by-requires g c =
    let flow = c.args.self.now.flow.now in
    let offers = c.args.self.now.offers.now in
    let side = c.args.self.now.side in
    let from = c.args.self.now.from.now in
    let bound = c.args.self.now.bound.now in
    node-offers flow offers side from bound c.node.result c.node.ensures c.flow_is_well_formed.ensures c.requires.left

pub returns-then-is_all-clause-each : goal.returns-then-is_all-clause-each
returns-then-is_all-clause-each g c =
    let flow = c.args.self.now.flow.now in
    let offers = c.args.self.now.offers.now in
    let side = c.args.self.now.side in
    let from = c.args.self.now.from.now in
    let bound = c.args.self.now.bound.now in
    (λ h. all-held flow offers side from bound c.args.front.now (c.is_all.ensures.0 c.if-is_all.true), λ h. refl)

pub records_lie_within-requires-clause-records : goal.records_lie_within-requires-clause-records
records_lie_within-requires-clause-records g c =
    let flow = c.args.self.now.flow.now in
    let offers = c.args.self.now.offers.now in
    let side = c.args.self.now.side in
    let from = c.args.self.now.from.now in
    let bound = c.args.self.now.bound.now in
    listed-fronts flow offers side from bound c.node.result c.offered_by.result.now c.in-Listed.records c.as_slice.result.now c.node.ensures c.flow_is_well_formed.ensures c.requires.left
    c.offered_by.ensures c.in-Listed.is c.as_slice.ensures

pub records_lie_within-requires-clause-front : goal.records_lie_within-requires-clause-front
records_lie_within-requires-clause-front g c = c.requires.one.offered.0

pub returns-in-Listed-clause-each : goal.returns-in-Listed-clause-each
returns-in-Listed-clause-each g c =
    let flow = c.args.self.now.flow.now in
    let offers = c.args.self.now.offers.now in
    let side = c.args.self.now.side in
    let from = c.args.self.now.from.now in
    let bound = c.args.self.now.bound.now in
    let is = offered-here flow offers side c.node.result c.offered_by.result.now (form.Listed c.in-Listed.records) c.node.ensures c.offered_by.ensures c.in-Listed.is in
    IfOk-weaker c.records_lie_within.result _ _
    (λ b h. records-are_held flow offers side from bound c.args.front.now c.in-Listed.records c.as_slice.result.now b is c.as_slice.ensures
    (listed-fronts flow offers side from bound c.node.result c.offered_by.result.now c.in-Listed.records c.as_slice.result.now c.node.ensures c.flow_is_well_formed.ensures c.requires.left
    c.offered_by.ensures c.in-Listed.is c.as_slice.ensures) h)
    c.records_lie_within.ensures.each

pub returns-in-Listed-clause-bound : goal.returns-in-Listed-clause-bound
returns-in-Listed-clause-bound g c =
    let flow = c.args.self.now.flow.now in
    let offers = c.args.self.now.offers.now in
    let side = c.args.self.now.side in
    let from = c.args.self.now.from.now in
    let bound = c.args.self.now.bound.now in
    let is = ap (λ x. other_tests x (At c.args.front.now)) (offered-here flow offers side c.node.result c.offered_by.result.now (form.Listed c.in-Listed.records) c.node.ensures c.offered_by.ensures c.in-Listed.is) in
    let same = ap length c.as_slice.ensures in
    IfOk-weaker c.records_lie_within.result _ _ (λ b h. omega (arith, is, same)) c.records_lie_within.ensures.bound

pub breaks_outside-requires-clause-front : goal.breaks_outside-requires-clause-front
breaks_outside-requires-clause-front g c = c.requires.one.offered.0

pub returns-in-Between-clause-each : goal.returns-in-Between-clause-each
returns-in-Between-clause-each g c =
    let flow = c.args.self.now.flow.now in
    let offers = c.args.self.now.offers.now in
    let side = c.args.self.now.side in
    let from = c.args.self.now.from.now in
    let bound = c.args.self.now.bound.now in
    let is = offered-here flow offers side c.node.result c.offered_by.result.now (form.Between c.in-Between.least c.in-Between.greatest) c.node.ensures c.offered_by.ensures c.in-Between.is in
    IfOk-weaker c.breaks_outside.result _ _
    (λ b. both-are _ _ b (between-held flow offers side from c.in-Between.least c.in-Between.greatest bound c.args.front.now c.requires.left.offers_fit c.flow_is_well_formed.ensures c.requires.left.there is c.requires.one))
    c.breaks_outside.ensures.each

pub returns-in-Between-clause-bound : goal.returns-in-Between-clause-bound
returns-in-Between-clause-bound g c =
    let flow = c.args.self.now.flow.now in
    let offers = c.args.self.now.offers.now in
    let side = c.args.self.now.side in
    let from = c.args.self.now.from.now in
    let bound = c.args.self.now.bound.now in
    let is = ap (λ x. other_tests x (At c.args.front.now)) (offered-here flow offers side c.node.result c.offered_by.result.now (form.Between c.in-Between.least c.in-Between.greatest) c.node.ensures c.offered_by.ensures c.in-Between.is) in
    IfOk-weaker c.breaks_outside.result _ _ (λ b h. omega (arith, is)) c.breaks_outside.ensures.bound

pub returns-then-branch-clause-each : goal.returns-then-branch-clause-each
returns-then-branch-clause-each g c =
    let flow = c.args.self.now.flow.now in
    let offers = c.args.self.now.offers.now in
    let side = c.args.self.now.side in
    let from = c.args.self.now.from.now in
    let bound = c.args.self.now.bound.now in
    all-is_beyond flow offers side from bound c.args.front.now c.in-Batches.exhausted c.in_ok-has_all-in-Batches.field-0 c.is_all.result c.requires.one.offered.0 c.if-is_all.false c.is_all.ensures
    c.if-branch.true c.in_ok-has_all-in-Batches.ensures.left

pub breaks_outside-requires-in-Batches-clause-front : goal.breaks_outside-requires-in-Batches-clause-front
breaks_outside-requires-in-Batches-clause-front g c = c.requires.one.offered.0

pub returns-else-branch-clause-each : goal.returns-else-branch-clause-each
returns-else-branch-clause-each g c =
    let flow = c.args.self.now.flow.now in
    let offers = c.args.self.now.offers.now in
    let side = c.args.self.now.side in
    let from = c.args.self.now.from.now in
    let bound = c.args.self.now.bound.now in
    let is = offered-here flow offers side c.node.result c.offered_by.result.now (form.Batches c.in-Batches.least c.in-Batches.greatest c.in-Batches.exhausted) c.node.ensures c.offered_by.ensures c.in-Batches.is in
    IfOk-weaker c.breaks_outside-in-Batches.result _ _
    (λ b. both-are _ _ b (batches-held flow offers side from c.in-Batches.least c.in-Batches.greatest bound c.args.front.now c.in-Batches.exhausted c.requires.left.offers_fit c.flow_is_well_formed.ensures
    c.requires.left.there is c.requires.one (λ e. both_ways c.is_all.result c.if-is_all.false (c.is_all.ensures.1 e))
    (λ e left. both_ways c.in_ok-has_all-in-Batches.field-0 c.if-branch.false (c.in_ok-has_all-in-Batches.ensures.left.1 (e, left)))))
    c.breaks_outside-in-Batches.ensures.each

pub returns-else-branch-clause-bound : goal.returns-else-branch-clause-bound
returns-else-branch-clause-bound g c =
    let flow = c.args.self.now.flow.now in
    let offers = c.args.self.now.offers.now in
    let side = c.args.self.now.side in
    let from = c.args.self.now.from.now in
    let bound = c.args.self.now.bound.now in
    let is = ap (λ x. other_tests x (At c.args.front.now)) (offered-here flow offers side c.node.result c.offered_by.result.now (form.Batches c.in-Batches.least c.in-Batches.greatest c.in-Batches.exhausted) c.node.ensures c.offered_by.ensures c.in-Batches.is) in
    let before = c.in_ok-has_all-in-Batches.ensures.bound in
    IfOk-weaker c.breaks_outside-in-Batches.result _ _ (λ b h. omega (arith, is, before)) c.breaks_outside-in-Batches.ensures.bound
